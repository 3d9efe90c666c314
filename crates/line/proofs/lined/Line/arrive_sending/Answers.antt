use Rattle.std.proofs.Common.{ap, sym, ◌∙◌}
use Rattle.model.specs.declared.calls.Call.TheVariants.{Arrive}
use Rattle.model.specs.Model.{resting}
use Rattle.line.specs.Calls.{Held}
use Rattle.line.proofs.NextHead.{behind_sound, headed_sound}
use Rattle.line.proofs.Queues.{refused_sound}
use Rattle.line.proofs.lined.Line.arrive_sending.Goals as goal

pub invariant_of-self : goal.invariant_of-self
invariant_of-self g c = refused_sound _ _ c.self.inside.book _ c.self.invariant 0 (Arrive c.args.c) _ c.in_err-heads.ensures.told c.queue.ensures.after

pub returns-in_err-heads-clause-after : goal.returns-in_err-heads-clause-after
returns-in_err-heads-clause-after g c = rw (← c.self.view_is) (ap (λ st. let l : Held g.row.R.Denot = record { rule = c.self.inside.rule; state = st } in l) c.queue.ensures.after)

pub invariant_of-self-then-heads : goal.invariant_of-self-then-heads
invariant_of-self-then-heads g c =
    let busy = ap (λ (l : Held g.row.R.Denot). resting l.state.wire) c.self.view_is ∙ c.requires in
    headed_sound _ _ c.self.inside.book _ c.self.invariant c.args.c c.queue.ensures.after busy c.in_ok-heads.ensures.told _ _ c.rekey.ensures.finishes c.rekey.ensures.starts

pub invariant_of-self-else-heads : goal.invariant_of-self-else-heads
invariant_of-self-else-heads g c =
    let busy = ap (λ (l : Held g.row.R.Denot). resting l.state.wire) c.self.view_is ∙ c.requires in
    behind_sound _ _ c.self.inside.book _ c.self.invariant c.args.c c.queue.ensures.after busy c.in_ok-heads.ensures.told (sym c.if-heads.false ∙ c.in_ok-heads.ensures.head)
