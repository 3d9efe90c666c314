use Rattle.std.proofs.Common.{ap, ◌∙◌}
use Rattle.line.specs.Calls.{Held}
use Rattle.line.proofs.NextHead.{begun_sound}
use Rattle.line.proofs.lined.Line.arrive_idle.Goals as goal

pub invariant_of-self : goal.invariant_of-self
invariant_of-self g c = begun_sound _ _ c.self.inside.book _ c.self.invariant c.args.c c.begin.ensures.after (ap (λ (l : Held g.row.R.Denot). l.state.wire) c.self.view_is ∙ c.requires)
