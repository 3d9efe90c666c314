use Rattle.std.proofs.Common.{ap}
use Rattle.std.proofs.lemmas.Result.{err_from_is_err_and}
use Rattle.model.specs.declared.calls.Call.TheVariants.{Change}
use Rattle.line.specs.Calls.{Held}
use Rattle.line.proofs.Queues.{changed_sound, refused_sound}
use Rattle.line.proofs.lined.Line.change.Goals as goal

pub invariant_of-self : goal.invariant_of-self
invariant_of-self g c = refused_sound _ _ c.self.inside.book _ c.self.invariant 0 (Change c.args.c) _ c.in_err-change.ensures.told c.change.ensures.after

pub returns-in_err-change-clause-told : goal.returns-in_err-change-clause-told
returns-in_err-change-clause-told g c = let p = err_from_is_err_and c.from_residual.result c.from_residual.ensures.1 in rw (p.1, p.2, ← c.self.view_is) c.in_err-change.ensures.told

pub returns-in_err-change-clause-after : goal.returns-in_err-change-clause-after
returns-in_err-change-clause-after g c = rw (← c.self.view_is) (ap (λ st. let l : Held g.row.R.Denot = record { rule = c.self.inside.rule; state = st } in l) c.change.ensures.after)

pub invariant_of-self-2 : goal.invariant_of-self-2
invariant_of-self-2 g c = changed_sound _ _ c.self.inside.book _ c.self.invariant c.args.c _ _ c.in_ok-change.ensures.told c.change.ensures.after c.rekey.ensures.finishes c.rekey.ensures.starts
