use Rattle.std.proofs.Common.{ap}
use Rattle.line.specs.Calls.{Held}
use Rattle.line.proofs.Queues.{opened_sound}
use Rattle.line.proofs.lined.Line.open.Goals as goal

pub invariant_of-self : goal.invariant_of-self
invariant_of-self g c = opened_sound _ _ c.self.inside.book _ c.self.invariant c.args.c c.open.ensures.after

pub returns-clause-told : goal.returns-clause-told
returns-clause-told g c = rw (← c.self.view_is) c.open.ensures.told

pub returns-clause-after : goal.returns-clause-after
returns-clause-after g c = rw (← c.self.view_is) (ap (λ st. let l : Held g.row.R.Denot = record { rule = c.self.inside.rule; state = st } in l) c.open.ensures.after)
