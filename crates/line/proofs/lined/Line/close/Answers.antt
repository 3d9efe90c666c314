use Rattle.std.proofs.Common.{ap}
use Rattle.line.specs.Calls.{Held}
use Rattle.line.proofs.Queues.{closed_sound}
use Rattle.line.proofs.lined.Line.close.Goals as goal

pub invariant_of-self : goal.invariant_of-self
invariant_of-self g c = closed_sound _ _ c.self.inside.book _ c.self.invariant c.args.c c.close.ensures.after

pub returns-clause-after : goal.returns-clause-after
returns-clause-after g c = rw (← c.self.view_is) (ap (λ st. let l : Held g.row.R.Denot = record { rule = c.self.inside.rule; state = st } in l) c.close.ensures.after)
