use Rattle.line.proofs.Queues.{picked_sound}
use Rattle.line.proofs.lined.Line.pick.Goals as goal

pub invariant_of-self : goal.invariant_of-self
invariant_of-self g c = picked_sound _ _ c.self.inside.book _ c.self.invariant _ c.args.c c.pick.ensures.after

pub invariant_of-self-2 : goal.invariant_of-self-2
invariant_of-self-2 g c = picked_sound _ _ c.self.inside.book _ c.self.invariant _ c.args.c c.pick.ensures.after
