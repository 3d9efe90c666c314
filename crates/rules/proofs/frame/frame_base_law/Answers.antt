-- The law of the frame's base.
use Rattle.std.proofs.Common.{◌/◌, refl, arith}
use Rattle.rules.specs.Bases.{frame}
use Rattle.rules.proofs.frame.frame_base_law.Goals as goal

pub returns : goal.returns
returns c s f = ((s / frame, refl), omega arith, omega arith)
