-- The run is computed.
use Rattle.std.proofs.Common.{refl, arith}
use Rattle.model.specs.Model.{wire_ticks, advance}
use Rattle.ready.specs.Keys.{no_later}
use Rattle.examples.proofs.longest_needed.Goals as goal

pub returns : goal.returns
unfolding wire_ticks advance no_later
returns c = record { answers_are = refl; is_late = omega arith; in_time = omega arith }
