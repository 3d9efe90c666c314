use Rattle.std.proofs.Common.{refl}
use Rattle.model.specs.Model.{wire_ticks, advance}
use Rattle.ready.specs.Keys.{no_later}
use Rattle.model.proofs.listing_holds.Goals as goal

pub returns : goal.returns
unfolding wire_ticks advance no_later
returns c = refl
