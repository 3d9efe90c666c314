-- Among vacant leaves every winner is vacant.
use Rattle.std.proofs.Common.{refl}
use Rattle.ready.proofs.Replays.{in_time_vacant}
use Rattle.ready.proofs.tree.TreeReady.empty.Goals as goal

pub invariant_of-result : goal.invariant_of-result
invariant_of-result c = record { full = refl; own = refl; early = in_time_vacant 32; won = refl }
