-- The law of the least.
use Rattle.ready.proofs.Firsts.{least_law}
use Rattle.ready.proofs.laws.least_is_least.Goals as goal

pub returns : goal.returns
returns c = least_law
