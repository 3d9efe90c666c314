-- The comparison is opened here and in its laws, and nowhere else.
use Rattle.std.proofs.Common.{rules}
use Rattle.ready.specs.Keys.{no_later}
use Rattle.ready.proofs.key.Key.no_later.Goals as goal

pub returns : goal.returns
unfolding no_later
returns c = search rules
