-- The last key is no later than itself.
use Rattle.std.proofs.Common.{rules}
use Rattle.ready.proofs.Ranks.{reflexive}
use Rattle.ready.proofs.tree.leaf.Goals as goal

pub returns-clause-early : goal.returns-clause-early
returns-clause-early c = search (rules, reflexive)
