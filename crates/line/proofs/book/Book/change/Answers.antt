use Rattle.std.proofs.Common.{arith}
use Rattle.std.proofs.lemmas.Grind.{common_steps}
use Rattle.model.specs.declared.calls.Call.TheVariants.{Change}
use Rattle.line.proofs.Steadies.{kept}
use Rattle.line.proofs.book.Book.change.Goals as goal

pub returns-clause-after : goal.returns-clause-after
returns-clause-after c = grind (arith, common_steps)

pub invariant_of-self : goal.invariant_of-self
invariant_of-self c = kept 0 _ c.args.self.now (Change c.args.c) c.self.view_is c.self.invariant _ (returns-clause-after c)
