use Rattle.std.proofs.Common.{rules}
use Rattle.model.specs.declared.calls.Call.TheVariants.{Pick}
use Rattle.line.proofs.Steadies.{kept}
use Rattle.line.proofs.book.Book.pick.Goals as goal

pub returns-clause-after : goal.returns-clause-after
returns-clause-after c = search rules

pub invariant_of-self : goal.invariant_of-self
invariant_of-self c = kept c.args.choices _ c.args.self.now (Pick c.args.c) c.self.view_is c.self.invariant _ (returns-clause-after c)
