use Rattle.std.proofs.Common.{get_or, subst, sym}
use Rattle.line.specs.Needed.{Bounded}
use Rattle.line.specs.Views.{state_of}
use Rattle.line.proofs.Steadies.{bounded_at}
use Rattle.line.proofs.book.Book.at.Goals as goal

pub returns-clause-bounded : goal.returns-clause-bounded
returns-clause-bounded c =
    subst (λ ss. Bounded (get_or ss c.args.i c.index-deref-i.result)) (sym c.deref.ensures)
    (bounded_at (state_of c.self.inside) c.self.invariant c.args.i c.index-deref-i.result c.requires)
