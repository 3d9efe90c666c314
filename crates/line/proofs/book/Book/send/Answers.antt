use Rattle.std.proofs.Common.{get_or, subst, sym}
use Rattle.line.specs.Needed.{Low}
use Rattle.line.specs.Views.{state_of}
use Rattle.line.proofs.Steadies.{bounded_at}
use Rattle.line.proofs.book.Book.send.Goals as goal

pub send-requires-clause-low : goal.send-requires-clause-low
send-requires-clause-low c =
    subst (λ ss. Low (get_or ss c.args.i c.index-deref_mut-i.result)) (sym c.deref_mut.ensures.value)
    (bounded_at (state_of c.self.inside) c.self.invariant c.args.i c.index-deref_mut-i.result c.requires.within).low
