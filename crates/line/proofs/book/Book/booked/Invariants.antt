use Rattle.std.proofs.Common.{◌≡◌, ◌*◌, ◌≤◌, take}
use Rattle.model.specs.Model.{frame}
use Rattle.line.specs.Views.{booked}
use Rattle.line.proofs.book.Book.booked.Given as goal

abbrev pub invariant-loop-s : goal.invariant-loop-s
invariant-loop-s l = (l.sum ≤ frame * l.s-index) × (l.sum ≡ booked l.at (take l.s-index l.s-items))
