use Rattle.std.proofs.Common.{◌≡◌, ◌++◌, map, take, drop}
use Rattle.model.specs.Model.{rested}
use Rattle.line.proofs.book.Book.rest.Given as goal

abbrev pub invariant-loop-s : goal.invariant-loop-s
invariant-loop-s l = l.s-items ≡ map rested (take l.s-index l.initial.s-items) ++ drop l.s-index l.initial.s-items
