-- What is laid so far.
use Rattle.std.proofs.Common.{◌≡◌, take}
use Rattle.page.specs.Page.{laid}
use Rattle.page.specs.Pieces.{line_text}
use Rattle.page.proofs.Page.put_line.Given as goal

abbrev pub invariant-loop-piece : goal.invariant-loop-piece
invariant-loop-piece l = l.self ≡ laid l.fn.self (line_text (take l.piece-index l.pieces))
