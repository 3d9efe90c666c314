use Rattle.std.proofs.Common.{◌≤◌, sym, ◌∙◌, arith}
use Rattle.std.proofs.lemmas.Bool.{ltb-false}
use Rattle.line.proofs.Lengths.{advance_small}
use Rattle.line.proofs.book.Book.bad_length.Goals.{then-bytes-eq0, else-bytes-eq0}
use Rattle.line.proofs.book.Book.bad_length.Goals as goal

pub advance-requires : goal.advance-requires
advance-requires c =
    let low : c.args.bytes ≤ c.self.inside.longest = elim c.if-bytes-eq0.branch [ then-bytes-eq0 w ↦ omega arith | else-bytes-eq0 w ↦ ltb-false c.self.inside.longest c.args.bytes (sym w.value-is ∙ c.if-bytes-self.false) ] in
    advance_small c.args.bytes c.args.interval (omega (arith, c.self.invariant.proper.1)) c.requires
