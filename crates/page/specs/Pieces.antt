-- A line as pieces, and the bytes that each stands for.
use Rattle.std.specs.Prelude.{ℕ, List, flat_map}
use Rattle.std.specs.Fmt.{signed_decimal}
use Rattle.page.specs.declared.pieces.Piece.{Piece}
use Rattle.page.specs.declared.pieces.Piece.TheVariants.{Text, Number}

abbrev pub piece_text : Piece → List ℕ
piece_text (Text text) = text.now
piece_text (Number number) = signed_decimal number

-- the pieces' bytes, one piece behind another
abbrev pub line_text : List Piece → List ℕ
line_text pieces = flat_map piece_text pieces
