-- What the tokens of the code stand for.
use Rattle.std.specs.Prelude.{ℕ, List, [], ◌∷◌, Some, None, Option}
use Rattle.grammar.specs.Tokens.{Token as Tok, opening, closing, word, number}
use Rattle.grammar.specs.Reader.{Read, go, decide}
use Rattle.runfile.specs.declared.place.Place.{Place}
use Rattle.runfile.specs.declared.scanner.Token.{Token}
use Rattle.runfile.specs.declared.scanner.Token.TheVariants.{Open, Close, Word, Number}

-- The token that the first byte begins.
abbrev pub begun : ℕ → List ℕ → Read (Option Tok × ℕ)
begun col [] = go (None, col) col []
begun col (b ∷ bs) = decide col b bs

-- A token of the code.
abbrev pub token_of : Option Token → Option Tok
token_of None = None
token_of (Some Open) = Some opening
token_of (Some Close) = Some closing
token_of (Some (Word w)) = Some (word w.now)
token_of (Some (Number ds)) = Some (number ds.bytes.now)

-- A token that begins at the column.
abbrev pub begun_at : ℕ → Option Token → Option Tok × ℕ
begun_at col t = (token_of t, col)

-- A token that was found, and its column.
abbrev pub found_of : Option Token × Place → Option Tok × ℕ
found_of f = (token_of f.0, f.1.column)
