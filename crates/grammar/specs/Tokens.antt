-- What the tokens of a line are.
use Rattle.std.specs.Prelude.{◌≡◌, ℕ, ◌<◌, ◌≤◌, List, [], ◌∷◌, ◌++◌, length}
use Rattle.std.specs.List.{AllByRecursion}
use Rattle.grammar.specs.Bytes.{Within, Ends, blanks}

-- Brackets, words by their letters, numbers by their digits.
pub data Token : Type 0 where
  opening : Token
  closing : Token
  word : List ℕ → Token
  number : List ℕ → Token

-- The bytes of a token.
abbrev pub bytes_of : Token → List ℕ
bytes_of opening = 40 ∷ []
bytes_of closing = 41 ∷ []
bytes_of (word w) = w
bytes_of (number ds) = ds

-- A word has letters and nothing else, a number has 1 to 13 digits and nothing else.
abbrev pub Sound : Token → Type 0
Sound opening = Unit {0}
Sound closing = Unit {0}
Sound (word w) = (0 < length w) × AllByRecursion (Within 97 122) w
Sound (number ds) = (0 < length ds) × (length ds ≤ 13) × AllByRecursion (Within 48 57) ds

-- No letter follows a word, no digit follows a number.
abbrev pub Apart : Token → List ℕ → Type 0
Apart opening rest = Unit {0}
Apart closing rest = Unit {0}
Apart (word w) rest = Ends 97 122 rest
Apart (number ds) rest = Ends 48 57 rest

-- A line begins with a token, behind blanks, and the rest follows it.
pub record Starts (line : List ℕ) (t : Token) (rest : List ℕ) : Type 0 where
  pub before : ℕ
  pub is : line ≡ blanks before ++ (bytes_of t ++ rest)
  pub sound : Sound t
  pub apart : Apart t rest

-- The tokens of a line: blanks may stand before and behind each of them.
abbrev pub Tokens : List ℕ → List Token → Type 0
Tokens line [] = (k : ℕ) × (line ≡ blanks k)
Tokens line (t ∷ ts) = (rest : List ℕ) × Starts line t rest × Tokens rest ts
