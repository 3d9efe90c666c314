-- How a text is cut into lines, one by one.
use Rattle.std.specs.Prelude.{◌≡◌, ℕ, suc, ◌<◌, List, [], length, take, drop, Some, None, Option}
use Rattle.std.specs.Borrow.{Bor}
use Rattle.grammar.specs.Lines.{line_length}

-- Of what is left of a text, the first line is taken, and what stands behind its end is left; no line is taken where nothing is left, and nothing is left then.
abbrev pub CutsLine : List ℕ → Option (Bor (List ℕ)) → List ℕ → Type 0
CutsLine text None rest = (text ≡ []) × (rest ≡ [])
CutsLine text (Some line) rest = (0 < length text) × (line.now ≡ take (line_length text) text) × (rest ≡ drop (suc (line_length text)) text)

-- A line end stands behind the first line, or there is none and the first line is all.
abbrev pub EndsFirst : List ℕ → Option ℕ → Type 0
EndsFirst text (Some i) = (i ≡ line_length text) × (i < length text)
EndsFirst text None = length text ≡ line_length text
