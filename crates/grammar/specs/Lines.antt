-- The lines of a text: each ends at byte 10, the last one at the text's end if bytes are left.
use Rattle.std.specs.Prelude.{◌≡◌, ℕ, suc, ◌<◌, cond, ◌⊎◌, List, [], ◌∷◌, ◌++◌, length, take, drop, ◌==◌, ◌≢◌}
use Rattle.std.specs.List.{AllByRecursion}

-- A byte before the lines that follow.
abbrev pub onto : ℕ → List (List ℕ) → List (List ℕ)
onto b [] = (b ∷ []) ∷ []
onto b (l ∷ ls) = (b ∷ l) ∷ ls

-- The lines of a text, without the bytes 10 that end them.
abbrev pub lines : List ℕ → List (List ℕ)
lines [] = []
lines (b ∷ bs) = cond (b == 10) ([] ∷ lines bs) (onto b (lines bs))

-- How many bytes the first line has: those before the first byte 10, or all.
abbrev pub line_length : List ℕ → ℕ
line_length [] = 0
line_length (b ∷ bs) = cond (b == 10) 0 (suc (line_length bs))

-- A text that is not empty is its first line, and the lines of what stands behind the byte that ends it.
abbrev pub FirstLine : Type 0
FirstLine = (text : List ℕ) → 0 < length text → lines text ≡ take (line_length text) text ∷ lines (drop (suc (line_length text)) text)

-- Lines, each ended by byte 10.
abbrev pub ended : List (List ℕ) → List ℕ
ended [] = []
ended (l ∷ ls) = l ++ (10 ∷ ended ls)

-- A text is made of lines: none holds byte 10, each is ended by it, or is the last, not empty and ended by nothing.
abbrev pub Lined : List ℕ → List (List ℕ) → Type 0
Lined text [] = text ≡ []
Lined text (l ∷ ls) = AllByRecursion (λ b. b ≢ 10) l × (((rest : List ℕ) × (text ≡ l ++ (10 ∷ rest)) × Lined rest ls) ⊎ ((text ≡ l) × (0 < length l) × (ls ≡ [])))
