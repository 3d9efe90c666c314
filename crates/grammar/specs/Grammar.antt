-- What it is that a line spells a form.
use Rattle.std.specs.Prelude.{◌≡◌, ℕ, zero, suc, List, [], ◌∷◌, ◌++◌, map}
use Rattle.grammar.specs.Bytes.{value}
use Rattle.grammar.specs.Forms.{Row, Form, table, Stands}
use Rattle.grammar.specs.Tokens.{Token, opening, closing, word, number, Tokens}

-- A field as it is written: its word, and the digits of its number.
pub record Field : Type 0 where
  pub name : List ℕ
  pub digits : List ℕ

-- The tokens of fields, one behind the other.
abbrev pub written : List Field → List Token
written [] = []
written (f ∷ fs) = opening ∷ word f.name ∷ number f.digits ∷ closing ∷ written fs

-- A field's name and value.
abbrev pub meant : Field → List ℕ × ℕ
meant f = (f.name, value f.digits)

-- A list into which x is put behind the first i.
abbrev pub put : {X : Type 0} → ℕ → X → List X → List X
put zero x xs = x ∷ xs
put (suc i) x [] = x ∷ []
put (suc i) x (y ∷ ys) = y ∷ put i x ys

-- One list has the same elements as another, each as often, in any order.
abbrev pub Shuffled : {X : Type 0} → List X → List X → Type 0
Shuffled [] ys = ys ≡ []
Shuffled {X} (x ∷ xs) ys = (i : ℕ) × (rest : List X) × (ys ≡ put i x rest) × Shuffled xs rest

-- The names of pairs.
abbrev pub names : List (List ℕ × ℕ) → List (List ℕ)
names ps = map (λ p. p.0) ps

-- The values of pairs.
abbrev pub values : List (List ℕ × ℕ) → List ℕ
values ps = map (λ p. p.1) ps

-- A line spells a form: brackets around the word of its kind and fields, which are those of the kind with the form's values, each once, in any order.
pub record Spells (line : List ℕ) (form : Form) : Type 0 where
  pub row : Row
  pub fields : List Field
  pub pairs : List (List ℕ × ℕ)
  pub stands : Stands row table
  pub tokens : Tokens line (opening ∷ word row.call ∷ (written fields ++ (closing ∷ [])))
  pub shuffled : Shuffled (map meant fields) pairs
  pub all_names : names pairs ≡ row.names
  pub means : form ≡ record { kind = row.kind; values = values pairs }
