-- A rule that is one function for good.
use Rattle.std.specs.Prelude.{ℕ}
use Rattle.rules.specs.Acts.{Acts}

-- It has one choice, and a pick leaves it.
abbrev pub plain_acts : {X : Type 0} → (ℕ → ℕ → ℕ) → Acts X
plain_acts base = record { means = λ _. base; choices = λ _. 1; after = λ x _. x }
