-- What a recalibration rule is to a line.
use Rattle.std.specs.Prelude.{ℕ}

-- The base at a least start and a least finish, the number of choices, and what a taken pick makes of the rule.
pub record Acts (X : Type 0) : Type 0 where
  pub means : X → ℕ → ℕ → ℕ
  pub choices : X → ℕ
  pub after : X → ℕ → X
