-- A rule that keeps the law and is none of the four plain ones.
use Rattle.std.specs.Prelude.{ℕ, ◌+◌, ◌/◌, ◌<◌, ◌≤◌, ◌≢◌}
use Rattle.rules.specs.Bases.{frame, clock_base, frame_base, start_base, stamp_base}
use Rattle.model.specs.Model.{Acts, Lawful}

-- The base is half the least start.
abbrev pub half_base : ℕ → ℕ → ℕ
half_base s f = s / 2

-- It has one choice, which alters nothing.
abbrev pub half : Acts (Unit {0})
half = record { means = λ x. half_base; choices = λ x. 1; after = λ x n. x }

-- Two bases differ at some least start and least finish that heads can have.
abbrev pub Differ : (ℕ → ℕ → ℕ) → (ℕ → ℕ → ℕ) → Type 0
Differ a b = (s : ℕ) × (f : ℕ) × (s < f) × (f ≤ s + frame) × (a s f ≢ b s f)

pub record AnotherLawfulRule : Type 0 where
  pub lawful : Lawful half tt
  pub not_clock : Differ half_base clock_base
  pub not_frame : Differ half_base frame_base
  pub not_start : Differ half_base start_base
  pub not_stamp : Differ half_base stamp_base
