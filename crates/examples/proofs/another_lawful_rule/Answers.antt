-- Half the least start is below it, and is none of the four bases.
use Rattle.std.proofs.Common.{◌≡◌, ℕ, arith}
use Rattle.rules.specs.Bases.{clock_base, frame_base, start_base, stamp_base}
use Rattle.examples.specs.Half.{half_base, Differ}
use Rattle.examples.proofs.another_lawful_rule.Goals as goal

-- the four bases and the half at the least start 60000 and the least finish 110000
at_one_place : (b : ℕ → ℕ → ℕ) → (half_base 60000 110000 ≡ b 60000 110000 → ⊥) → Differ half_base b
at_one_place b other = (60000, 110000, omega arith, omega arith, other)

pub returns : goal.returns
returns c =
    record {
      lawful = λ y reached s f a b. omega arith;
      not_clock = at_one_place clock_base (λ e. omega (arith, e));
      not_frame = at_one_place frame_base (λ e. omega (arith, e));
      not_start = at_one_place start_base (λ e. omega (arith, e));
      not_stamp = at_one_place stamp_base (λ e. omega (arith, e));
    }
