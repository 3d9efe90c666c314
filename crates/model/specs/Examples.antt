-- Runs and figures that are worked out.
use Rattle.std.specs.Prelude.{◌≡◌, ℕ, zero, suc, ◌+◌, max, true, false, List, [], ◌∷◌, map, reverse, pos}
use Rattle.model.specs.declared.calls.Call.{Call}
use Rattle.model.specs.declared.calls.Call.TheVariants.{Open, Change, Arrive, Depart}
use Rattle.model.specs.declared.calls.Refusal.TheVariants as refused
use Rattle.model.specs.Answers.{Answer, Done, Left, Refused}
use Rattle.rules.specs.Bases.{clock_base, frame_base, start_base, stamp_base}
use Rattle.model.specs.Model.{Session, Acts, Lawful, number, bad_interval, bad_length, finish, due, changed, replay}
use Rattle.model.specs.Bursts.{burst, brought}

-- Four rules, of which a pick chooses one.
abbrev pub base : ℕ → ℕ → ℕ → ℕ
base zero = clock_base
base (suc zero) = frame_base
base (suc (suc zero)) = start_base
base (suc (suc (suc n))) = stamp_base

abbrev pub four : Acts ℕ
four = record { means = base; choices = λ x. 4; after = λ x n. n }

-- They keep the law, whichever is chosen.
abbrev pub FourLawful : Type 0
FourLawful = (x : ℕ) → Lawful four x

-- The answers to a list of calls, the first one first.
abbrev pub answers : ℕ → List Call → List Answer
answers longest calls = map (λ e. e.answer) (reverse (replay four 0 (record { longest = longest }) calls).history)

-- Two sessions whose shares move in mid-run: a share that was lowered is given out at its mark, not before.
abbrev pub listing : List Call
listing =
    Open (record { session = 0; interval = 2; places = 4; time = 0 })
    ∷ Open (record { session = 1; interval = 4; places = 4; time = 0 })
    ∷ Open (record { session = 2; interval = 4; places = 4; time = 0 })
    ∷ Arrive (record { session = 0; bytes = 10; time = 0 })
    ∷ Arrive (record { session = 1; bytes = 10; time = 0 })
    ∷ Change (record { session = 0; interval = 4; time = 5 })
    ∷ Change (record { session = 1; interval = 2; time = 5 })
    ∷ Depart
    ∷ Change (record { session = 1; interval = 2; time = 10 })
    ∷ []

abbrev pub Listing : Type 0
Listing =
    answers 100 listing
    ≡ (Done ∷ Done ∷ Done ∷ Done ∷ Done ∷ Done ∷ Refused refused.Share
    ∷ Left (record { session = 0; bytes = 10; arrived = 0; at = 10; due = 20; spare = pos 10; waiting = 0 }) ∷ Done ∷ [])

-- A head of 10 bytes at interval 4, with start and due start 0.
abbrev pub head_at_four : Session
head_at_four =
    record { is_open = true; interval = 4; places = 1; last_finish = 0; last_due = 0; held = 0; mark = 0; start = 0; due_start = 0; waiting = record { bytes = 10; arrival = 0; entry = 0 } ∷ [] }

-- The figures, from the definitions.
pub record Figures : Type 0 where
  pub passes : bad_length 9216 1540 36 ≡ false
  pub too_long : bad_length 9216 1541 36 ≡ true
  pub no_divisor : bad_interval 13 ≡ true
  pub fourth : answers 100 (
      Open (record { session = 0; interval = 2; places = 1; time = 0 }) ∷ Open (record { session = 1; interval = 4; places = 1; time = 0 }) ∷ Open (record { session = 2; interval = 4; places = 1; time = 0 })
      ∷ Open (record { session = 3; interval = 55440; places = 1; time = 0 }) ∷ []) ≡ (Done ∷ Done ∷ Done ∷ Refused refused.Share ∷ [])
  pub clock : max 50000 (base 0 60000 110000) ≡ 50000
  pub frame_base : max 50000 (base 1 60000 110000) ≡ 55440
  pub start : max 50000 (base 2 60000 110000) ≡ 60000
  pub stamp : max 50000 (base 3 60000 110000) ≡ 54560
  pub restart : (changed 15 15 8 head_at_four).start ≡ 15
  pub refinish : finish (changed 15 15 8 head_at_four) ≡ 95
  pub redue : due (changed 15 15 8 head_at_four) ≡ 95
  pub burst_at_two : burst (brought 2 (record { bytes = 10; arrival = 0 } ∷ record { bytes = 10; arrival = 0 } ∷ record { bytes = 10; arrival = 30 } ∷ [])) ≡ 40
  pub numbers : number refused.Length + number refused.Interval + number refused.Share ≡ 8 + 7 + 10
