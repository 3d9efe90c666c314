-- A packet that arrives just after a long one went on the wire leaves past its due time.
use Rattle.std.specs.Prelude.{◌≡◌, ◌+◌, ◌<◌, ◌≤◌, List, [], ◌∷◌, pos, ◌-ℤ◌}
use Rattle.model.specs.declared.calls.Call.{Call}
use Rattle.model.specs.declared.calls.Call.TheVariants.{Open, Arrive, Depart}
use Rattle.model.specs.declared.calls.Departure.{Departure}
use Rattle.model.specs.Answers.{Done, Left}
use Rattle.model.specs.Examples.{answers}

-- Session 1 has half the frame, but at its arrival the wire is busy for 999 ticks more.
abbrev pub behind_a_long_packet : List Call
behind_a_long_packet =
    Open (record { session = 0; interval = 55; places = 1; time = 0 })
    ∷ Open (record { session = 1; interval = 2; places = 1; time = 0 })
    ∷ Arrive (record { session = 0; bytes = 1000; time = 0 })
    ∷ Arrive (record { session = 1; bytes = 1; time = 1 })
    ∷ Depart
    ∷ Depart
    ∷ []

abbrev pub long_packet : Departure
long_packet = record { session = 0; bytes = 1000; arrived = 0; at = 1000; due = 55000; spare = pos 54000; waiting = 0 }

abbrev pub late_packet : Departure
late_packet = record { session = 1; bytes = 1; arrived = 1; at = 1001; due = 3; spare = pos 3 -ℤ pos 1001; waiting = 0 }

-- The longest packet is 1000 bytes. The last departure is past its due time, by no more than the longest packet.
pub record LongestNeeded : Type 0 where
  pub answers_are : answers 1000 behind_a_long_packet ≡ (Done ∷ Done ∷ Done ∷ Done ∷ Left long_packet ∷ Left late_packet ∷ [])
  pub is_late : late_packet.due < late_packet.at
  pub in_time : late_packet.at ≤ late_packet.due + 1000
