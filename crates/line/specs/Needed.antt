-- What the sums of the code need, so that none leaves its range.
use Rattle.std.specs.Prelude.{◌≡◌, ℕ, ◌+◌, ◌^◌, ◌<◌, ◌≤◌, true}
use Rattle.std.specs.List.{AllByRecursion}
use Rattle.model.specs.Model.{frame, advance, wire_ticks, first, due, Session, Sending, end}

-- A session whose stamps are far from the end of their range, and whose head fits its share.
pub record Low (s : Session) : Type 0 where
  pub start : s.start < 2 ^ 56
  pub due_start : s.due_start < 2 ^ 56
  pub head : advance (first s.waiting).bytes s.interval ≤ frame

-- Every session of a line: what waits is no longer than a line allows, and an interval is a part of the frame.
pub record Bounded (s : Session) : Type 0 where
  pub low : Low s
  pub short : AllByRecursion (λ p. p.bytes ≤ 9216) s.waiting
  pub divisor : s.is_open ≡ true → s.interval ≤ frame

-- A packet on the wire that is no longer than a line allows, and whose times and potentials are as far from the end of theirs.
pub record Light (w : Sending) : Type 0 where
  pub free : end w < 2 ^ 56
  pub due : w.due < 2 ^ 56
  pub sum : w.noted + wire_ticks w.packet.bytes < 2 ^ 56
  pub short : w.packet.bytes ≤ 9216

-- The head of a session as it goes on the wire.
abbrev pub head_sent : ℕ → ℕ → ℕ → Session → Sending
head_sent place noted begun s = record { session = place; packet = first s.waiting; due = due s; noted = noted; begun = begun }
