-- What the record of a session and the wire of a line stand for in the model of a line.
use Rattle.std.specs.Prelude.{◌≡◌, ◌<◌, ◌≤◌, true, Option, Some, None}
use Rattle.std.specs.VecDeque.{deque_capacity}
use Rattle.model.specs.Model as M
use Rattle.model.specs.Model.Wire.{idle, sending}
use Rattle.line.specs.declared.session.Session.TheInside.{Inside}
use Rattle.line.specs.declared.wire.Sending.{Sending}

-- A session, without the memory behind it.
abbrev pub session_of : Inside → M.Session
session_of s =
    record { is_open = s.«open»; interval = s.interval; places = s.places; last_finish = s.last_finish; last_due = s.last_due; held = s.held; mark = s.mark; start = s.start; due_start = s.due_start; waiting = s.waiting.items }

-- What every session keeps: its share and held share are parts of a frame, and it has memory for just as many packets as all places of a line.
pub record Lasting (s : Inside) : Type 0 where
  pub divides : s.«open» ≡ true → 0 < s.interval
  pub held : s.held ≤ M.frame
  pub room : deque_capacity s.waiting ≡ 256

-- The packet on the wire.
abbrev pub sending_of : Sending → M.Sending
sending_of w = record { session = w.session; packet = w.packet; due = w.due; noted = w.noted; begun = w.begun }

abbrev pub wire_of : Option Sending → M.Wire
wire_of None = idle
wire_of (Some w) = sending (sending_of w)
