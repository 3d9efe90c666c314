-- What a line promises, over every list of calls from its making on, for every rule that keeps the law. Assumes nothing.
use Rattle.std.specs.Prelude.{◌≡◌, ℕ, ◌+◌, ◌-◌, ◌<◌, ◌≤◌, Bool, true, false, cond, List, [], ◌∷◌, ◌++◌, length, take, ◌==◌}
use Rattle.model.specs.declared.calls.Call.{Call}
use Rattle.model.specs.declared.calls.Call.TheVariants.{Open, Close, Change, Pick, Arrive, Depart}
use Rattle.model.specs.declared.calls.Opening.{Opening}
use Rattle.model.specs.declared.calls.Arrival.{Arrival}
use Rattle.model.specs.Answers.{Answer, Done, Left, Refused}
use Rattle.model.specs.declared.calls.Parcel.{Parcel}
use Rattle.model.specs.Bursts.{burst, brought}
use Rattle.model.specs.Model.{Setup, Sending, State, Acts, Lawful, Event, Run, at, waits, due, end, bad_clock, overdue, bad_length, on_wire, outcome, replay}
use Rattle.model.specs.Model.Wire.{sending}

-- What a history tells of a session since it opened: the interval and places it opened with, whether a change was accepted,
-- its accepted packets and those that departed, the oldest first.
pub record Past : Type 0 where
  pub is_open : Bool
  pub interval : ℕ
  pub places : ℕ
  pub is_changed : Bool
  pub accepted : List Parcel
  pub departed : List Parcel

-- Before it is opened, and after it is closed.
abbrev pub unopened : Past
unopened = record { is_open = false; interval = 0; places = 0; is_changed = false; accepted = []; departed = [] }

-- What an accepted open, close, change and arrival, and a departure, add.
abbrev pub opens : Opening → Past → Past
opens c p = record { is_open = true; interval = c.interval; places = c.places; is_changed = false; accepted = []; departed = [] }

abbrev pub closes : Past → Past
closes p = unopened

abbrev pub changes : Past → Past
changes p = record { is_open = p.is_open; interval = p.interval; places = p.places; is_changed = true; accepted = p.accepted; departed = p.departed }

abbrev pub accepts : Parcel → Past → Past
accepts x p = record { is_open = p.is_open; interval = p.interval; places = p.places; is_changed = p.is_changed; accepted = p.accepted ++ (x ∷ []); departed = p.departed }

abbrev pub leaves : Parcel → Past → Past
leaves x p = record { is_open = p.is_open; interval = p.interval; places = p.places; is_changed = p.is_changed; accepted = p.accepted; departed = p.departed ++ (x ∷ []) }

-- One event more: only accepted calls on the session itself count.
abbrev pub follow : ℕ → Call → Answer → Past → Past
follow i (Open c) Done p = cond (c.session == i) (opens c p) p
follow i (Close c) Done p = cond (c.session == i) (closes p) p
follow i (Change c) Done p = cond (c.session == i) (changes p) p
follow i (Pick c) Done p = p
follow i (Arrive c) Done p = cond (c.session == i) (accepts (record { bytes = c.bytes; arrival = c.time }) p) p
follow i Depart Done p = p
follow i c (Left d) p = cond (d.session == i) (leaves (record { bytes = d.bytes; arrival = d.arrived }) p) p
follow i c (Refused r) p = p

-- All events, the last one first.
abbrev pub past : ℕ → List Event → Past
past i [] = unopened
past i (e ∷ before) = follow i e.call e.answer (past i before)

-- At every event of a history, and all before it.
abbrev pub Throughout : (Event → List Event → Type 0) → List Event → Type 0
Throughout Q [] = Unit {0}
Throughout Q (e ∷ before) = Q e before × Throughout Q before

-- A longest packet that a line can be made with.
abbrev pub Proper : Setup → Type 0
Proper setup = (1 ≤ setup.longest) × (setup.longest ≤ 9216)

-- On time: no packet passes its due time by more than the longest packet, be it on the wire, a head, or gone.
abbrev pub LeftInTime : ℕ → Answer → Type 0
LeftInTime longest Done = Unit {0}
LeftInTime longest (Left d) = d.at ≤ d.due + longest
LeftInTime longest (Refused r) = Unit {0}

-- The packet on the wire at its end, each head now, and each packet that left.
pub record NoneLate {X : Type 0} (longest : ℕ) (r : Run X) : Type 0 where
  pub wire : (w : Sending) → r.state.wire ≡ sending w → end w ≤ w.due + longest
  pub heads : (i : ℕ) → i < 32 → waits (at r.state i) ≡ true → r.state.time ≤ due (at r.state i) + longest
  pub gone : Throughout (λ e before. LeftInTime longest e.answer) r.history

abbrev pub OnTime : Type 0 → Type 0
OnTime X = (R : Acts X) (x : X) (setup : Setup) (calls : List Call) → Lawful R x → Proper setup → NoneLate setup.longest (replay R x setup calls)

-- Burst bound: a packet of a session that was not changed since it opened leaves by its arrival, the session's burst figure and the longest packet.
abbrev pub WithinBurst : ℕ → Answer → List Event → Type 0
WithinBurst longest Done before = Unit {0}
WithinBurst longest (Left d) before =
    (past d.session before).is_changed ≡ false
    → d.at ≤ d.arrived + burst (brought (past d.session before).interval (past d.session before).accepted) + longest
WithinBurst longest (Refused r) before = Unit {0}

abbrev pub BurstBound : Type 0 → Type 0
BurstBound X =
    (R : Acts X) (x : X) (setup : Setup) (calls : List Call) → Lawful R x → Proper setup
    → Throughout (λ e before. WithinBurst setup.longest e.answer before) (replay R x setup calls).history

-- No place lost: how many of its packets went on the wire since it opened.
abbrev pub gone_on_wire : ℕ → State → Past → ℕ
gone_on_wire i st p = length p.departed + cond (on_wire st.wire i) 1 0

-- A well-timed arrival of lawful length on an open session that has a place free.
pub record FindsPlace {X : Type 0} (longest : ℕ) (r : Run X) (a : Arrival) : Type 0 where
  pub is_open : (past a.session r.history).is_open ≡ true
  pub clock : bad_clock r.state a.time ≡ false
  pub wire : overdue r.state.wire a.time ≡ false
  pub lawful : bad_length longest a.bytes (at r.state a.session).interval ≡ false
  pub place : length (past a.session r.history).accepted - gone_on_wire a.session r.state (past a.session r.history) < (past a.session r.history).places

abbrev pub NoPlaceLost : Type 0 → Type 0
NoPlaceLost X =
    (R : Acts X) (x : X) (setup : Setup) (calls : List Call) (a : Arrival) → Lawful R x → Proper setup
    → FindsPlace setup.longest (replay R x setup calls) a → (outcome R (replay R x setup calls) (Arrive a)).answer ≡ Done

-- All three, of one list of calls: wherever it has come to, after the first k calls.
pub record Promised {X : Type 0} (R : Acts X) (x : X) (setup : Setup) (calls : List Call) : Type 0 where
  pub on_time : (k : ℕ) → NoneLate setup.longest (replay R x setup (take k calls))
  pub burst_bound : Throughout (λ e before. WithinBurst setup.longest e.answer before) (replay R x setup calls).history
  pub no_place_lost : (k : ℕ) (a : Arrival) → FindsPlace setup.longest (replay R x setup (take k calls)) a → (outcome R (replay R x setup (take k calls)) (Arrive a)).answer ≡ Done
