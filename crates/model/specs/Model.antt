-- A line by its rules, over numbers and lists: what each call does, or why it is refused.
use Rattle.std.specs.Prelude.{ℕ, ◌+◌, ◌-◌, ◌*◌, ◌/◌, ◌%◌, ◌^◌, ◌<◌, ◌≤◌, max, Bool, true, false, cond, not, ◌||◌, List, [], ◌∷◌, ◌++◌, map, length, replicate, pos, ◌-ℤ◌, Some, None, codes, sum_by, count_by, Option, ◌==◌, nat_le, nat_lt, slice_index_or, slice_set}
use Rattle.model.specs.declared.calls.Call.{Call}
use Rattle.model.specs.declared.calls.Call.TheVariants.{Open, Close, Change, Pick, Arrive, Depart}
use Rattle.model.specs.declared.calls.Refusal.{Refusal}
use Rattle.model.specs.declared.calls.Refusal.TheVariants as refused
use Rattle.model.specs.declared.calls.Packet.{Packet}
use Rattle.model.specs.declared.calls.Departure.{Departure}
pub use Rattle.model.specs.Answers.{Answer, Done, Left, Refused}
pub use Rattle.rules.specs.Bases.{frame}
pub use Rattle.rules.specs.Acts.{Acts}
use Rattle.ready.specs.declared.key.Key.{Key}
use Rattle.ready.specs.declared.entry.Entry.{Entry}
use Rattle.ready.specs.Least.{Keys, least}

-- The ticks that a packet takes on the wire.
unfoldable pub wire_ticks : ℕ → ℕ
wire_ticks bytes = bytes

-- How far a packet takes its session on.
unfoldable pub advance : ℕ → ℕ → ℕ
advance bytes interval = bytes * interval

-- What is fixed when a line is made.
pub record Setup : Type 0 where
  pub longest : ℕ

-- A session: start and due start are those of its head, the first that waits.
pub record Session : Type 0 where
  pub is_open : Bool
  pub interval : ℕ
  pub places : ℕ
  pub last_finish : ℕ
  pub last_due : ℕ
  pub held : ℕ
  pub mark : ℕ
  pub start : ℕ
  pub due_start : ℕ
  pub waiting : List Packet

-- A session as it is on a new line.
abbrev pub blank : Session
blank = record { is_open = false; interval = 0; places = 0; last_finish = 0; last_due = 0; held = 0; mark = 0; start = 0; due_start = 0; waiting = [] }

-- The packet on the wire, its due time, the potential noted when it went there, and that time.
pub record Sending : Type 0 where
  pub session : ℕ
  pub packet : Packet
  pub due : ℕ
  pub noted : ℕ
  pub begun : ℕ

-- The wire is idle or sends a packet.
pub data Wire : Type 0 where
  idle : Wire
  sending : Sending → Wire

-- A line: its longest packet, its time, its wire and its 32 sessions.
pub record State : Type 0 where
  pub longest : ℕ
  pub time : ℕ
  pub wire : Wire
  pub sessions : List Session

-- A session's share of the frame.
abbrev pub share : Session → ℕ
share s = cond s.is_open (frame / s.interval) 0

-- One of the packets passes the test.
abbrev pub any : (Packet → Bool) → List Packet → Bool
any test [] = false
any test (p ∷ ps) = test p || any test ps

-- There is a packet.
abbrev pub some : List Packet → Bool
some [] = false
some (p ∷ ps) = true

-- A packet of it waits.
abbrev pub waits : Session → Bool
waits s = some s.waiting

-- Where no packet is.
abbrev pub nothing : Packet
nothing = record { bytes = 0; arrival = 0; entry = 0 }

-- The first of the packets, and the ones behind it.
abbrev pub first : List Packet → Packet
first [] = nothing
first (p ∷ ps) = p

abbrev pub behind : List Packet → List Packet
behind [] = []
behind (p ∷ ps) = ps

-- Its head's finish: start and advance.
abbrev pub finish : Session → ℕ
finish s = s.start + advance (first s.waiting).bytes s.interval

-- Its head's due time: due start and advance.
abbrev pub due : Session → ℕ
due s = s.due_start + advance (first s.waiting).bytes s.interval

-- Where it stands at the potential P: there, or at its head's start (where none waits, its last finish).
abbrev pub position : ℕ → Session → ℕ
position P s = max P (cond (waits s) s.start s.last_finish)

-- What is counted of it at the position x: its share, or its held share if that is greater and its mark is above x.
abbrev pub counted : ℕ → Session → ℕ
counted x s = cond (nat_lt x s.mark) (max (share s) s.held) (share s)

-- The time at which the wire is free again.
abbrev pub end : Sending → ℕ
end w = w.begun + wire_ticks w.packet.bytes

-- The potential at the time t: 0 at rest, else the noted one and the ticks since.
abbrev pub potential : Wire → ℕ → ℕ
potential idle t = 0
potential (sending w) t = w.noted + (t - w.begun)

-- A session by its number.
abbrev pub at : State → ℕ → Session
at st i = slice_index_or st.sessions i blank

-- The checks, each true where its refusal fits. The time is below the line's time, or above 2^40.
abbrev pub bad_clock : State → ℕ → Bool
bad_clock st t = nat_lt t st.time || nat_lt (2 ^ 40) t

-- The packet on the wire ends before that time.
abbrev pub overdue : Wire → ℕ → Bool
overdue idle t = false
overdue (sending w) t = nat_lt (end w) t

-- Its mark is above the present potential.
abbrev pub draining : State → ℕ → ℕ → Bool
draining st i t = nat_lt (potential st.wire t) (at st i).mark

-- 0, or no divisor of the frame.
abbrev pub bad_interval : ℕ → Bool
bad_interval interval = interval == 0 || not (frame % interval == 0)

-- Bytes 0, above longest, or too many for a frame of the session.
abbrev pub bad_length : ℕ → ℕ → ℕ → Bool
bad_length longest bytes interval = bytes == 0 || (nat_lt longest bytes || nat_lt frame (advance bytes interval))

-- Its places, as long as it is open.
abbrev pub open_places : Session → ℕ
open_places s = cond s.is_open s.places 0

-- The places of all sessions that are open.
abbrev pub all_places : State → ℕ
all_places st = sum_by open_places st.sessions

-- 0, or more than 256 in all.
abbrev pub bad_places : State → ℕ → Bool
bad_places st places = places == 0 || nat_lt 256 (places + all_places st)

-- A share at the position x, beside what is counted of all other sessions, does not fit the frame.
abbrev pub unbooked : State → ℕ → ℕ → ℕ → Bool
unbooked st i new x = nat_lt frame (new + sum_by (counted x) (slice_set st.sessions i blank))

-- A raise that does not fit: any other change is booked already.
abbrev pub raised_unbooked : State → ℕ → ℕ → ℕ → Bool
raised_unbooked st i new x = cond (nat_lt (share (at st i)) new) (unbooked st i new x) false

-- As many wait as it has places.
abbrev pub full : Session → Bool
full s = nat_le s.places (length s.waiting)

-- Its packet is on the wire.
abbrev pub on_wire : Wire → ℕ → Bool
on_wire idle i = false
on_wire (sending w) i = w.session == i

-- A packet of it waits or is on the wire.
abbrev pub busy : State → ℕ → Bool
busy st i = waits (at st i) || on_wire st.wire i

-- Nothing is on the wire.
abbrev pub resting : Wire → Bool
resting idle = true
resting (sending w) = false

-- The first of some checks that fits.
abbrev pub first_of : List (Bool × Refusal) → Option Refusal
first_of [] = None
first_of (check ∷ checks) = cond check.0 (Some check.1) (first_of checks)

-- The checks of a call in their order, each with the refusal that it gives. The rule has this number of choices.
abbrev pub checks : ℕ → State → Call → List (Bool × Refusal)
checks choices st (Open c) =
    (bad_clock st c.time, refused.Clock)
    ∷ (overdue st.wire c.time, refused.Overdue)
    ∷ (nat_le 32 c.session, refused.Session)
    ∷ ((at st c.session).is_open, refused.Taken)
    ∷ (draining st c.session c.time, refused.Draining)
    ∷ (bad_interval c.interval, refused.Interval)
    ∷ (bad_places st c.places, refused.Places)
    ∷ (unbooked st c.session (frame / c.interval) (potential st.wire c.time), refused.Share)
    ∷ []
checks choices st (Close c) =
    (bad_clock st c.time, refused.Clock)
    ∷ (overdue st.wire c.time, refused.Overdue)
    ∷ (nat_le 32 c.session, refused.Session)
    ∷ (not (at st c.session).is_open, refused.Closed)
    ∷ (busy st c.session, refused.Busy)
    ∷ []
checks choices st (Change c) =
    (bad_clock st c.time, refused.Clock)
    ∷ (overdue st.wire c.time, refused.Overdue)
    ∷ (nat_le 32 c.session, refused.Session)
    ∷ (not (at st c.session).is_open, refused.Closed)
    ∷ (bad_interval c.interval, refused.Interval)
    ∷ (any (λ p. nat_lt frame (advance p.bytes c.interval)) (at st c.session).waiting, refused.Length)
    ∷ (raised_unbooked st c.session (frame / c.interval) (position (potential st.wire c.time) (at st c.session)), refused.Share)
    ∷ []
checks choices st (Pick c) =
    (bad_clock st c.time, refused.Clock)
    ∷ (overdue st.wire c.time, refused.Overdue)
    ∷ (nat_le choices c.number, refused.Rule)
    ∷ []
checks choices st (Arrive c) =
    (bad_clock st c.time, refused.Clock)
    ∷ (overdue st.wire c.time, refused.Overdue)
    ∷ (nat_le 32 c.session, refused.Session)
    ∷ (not (at st c.session).is_open, refused.Closed)
    ∷ (bad_length st.longest c.bytes (at st c.session).interval, refused.Length)
    ∷ (full (at st c.session), refused.Full)
    ∷ []
checks choices st Depart = (resting st.wire, refused.Idle) ∷ []

-- Why a call is refused, if it is.
abbrev pub refusal : ℕ → State → Call → Option Refusal
refusal choices st c = first_of (checks choices st c)

-- The number of a refusal.
abbrev pub number : Refusal → ℕ
number refused.Clock = 1
number refused.Overdue = 2
number refused.Session = 3
number refused.Taken = 4
number refused.Draining = 5
number refused.Closed = 6
number refused.Interval = 7
number refused.Length = 8
number refused.Places = 9
number refused.Share = 10
number refused.Full = 11
number refused.Busy = 12
number refused.Idle = 13
number refused.Rule = 14
number refused.Longest = 15
number refused.List = 16

-- Its word.
abbrev pub word : Refusal → List ℕ
word refused.Clock = codes "clock"
word refused.Overdue = codes "overdue"
word refused.Session = codes "session"
word refused.Taken = codes "taken"
word refused.Draining = codes "draining"
word refused.Closed = codes "closed"
word refused.Interval = codes "interval"
word refused.Length = codes "length"
word refused.Places = codes "places"
word refused.Share = codes "share"
word refused.Full = codes "full"
word refused.Busy = codes "busy"
word refused.Idle = codes "idle"
word refused.Rule = codes "rule"
word refused.Longest = codes "longest"
word refused.List = codes "list"

-- Opened: nothing is left of what it was before, but for the held share and its mark.
abbrev pub opened : ℕ → ℕ → Session → Session
opened interval places s =
    record { is_open = true; interval = interval; places = places; last_finish = 0; last_due = 0; held = s.held; mark = s.mark; start = 0; due_start = 0; waiting = [] }

-- What is held for a session whose share is lowered at the potential P.
abbrev pub hold : ℕ → Session → ℕ
hold P s = max (share s) (cond (nat_lt P s.mark) s.held 0)

-- Closed at the potential P: lowered to no share.
abbrev pub closed : ℕ → Session → Session
closed P s =
    record { is_open = false; interval = s.interval; places = s.places; last_finish = s.last_finish; last_due = s.last_due; held = hold P s; mark = position P s; start = s.start; due_start = s.due_start; waiting = s.waiting }

-- Changed at the potential P and the time t: only a lowering holds the old share, and the head is stamped anew.
abbrev pub changed : ℕ → ℕ → ℕ → Session → Session
changed P t interval s =
    let lower = nat_lt (frame / interval) (share s) in
    record { is_open = s.is_open; interval = interval; places = s.places; last_finish = s.last_finish; last_due = s.last_due; held = cond lower (hold P s) s.held; mark = cond lower (position P s) s.mark; start = position P s; due_start = max s.due_start t; waiting = s.waiting }

-- These packets wait after a last finish and a last due: the first, if there is one, becomes head.
abbrev pub headed : Session → ℕ → ℕ → List Packet → Session
headed s f d [] =
    record { is_open = s.is_open; interval = s.interval; places = s.places; last_finish = f; last_due = d; held = s.held; mark = s.mark; start = s.start; due_start = s.due_start; waiting = [] }
headed s f d (p ∷ ps) =
    record { is_open = s.is_open; interval = s.interval; places = s.places; last_finish = f; last_due = d; held = s.held; mark = s.mark; start = max f p.entry; due_start = max d p.arrival; waiting = p ∷ ps }

-- One packet more behind those that wait.
abbrev pub joined : Session → List Packet → Packet → Session
joined s [] p = headed s s.last_finish s.last_due (p ∷ [])
joined s (q ∷ qs) p =
    record { is_open = s.is_open; interval = s.interval; places = s.places; last_finish = s.last_finish; last_due = s.last_due; held = s.held; mark = s.mark; start = s.start; due_start = s.due_start; waiting = q ∷ (qs ++ (p ∷ [])) }

-- Its head went on the wire.
abbrev pub sent : Session → Session
sent s = headed s (finish s) (due s) (behind s.waiting)

-- The line came to rest.
abbrev pub rested : Session → Session
rested s =
    record { is_open = s.is_open; interval = s.interval; places = s.places; last_finish = 0; last_due = s.last_due; held = 0; mark = 0; start = s.start; due_start = s.due_start; waiting = s.waiting }

-- The line at a later time.
abbrev pub later : State → ℕ → State
later st t = record { longest = st.longest; time = t; wire = st.wire; sessions = st.sessions }

-- One session's record changes, the others stay.
abbrev pub with_session : State → ℕ → Session → State
with_session st i s = record { longest = st.longest; time = st.time; wire = st.wire; sessions = slice_set st.sessions i s }

-- The head of a session goes on the wire, with this potential noted.
abbrev pub sends : State → ℕ → ℕ → State
sends st i noted =
    let s = at st i in
    record { longest = st.longest; time = st.time; wire = sending (record { session = i; packet = first s.waiting; due = due s; noted = noted; begun = st.time }); sessions = slice_set st.sessions i (sent s) }

-- A packet arrives and waits: it keeps its arrival time and the present potential.
abbrev pub queued : State → ℕ → ℕ → State
queued st i bytes = with_session st i (joined (at st i) (at st i).waiting (record { bytes = bytes; arrival = st.time; entry = potential st.wire st.time }))

-- At rest it goes on the wire in the same call.
abbrev pub arrived : Wire → State → ℕ → ℕ → State
arrived idle st i bytes = sends (with_session st i (joined (at st i) (at st i).waiting (record { bytes = bytes; arrival = st.time; entry = 0 }))) i 0
arrived (sending w) st i bytes = with_session st i (joined (at st i) (at st i).waiting (record { bytes = bytes; arrival = st.time; entry = potential (sending w) st.time }))

-- Nothing waits: last finishes, held shares and marks become 0.
abbrev pub at_rest : State → State
at_rest st = record { longest = st.longest; time = st.time; wire = idle; sessions = map rested st.sessions }

-- A stamp as the key of a head, none where no packet waits.
abbrev pub if_waits : ℕ → Session → Option Key
if_waits stamp s = cond (waits s) (Some (record { stamp = stamp })) None

-- The heads' finishes and starts, session by session.
abbrev pub finish_key : Session → Option Key
finish_key s = if_waits (finish s) s

abbrev pub start_key : Session → Option Key
start_key s = if_waits s.start s

abbrev pub finish_keys : List Session → Keys
finish_keys ss = map finish_key ss

abbrev pub start_keys : List Session → Keys
start_keys ss = map start_key ss

-- The heads' least finish, and its session.
abbrev pub least_finish : State → Option Entry
least_finish st = least (finish_keys st.sessions)

-- The heads' least start, and its session.
abbrev pub least_start : State → Option Entry
least_start st = least (start_keys st.sessions)

-- The wire is free, and the potential has come to sum: the least finish goes next, after the rule's base may have lifted the potential.
abbrev pub freed : (ℕ → ℕ → ℕ) → State → ℕ → Option Entry → Option Entry → State
freed base st sum None s = at_rest st
freed base st sum (Some f) None = at_rest st
freed base st sum (Some f) (Some s) = sends st f.session (max sum (base s.key.stamp f.key.stamp))

-- The packet on the wire ends, and its ticks are added to the noted potential.
abbrev pub departed : (ℕ → ℕ → ℕ) → State → Sending → State
departed base st w =
    let now = later st (end w) in
    freed base now (w.noted + wire_ticks w.packet.bytes) (least_finish now) (least_start now)

-- What is told of it.
abbrev pub departure : Sending → ℕ → Departure
departure w waiting =
    record { session = w.session; bytes = w.packet.bytes; arrived = w.packet.arrival; at = end w; due = w.due; spare = pos w.due -ℤ pos (end w); waiting = waiting }

-- The line after a call, and the answer.
pub record Outcome : Type 0 where
  pub state : State
  pub answer : Answer

-- A call that is answered by its being done.
abbrev pub done : State → Outcome
done st = record { state = st; answer = Done }

-- Depart, by what the wire does.
abbrev pub depart : (ℕ → ℕ → ℕ) → State → Wire → Outcome
depart base st idle = done st
depart base st (sending w) =
    let after = departed base st w in
    record { state = after; answer = Left (departure w (count_by waits after.sessions)) }

-- What an accepted call does, at its own time; only depart asks the rule for a base.
abbrev pub commit : (ℕ → ℕ → ℕ) → State → Call → Outcome
commit base st (Open c) = let now = later st c.time in done (with_session now c.session (opened c.interval c.places (at st c.session)))
commit base st (Close c) = let now = later st c.time in done (with_session now c.session (closed (potential st.wire c.time) (at st c.session)))
commit base st (Change c) = let now = later st c.time in done (with_session now c.session (changed (potential st.wire c.time) c.time c.interval (at st c.session)))
commit base st (Pick c) = done (later st c.time)
commit base st (Arrive c) = done (arrived st.wire (later st c.time) c.session c.bytes)
commit base st Depart = depart base st st.wire

-- A refused call leaves the line as it stood.
abbrev pub answered : (ℕ → ℕ → ℕ) → State → Call → Option Refusal → Outcome
answered base st c (Some r) = record { state = st; answer = Refused r }
answered base st c None = commit base st c

-- One call.
abbrev pub step : ℕ → (ℕ → ℕ → ℕ) → State → Call → Outcome
step choices base st c = answered base st c (refusal choices st c)

-- What taken picks can make of a rule.
pub data Reachable {X : Type 0} (R : Acts X) (x : X) : X → Type 0 where
  unpicked : Reachable R x x
  picked : {y : X} (n : ℕ) → Reachable R x y → n < R.choices y → Reachable R x (R.after y n)

-- The rule's law: the base is never above the least start, and no pick alters that.
abbrev pub Lawful : {X : Type 0} → Acts X → X → Type 0
Lawful {X} R x = (y : X) → Reachable R x y → (s f : ℕ) → s < f → f ≤ s + frame → R.means y s f ≤ s

-- A call and its answer.
pub record Event : Type 0 where
  pub call : Call
  pub answer : Answer

-- A run: the rule and the line as they stand, and all events until now, the last one first.
pub record Run (X : Type 0) : Type 0 where
  pub rule : X
  pub state : State
  pub history : List Event

-- Only an accepted pick alters the rule.
abbrev pub rule_after : {X : Type 0} → Acts X → X → Call → Option Refusal → X
rule_after R x (Open c) o = x
rule_after R x (Close c) o = x
rule_after R x (Change c) o = x
rule_after R x (Pick c) (Some r) = x
rule_after R x (Pick c) None = R.after x c.number
rule_after R x (Arrive c) o = x
rule_after R x Depart o = x

-- One call in a run.
abbrev pub outcome : {X : Type 0} → Acts X → Run X → Call → Outcome
outcome R r c = step (R.choices r.rule) (R.means r.rule) r.state c

-- The run after it.
abbrev pub next : {X : Type 0} → Acts X → Run X → Call → Run X
next R r c =
    record {
      rule = rule_after R r.rule c (refusal (R.choices r.rule) r.state c);
      state = (outcome R r c).state;
      history = record { call = c; answer = (outcome R r c).answer } ∷ r.history;
    }

-- Why a line is not made, if so: its longest packet is 0 or above 9216 bytes.
abbrev pub make_refusal : ℕ → Option Refusal
make_refusal longest = first_of ((longest == 0 || nat_lt 9216 longest, refused.Longest) ∷ [])

-- A line as it is made: all sessions closed, nothing waits or is sent.
abbrev pub made : Setup → State
made setup = record { longest = setup.longest; time = 0; wire = idle; sessions = replicate 32 blank }

-- A run with no call yet.
abbrev pub new : {X : Type 0} → X → Setup → Run X
new x setup = record { rule = x; state = made setup; history = [] }

-- Some calls more.
abbrev pub calls_on : {X : Type 0} → Acts X → Run X → List Call → Run X
calls_on R r [] = r
calls_on R r (c ∷ cs) = calls_on R (next R r c) cs

-- A list of calls from the making of the line on.
abbrev pub replay : {X : Type 0} → Acts X → X → Setup → List Call → Run X
replay R x setup calls = calls_on R (new x setup) calls
