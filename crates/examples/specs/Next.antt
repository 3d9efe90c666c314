-- Which packet goes on the wire when one has left, and which potential is noted for it.
use Rattle.std.specs.Prelude.{◌≡◌, ℕ, ◌+◌, ◌<◌, ◌≤◌, true, false, ◌⊎◌, List}
use Rattle.model.specs.declared.calls.Call.{Call}
use Rattle.model.specs.declared.calls.Call.TheVariants.{Depart}
use Rattle.model.specs.Model.{wire_ticks, Setup, Sending, Wire, State, Acts, Lawful, at, waits, first, finish, due, end, outcome, replay}
use Rattle.model.specs.Model.Wire.{idle, sending}

-- The noted potential and the ticks of the packet.
abbrev pub sum : Sending → ℕ
sum w = w.noted + wire_ticks w.packet.bytes

-- The potential is not above the start of any head that waits.
abbrev pub BelowStarts : State → ℕ → Type 0
BelowStarts st P = (i : ℕ) → i < 32 → waits (at st i) ≡ true → P ≤ (at st i).start

-- The packet n goes on the wire of the line st when w leaves it.
pub record GoesNext (st : State) (w n : Sending) : Type 0 where
  -- it is the head of a session that waits
  pub session : n.session < 32
  pub waited : waits (at st n.session) ≡ true
  pub packet : n.packet ≡ first (at st n.session).waiting
  pub due : n.due ≡ due (at st n.session)
  pub begun : n.begun ≡ end w
  -- no head has a lesser finish, and none of a lower session an equal one
  pub least : (i : ℕ) → i < 32 → waits (at st i) ≡ true → finish (at st n.session) ≤ finish (at st i)
  pub lowest : (i : ℕ) → i < n.session → waits (at st i) ≡ true → finish (at st n.session) < finish (at st i)
  -- the potential is the sum, or the rule lifted it above the sum, but above no head's start
  pub noted : (n.noted ≡ sum w) ⊎ ((sum w < n.noted) × BelowStarts st n.noted)

-- The wire after w left: it is idle only if nobody waits.
abbrev pub Follows : State → Sending → Wire → Type 0
Follows st w idle = (i : ℕ) → i < 32 → waits (at st i) ≡ false
Follows st w (sending n) = GoesNext st w n

-- At every departure, after every list of calls, under every rule that keeps the law.
abbrev pub NextPacketLaw : Type 0 → Type 0
NextPacketLaw X =
    (R : Acts X) (x : X) (setup : Setup) (calls : List Call) (w : Sending) → Lawful R x → (replay R x setup calls).state.wire ≡ sending w
    → Follows (replay R x setup calls).state w (outcome R (replay R x setup calls) Depart).state.wire
