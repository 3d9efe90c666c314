-- The line's own records agree with the history of calls and answers. Assumes nothing.
use Rattle.std.specs.Prelude.{◌≡◌, ℕ, ◌+◌, max, true, false, cond, List, [], ◌∷◌, ◌++◌, map, ◌==◌}
use Rattle.model.specs.declared.calls.Packet.{Packet}
use Rattle.model.specs.declared.calls.Call.{Call}
use Rattle.model.specs.Model.{advance, Setup, Wire, State, Acts, Lawful, at, waits, first, replay}
use Rattle.model.specs.Model.Wire.{idle, sending}
use Rattle.model.specs.Promises.{Past, past, Proper}
use Rattle.model.specs.declared.calls.Parcel.{Parcel}

-- A packet as its planner knows it.
abbrev pub parcel : Packet → Parcel
parcel p = record { bytes = p.bytes; arrival = p.arrival }

abbrev pub parcels : List Packet → List Parcel
parcels ps = map parcel ps

-- The session's packet on the wire, if it is there.
abbrev pub carried : ℕ → Wire → List Parcel
carried i idle = []
carried i (sending w) = cond (w.session == i) (parcel w.packet ∷ []) []

-- The last due time after some packets at an interval: each has the greater of the one before and its arrival, and its advance.
abbrev pub due_after : ℕ → ℕ → List Parcel → ℕ
due_after interval d [] = d
due_after interval d (x ∷ xs) = due_after interval (max d x.arrival + advance x.bytes interval) xs

-- What was accepted since the opening has departed, is on the wire, or waits, in this order; and as long as no change was accepted,
-- the arrivals alone give the last due time and the head's.
pub record Agrees (i : ℕ) (st : State) (p : Past) : Type 0 where
  pub is_open : p.is_open ≡ (at st i).is_open
  pub order : p.accepted ≡ p.departed ++ (carried i st.wire ++ parcels (at st i).waiting)
  pub last_due : p.is_open ≡ true → p.is_changed ≡ false → (at st i).last_due ≡ due_after p.interval 0 (p.departed ++ carried i st.wire)
  pub head_due : p.is_open ≡ true → p.is_changed ≡ false → waits (at st i) ≡ true → (at st i).due_start ≡ max (at st i).last_due (first (at st i).waiting).arrival

abbrev pub History : Type 0 → Type 0
History X =
    (R : Acts X) (x : X) (setup : Setup) (calls : List Call) → Lawful R x → Proper setup
    → (i : ℕ) → Agrees i (replay R x setup calls).state (past i (replay R x setup calls).history)
