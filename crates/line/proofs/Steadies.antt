-- What a line that can go on gives to the sums and differences of the code.
use Rattle.std.proofs.Common.{◌≡◌, ℕ, zero, suc, ◌*◌, ◌%◌, ◌<◌, ◌≤◌, true, false, cond, not, eqb, List, [], ◌∷◌, length, get_or, None, sym, ap, subst, inl, inr, mod-eq_of_lt, suc-mul, zero-mul, arith}
use Rattle.std.specs.List.{AllByRecursion}
use Rattle.std.proofs.ByRecursion.{All-weaker}
use Rattle.std.proofs.lemmas.Bool.{cases_lt, eqb-true, leb-false, not-false, or_parts}
use Rattle.std.proofs.lemmas.List.{get_or_default}
use Rattle.std.proofs.lemmas.List.Sums.{get_or-le-sum_by}
use Rattle.model.specs.declared.calls.Arrival.{Arrival}
use Rattle.model.specs.declared.calls.Packet.{Packet}
use Rattle.model.specs.declared.calls.Call.{Call}
use Rattle.model.specs.declared.calls.Call.TheVariants.{Arrive}
use Rattle.model.proofs.Lists.{clear}
use Rattle.model.proofs.Ranges.{goes_on}
use Rattle.model.specs.Model.{frame, Session, Sending, Wire, State, wire_ticks, at, share, bad_interval, advance, blank, checks, first, full, open_places, refusal, step}
use Rattle.model.specs.Model.Wire.{sending}
use Rattle.model.specs.Invariants.{Steady, Fit, Wired}
use Rattle.line.specs.Needed.{Bounded, Light}

-- an interval that divides the frame is no greater
factor : (a b : ℕ) → a * b ≡ frame → b ≤ frame
factor zero b e = absurd (omega (arith, zero-mul b))
factor (suc a) b e = omega (arith, suc-mul a b)

pub divisor_low : (n : ℕ) → bad_interval n ≡ false → n ≤ frame
divisor_low n e =
    let parts = or_parts (eqb n 0) (not (eqb (frame % n) 0)) e in
    elim (cases_lt frame n) [
      | inl above ↦ absurd (omega (arith, mod-eq_of_lt above, eqb-true (frame % n) 0 (not-false (eqb (frame % n) 0) parts.1)))
      | inr le ↦ le
    ]

-- the head fits its share, and none fits too
nothing_ahead : (interval : ℕ) → advance 0 interval ≤ frame
unfolding advance
nothing_ahead interval = omega (arith, zero-mul interval)

head_low : (L t P interval : ℕ) (ps : List Packet) → AllByRecursion (Fit L t P interval) ps → advance (first ps).bytes interval ≤ frame
head_low L t P interval [] all = nothing_ahead interval
head_low L t P interval (p ∷ ps) all = all.0.fits

-- every session of a line
bounded : (st : State) → Steady st → (i : ℕ) → i < 32 → Bounded (at st i)
bounded st s i lt =
    let here : i < length st.sessions = omega (arith, s.kept.2.base.many) in
    let small = (goes_on.in_range st s).sessions i lt in
    let good = s.kept.2.base.good i here in
    record {
      low = record { start = small.start; due_start = small.due_start; head = head_low st.longest st.time s.kept.0 (at st i).interval (at st i).waiting good.fit };
      short = All-weaker (Fit st.longest st.time s.kept.0 (at st i).interval) (λ p. p.bytes ≤ 9216) (λ p fit. omega (arith, fit.short, s.proper.1)) (at st i).waiting good.fit;
      divisor = λ is. factor (share (at st i)) (at st i).interval (good.divides is).1;
    }

pub bounded_at : (st : State) → Steady st → (i : ℕ) (d : Session) → i < 32 → Bounded (get_or st.sessions i d)
bounded_at st s i d lt = subst Bounded (get_or_default st.sessions i blank d (omega (arith, s.kept.2.base.many))) (bounded st s i lt)

-- a session that takes a packet has memory for it
place_free : (s : Session) → s.is_open ≡ true → full s ≡ false → open_places s ≤ 256 → length s.waiting < 256
place_free s is_open room few = omega (arith, leb-false s.places (length s.waiting) room, ap (λ b. cond b s.places 0) is_open)

pub room_left : (st : State) → Steady st → (c : Arrival) → refusal 0 st (Arrive c) ≡ None → length (at st c.session).waiting < 256
room_left st s c none =
    let ok = clear (checks 0 st (Arrive c)) none in
    let lt : c.session < length st.sessions = omega (arith, leb-false 32 c.session ok.1.1.0, s.kept.2.base.many) in
    place_free (at st c.session) (not-false (at st c.session).is_open ok.1.1.1.0) ok.1.1.1.1.1.0
    (omega (arith, get_or-le-sum_by open_places st.sessions c.session blank lt, s.bounds.parts.places))

-- the packet on the wire
bytes_ticks : (bytes n : ℕ) → wire_ticks bytes ≤ n → bytes ≤ n
unfolding wire_ticks
bytes_ticks bytes n le = le

sent_short : (L t : ℕ) (v : Wire) (w : Sending) (ss : List Session) (P E : ℕ) → v ≡ sending w → L ≤ 9216 → Wired L t v ss P E → w.packet.bytes ≤ 9216
sent_short L t v w ss P E e le wired = bytes_ticks w.packet.bytes 9216 (omega (arith, (subst (λ x. Wired L t x ss P E) e wired).short))

pub light : (st : State) → Steady st → (w : Sending) → st.wire ≡ sending w → Light w
light st s w e =
    let small = (goes_on.in_range st s).wire w e in
    record { free = omega (arith, small.end); due = small.due; sum = small.potential; short = sent_short st.longest st.time st.wire w st.sessions s.kept.0 s.kept.1 e s.proper.1 s.kept.2.wired }

-- Every call but depart leaves a line that can go on, whatever the rule.
pub kept : (choices : ℕ) (st now : State) (c : Call) → st ≡ now → Steady st → (new : State) → new ≡ (step choices (λ s f. 0) now c).state → Steady new
kept choices st now c same s new e = subst Steady (sym e) (goes_on.at_each choices (λ s f. 0) (λ s f lt near. omega arith) now c (subst Steady same s))
