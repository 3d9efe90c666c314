-- Every call moves each session as its history says. Assumes nothing.
use Rattle.std.proofs.Common.{◌≡◌, ℕ, ◌+◌, ◌<◌, Bool, true, false, cond, not, eqb, ltb, leb, List, [], ◌∷◌, ◌++◌, length, get_or, set, replicate, Some, None, Option, sym, refl, ap, ◌∙◌, subst, inl, inr, arith}
use lib.ListN.{get_or-map}
use Rattle.std.proofs.lemmas.List.{length-set, length-append, length-map, get_or-set_same, get_or-set_other, get_or_past, get_or-replicate, length-replicate}
use Rattle.std.proofs.lemmas.Bool.{false≢true, or_parts, not-false, ltb-false, leb-false, eqb-true, eqb-false, cases_lt}
use Rattle.std.proofs.lemmas.Bool.Decides.{nat_tests}
use Rattle.model.specs.declared.calls.Packet.{Packet}
use Rattle.model.specs.declared.calls.Refusal.{Refusal}
use Rattle.model.specs.declared.calls.Call.{Call}
use Rattle.model.specs.declared.calls.Call.TheVariants.{Open, Close, Change, Pick, Arrive, Depart}
use Rattle.ready.specs.declared.entry.Entry.{Entry}
use Rattle.model.specs.Model.{wire_ticks, Session, blank, Wire, State, Setup, Acts, Lawful, Run, waits, finish, at, end, potential, on_wire, bad_clock, bad_length, opened, closed, changed, joined, sent, rested, later, sends, arrived, at_rest, least_finish, least_start, freed, depart, answered, checks, refusal, first_of, next, new, replay}
use Rattle.model.specs.Model.Wire.{idle, sending}
use Rattle.model.specs.Promises.{Past, unopened, opens, closes, changes, accepts, leaves, follow, past, NoPlaceLost}
use Rattle.model.specs.History.{parcel, parcels, carried, History}
use Rattle.model.proofs.Lists.{Every, clear}
use Rattle.model.specs.Invariants.{Kept}
use Rattle.model.proofs.Steps.{chosen}
use Rattle.model.proofs.Tracks.{Track, track_later, track_opened, track_closed, track_changed, track_joined, track_freed, track_rested, track_sent, track_other, moves}
use Rattle.model.proofs.Runs.{along, Held, held_next, held}

-- each session is as its history tells
abbrev pub Told : State → (ℕ → Past) → Type 0
Told st P = (i : ℕ) → Track i st.time st.wire (at st i) (P i)

-- a head goes on the wire
told_sends : (st : State) (j noted : ℕ) (P : ℕ → Past) → j < length st.sessions → waits (at st j) ≡ true → (at st j).is_open ≡ true
    → ((i : ℕ) → Track i st.time idle (at st i) (P i)) → Told (sends st j noted) P
told_sends st j noted P lt w up all i = go (eqb j i) refl
  where
    go : (c : Bool) → eqb j i ≡ c → Track i st.time (sends st j noted).wire (at (sends st j noted) i) (P i)
    go true e = subst (λ n. Track n st.time (sends st j noted).wire (get_or (set st.sessions j (sent (at st j))) n blank) (P n)) (eqb-true j i e)
        (rw (get_or-set_same st.sessions j (sent (at st j)) blank lt) (track_sent j st.time noted (at st j) (P j) w up (all j)))
    go false e = rw (get_or-set_other st.sessions j i (sent (at st j)) blank (λ same. eqb-false j i e (sym same))) (track_other i st.time _ (at st i) (P i) e (all i))

told_rest : (st : State) (P : ℕ → Past) → ((i : ℕ) → Track i st.time idle (at st i) (P i)) → Told (at_rest st) P
told_rest st P all i = subst (λ s. Track i st.time idle s (P i)) (sym (get_or-map rested st.sessions i blank)) (track_rested i st.time (at st i) (P i) (all i))

-- an arrival
joined_open : (s : Session) (ps : List Packet) (x : Packet) → (joined s ps x).is_open ≡ s.is_open
joined_open s [] x = refl
joined_open s (q ∷ qs) x = refl

joined_waits : (s : Session) (ps : List Packet) (x : Packet) → waits (joined s ps x) ≡ true
joined_waits s [] x = refl
joined_waits s (q ∷ qs) x = refl

told_arrived : (L t : ℕ) (w : Wire) (ss : List Session) (j bytes : ℕ) (P : ℕ → Past) → j < length ss → (get_or ss j blank).is_open ≡ true
    → Told (record { longest = L; time = t; wire = w; sessions = ss }) P
    → Told (arrived w (record { longest = L; time = t; wire = w; sessions = ss }) j bytes) (λ i. cond (eqb j i) (accepts (record { bytes = bytes; arrival = t }) (P i)) (P i))
told_arrived L t idle ss j bytes P lt up all =
    let s = get_or ss j blank in
    let x : Packet = record { bytes = bytes; arrival = t; entry = 0 } in
    let b = joined s s.waiting x in
    let F : Past → Past = accepts (record { bytes = bytes; arrival = t }) in
    let here : get_or (set ss j b) j blank ≡ b = get_or-set_same ss j b blank lt in
    told_sends (record { longest = L; time = t; wire = idle; sessions = set ss j b }) j 0 (λ i. cond (eqb j i) (F (P i)) (P i)) (omega (arith, length-set ss j b))
    (ap waits here ∙ joined_waits s s.waiting x) (ap (λ z. z.is_open) here ∙ joined_open s s.waiting x ∙ up)
    (moves t idle ss j b P F lt all (track_joined j t idle s (P j) s.waiting x refl refl (all j)))
told_arrived L t (sending w) ss j bytes P lt up all =
    let s = get_or ss j blank in
    let x : Packet = record { bytes = bytes; arrival = t; entry = potential (sending w) t } in
    moves t (sending w) ss j (joined s s.waiting x) P (accepts (record { bytes = bytes; arrival = t })) lt all (track_joined j t (sending w) s (P j) s.waiting x refl refl (all j))

-- a departure
told_freed : (base : ℕ → ℕ → ℕ) (st : State) (sum : ℕ) (P : ℕ → Past) (f s : Option Entry) → least_finish st ≡ f
    → ((i : ℕ) → i < length st.sessions → waits (at st i) ≡ true → (at st i).is_open ≡ true)
    → ((i : ℕ) → Track i st.time idle (at st i) (P i)) → Told (freed base st sum f s) P
told_freed base st sum P None s e up all = told_rest st P all
told_freed base st sum P (Some f) None e up all = told_rest st P all
told_freed base st sum P (Some f) (Some s) e up all =
    let F = chosen st.sessions finish f e in
    told_sends st f.session _ P F.inside F.waiting (up f.session F.inside F.waiting) all

told_departed : (base : ℕ → ℕ → ℕ) (L t : ℕ) (w : Wire) (ss : List Session) (P : ℕ → Past) → Kept (record { longest = L; time = t; wire = w; sessions = ss })
    → Told (record { longest = L; time = t; wire = w; sessions = ss }) P
    → Told (depart base (record { longest = L; time = t; wire = w; sessions = ss }) w).state (λ i. follow i Depart (depart base (record { longest = L; time = t; wire = w; sessions = ss }) w).answer (P i))
told_departed base L t idle ss P kept all = all
told_departed base L t (sending w) ss P kept all =
    let st : State = record { longest = L; time = end w; wire = sending w; sessions = ss } in
    told_freed base st (w.noted + wire_ticks w.packet.bytes) (λ i. cond (eqb w.session i) (leaves (parcel w.packet) (P i)) (P i)) (least_finish st) (least_start st) refl
    (λ i lt. (kept.2.base.good i lt).served)
    (λ i. track_freed i (end w) w (get_or ss i blank) (P i) (track_later i t (end w) (sending w) (get_or ss i blank) (P i) kept.2.wired.until (all i)))

module _ (choices : ℕ) (base : ℕ → ℕ → ℕ) (st : State) (P : ℕ → Past) (kept : Kept st) (all : Told st P) where
  at_time : (t : ℕ) → bad_clock st t ≡ false → Told (later st t) P
  at_time t ok i = track_later i st.time t st.wire (at st i) (P i) (ltb-false t st.time (or_parts (ltb t st.time) _ ok).0) (all i)

  in_list : (i : ℕ) → leb 32 i ≡ false → i < length st.sessions
  in_list i ok = omega (arith, leb-false 32 i ok, kept.2.base.many)

  pub told_answered : (c : Call) (o : Option Refusal) → refusal choices st c ≡ o → Told (answered base st c o).state (λ i. follow i c (answered base st c o).answer (P i))
  told_answered c (Some r) e = all
  told_answered (Open c) None e =
      let ok = clear (checks choices st (Open c)) e in
      let j = c.session in
      let now = at_time c.time ok.0 in
      moves c.time st.wire st.sessions j (opened c.interval c.places (at st j)) P (opens c) (in_list j ok.1.1.0) now
      (track_opened j c.time st.wire (at st j) (P j) c ok.1.1.1.0 (now j))
  told_answered (Close c) None e =
      let ok = clear (checks choices st (Close c)) e in
      let j = c.session in
      let now = at_time c.time ok.0 in
      let free = or_parts (waits (at st j)) _ ok.1.1.1.1.0 in
      moves c.time st.wire st.sessions j (closed (potential st.wire c.time) (at st j)) P closes (in_list j ok.1.1.0) now
      (track_closed j c.time (potential st.wire c.time) st.wire (at st j) (P j) free.0 free.1 (now j))
  told_answered (Change c) None e =
      let ok = clear (checks choices st (Change c)) e in
      let j = c.session in
      let now = at_time c.time ok.0 in
      moves c.time st.wire st.sessions j (changed (potential st.wire c.time) c.time c.interval (at st j)) P changes (in_list j ok.1.1.0) now
      (track_changed j c.time (potential st.wire c.time) c.time c.interval st.wire (at st j) (P j) (now j))
  told_answered (Pick c) None e = at_time c.time (clear (checks choices st (Pick c)) e).0
  told_answered (Arrive c) None e =
      let ok = clear (checks choices st (Arrive c)) e in
      told_arrived st.longest c.time st.wire st.sessions c.session c.bytes P (in_list c.session ok.1.1.0) (not-false _ ok.1.1.1.0) (at_time c.time ok.0)
  told_answered Depart None e = told_departed base st.longest st.time st.wire st.sessions P kept all

-- what every call keeps, of the history too
pub record Known {X : Type 0} (R : Acts X) (x : X) (longest : ℕ) (r : Run X) : Type 0 where
  pub holds : Held R x longest r
  pub told : Told r.state (λ i. past i r.history)

pub known_next : {X : Type 0} (R : Acts X) (x : X) (longest : ℕ) → Lawful R x → (r : Run X) (c : Call) → Known R x longest r → Known R x longest (next R r c)
known_next R x longest law r c k =
    record {
      holds = held_next R x longest law r c k.holds;
      told = told_answered (R.choices r.rule) (R.means r.rule) r.state (λ i. past i r.history) k.holds.kept k.told c (refusal (R.choices r.rule) r.state c) refl;
    }

blank_track : (i : ℕ) → Track i 0 idle blank unopened
blank_track i =
    record {
      up = refl;
      used = λ u. absurd (false≢true u);
      places = λ o. absurd (false≢true o);
      interval = λ o u. absurd (false≢true o);
      order = refl;
      early = tt;
      ordered = tt;
      last = λ o u. absurd (false≢true o);
      head = λ o u w. absurd (false≢true o);
      wire_due = tt;
    }

blank_at : (i : ℕ) → get_or (replicate 32 blank) i blank ≡ blank
blank_at i =
    elim (cases_lt i 32) [
      | inl lt ↦ get_or-replicate 32 i blank blank lt
      | inr ge ↦ get_or_past (replicate 32 blank) i blank (omega (arith, length-replicate 32 blank))
    ]

pub known : {X : Type 0} (R : Acts X) (x : X) (setup : Setup) (calls : List Call) → Lawful R x → Known R x setup.longest (replay R x setup calls)
known R x setup calls law =
    along R (Known R x setup.longest) (known_next R x setup.longest law) (new x setup) calls
    (record { holds = held R x setup [] law; told = λ i. subst (λ s. Track i 0 idle s unopened) (sym (blank_at i)) (blank_track i) })

-- no place is lost
all_clear : (cs : List (Bool × Refusal)) → Every (λ check. check.0 ≡ false) cs → first_of cs ≡ None
all_clear [] h = refl
all_clear (c ∷ cs) h = ap (λ b. cond b (Some c.1) (first_of cs)) h.0 ∙ all_clear cs h.1

carried_length : (i : ℕ) (w : Wire) → length (carried i w) ≡ cond (on_wire w i) 1 0
carried_length i idle = refl
carried_length i (sending w) = go (eqb w.session i)
  where
    go : (b : Bool) → length (cond b (parcel w.packet ∷ []) []) ≡ cond b 1 0
    go true = refl
    go false = refl

pub no_place_lost : (X : Type 0) → NoPlaceLost X
no_place_lost X R x setup calls a law proper f =
    let r = replay R x setup calls in
    let st = r.state in
    let i = a.session in
    let p = past i r.history in
    let k = known R x setup calls law in
    let t = k.told i in
    let s = at st i in
    let up : s.is_open ≡ true = sym t.up ∙ f.is_open in
    let here : leb 32 i ≡ false =
    elim (cases_lt i 32) [
      | inl lt ↦ grind (arith, nat_tests)
      | inr ge ↦ absurd (false≢true (sym (ap (λ z. z.is_open) (get_or_past st.sessions i blank (omega (arith, k.holds.kept.2.base.many)))) ∙ up))
    ] in
    let many : length p.accepted ≡ length p.departed + (length (carried i st.wire) + length s.waiting) =
    ap length t.order ∙ length-append p.departed (carried i st.wire ++ parcels s.waiting) ∙ ap (λ n. length p.departed + n) (length-append (carried i st.wire) (parcels s.waiting) ∙ ap (λ n. length (carried i st.wire) + n) (length-map s.waiting parcel)) in
    let free : length s.waiting < s.places = omega (arith, many, f.place, carried_length i st.wire, t.places up) in
    let none : leb s.places (length s.waiting) ≡ false = grind (arith, nat_tests) in
    let fine = all_clear (checks (R.choices r.rule) st (Arrive a)) (f.clock, (f.wire, (here, (ap not up, (subst (λ n. bad_length n a.bytes s.interval ≡ false) (sym k.holds.long) f.lawful, (none, tt)))))) in
    ap (λ o. (answered (R.means r.rule) st (Arrive a) o).answer) fine

pub agrees : (X : Type 0) → History X
agrees X R x setup calls law proper i =
    let t = (known R x setup calls law).told i in
    record { is_open = t.up; order = t.order; last_due = λ o. t.last (sym t.up ∙ o); head_due = λ o. t.head (sym t.up ∙ o) }
