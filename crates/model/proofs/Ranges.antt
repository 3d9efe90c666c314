-- How large the numbers of a line grow. Assumes nothing.
use Rattle.std.proofs.Common.{◌≡◌, ℕ, suc, ◌+◌, ◌*◌, ◌/◌, ◌^◌, ◌<◌, ◌≤◌, Bool, true, false, cond, eqb, ltb, leb, List, [], ◌∷◌, map, length, get_or, set, replicate, Some, None, sum_by, Option, sym, refl, ap, ◌∙◌, subst, arith}
use Rattle.std.proofs.lemmas.List.{length-set, length-append, length-map, get_or-map, get_or-set_same, get_or-replicate, length-replicate}
use Rattle.std.proofs.lemmas.List.Sums.{sum_by-cons, sum_by-set}
use Rattle.std.proofs.lemmas.Bool.{false≢true, or_parts, not-false, ltb-false, leb-false}
use Rattle.std.proofs.lemmas.Bool.Decides.{nat_tests}
use Rattle.model.specs.declared.calls.Packet.{Packet}
use Rattle.model.specs.declared.calls.Refusal.{Refusal}
use Rattle.model.specs.declared.calls.Call.{Call}
use Rattle.model.specs.declared.calls.Call.TheVariants.{Open, Close, Change, Pick, Arrive, Depart}
use Rattle.ready.specs.declared.entry.Entry.{Entry}
use Rattle.model.specs.Model.{frame, wire_ticks, advance, Session, blank, Sending, Wire, State, Setup, Acts, Reachable, Lawful, Run, share, some, waits, first, behind, finish, due, position, at, end, potential, overdue, bad_clock, all_places, opened, closed, hold, changed, headed, joined, sent, rested, later, arrived, least_finish, least_start, freed, depart, answered, step, checks, refusal, next, new, replay}
use Rattle.model.specs.Model.Wire.{idle, sending}
use Rattle.model.specs.Model.Reachable.{unpicked}
use Rattle.model.specs.Ranges.{last_time, Small, SmallWire, InRange, Ranges}
use Rattle.model.proofs.Lists.{Every, every_map, every-push, sum_by_map, at_set, clear}
use Rattle.model.specs.Invariants.{account, Good, Each, Base, Inv, Kept, Fit, Ranged, Parts, until, WireSmall, Bounds, Steady, GoesOn, Safe}
use Rattle.model.proofs.Sessions.{head_fit, ticks_some, ticks_le, good_joined}
use Rattle.model.proofs.Steps.{chosen, base_low, comes, fit_new, keeps, kept_made}
use Rattle.model.proofs.Runs.{along, reach, longest_answered}

share_le : (s : Session) → share s ≤ frame
share_le s = go s.is_open
  where
    go : (b : Bool) → cond b (frame / s.interval) 0 ≤ frame
    go true = omega arith
    go false = omega arith

level_le : (N : ℕ) (s : Session) → Ranged N s → cond (waits s) s.start s.last_finish ≤ N
level_le N s r = let a = r.start in let b = r.last_finish in grind (arith, nat_tests)

ranged_more : (N M : ℕ) (s : Session) → N ≤ M → Ranged N s → Ranged M s
ranged_more N M s le r =
    record {
      last_finish = omega (arith, r.last_finish);
      last_due = omega (arith, r.last_due);
      start = omega (arith, r.start);
      due_start = omega (arith, r.due_start);
      mark = omega (arith, r.mark);
      held = r.held;
      packets = every_map (λ p. (p.entry ≤ N) × (p.arrival ≤ N)) (λ p. (p.entry ≤ M) × (p.arrival ≤ M)) (λ p h. (omega (arith, h.0), omega (arith, h.1))) s.waiting r.packets;
    }

ranged_opened : (N interval places : ℕ) (s : Session) → Ranged N s → Ranged N (opened interval places s)
ranged_opened N interval places s r = record { last_finish = omega arith; last_due = omega arith; start = omega arith; due_start = omega arith; mark = r.mark; held = r.held; packets = tt }

hold_le : (P : ℕ) (s : Session) → s.held ≤ frame → hold P s ≤ frame
hold_le P s h = let a = share_le s in grind (arith, nat_tests)

ranged_closed : (N P : ℕ) (s : Session) → P ≤ N → Ranged N s → Ranged N (closed P s)
ranged_closed N P s le r =
    record { last_finish = r.last_finish; last_due = r.last_due; start = r.start; due_start = r.due_start; mark = omega (arith, level_le N s r); held = hold_le P s r.held; packets = r.packets }

ranged_changed : (N P t interval : ℕ) (s : Session) → P ≤ N → t ≤ N → Ranged N s → Ranged N (changed P t interval s)
ranged_changed N P t interval s le lt r =
    let l = level_le N s r in
    let m = r.mark in
    let h = r.held in
    let k = hold_le P s h in
    let here : position P s ≤ N = omega arith in
    record { last_finish = r.last_finish; last_due = r.last_due; start = here; due_start = omega (arith, r.due_start); mark = pick (ltb (frame / interval) (share s)) (position P s) s.mark N here m; held = pick (ltb (frame / interval) (share s)) (hold P s) s.held frame k h; packets = r.packets }
  where
    pick : (b : Bool) (x y n : ℕ) → x ≤ n → y ≤ n → cond b x y ≤ n
    pick true x y n p q = p
    pick false x y n p q = q

ranged_headed : (N M f d : ℕ) (s : Session) (ps : List Packet) → N ≤ M → f ≤ M → d ≤ M → Every (λ p. (p.entry ≤ N) × (p.arrival ≤ N)) ps → Ranged N s → Ranged M (headed s f d ps)
ranged_headed N M f d s [] le fm dm e r = let m = ranged_more N M s le r in record { last_finish = fm; last_due = dm; start = m.start; due_start = m.due_start; mark = m.mark; held = r.held; packets = tt }
ranged_headed N M f d s (p ∷ ps) le fm dm e r =
    let m = ranged_more N M s le r in
    record {
      last_finish = fm;
      last_due = dm;
      start = omega (arith, e.0.0);
      due_start = omega (arith, e.0.1);
      mark = m.mark;
      held = r.held;
      packets = every_map (λ p. (p.entry ≤ N) × (p.arrival ≤ N)) (λ p. (p.entry ≤ M) × (p.arrival ≤ M)) (λ p h. (omega (arith, h.0), omega (arith, h.1))) (p ∷ ps) e;
    }

ranged_joined : (N : ℕ) (s : Session) (ps : List Packet) (x : Packet) → s.waiting ≡ ps → x.entry ≤ N → x.arrival ≤ N → Ranged N s → Ranged N (joined s ps x)
ranged_joined N s [] x is e a r = ranged_headed N N s.last_finish s.last_due s (x ∷ []) (omega arith) r.last_finish r.last_due ((e, a), tt) r
ranged_joined N s (q ∷ qs) x is e a r =
    record {
      last_finish = r.last_finish;
      last_due = r.last_due;
      start = r.start;
      due_start = r.due_start;
      mark = r.mark;
      held = r.held;
      packets = every-push (λ p. (p.entry ≤ N) × (p.arrival ≤ N)) (q ∷ qs) x (subst (Every (λ p. (p.entry ≤ N) × (p.arrival ≤ N))) is r.packets) (e, a);
    }

behind_all : (Q : Packet → Type 0) (ps : List Packet) → Every Q ps → Every Q (behind ps)
behind_all Q [] h = tt
behind_all Q (p ∷ ps) h = h.1

ranged_sent : (N M : ℕ) (s : Session) → N + frame ≤ M → advance (first s.waiting).bytes s.interval ≤ frame → Ranged N s → Ranged M (sent s)
ranged_sent N M s le fits r =
    ranged_headed N M (finish s) (due s) s (behind s.waiting) (omega arith) (omega (arith, r.start)) (omega (arith, r.due_start)) (behind_all _ s.waiting r.packets) r

ranged_rested : (N : ℕ) (s : Session) → Ranged N s → Ranged N (rested s)
ranged_rested N s r = record { last_finish = omega arith; last_due = r.last_due; start = r.start; due_start = r.due_start; mark = omega arith; held = omega arith; packets = r.packets }

-- sums over the sessions
open_places : Session → ℕ
open_places s = cond s.is_open s.places 0

abbrev count : Session → ℕ
count s = length s.waiting

sums_le : (f g : Session → ℕ) (ss : List Session) → Each (λ s. f s ≤ g s) ss → sum_by f ss ≤ sum_by g ss
sums_le f g [] h = omega arith
sums_le f g (s ∷ ss) h = omega (arith, sum_by-cons f s ss, sum_by-cons g s ss, h 0 (omega arith), sums_le f g ss (λ k lt. h (suc k) (omega arith)))

parts_more : (N M : ℕ) (ss : List Session) → N ≤ M → Parts N ss → Parts M ss
parts_more N M ss le p = record { each = λ k lt. ranged_more N M (get_or ss k blank) le (p.each k lt); room = p.room; places = p.places }

parts_put : (N : ℕ) (ss : List Session) (i : ℕ) (b : Session) → i < length ss → Ranged N b → length b.waiting ≤ cond b.is_open b.places 0
    → cond b.is_open b.places 0 + sum_by (λ s. cond s.is_open s.places 0) ss ≤ 256 + cond (get_or ss i blank).is_open (get_or ss i blank).places 0 → Parts N ss → Parts N (set ss i b)
parts_put N ss i b lt r room few p =
    record {
      each = λ k in-set. at_set (Ranged N) ss i b blank lt p.each r k (omega (arith, length-set ss i b));
      room = λ k in-set. at_set (λ s. length s.waiting ≤ cond s.is_open s.places 0) ss i b blank lt p.room room k (omega (arith, length-set ss i b));
      places = omega (arith, sum_by-set (λ s. cond s.is_open s.places 0) ss i b blank lt);
    }

parts_rested : (N : ℕ) (ss : List Session) → Parts N ss → Parts N (map rested ss)
parts_rested N ss p =
    let n = length-map ss rested in
    let all : (Q : Session → Type 0) → Each (λ s. Q (rested s)) ss → Each Q (map rested ss) = λ Q h k lt. subst Q (sym (get_or-map rested ss k blank blank (omega (arith, n)))) (h k (omega (arith, n))) in
    record {
      each = all (Ranged N) (λ k lt. ranged_rested N (get_or ss k blank) (p.each k lt));
      room = all (λ s. length s.waiting ≤ cond s.is_open s.places 0) (λ k lt. p.room k lt);
      places = omega (arith, sum_by_map (λ s. cond s.is_open s.places 0) rested ss, p.places);
    }

-- after a timed call
load_from : (t : ℕ) (w : Wire) (ss : List Session) (N : ℕ) → t ≤ 2 ^ 40 → until w t ≤ t + 9216 → Parts N ss → until w t + 9216 * sum_by (λ s. length s.waiting) ss ≤ last_time
load_from t w ss N early near p =
    let q : sum_by (λ s. length s.waiting) ss ≤ 256 = omega (arith, sums_le (λ s. length s.waiting) (λ s. cond s.is_open s.places 0) ss p.room, p.places) in
    omega arith

until_near : (L t : ℕ) (w : Wire) (ss : List Session) (P E : ℕ) → L ≤ 9216 → Inv L t w ss P E → until w t ≤ t + 9216
until_near L t idle ss P E le inv = omega arith
until_near L t (sending w) ss P E le inv = omega (arith, inv.wired.begun, inv.wired.short)

until_ge : (L t : ℕ) (w : Wire) (ss : List Session) (P E : ℕ) → Inv L t w ss P E → t ≤ until w t
until_ge L t idle ss P E inv = omega arith
until_ge L t (sending w) ss P E inv = inv.wired.until

until_more : (w : Wire) (t t' : ℕ) → t ≤ t' → until w t ≤ until w t'
until_more idle t t' le = le
until_more (sending w) t t' le = omega arith

potential_le : (L t : ℕ) (w : Wire) (ss : List Session) (P E : ℕ) → WireSmall w → Inv L t w ss P E → potential w t ≤ frame * until w t
potential_le L t idle ss P E small inv = omega arith
potential_le L t (sending w) ss P E small inv = omega (arith, small.0, inv.wired.begun, inv.wired.until)

-- a head goes on the wire
headed_same : (s : Session) (f d : ℕ) (ps : List Packet) → (cond (headed s f d ps).is_open (headed s f d ps).places 0 ≡ cond s.is_open s.places 0) × ((headed s f d ps).waiting ≡ ps)
headed_same s f d [] = (refl, refl)
headed_same s f d (p ∷ ps) = (refl, refl)

behind_length : (ps : List Packet) → some ps ≡ true → length ps ≡ 1 + length (behind ps)
behind_length [] w = absurd (false≢true w)
behind_length (p ∷ ps) w = omega arith

parts_sent : (t N ticks : ℕ) (ss : List Session) (i : ℕ) → i < length ss → waits (get_or ss i blank) ≡ true → advance (first (get_or ss i blank).waiting).bytes (get_or ss i blank).interval ≤ frame
    → 0 < ticks → N ≤ frame * t → Parts N ss → Parts (frame * (t + ticks)) (set ss i (sent (get_or ss i blank)))
parts_sent t N ticks ss i lt w fits one le p =
    let s = get_or ss i blank in
    let same = headed_same s (finish s) (due s) (behind s.waiting) in
    let fewer : length (sent s).waiting ≤ length s.waiting = omega (arith, ap length same.1, behind_length s.waiting w) in
    parts_put (frame * (t + ticks)) ss i (sent s) lt (ranged_sent N (frame * (t + ticks)) s (omega arith) fits (p.each i lt))
    (omega (arith, same.0, fewer, p.room i lt)) (omega (arith, same.0, p.places)) (parts_more N (frame * (t + ticks)) ss (omega arith) p)

-- a packet more
joined_same : (s : Session) (ps : List Packet) (x : Packet) → (cond (joined s ps x).is_open (joined s ps x).places 0 ≡ cond s.is_open s.places 0) × (length (joined s ps x).waiting ≡ length ps + 1)
joined_same s [] x = (refl, omega arith)
joined_same s (q ∷ qs) x = (refl, omega (arith, length-append qs (x ∷ [])))

parts_joined : (N : ℕ) (ss : List Session) (i : ℕ) (x : Packet) → i < length ss → (get_or ss i blank).is_open ≡ true → length (get_or ss i blank).waiting < (get_or ss i blank).places
    → x.entry ≤ N → x.arrival ≤ N → Parts N ss → Parts N (set ss i (joined (get_or ss i blank) (get_or ss i blank).waiting x))
parts_joined N ss i x lt up free e a p =
    let s = get_or ss i blank in
    let same = joined_same s s.waiting x in
    let places : cond s.is_open s.places 0 ≡ s.places = ap (λ b. cond b s.places 0) up in
    parts_put N ss i (joined s s.waiting x) lt (ranged_joined N s s.waiting x refl e a (p.each i lt)) (omega (arith, same.0, same.1, places)) (omega (arith, same.0, p.places)) p

joined_waits : (s : Session) (ps : List Packet) (x : Packet) → waits (joined s ps x) ≡ true
joined_waits s [] x = refl
joined_waits s (q ∷ qs) x = refl

bounds_arrived : (L t : ℕ) (w : Wire) (ss : List Session) (E i bytes : ℕ) → L ≤ 9216 → t ≤ 2 ^ 40 → i < length ss → (get_or ss i blank).is_open ≡ true
    → Fit L t (potential w t) (get_or ss i blank).interval (record { bytes = bytes; arrival = t; entry = potential w t }) → length (get_or ss i blank).waiting < (get_or ss i blank).places
    → Inv L t w ss (potential w t) E → Parts (frame * until w t) ss → WireSmall w
    → Bounds (arrived w (record { longest = L; time = t; wire = w; sessions = ss }) i bytes).time (arrived w (record { longest = L; time = t; wire = w; sessions = ss }) i bytes).wire (arrived w (record { longest = L; time = t; wire = w; sessions = ss }) i bytes).sessions
bounds_arrived L t idle ss E i bytes le early lt up fit free inv parts small =
    let s = get_or ss i blank in
    let x : Packet = record { bytes = bytes; arrival = t; entry = 0 } in
    let b = joined s s.waiting x in
    let more = set ss i b in
    let here : get_or more i blank ≡ b = get_or-set_same ss i b blank lt in
    let w : waits (get_or more i blank) ≡ true = ap waits here ∙ joined_waits s s.waiting x in
    let g = subst (Good L t 0) (sym here) (good_joined L t 0 s s.waiting x refl up fit (inv.base.good i lt)) in
    let f = head_fit L t 0 (get_or more i blank) w g in
    let ticks = wire_ticks (first (get_or more i blank).waiting).bytes in
    let p = parts_joined (frame * t) ss i x lt up free (omega arith) (omega arith) parts in
    let in-more : i < length more = omega (arith, length-set ss i b) in
    let q = parts_sent t (frame * t) ticks more i in-more w f.fits (ticks_some _ f.some) (omega arith) p in
    let short = ticks_le (first (get_or more i blank).waiting).bytes L f.short in
    let some-ticks = ticks_some (first (get_or more i blank).waiting).bytes f.some in
    let v : Sending = record { session = i; packet = first (get_or more i blank).waiting; due = due (get_or more i blank); noted = 0; begun = t } in
    record { parts = q; wire = (omega arith, omega (arith, (p.each i in-more).due_start, f.fits, some-ticks)); load = load_from t (sending v) (set more i (sent (get_or more i blank))) (frame * (t + ticks)) early (omega (arith, short)) q }
bounds_arrived L t (sending w) ss E i bytes le early lt up fit free inv parts small =
    let P = potential (sending w) t in
    let x : Packet = record { bytes = bytes; arrival = t; entry = P } in
    let p = parts_joined (frame * end w) ss i x lt up free (potential_le L t (sending w) ss P E small inv) (omega (arith, inv.wired.until)) parts in
    record { parts = p; wire = small; load = load_from t (sending w) _ (frame * end w) early (until_near L t (sending w) ss P E le inv) p }

-- a departure
bounds_freed : (rule : ℕ → ℕ → ℕ) → Safe rule → (st : State) (w : Sending) (P E : ℕ) (f s : Option Entry) → least_finish st ≡ f → least_start st ≡ s → st.longest ≤ 9216
    → Base st.longest st.time st.sessions P E → Parts (frame * end w) st.sessions → w.noted ≤ frame * w.begun → end w + 9216 * sum_by (λ s. length s.waiting) st.sessions ≤ last_time
    → Bounds (freed rule (later st (end w)) (w.noted + wire_ticks w.packet.bytes) f s).time (freed rule (later st (end w)) (w.noted + wire_ticks w.packet.bytes) f s).wire (freed rule (later st (end w)) (w.noted + wire_ticks w.packet.bytes) f s).sessions
bounds_freed rule safe st w P E None s is_f is-s le base parts noted load =
    record { parts = parts_rested (frame * end w) st.sessions parts; wire = tt; load = omega (arith, sum_by_map (λ s. length s.waiting) rested st.sessions) }
bounds_freed rule safe st w P E (Some f) None is_f is-s le base parts noted load =
    record { parts = parts_rested (frame * end w) st.sessions parts; wire = tt; load = omega (arith, sum_by_map (λ s. length s.waiting) rested st.sessions) }
bounds_freed rule safe st w P E (Some f) (Some s) is_f is-s le base parts noted load =
    let ss = st.sessions in
    let F = chosen ss finish f is_f in
    let S = chosen ss (λ s. s.start) s is-s in
    let i = f.session in
    let h = at st i in
    let fit = head_fit st.longest st.time P h F.waiting (base.good i F.inside) in
    let ticks = wire_ticks (first h.waiting).bytes in
    let one = ticks_some (first h.waiting).bytes fit.some in
    let short = ticks_le (first h.waiting).bytes st.longest fit.short in
    let low = base_low rule safe st P E f s is_f is-s base in
    let from = (parts.each s.session S.inside).start in
    let same = headed_same h (finish h) (due h) (behind h.waiting) in
    record {
      parts = parts_sent (end w) (frame * end w) ticks ss i F.inside F.waiting fit.fits one (omega arith) parts;
      wire = (omega (arith, low, from, S.key, noted), omega (arith, (parts.each i F.inside).due_start, fit.fits, one));
      load = omega (arith, sum_by-set (λ s. length s.waiting) ss i (sent h) blank F.inside, ap length same.1, behind_length h.waiting F.waiting, short);
    }

bounds_depart : (rule : ℕ → ℕ → ℕ) → Safe rule → (L t : ℕ) (w : Wire) (ss : List Session) → L ≤ 9216 → Kept (record { longest = L; time = t; wire = w; sessions = ss }) → Bounds t w ss
    → Bounds (depart rule (record { longest = L; time = t; wire = w; sessions = ss }) w).state.time (depart rule (record { longest = L; time = t; wire = w; sessions = ss }) w).state.wire (depart rule (record { longest = L; time = t; wire = w; sessions = ss }) w).state.sessions
bounds_depart rule safe L t idle ss le kept b = b
bounds_depart rule safe L t (sending w) ss le kept b =
    let st : State = record { longest = L; time = t; wire = sending w; sessions = ss } in
    bounds_freed rule safe st w kept.0 kept.1 (least_finish st) (least_start st) refl refl le kept.2.base b.parts b.wire.0 b.load

quiet_length : (ps : List Packet) → some ps ≡ false → length ps ≡ 0
quiet_length [] h = refl
quiet_length (p ∷ ps) h = absurd (false≢true (sym h))

module _ (choices : ℕ) (rule : ℕ → ℕ → ℕ) (safe : Safe rule) (st : State) (short : st.longest ≤ 9216) (kept : Kept st) (b : Bounds st.time st.wire st.sessions) where
  from_clock : (t : ℕ) → bad_clock st t ≡ false → (st.time ≤ t) × (t ≤ 2 ^ 40)
  from_clock t ok = let both = or_parts (ltb t st.time) (ltb (2 ^ 40) t) ok in (ltb-false t st.time both.0, ltb-false (2 ^ 40) t both.1)

  at_time : (t : ℕ) → bad_clock st t ≡ false → Parts (frame * until st.wire t) st.sessions
  at_time t ok = parts_more (frame * until st.wire st.time) (frame * until st.wire t) st.sessions (omega (arith, until_more st.wire st.time t (from_clock t ok).0)) b.parts

  in_list : (i : ℕ) → leb 32 i ≡ false → i < length st.sessions
  in_list i ok = omega (arith, leb-false 32 i ok, kept.2.base.many)

  timed : (t : ℕ) (ss : List Session) → bad_clock st t ≡ false → overdue st.wire t ≡ false → Parts (frame * until st.wire t) ss → Bounds t st.wire ss
  timed t ss ok on p =
      let inv = comes st t kept.0 kept.1 ok on kept.2 in
      record { parts = p; wire = b.wire; load = load_from t st.wire ss (frame * until st.wire t) (from_clock t ok).1 (until_near st.longest t st.wire st.sessions (potential st.wire t) kept.1 short inv) p }

  pub bounds_answered : (c : Call) (o : Option Refusal) → refusal choices st c ≡ o → Bounds (answered rule st c o).state.time (answered rule st c o).state.wire (answered rule st c o).state.sessions
  bounds_answered c (Some r) e = b
  bounds_answered (Open c) None e =
      let ok = clear (checks choices st (Open c)) e in
      let j = c.session in
      let lt = in_list j ok.1.1.0 in
      let p = at_time c.time ok.0 in
      let few = ltb-false 256 (c.places + all_places st) (or_parts (eqb c.places 0) (ltb 256 (c.places + all_places st)) ok.1.1.1.1.1.1.0).1 in
      timed c.time (set st.sessions j (opened c.interval c.places (at st j))) ok.0 ok.1.0
      (parts_put (frame * until st.wire c.time) st.sessions j (opened c.interval c.places (at st j)) lt (ranged_opened _ c.interval c.places (at st j) (p.each j lt)) (omega arith) (omega (arith, few)) p)
  bounds_answered (Close c) None e =
      let ok = clear (checks choices st (Close c)) e in
      let j = c.session in
      let lt = in_list j ok.1.1.0 in
      let p = at_time c.time ok.0 in
      let P = potential st.wire c.time in
      let inv = comes st c.time kept.0 kept.1 ok.0 ok.1.0 kept.2 in
      let none = quiet_length (at st j).waiting (or_parts (waits (at st j)) _ ok.1.1.1.1.0).0 in
      timed c.time (set st.sessions j (closed P (at st j))) ok.0 ok.1.0
      (parts_put (frame * until st.wire c.time) st.sessions j (closed P (at st j)) lt
      (ranged_closed _ P (at st j) (potential_le st.longest c.time st.wire st.sessions P kept.1 b.wire inv) (p.each j lt)) (omega (arith, none)) (omega (arith, p.places)) p)
  bounds_answered (Change c) None e =
      let ok = clear (checks choices st (Change c)) e in
      let j = c.session in
      let lt = in_list j ok.1.1.0 in
      let p = at_time c.time ok.0 in
      let P = potential st.wire c.time in
      let inv = comes st c.time kept.0 kept.1 ok.0 ok.1.0 kept.2 in
      timed c.time (set st.sessions j (changed P c.time c.interval (at st j))) ok.0 ok.1.0
      (parts_put (frame * until st.wire c.time) st.sessions j (changed P c.time c.interval (at st j)) lt
      (ranged_changed _ P c.time c.interval (at st j) (potential_le st.longest c.time st.wire st.sessions P kept.1 b.wire inv)
      (omega (arith, until_ge st.longest c.time st.wire st.sessions P kept.1 inv)) (p.each j lt)) (p.room j lt) (omega (arith, p.places)) p)
  bounds_answered (Pick c) None e =
      let ok = clear (checks choices st (Pick c)) e in
      timed c.time st.sessions ok.0 ok.1.0 (at_time c.time ok.0)
  bounds_answered (Arrive c) None e =
      let ok = clear (checks choices st (Arrive c)) e in
      let j = c.session in
      let P = potential st.wire c.time in
      let inv = comes st c.time kept.0 kept.1 ok.0 ok.1.0 kept.2 in
      bounds_arrived st.longest c.time st.wire st.sessions kept.1 j c.bytes short (from_clock c.time ok.0).1 (in_list j ok.1.1.0) (not-false _ ok.1.1.1.0)
      (fit_new st.longest c.time P c.bytes (at st j).interval ok.1.1.1.1.0) (leb-false (at st j).places (length (at st j).waiting) ok.1.1.1.1.1.0) inv (at_time c.time ok.0) b.wire
  bounds_answered Depart None e = bounds_depart rule safe st.longest st.time st.wire st.sessions short kept b

limited_made : (setup : Setup) → Bounds 0 idle (replicate 32 blank)
limited_made setup =
    let at-k : (k : ℕ) → k < 32 → get_or (replicate 32 blank) k blank ≡ blank = λ k lt. get_or-replicate 32 k blank blank lt in
    let n = length-replicate 32 blank in
    let all : (Q : Session → Type 0) → Q blank → Each Q (replicate 32 blank) = λ Q q k lt. subst Q (sym (at-k k (omega (arith, n)))) q in
    record {
      parts = record {
        each = all (Ranged (frame * 0)) (record { last_finish = omega arith; last_due = omega arith; start = omega arith; due_start = omega arith; mark = omega arith; held = omega arith; packets = tt });
        room = all (λ s. length s.waiting ≤ cond s.is_open s.places 0) (omega arith);
        places = omega arith;
      };
      wire = tt;
      load = omega arith;
    }

-- from the bounds to the ranges
small : (N : ℕ) (s : Session) → N + frame < 2 ^ 56 → advance (first s.waiting).bytes s.interval ≤ frame → length s.waiting ≤ cond s.is_open s.places 0 → Ranged N s → Small s
small N s le fits room r =
    record {
      start = omega (arith, r.start);
      finish = omega (arith, r.start);
      due_start = omega (arith, r.due_start);
      due = omega (arith, r.due_start);
      last_finish = omega (arith, r.last_finish);
      last_due = omega (arith, r.last_due);
      mark = omega (arith, r.mark);
      held = r.held;
      packets = every_map (λ p. (p.entry ≤ N) × (p.arrival ≤ N)) (λ p. (p.entry < 2 ^ 56) × (p.arrival < 2 ^ 56)) (λ p h. (omega (arith, h.0), omega (arith, h.1))) s.waiting r.packets;
      room = room;
    }

advance_none : (i : ℕ) → advance 0 i ≡ 0
unfolding advance
advance_none i = omega arith

fits_or_none : (L t P : ℕ) (s : Session) → Good L t P s → advance (first s.waiting).bytes s.interval ≤ frame
fits_or_none L t P s g = go s.waiting refl
  where
    go : (ps : List Packet) → s.waiting ≡ ps → advance (first ps).bytes s.interval ≤ frame
    go [] is = omega (arith, advance_none s.interval)
    go (p ∷ ps) is = (subst (Every (Fit L t P s.interval)) is g.fit).0.fits

wire_small : (t : ℕ) (w : Wire) (ss : List Session) → Bounds t w ss → (v : Sending) → w ≡ sending v → SmallWire v
wire_small t w ss b v e =
    let c = subst (λ u. Bounds t u ss) e b in
    let load = c.load in
    let one = c.wire.0 in
    let two = c.wire.1 in
    record { end = omega arith; due = omega arith; potential = omega arith }

in_range : (st : State) → Steady st → InRange st
in_range st k =
    let b = k.bounds in
    let h = k.kept in
    let load = b.load in
    let inv = h.2 in
    let big : frame * until st.wire st.time + frame < 2 ^ 56 = omega arith in
    record {
      time = omega (arith, until_ge st.longest st.time st.wire st.sessions h.0 h.1 inv);
      wire = wire_small st.time st.wire st.sessions b;
      sessions = λ i lt. let in_list : i < length st.sessions = omega (arith, inv.base.many) in
          small (frame * until st.wire st.time) (at st i) big (fits_or_none st.longest st.time h.0 (at st i) (inv.base.good i in_list)) (b.parts.room i in_list) (b.parts.each i in_list);
      places = b.parts.places;
      shares = omega (arith, inv.base.sound.booked, sum_by_map (λ a. a.share) account st.sessions);
    }

steady_step : (choices : ℕ) (rule : ℕ → ℕ → ℕ) → Safe rule → (st : State) (c : Call) → Steady st → Steady (step choices rule st c).state
steady_step choices rule safe st c k =
    let same = longest_answered rule st c (refusal choices st c) in
    record {
      proper = (omega (arith, k.proper.0, same), omega (arith, k.proper.1, same));
      kept = keeps choices rule safe st c k.kept;
      bounds = bounds_answered choices rule safe st k.proper.1 k.kept k.bounds c (refusal choices st c) refl;
    }

pub goes_on : GoesOn
goes_on =
    record {
      at_first = λ setup proper. record { proper = proper; kept = kept_made setup; bounds = limited_made setup };
      at_each = steady_step;
      in_range = in_range;
    }

record Limited {X : Type 0} (R : Acts X) (x : X) (r : Run X) : Type 0 where
  reached : Reachable R x r.rule
  steady : Steady r.state

limited_next : {X : Type 0} (R : Acts X) (x : X) → Lawful R x → (r : Run X) (c : Call) → Limited R x r → Limited R x (next R r c)
limited_next R x law r c k =
    record {
      reached = reach R x r.rule r.state c (refusal (R.choices r.rule) r.state c) refl k.reached;
      steady = steady_step (R.choices r.rule) (R.means r.rule) (law r.rule k.reached) r.state c k.steady;
    }

pub ranges : (X : Type 0) → Ranges X
ranges X R x setup calls law proper =
    in_range (replay R x setup calls).state
    (along R (Limited R x) (limited_next R x law) (new x setup) calls (record { reached = unpicked; steady = goes_on.at_first setup proper })).steady
