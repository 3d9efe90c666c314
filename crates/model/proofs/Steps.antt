-- Every call keeps the invariant. Assumes nothing.
use Rattle.std.proofs.Common.{◌≡◌, ℕ, ◌+◌, ◌-◌, ◌*◌, ◌/◌, ◌<◌, ◌≤◌, max, Bool, true, false, cond, eqb, ltb, leb, List, [], ◌∷◌, map, length, get_or, set, replicate, Some, None, sum_by, Option, sym, refl, ap, ◌∙◌, subst, inl, inr, arith}
use Rattle.std.proofs.lemmas.List.{length-set, get_or-set_same, length-map, get_or-map, get_or_past, map-set, set-get_or, get_or-replicate, length-replicate}
use Rattle.std.proofs.lemmas.Bool.{cases_lt, false≢true, or_parts, not-false, ltb-false, leb-false, leb-true, eqb-false}
use Rattle.std.proofs.lemmas.List.Sums.{sum_by-set}
use Rattle.std.proofs.lemmas.Bool.Decides.{nat_tests}
use Rattle.model.specs.declared.calls.Packet.{Packet}
use Rattle.model.specs.declared.calls.Refusal.{Refusal}
use Rattle.model.specs.declared.calls.Call.{Call}
use Rattle.model.specs.declared.calls.Call.TheVariants.{Open, Close, Change, Pick, Arrive, Depart}
use Rattle.ready.specs.declared.key.Key.{Key}
use Rattle.ready.specs.declared.entry.Entry.{Entry}
use Rattle.ready.specs.Keys.{no_later}
use Rattle.ready.specs.Least.{Keys, least}
use Rattle.ready.proofs.Firsts.{least_law}
use Rattle.model.specs.Model.{frame, wire_ticks, advance, Session, blank, Sending, Wire, State, Setup, share, any, waits, first, finish, position, counted, bad_interval, bad_length, bad_clock, overdue, end, potential, at, opened, closed, changed, joined, sent, rested, sends, arrived, at_rest, if_waits, least_finish, least_start, freed, departed, depart, commit, answered, step, checks, refusal, made}
use Rattle.model.specs.Model.Wire.{idle, sending}
use Rattle.accounts.specs.Accounts as A
use Rattle.accounts.specs.Accounts.{Account, none, Sound, Fits, Same, Stamped}
use Rattle.accounts.proofs.Lemmas as lemma
use Rattle.model.proofs.Lists.{sum_by_map, at_set, clear, some_is_none, some_same}
use Rattle.model.specs.Invariants.{account, accounts, Fit, Good, Still, Each, Wired, Base, Inv, Kept, Safe}
use Rattle.model.proofs.Sessions.{ticks_le, ticks_some, advance_enough, good_later, not_waiting, good_still, opens, good_opened, closes, good_closed, head_some, head_fit, good_changed, lowers, raises, new_share_is, good_sent, sent_well, good_joined, joins}

-- the account of a session
account_at : (ss : List Session) (i : ℕ) → i < length ss → A.at (accounts ss) i ≡ account (get_or ss i blank)
account_at ss i lt = get_or-map account ss i blank none lt

within : (ss : List Session) (i : ℕ) → i < length ss → i < length (accounts ss)
within ss i lt = omega (arith, length-map ss account)

-- what is counted of the others
others : (ss : List Session) (i x : ℕ) → i < length ss → sum_by (A.counted x) (set (accounts ss) i none) ≡ sum_by (counted x) (set ss i blank)
unfolding A.counted
others ss i x lt =
    let one = sum_by-set (A.counted x) (accounts ss) i none none (within ss i lt) in
    let two = sum_by-set (counted x) ss i blank blank lt in
    let all = sum_by_map (A.counted x) account ss in
    let here : A.counted x (A.at (accounts ss) i) ≡ counted x (get_or ss i blank) = ap (A.counted x) (account_at ss i lt) in
    let zero : A.counted x none ≡ counted x blank = refl in
    omega (arith, one, two, all, here, zero)

-- one session is replaced
put : (L t : ℕ) (ss : List Session) (P E E' i : ℕ) (b : Session) → i < length ss → Good L t P b → Sound L (set (accounts ss) i (account b)) P E' → Base L t ss P E → Base L t (set ss i b) P E'
put L t ss P E E' i b lt g sound base =
    record {
      many = length-set ss i b ∙ base.many;
      sound = subst (λ v. Sound L v P E') (sym (map-set account ss i b)) sound;
      good = λ k in-set. at_set (Good L t P) ss i b blank lt base.good g k (omega (arith, length-set ss i b));
    }

abbrev Rest : Wire → Session → Type 0
Rest idle b = Still b
Rest (sending w) b = Unit {0}

wired_set : (L t : ℕ) (w : Wire) (ss : List Session) (P E i : ℕ) (b : Session) → i < length ss → Rest w b → Wired L t w ss P E → Wired L t w (set ss i b) P E
wired_set L t idle ss P E i b lt rest (h) = (h.0, h.1, λ k in-set. at_set Still ss i b blank lt h.2 rest k (omega (arith, length-set ss i b)))
wired_set L t (sending w) ss P E i b lt rest h = h

puts : (L t : ℕ) (w : Wire) (ss : List Session) (P E i : ℕ) (b : Session) → i < length ss → Rest w b → Good L t P b → Sound L (set (accounts ss) i (account b)) P E → Inv L t w ss P E → Inv L t w (set ss i b) P E
puts L t w ss P E i b lt rest g sound inv = record { base = put L t ss P E E i b lt g sound inv.base; wired = wired_set L t w ss P E i b lt rest inv.wired }

-- time passes
passes : (L t : ℕ) (w : Wire) (ss : List Session) (P E t' : ℕ) → t ≤ t' → overdue w t' ≡ false → Inv L t w ss P E → Inv L t' w ss (potential w t') E
passes L t idle ss P E t' le ok inv =
    let b = inv.base in
    let w = inv.wired in
    record {
      base = record {
        many = b.many;
        sound = lemma.time_passes L (accounts ss) P 0 E (omega (arith, w.0)) b.sound;
        good = λ k lt. good_still L t' 0 (get_or ss k blank) (b.good k lt).divides (w.2 k lt).none (w.2 k lt).last;
      };
      wired = (refl, w.1, w.2);
    }
passes L t (sending w) ss P E t' le ok inv =
    let b = inv.base in
    let s = inv.wired in
    let early = ltb-false (end w) t' ok in
    let ahead : P ≤ w.noted + (t' - w.begun) = omega (arith, s.now) in
    record {
      base = record {
        many = b.many;
        sound = lemma.time_passes L (accounts ss) P (w.noted + (t' - w.begun)) E ahead b.sound;
        good = λ k lt. good_later L t P t' (w.noted + (t' - w.begun)) (get_or ss k blank) (omega (arith, s.now, s.begun)) (b.good k lt);
      };
      wired = record { begun = omega (arith, s.begun); until = early; now = refl; free = s.free; some = s.some; short = s.short; on_time = s.on_time };
    }

-- the moves of one session, at the present potential P
module _ (L t : ℕ) (w : Wire) (ss : List Session) (P E i : ℕ) (lt : i < length ss) (inv : Inv L t w ss P E) where
  is : A.at (accounts ss) i ≡ account (get_or ss i blank)
  is = account_at ss i lt

  g : Good L t P (get_or ss i blank)
  g = inv.base.good i lt

  s : Session
  s = get_or ss i blank

  fits_here : (new x : ℕ) (b : Session) → share b ≡ new → ltb frame (new + sum_by (counted x) (set ss i blank)) ≡ false → Fits (accounts ss) i (account b) x
  fits_here new x b e ok = omega (arith, others ss i x lt, ltb-false frame (new + sum_by (counted x) (set ss i blank)) ok, e)

  rest_opened : (v : Wire) → Wired L t v ss P E → (interval places : ℕ) → Rest v (opened interval places (get_or ss i blank))
  rest_opened idle h interval places = record { none = refl; last = refl; mark = (h.2 i lt).mark }
  rest_opened (sending v) h interval places = tt

  pub keeps_open : (interval places : ℕ) → (get_or ss i blank).is_open ≡ false → (get_or ss i blank).mark ≤ P → bad_interval interval ≡ false
      → ltb frame (frame / interval + sum_by (counted P) (set ss i blank)) ≡ false → Inv L t w (set ss i (opened interval places (get_or ss i blank))) P E
  keeps_open interval places shut low ok fits =
      let b = opened interval places (get_or ss i blank) in
      puts L t w ss P E i b lt (rest_opened w inv.wired interval places) (good_opened L t P interval places (get_or ss i blank) ok)
      (lemma.opened L (accounts ss) i (account b) P E (within ss i lt) (rw is (opens P interval places (get_or ss i blank) shut low)) (fits_here (frame / interval) P b refl fits) inv.base.sound) inv

  rest_closed : (v : Wire) → Wired L t v ss P E → waits (get_or ss i blank) ≡ false → Rest v (closed P (get_or ss i blank))
  rest_closed idle h none =
      let l : cond (waits (get_or ss i blank)) (get_or ss i blank).start (get_or ss i blank).last_finish ≡ (get_or ss i blank).last_finish = ap (λ b. cond b (get_or ss i blank).start (get_or ss i blank).last_finish) none in
      record { none = none; last = (h.2 i lt).last; mark = omega (arith, l, (h.2 i lt).last, h.0) }
  rest_closed (sending v) h none = tt

  pub keeps_close : waits (get_or ss i blank) ≡ false → Inv L t w (set ss i (closed P (get_or ss i blank))) P E
  keeps_close none =
      let b = closed P (get_or ss i blank) in
      puts L t w ss P E i b lt (rest_closed w inv.wired none) (good_closed L t P (get_or ss i blank) none g)
      (lemma.lower L (accounts ss) i (account b) P E (within ss i lt) (rw is (closes P (get_or ss i blank) none)) inv.base.sound) inv

  rest_changed : (v : Wire) → Wired L t v ss P E → (interval : ℕ) → Rest v (changed P t interval (get_or ss i blank))
  rest_changed idle h interval =
      let none = (h.2 i lt).none in
      let l : cond (waits (get_or ss i blank)) (get_or ss i blank).start (get_or ss i blank).last_finish ≡ (get_or ss i blank).last_finish = ap (λ b. cond b (get_or ss i blank).start (get_or ss i blank).last_finish) none in
      let m = (h.2 i lt).mark in
      let f = (h.2 i lt).last in
      let p = h.0 in
      let x : position P (get_or ss i blank) ≡ 0 = omega (arith, l, f, p) in
      record { none = none; last = f; mark = grind (arith, nat_tests) }
  rest_changed (sending v) h interval = tt

  pub keeps_change : (interval : ℕ) → (get_or ss i blank).is_open ≡ true → bad_interval interval ≡ false
      → any (λ p. ltb frame (advance p.bytes interval)) (get_or ss i blank).waiting ≡ false
      → cond (ltb (share (get_or ss i blank)) (frame / interval)) (ltb frame (frame / interval + sum_by (counted (position P (get_or ss i blank))) (set ss i blank))) false ≡ false
      → Inv L t w (set ss i (changed P t interval (get_or ss i blank))) P E
  keeps_change interval up ok short fits =
      let old = get_or ss i blank in
      let b = changed P t interval old in
      let new : share b ≡ frame / interval = new_share_is L t P interval old up ok short g in
      let low : frame / interval < share old → Sound L (set (accounts ss) i (account b)) P E =
      λ less. lemma.lower L (accounts ss) i (account b) P E (within ss i lt) (rw is (lowers L t P interval old up ok short g less)) inv.base.sound in
      let same : share old ≡ frame / interval → Sound L (set (accounts ss) i (account b)) P E =
      λ e. let r = raises L t P interval old up ok short g (omega (arith, e)) in
      lemma.stamp L (accounts ss) i (account b) P E (within ss i lt) (rw is (record { share = new ∙ sym e; held = r.held; mark = r.mark })) (rw is r.stamped) inv.base.sound in
      let high : share old < frame / interval → Sound L (set (accounts ss) i (account b)) P E =
      λ more. let yes : ltb (share old) (frame / interval) ≡ true = grind (arith, nat_tests) in
      let booked : ltb frame (frame / interval + sum_by (counted (position P old)) (set ss i blank)) ≡ false = sym (ap (λ c. cond c (ltb frame (frame / interval + sum_by (counted (position P old)) (set ss i blank))) false) yes) ∙ fits in
      lemma.raise L (accounts ss) i (account b) P E (within ss i lt) (rw is (raises L t P interval old up ok short g (omega (arith, more)))) (rw is (fits_here (frame / interval) (position P old) b new booked)) inv.base.sound in
      puts L t w ss P E i b lt (rest_changed w inv.wired interval) (good_changed L t P interval old up ok short g)
      (elim (cases_lt (frame / interval) (share old)) [ inl less ↦ low less | inr more ↦ elim (cases_lt (share old) (frame / interval)) [ inl less ↦ high less | inr le ↦ same (omega arith) ] ]) inv

-- one packet more waits
joined_base : (L t : ℕ) (ss : List Session) (P E i : ℕ) (p : Packet) → i < length ss → (get_or ss i blank).is_open ≡ true → Fit L t P (get_or ss i blank).interval p → p.entry ≡ P
    → Base L t ss P E → Base L t (set ss i (joined (get_or ss i blank) (get_or ss i blank).waiting p)) P E
joined_base L t ss P E i p lt up f here base =
    let old = get_or ss i blank in
    let b = joined old old.waiting p in
    let g = good_joined L t P old old.waiting p refl up f (base.good i lt) in
    let is = account_at ss i lt in
    put L t ss P E E i b lt g
    (elim (joins L t P old old.waiting p refl here g) [
      | inl new ↦ lemma.stamp L (accounts ss) i (account b) P E (within ss i lt) (rw is new.0) (rw is new.1) base.sound
      | inr e ↦ subst (λ v. Sound L v P E) (sym (ap (set (accounts ss) i) (e ∙ sym is) ∙ set-get_or (accounts ss) i none)) base.sound
    ]) base

-- what holds of all sessions, of their accounts
each_account : (Q : Account → Type 0) (ss : List Session) → Each (λ s. Q (account s)) ss → A.Each Q (accounts ss)
each_account Q ss h k lt = let in-ss : k < length ss = omega (arith, length-map ss account) in subst Q (sym (account_at ss k in-ss)) (h k in-ss)

-- the least finish goes on the wire
pub sends_kept : (st : State) (i P : ℕ) → i < length st.sessions → waits (at st i) ≡ true
    → Each (λ s. waits s ≡ true → finish (at st i) ≤ finish s) st.sessions → Base st.longest st.time st.sessions P P → Kept (sends st i P)
sends_kept st i P lt w low base =
    let L = st.longest in
    let ss = st.sessions in
    let s = at st i in
    let is = account_at ss i lt in
    let g = base.good i lt in
    let f = head_fit L st.time P s w g in
    let ticks = wire_ticks (first s.waiting).bytes in
    let short = ticks_le (first s.waiting).bytes L f.short in
    let level : (account s).level ≡ s.start = ap (λ b. cond b s.start s.last_finish) w in
    let enough : frame * ticks ≤ share s * (finish s - (account s).level) =
    subst (λ n. frame * ticks ≤ share s * n) (omega (arith, level)) (advance_enough (first s.waiting).bytes s.interval (share s) (g.divides (g.served w)).1) in
    let both = lemma.send L (accounts ss) i (account (sent s)) P ticks (within ss i lt) short (rw is w)
    (rw is (each_account (λ a. a.waits ≡ true → finish s ≤ a.finish) ss low)) (rw is enough) (rw is (sent_well L st.time P s w g)) base.sound in
    let by : P + ticks ≤ finish s + L = rw is at both.1 in (
      P,
      P + ticks,
      record {
        base = put L st.time ss P P (P + ticks) i (sent s) lt (good_sent L st.time P s w g) both.0 base;
        wired = record { begun = omega arith; until = omega arith; now = omega arith; free = refl; some = ticks_some _ f.some; short = short; on_time = omega (arith, by, g.head w) };
      },
    )

-- an arrival
pub fit_new : (L t P bytes interval : ℕ) → bad_length L bytes interval ≡ false → Fit L t P interval (record { bytes = bytes; arrival = t; entry = P })
fit_new L t P bytes interval ok =
    let one = or_parts (eqb bytes 0) _ ok in
    let two = or_parts (ltb L bytes) _ one.1 in
    record { some = omega (arith, eqb-false bytes 0 one.0); short = ltb-false L bytes two.0; fits = ltb-false frame (advance bytes interval) two.1; entered = omega arith }

waits_joined : (s : Session) (ps : List Packet) (p : Packet) → waits (joined s ps p) ≡ true
waits_joined s [] p = refl
waits_joined s (q ∷ qs) p = refl

arrives : (L t : ℕ) (w : Wire) (ss : List Session) (E i bytes : ℕ) → i < length ss → (get_or ss i blank).is_open ≡ true → bad_length L bytes (get_or ss i blank).interval ≡ false
    → Inv L t w ss (potential w t) E → Kept (arrived w (record { longest = L; time = t; wire = w; sessions = ss }) i bytes)
arrives L t idle ss E i bytes lt up ok inv =
    let old = get_or ss i blank in
    let p : Packet = record { bytes = bytes; arrival = t; entry = 0 } in
    let b = joined old old.waiting p in
    let st : State = record { longest = L; time = t; wire = idle; sessions = set ss i b } in
    let in-set : i < length (set ss i b) = omega (arith, length-set ss i b) in
    let here : at st i ≡ b = get_or-set_same ss i b blank lt in
    let w : waits (at st i) ≡ true = ap waits here ∙ waits_joined old old.waiting p in
    let base = joined_base L t ss 0 E i p lt up (fit_new L t 0 bytes old.interval ok) refl inv.base in
    sends_kept st i 0 in-set w
    (λ k in-k. at_set (λ s. waits s ≡ true → finish (at st i) ≤ finish s) ss i b blank lt (λ j in-j more. absurd (not_waiting (get_or ss j blank) (inv.wired.2 j in-j).none more)) (λ more. omega (arith, ap finish here)) k (omega (arith, length-set ss i b)))
    (subst (Base L t (set ss i b) 0) inv.wired.1 base)
arrives L t (sending w) ss E i bytes lt up ok inv =
    let old = get_or ss i blank in
    let P = potential (sending w) t in
    let p : Packet = record { bytes = bytes; arrival = t; entry = P } in
    (P, E, record { base = joined_base L t ss P E i p lt up (fit_new L t P bytes old.interval ok) refl inv.base; wired = inv.wired })

-- the heads' least stamps
pub record Chosen (ss : List Session) (h : Session → ℕ) (e : Entry) : Type 0 where
  pub inside : e.session < length ss
  pub waiting : waits (get_or ss e.session blank) ≡ true
  pub key : e.key.stamp ≡ h (get_or ss e.session blank)
  pub least : Each (λ s. waits s ≡ true → e.key.stamp ≤ h s) ss

key_some : (b : Bool) (n x : Key) → cond b (Some n) None ≡ Some x → (b ≡ true) × (x ≡ n)
key_some true n x e = (refl, sym (some_same n x e))
key_some false n x e = absurd (some_is_none x (sym e))

key_none : (b : Bool) (n : Key) → cond b (Some n) None ≡ None → b ≡ false
key_none true n e = absurd (some_is_none n e)
key_none false n e = refl

-- a key that is no later has no greater stamp
stamps : (a b : Key) → no_later a b ≡ true → a.stamp ≤ b.stamp
unfolding no_later
stamps a b is = leb-true a.stamp b.stamp is

-- what stands in a list stands inside it
stands : (xs : Keys) (i : ℕ) (k : Key) → get_or xs i None ≡ Some k → i < length xs
stands xs i k is = elim (cases_lt i (length xs)) [ inl lt ↦ lt | inr le ↦ absurd (some_is_none k (sym is ∙ get_or_past xs i None le)) ]

module _ (ss : List Session) (h : Session → ℕ) where
  key_at : (k : ℕ) → k < length ss → get_or (map (λ s. if_waits (h s) s) ss) k None ≡ if_waits (h (get_or ss k blank)) (get_or ss k blank)
  key_at k lt = get_or-map (λ s. if_waits (h s) s) ss k blank None lt

  pub chosen : (e : Entry) → least (map (λ s. if_waits (h s) s) ss) ≡ Some e → Chosen ss h e
  chosen e is =
      let keys = map (λ s. if_waits (h s) s) ss in
      let f = ((least_law keys).0 e).0 is in
      let lt : e.session < length ss = omega (arith, stands keys e.session e.key f.has, length-map ss (λ s. if_waits (h s) s)) in
      let facts = key_some (waits (get_or ss e.session blank)) (record { stamp = h (get_or ss e.session blank) }) e.key (sym (key_at e.session lt) ∙ f.has) in
      record {
        inside = lt;
        waiting = facts.0;
        key = ap (λ k. k.stamp) facts.1;
        least = λ k in-k w. stamps e.key (record { stamp = h (get_or ss k blank) }) (f.soonest k (record { stamp = h (get_or ss k blank) })
            (key_at k in-k ∙ ap (λ b. cond b (Some (record { stamp = h (get_or ss k blank) })) None) w));
      }

  pub nobody_waits : least (map (λ s. if_waits (h s) s) ss) ≡ None → Each (λ s. waits s ≡ false) ss
  nobody_waits is k lt =
      key_none (waits (get_or ss k blank)) (record { stamp = h (get_or ss k blank) }) (sym (key_at k lt) ∙ (least_law (map (λ s. if_waits (h s) s) ss)).1 is k)

-- the line comes to rest
rests : (st : State) (P E : ℕ) → Each (λ s. waits s ≡ false) st.sessions → Base st.longest st.time st.sessions P E → Kept (at_rest st)
rests st P E quiet base =
    let ss = st.sessions in
    let n = length-map ss rested in
    let at-k : (k : ℕ) → k < length ss → get_or (map rested ss) k blank ≡ rested (get_or ss k blank) = λ k lt. get_or-map rested ss k blank blank lt in
    let all : (Q : Session → Type 0) → Each (λ s. Q (rested s)) ss → Each Q (map rested ss) = λ Q h k lt. subst Q (sym (at-k k (omega (arith, n)))) (h k (omega (arith, n))) in
    let shares : sum_by (λ a. a.share) (accounts (map rested ss)) ≡ sum_by (λ a. a.share) (accounts ss) =
    sum_by_map (λ a. a.share) account (map rested ss) ∙ sum_by_map (λ s. (account s).share) rested ss ∙ sym (sum_by_map (λ a. a.share) account ss) in (
      0,
      0,
      record {
        base = record {
          many = n ∙ base.many;
          sound = lemma.starts st.longest (accounts (map rested ss)) 0 (omega arith) (omega (arith, shares, base.sound.booked))
              (each_account (λ a. a.mark ≤ max 0 a.level) (map rested ss) (all (λ s. (account s).mark ≤ max 0 (account s).level) (λ k lt. omega arith)))
              (each_account (λ a. a.waits ≡ true → a.level < a.finish) (map rested ss) (all (λ s. (account s).waits ≡ true → (account s).level < (account s).finish) (λ k lt w. absurd (not_waiting (get_or ss k blank) (quiet k lt) w))));
          good = all (Good st.longest st.time 0) (λ k lt. good_still st.longest st.time 0 (rested (get_or ss k blank)) (base.good k lt).divides (quiet k lt) refl);
        };
        wired = (refl, refl, all Still (λ k lt. record { none = quiet k lt; last = refl; mark = refl }));
      },
    )

-- the base that a rule gives for the heads
lifts : (L t : ℕ) (ss : List Session) (P B : ℕ) → Each (λ s. waits s ≡ true → B ≤ s.start) ss → Base L t ss P P → Base L t ss (max P B) (max P B)
lifts L t ss P B low base =
    elim (cases_lt P B) [
      | inl up ↦
          let is : max P B ≡ B = omega arith in
          rw is (record {
            many = base.many;
            sound = lemma.recalibrated L (accounts ss) P B P (omega arith)
                (each_account (λ a. a.waits ≡ true → B ≤ a.level) ss (λ k lt w. omega (arith, low k lt w, ap (λ b. cond b (get_or ss k blank).start (get_or ss k blank).last_finish) w))) base.sound;
            good = λ k lt. good_later L t P t B (get_or ss k blank) (omega arith) (base.good k lt);
          })
      | inr down ↦ let is : max P B ≡ P = omega arith in rw is base
    ]

-- its base is not above the heads' least start
pub base_low : (rule : ℕ → ℕ → ℕ) → Safe rule → (st : State) (P E : ℕ) (f s : Entry) → least_finish st ≡ Some f → least_start st ≡ Some s
    → Base st.longest st.time st.sessions P E → rule s.key.stamp f.key.stamp ≤ s.key.stamp
base_low rule safe st P E f s is_f is-s base =
    let F = chosen st.sessions finish f is_f in
    let S = chosen st.sessions (λ s. s.start) s is-s in
    let gf = base.good f.session F.inside in
    let gs = base.good s.session S.inside in
    safe s.key.stamp f.key.stamp
    (omega (arith, S.least f.session F.inside F.waiting, F.key, head_some st.longest st.time P (at st f.session) F.waiting gf))
    (omega (arith, F.least s.session S.inside S.waiting, S.key, (head_fit st.longest st.time P (at st s.session) S.waiting gs).fits))

frees : (rule : ℕ → ℕ → ℕ) → Safe rule → (st : State) (P : ℕ) (f s : Option Entry) → least_finish st ≡ f → least_start st ≡ s
    → Base st.longest st.time st.sessions P P → Kept (freed rule st P f s)
frees rule safe st P None s is_f is-s base = rests st P P (nobody_waits st.sessions finish is_f) base
frees rule safe st P (Some f) None is_f is-s base = rests st P P (nobody_waits st.sessions (λ s. s.start) is-s) base
frees rule safe st P (Some f) (Some s) is_f is-s base =
    let ss = st.sessions in
    let F = chosen ss finish f is_f in
    let S = chosen ss (λ s. s.start) s is-s in
    let law = base_low rule safe st P P f s is_f is-s base in
    sends_kept st f.session (max P (rule s.key.stamp f.key.stamp)) F.inside F.waiting
    (λ k lt w. omega (arith, F.least k lt w, F.key)) (lifts st.longest st.time ss P (rule s.key.stamp f.key.stamp) (λ k lt w. omega (arith, S.least k lt w, law)) base)

departs : (rule : ℕ → ℕ → ℕ) → Safe rule → (L t : ℕ) (w : Sending) (ss : List Session) (P E : ℕ) → Inv L t (sending w) ss P E → Kept (departed rule (record { longest = L; time = t; wire = sending w; sessions = ss }) w)
departs rule safe L t w ss P E inv =
    let s = inv.wired in
    let ok : ltb (end w) (end w) ≡ false = grind (arith, nat_tests) in
    let then = passes L t (sending w) ss P E (end w) s.until ok inv in
    let st : State = record { longest = L; time = end w; wire = sending w; sessions = ss } in
    let same : w.noted + (end w - w.begun) ≡ w.noted + wire_ticks w.packet.bytes = omega arith in
    let base : Base L (end w) ss (w.noted + wire_ticks w.packet.bytes) (w.noted + wire_ticks w.packet.bytes) = subst (λ n. Base L (end w) ss n (w.noted + wire_ticks w.packet.bytes)) same (subst (Base L (end w) ss (w.noted + (end w - w.begun))) s.free then.base) in
    frees rule safe st (w.noted + wire_ticks w.packet.bytes) (least_finish st) (least_start st) refl refl base

-- a timed call that is neither early nor overdue
pub comes : (st : State) (t P E : ℕ) → bad_clock st t ≡ false → overdue st.wire t ≡ false → Inv st.longest st.time st.wire st.sessions P E → Inv st.longest t st.wire st.sessions (potential st.wire t) E
comes st t P E early late inv = passes st.longest st.time st.wire st.sessions P E t (ltb-false t st.time (or_parts (ltb t st.time) _ early).0) late inv

inside : (st : State) (i P E : ℕ) → leb 32 i ≡ false → Inv st.longest st.time st.wire st.sessions P E → i < length st.sessions
inside st i P E ok inv = omega (arith, leb-false 32 i ok, inv.base.many)

-- depart on a line that sends
departs_any : (rule : ℕ → ℕ → ℕ) → Safe rule → (L t : ℕ) (w : Wire) (ss : List Session) → Kept (record { longest = L; time = t; wire = w; sessions = ss })
    → Kept (depart rule (record { longest = L; time = t; wire = w; sessions = ss }) w).state
departs_any rule safe L t idle ss kept = kept
departs_any rule safe L t (sending w) ss kept = departs rule safe L t w ss kept.0 kept.1 kept.2

pub commits : (choices : ℕ) (rule : ℕ → ℕ → ℕ) → Safe rule → (st : State) (c : Call) → refusal choices st c ≡ None → Kept st → Kept (commit rule st c).state
commits choices rule safe st (Open c) e kept =
    let ok = clear (checks choices st (Open c)) e in
    let P = potential st.wire c.time in (
      P,
      kept.1,
      keeps_open st.longest c.time st.wire st.sessions P kept.1 c.session (inside st c.session kept.0 kept.1 ok.1.1.0 kept.2)
          (comes st c.time kept.0 kept.1 ok.0 ok.1.0 kept.2) c.interval c.places ok.1.1.1.0 (ltb-false P (at st c.session).mark ok.1.1.1.1.0) ok.1.1.1.1.1.0 ok.1.1.1.1.1.1.1.0,
    )
commits choices rule safe st (Close c) e kept =
    let ok = clear (checks choices st (Close c)) e in
    let P = potential st.wire c.time in (
      P,
      kept.1,
      keeps_close st.longest c.time st.wire st.sessions P kept.1 c.session (inside st c.session kept.0 kept.1 ok.1.1.0 kept.2)
          (comes st c.time kept.0 kept.1 ok.0 ok.1.0 kept.2) (or_parts (waits (at st c.session)) _ ok.1.1.1.1.0).0,
    )
commits choices rule safe st (Change c) e kept =
    let ok = clear (checks choices st (Change c)) e in
    let P = potential st.wire c.time in (
      P,
      kept.1,
      keeps_change st.longest c.time st.wire st.sessions P kept.1 c.session (inside st c.session kept.0 kept.1 ok.1.1.0 kept.2)
          (comes st c.time kept.0 kept.1 ok.0 ok.1.0 kept.2) c.interval (not-false _ ok.1.1.1.0) ok.1.1.1.1.0 ok.1.1.1.1.1.0 ok.1.1.1.1.1.1.0,
    )
commits choices rule safe st (Pick c) e kept =
    let ok = clear (checks choices st (Pick c)) e in
    (potential st.wire c.time, kept.1, comes st c.time kept.0 kept.1 ok.0 ok.1.0 kept.2)
commits choices rule safe st (Arrive c) e kept =
    let ok = clear (checks choices st (Arrive c)) e in
    arrives st.longest c.time st.wire st.sessions kept.1 c.session c.bytes (inside st c.session kept.0 kept.1 ok.1.1.0 kept.2)
    (not-false _ ok.1.1.1.0) ok.1.1.1.1.0 (comes st c.time kept.0 kept.1 ok.0 ok.1.0 kept.2)
commits choices rule safe st Depart e kept = departs_any rule safe st.longest st.time st.wire st.sessions kept

keeps_answered : (choices : ℕ) (rule : ℕ → ℕ → ℕ) → Safe rule → (st : State) (c : Call) (o : Option Refusal) → refusal choices st c ≡ o → Kept st → Kept (answered rule st c o).state
keeps_answered choices rule safe st c (Some r) e kept = kept
keeps_answered choices rule safe st c None e kept = commits choices rule safe st c e kept

-- one call
pub keeps : (choices : ℕ) (rule : ℕ → ℕ → ℕ) → Safe rule → (st : State) (c : Call) → Kept st → Kept (step choices rule st c).state
keeps choices rule safe st c kept = keeps_answered choices rule safe st c (refusal choices st c) refl kept

-- a line as it is made
pub kept_made : (setup : Setup) → Kept (made setup)
kept_made setup =
    let at-k : (k : ℕ) → k < 32 → get_or (replicate 32 blank) k blank ≡ blank = λ k lt. get_or-replicate 32 k blank blank lt in
    let n = length-replicate 32 blank in
    let all : (Q : Session → Type 0) → Q blank → Each Q (replicate 32 blank) = λ Q q k lt. subst Q (sym (at-k k (omega (arith, n)))) q in (
      0,
      0,
      record {
        base = record {
          many = n;
          sound = lemma.starts setup.longest (accounts (replicate 32 blank)) 0 (omega arith) (omega arith)
              (each_account (λ a. a.mark ≤ max 0 a.level) (replicate 32 blank) (all (λ s. (account s).mark ≤ max 0 (account s).level) (omega arith)))
              (each_account (λ a. a.waits ≡ true → a.level < a.finish) (replicate 32 blank) (all (λ s. (account s).waits ≡ true → (account s).level < (account s).finish) (λ w. absurd (false≢true w))));
          good = all (Good setup.longest 0 0) (good_still setup.longest 0 0 blank (λ o. absurd (false≢true o)) refl refl);
        };
        wired = (refl, refl, all Still (record { none = refl; last = refl; mark = refl }));
      },
    )
