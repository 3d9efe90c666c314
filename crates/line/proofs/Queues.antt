-- What each call leaves of the heads' stamps, and that a line is sound after it.
use Rattle.std.proofs.Common.{◌≡◌, ℕ, ◌<◌, Bool, true, false, cond, List, map, length, get_or, set, Some, None, Option, sym, refl, ap, ◌∙◌, subst, arith}
use lib.Seq.{map-set_same}
use Rattle.std.proofs.lemmas.List.{get_or-set_same, map-set}
use Rattle.std.proofs.lemmas.Bool.{leb-false, or_parts}
use Rattle.ready.specs.Least.{Keys}
use Rattle.model.specs.declared.calls.Call.{Call}
use Rattle.model.specs.declared.calls.Call.TheVariants.{Open, Close, Change as Changing, Pick, Arrive, Depart}
use Rattle.model.specs.declared.calls.Opening.{Opening}
use Rattle.model.specs.declared.calls.Closing.{Closing}
use Rattle.model.specs.declared.calls.Change.{Change}
use Rattle.model.specs.declared.calls.Choice.{Choice}
use Rattle.model.specs.Answers.{Done, Refused}
use Rattle.model.specs.declared.calls.Refusal.{Refusal}
use Rattle.model.specs.Model.{Session, State, Wire, blank, changed, depart, at, waits, if_waits, finish_key, finish_keys, start_key, start_keys, opened, closed, on_wire, potential, checks, refusal, answered, step, finish}
use Rattle.model.specs.Model.Wire.{idle, sending}
use Rattle.model.specs.Invariants.{Safe, Steady}
use Rattle.model.proofs.Lists.{clear}
use Rattle.model.proofs.Ranges.{goes_on}
use Rattle.line.specs.Sound.{Sound}

-- what is not open has nothing that waits
still : (b w : Bool) → (w ≡ true → b ≡ true) → b ≡ false → w ≡ false
still b true served shut = sym (served refl) ∙ shut
still b false served shut = refl

closed_still : (st : State) (c : Opening) → Steady st → c.session < length st.sessions → refusal 0 st (Open c) ≡ None → waits (at st c.session) ≡ false
closed_still st c steady lt none =
    still (at st c.session).is_open (waits (at st c.session)) (steady.kept.2.base.good c.session lt).served (clear (checks 0 st (Open c)) none).1.1.1.0

-- a session without a head in the place of another has no key either
no_key : (h : Session → ℕ) (s : Session) → waits s ≡ false → if_waits (h s) s ≡ None
no_key h s e = ap (λ b. cond b (Some (record { stamp = h s })) None) e

pub same_keys : (h : Session → ℕ) (ss : List Session) (i : ℕ) (s : Session) → waits (get_or ss i blank) ≡ false → waits s ≡ false
    → map (λ x. if_waits (h x) x) (set ss i s) ≡ map (λ x. if_waits (h x) x) ss
same_keys h ss i s old new = map-set_same (λ x. if_waits (h x) x) ss i s blank (no_key h s new ∙ sym (no_key h (get_or ss i blank) old))

-- where a call leaves the heads alone, its line is sound after it as before
pub still_sound : (finishes starts : Keys) (choices : ℕ) (base : ℕ → ℕ → ℕ) → Safe base → (st : State) (c : Call)
    → finish_keys (step choices base st c).state.sessions ≡ finish_keys st.sessions
    → start_keys (step choices base st c).state.sessions ≡ start_keys st.sessions
    → Sound finishes starts st → Sound finishes starts (step choices base st c).state
still_sound finishes starts choices base safe st c by_finish by_start s =
    record {
      steady = goes_on.at_each choices base safe st c s.steady;
      by_finish = s.by_finish ∙ sym by_finish;
      by_start = s.by_start ∙ sym by_start;
    }

module _ (h : Session → ℕ) (choices : ℕ) (base : ℕ → ℕ → ℕ) (st : State) (steady : Steady st) where
  -- a session that is opened had no head, and has none
  open_kept : (c : Opening) (o : Option Refusal) → refusal choices st (Open c) ≡ o → map (λ x. if_waits (h x) x) (answered base st (Open c) o).state.sessions ≡ map (λ x. if_waits (h x) x) st.sessions
  open_kept c (Some r) is = refl
  open_kept c None is =
      let low = leb-false 32 c.session (clear (checks choices st (Open c)) is).1.1.0 in
      same_keys h st.sessions c.session (opened c.interval c.places (at st c.session))
      (closed_still st c steady (omega (arith, low, steady.kept.2.base.many)) is) refl

  pub open_keys : (c : Opening) → map (λ x. if_waits (h x) x) (step choices base st (Open c)).state.sessions ≡ map (λ x. if_waits (h x) x) st.sessions
  open_keys c = open_kept c (refusal choices st (Open c)) refl

  -- a session that is closed is not busy
  close_kept : (c : Closing) (o : Option Refusal) → refusal choices st (Close c) ≡ o → map (λ x. if_waits (h x) x) (answered base st (Close c) o).state.sessions ≡ map (λ x. if_waits (h x) x) st.sessions
  close_kept c (Some r) is = refl
  close_kept c None is =
      let s = at st c.session in
      let quiet = (or_parts (waits s) (on_wire st.wire c.session) (clear (checks choices st (Close c)) is).1.1.1.1.0).0 in
      same_keys h st.sessions c.session (closed (potential st.wire c.time) s) quiet quiet

  pub close_keys : (c : Closing) → map (λ x. if_waits (h x) x) (step choices base st (Close c)).state.sessions ≡ map (λ x. if_waits (h x) x) st.sessions
  close_keys c = close_kept c (refusal choices st (Close c)) refl

-- the stamps of one session anew, and the others as they were
rekeyed : (h : Session → ℕ) (ss new : List Session) (i : ℕ) (s : Session) → i < length ss → new ≡ set ss i s
    → set (map (λ x. if_waits (h x) x) ss) i (if_waits (h (get_or new i blank)) (get_or new i blank)) ≡ map (λ x. if_waits (h x) x) new
rekeyed h ss new i s lt is =
    let here : get_or new i blank ≡ s = ap (λ l. get_or l i blank) is ∙ get_or-set_same ss i s blank lt in
    ap (λ x. set (map (λ y. if_waits (h y) y) ss) i (if_waits (h x) x)) here ∙ sym (map-set (λ x. if_waits (h x) x) ss i s) ∙ ap (map (λ x. if_waits (h x) x)) (sym is)

-- a call that changes one session leaves a sound line, once that session's stamps are set anew
pub rekeyed_sound : (choices : ℕ) (base : ℕ → ℕ → ℕ) → Safe base → (st : State) (c : Call) (after : State) → after ≡ (step choices base st c).state
    → (i : ℕ) (s : Session) → i < length st.sessions → (step choices base st c).state.sessions ≡ set st.sessions i s
    → (old-f old-s finishes starts : Keys) → Sound old-f old-s st → finishes ≡ set old-f i (finish_key (at after i)) → starts ≡ set old-s i (start_key (at after i)) → Sound finishes starts after
rekeyed_sound choices base safe st c after e i s lt one old-f old-s finishes starts sound by-f by-s =
    let many : after.sessions ≡ set st.sessions i s = ap (λ x. x.sessions) e ∙ one in
    let start : Session → ℕ = λ x. x.start in
    record {
      steady = subst Steady (sym e) (goes_on.at_each choices base safe st c sound.steady);
      by_finish = by-f ∙ ap (λ l. set l i (finish_key (at after i))) sound.by_finish ∙ rekeyed finish st.sessions after.sessions i s lt many;
      by_start = by-s ∙ ap (λ l. set l i (start_key (at after i))) sound.by_start ∙ rekeyed start st.sessions after.sessions i s lt many;
    }

-- a call that is answered as done was not refused, and one that is refused leaves the line as it stood
pub done_accepted : (base : ℕ → ℕ → ℕ) (st : State) (c : Call) (o : Option Refusal) → Done ≡ (answered base st c o).answer → o ≡ None
done_accepted base st c (Some r) e = let z : ◌≡◌ {A = ℕ} 0 1 = cc in absurd (omega arith)
done_accepted base st c None e = refl

departed_same : (base : ℕ → ℕ → ℕ) (st : State) (r : Refusal) (w : Wire) → Refused r ≡ (depart base st w).answer → (depart base st w).state ≡ st
departed_same base st r idle e = let z : ◌≡◌ {A = ℕ} 0 1 = cc in absurd (omega arith)
departed_same base st r (sending w) e = let z : ◌≡◌ {A = ℕ} 0 1 = cc in absurd (omega arith)

refused_same : (base : ℕ → ℕ → ℕ) (st : State) (c : Call) (r : Refusal) (o : Option Refusal) → Refused r ≡ (answered base st c o).answer → (answered base st c o).state ≡ st
refused_same base st c r (Some q) e = refl
refused_same base st (Open c) r None e = let z : ◌≡◌ {A = ℕ} 0 1 = cc in absurd (omega arith)
refused_same base st (Close c) r None e = let z : ◌≡◌ {A = ℕ} 0 1 = cc in absurd (omega arith)
refused_same base st (Changing c) r None e = let z : ◌≡◌ {A = ℕ} 0 1 = cc in absurd (omega arith)
refused_same base st (Pick c) r None e = let z : ◌≡◌ {A = ℕ} 0 1 = cc in absurd (omega arith)
refused_same base st (Arrive c) r None e = let z : ◌≡◌ {A = ℕ} 0 1 = cc in absurd (omega arith)
refused_same base st Depart r None e = departed_same base st r st.wire e

pub change_within : (choices : ℕ) (st : State) (c : Change) → refusal choices st (Changing c) ≡ None → c.session < 32
change_within choices st c none = leb-false 32 c.session (clear (checks choices st (Changing c)) none).1.1.0

-- a pick leaves all sessions as they were
pick_sessions : (base : ℕ → ℕ → ℕ) (st : State) (c : Choice) (o : Option Refusal) → (answered base st (Pick c) o).state.sessions ≡ st.sessions
pick_sessions base st c (Some r) = refl
pick_sessions base st c None = refl

-- the base of calls that ask the rule for none
abbrev pub no_base : ℕ → ℕ → ℕ
no_base s f = 0

pub none_asked : Safe no_base
none_asked s f low high = omega arith

module _ (finishes starts : Keys) (st after : State) (sound : Sound finishes starts st) where
  -- a refused call leaves its line sound
  pub refused_sound : (choices : ℕ) (c : Call) (r : Refusal) → Refused r ≡ (step choices no_base st c).answer → after ≡ (step choices no_base st c).state → Sound finishes starts after
  refused_sound choices c r told is = subst (Sound finishes starts) (sym (is ∙ refused_same no_base st c r (refusal choices st c) told)) sound

  -- and so does one that leaves the heads alone
  pub kept_sound : (choices : ℕ) (c : Call) → after ≡ (step choices no_base st c).state
      → ((h : Session → ℕ) → map (λ x. if_waits (h x) x) (step choices no_base st c).state.sessions ≡ map (λ x. if_waits (h x) x) st.sessions) → Sound finishes starts after
  kept_sound choices c is same =
      let start : Session → ℕ = λ x. x.start in
      subst (Sound finishes starts) (sym is) (still_sound finishes starts choices no_base none_asked st c (same finish) (same start) sound)

  pub opened_sound : (c : Opening) → after ≡ (step 0 no_base st (Open c)).state → Sound finishes starts after
  opened_sound c is = kept_sound 0 (Open c) is (λ h. open_keys h 0 no_base st sound.steady c)

  pub closed_sound : (c : Closing) → after ≡ (step 0 no_base st (Close c)).state → Sound finishes starts after
  closed_sound c is = kept_sound 0 (Close c) is (λ h. close_keys h 0 no_base st sound.steady c)

  pub picked_sound : (choices : ℕ) (c : Choice) → after ≡ (step choices no_base st (Pick c)).state → Sound finishes starts after
  picked_sound choices c is = kept_sound choices (Pick c) is (λ h. ap (map (λ x. if_waits (h x) x)) (pick_sessions no_base st c (refusal choices st (Pick c))))

  -- a change that is done leaves it so once the head's stamps are set anew
  pub changed_sound : (c : Change) (new-f new-s : Keys) → Done ≡ (step 0 no_base st (Changing c)).answer → after ≡ (step 0 no_base st (Changing c)).state
      → new-f ≡ set finishes c.session (finish_key (at after c.session)) → new-s ≡ set starts c.session (start_key (at after c.session)) → Sound new-f new-s after
  changed_sound c new-f new-s told is by-f by-s =
      let none : refusal 0 st (Changing c) ≡ None = done_accepted no_base st (Changing c) (refusal 0 st (Changing c)) told in
      let lt : c.session < length st.sessions = omega (arith, change_within 0 st c none, sound.steady.kept.2.base.many) in
      rekeyed_sound 0 no_base none_asked st (Changing c) after is c.session (changed (potential st.wire c.time) c.time c.interval (at st c.session)) lt
      (ap (λ o. (answered no_base st (Changing c) o).state.sessions) none) finishes starts new-f new-s sound by-f by-s
