-- The least finish goes next: what the choice of the least says of it, and the law of the rule.
use Rattle.std.proofs.Common.{◌≡◌, ℕ, ◌<◌, max, true, false, cond, ◌⊎◌, List, length, get_or, Some, None, Option, sym, refl, ap, ◌∙◌, subst, inl, inr, arith}
use Rattle.std.proofs.lemmas.List.{get_or-map}
use Rattle.std.proofs.lemmas.Bool.{cases_lt, leb-false}
use Rattle.ready.specs.declared.key.Key.{Key}
use Rattle.ready.specs.declared.entry.Entry.{Entry}
use Rattle.ready.specs.Keys.{no_later}
use Rattle.ready.specs.Least.{least}
use Rattle.ready.proofs.Firsts.{least_law}
use Rattle.model.specs.declared.calls.Call.TheVariants.{Depart}
use Rattle.model.specs.Model.{Session, blank, Sending, Wire, State, waits, finish, end, later, finish_key, finish_keys, least_finish, least_start, freed, step, replay}
use Rattle.model.specs.Model.Wire.{sending}
use Rattle.model.specs.Invariants.{Base, Kept, Safe}
use Rattle.model.proofs.Steps.{chosen, nobody_waits, base_low}
use Rattle.model.proofs.Runs.{held}
use Rattle.examples.specs.Next.{sum, BelowStarts, Follows}
use Rattle.examples.proofs.next_packet_law.Goals as goal

-- a later key has the greater stamp
later_key : (a b : Key) → no_later a b ≡ false → b.stamp < a.stamp
unfolding no_later
later_key a b is = leb-false a.stamp b.stamp is

-- the heads of the sessions below that of the least finish
lower_heads : (ss : List Session) (f : Entry) → least (finish_keys ss) ≡ Some f → (i : ℕ) → i < f.session → i < length ss → waits (get_or ss i blank) ≡ true → f.key.stamp < finish (get_or ss i blank)
lower_heads ss f is i low lt w =
    let key : Key = record { stamp = finish (get_or ss i blank) } in
    let stands : get_or (finish_keys ss) i None ≡ Some key = get_or-map finish_key ss i blank None lt ∙ ap (λ b. cond b (Some key) None) w in
    later_key key f.key ((((least_law (finish_keys ss)).0 f).0 is).lowest i key low stands)

-- the potential stays at the sum, or is lifted to the base
lift : (st : State) (w : Sending) (base : ℕ) → BelowStarts st base → (max (sum w) base ≡ sum w) ⊎ ((sum w < max (sum w) base) × BelowStarts st (max (sum w) base))
lift st w base low =
    elim (cases_lt (sum w) base) [
      | inl up ↦ inr (omega arith, λ i lt waiting. omega (arith, low i lt waiting))
      | inr down ↦ inl (omega arith)
    ]

-- the wire is free
follows : (rule : ℕ → ℕ → ℕ) → Safe rule → (st : State) (w : Sending) (P E : ℕ) (f s : Option Entry) → least_finish st ≡ f → least_start st ≡ s
    → Base st.longest st.time st.sessions P E → Follows st w (freed rule (later st (end w)) (sum w) f s).wire
follows rule safe st w P E None s is_f is-s base = λ i lt. nobody_waits st.sessions finish is_f i (omega (arith, base.many))
follows rule safe st w P E (Some f) None is_f is-s base = λ i lt. nobody_waits st.sessions (λ s. s.start) is-s i (omega (arith, base.many))
follows rule safe st w P E (Some f) (Some s) is_f is-s base =
    let F = chosen st.sessions finish f is_f in
    let S = chosen st.sessions (λ s. s.start) s is-s in
    let law = base_low rule safe st P E f s is_f is-s base in
    record {
      session = omega (arith, F.inside, base.many);
      waited = F.waiting;
      packet = refl;
      due = refl;
      begun = refl;
      least = λ i lt waiting. omega (arith, F.least i (omega (arith, base.many)) waiting, F.key);
      lowest = λ i low waiting. omega (arith, lower_heads st.sessions f is_f i low (omega (arith, F.inside)) waiting, F.key);
      noted = lift st w (rule s.key.stamp f.key.stamp) (λ i lt waiting. omega (arith, S.least i (omega (arith, base.many)) waiting, law));
    }

-- a departure from a wire that sends w
departs : (choices : ℕ) (rule : ℕ → ℕ → ℕ) → Safe rule → (L t : ℕ) (v : Wire) (ss : List Session) (w : Sending) → v ≡ sending w → Kept (record { longest = L; time = t; wire = v; sessions = ss })
    → Follows (record { longest = L; time = t; wire = v; sessions = ss }) w (step choices rule (record { longest = L; time = t; wire = v; sessions = ss }) Depart).state.wire
departs choices rule safe L t v ss w is =
    let line : Wire → State = λ u. record { longest = L; time = t; wire = u; sessions = ss } in
    subst (λ u. Kept (line u) → Follows (line u) w (step choices rule (line u) Depart).state.wire) (sym is)
    (λ kept. follows rule safe (line (sending w)) w kept.0 kept.1 (least_finish (line (sending w))) (least_start (line (sending w))) refl refl kept.2.base)

pub returns : goal.returns
returns g c = λ R x setup calls w law is.
    let r = replay R x setup calls in
    let h = held R x setup calls law in
    let st = r.state in
    departs (R.choices r.rule) (R.means r.rule) (law r.rule h.reached) st.longest st.time st.wire st.sessions w is h.kept
