-- A due time is never above the arrival and the burst figure. Assumes nothing.
use Rattle.std.proofs.Common.{◌≡◌, ℕ, ◌+◌, ◌-◌, ◌≤◌, max, true, false, cond, eqb, List, [], ◌∷◌, ◌++◌, take, Some, None, Option, sym, refl, ap, ◌∙◌, subst, arith}
use Rattle.std.proofs.lemmas.List.{append_assoc, map-append}
use Rattle.std.proofs.lemmas.Bool.Decides.{nat_tests}
use Rattle.model.specs.declared.calls.Refusal.{Refusal}
use Rattle.model.specs.declared.calls.Call.{Call}
use Rattle.model.specs.declared.calls.Call.TheVariants.{Open, Close, Change, Pick, Arrive, Depart}
use Rattle.model.specs.Model.{advance, Sending, Wire, State, Setup, Acts, Lawful, Event, Run, Session, end, depart, answered, refusal, outcome, next, new}
use Rattle.model.specs.Model.Wire.{idle, sending}
use Rattle.model.specs.Promises.{Past, past, Throughout, Proper, WithinBurst, BurstBound, Promised}
use Rattle.model.specs.Bursts.{windows, burst, brought}
use Rattle.model.specs.declared.calls.Parcel.{Parcel}
use Rattle.model.specs.History.{parcel, parcels, carried, due_after}
use Rattle.model.proofs.Lists.{Every}
use Rattle.model.proofs.Tracks.{Ordered, Track}
use Rattle.model.proofs.Runs.{along, wire_in_time, on_time}
use Rattle.model.proofs.Histories.{Told, Known, known_next, known, no_place_lost}

-- what packets bring in all
abbrev total : ℕ → List Parcel → ℕ
total n [] = 0
total n (x ∷ xs) = advance x.bytes n + total n xs

-- the window up to the last packet counts
last_window : (n first sum : ℕ) (xs : List Parcel) (y : Parcel) → (sum + total n (xs ++ (y ∷ []))) - (y.arrival - first) ≤ windows first sum (brought n (xs ++ (y ∷ [])))
last_window n first sum [] y = omega arith
last_window n first sum (x ∷ xs) y = omega (arith, last_window n first (sum + advance x.bytes n) xs y)

last_of : (Q : Parcel → Type 0) (xs : List Parcel) (y : Parcel) → Every Q (xs ++ (y ∷ [])) → Q y
last_of Q [] y h = h.0
last_of Q (x ∷ xs) y h = last_of Q xs y h.1

-- all that came since the first is in a window
whole : (n : ℕ) (x : Parcel) (xs : List Parcel) (y : Parcel) → x.arrival ≤ y.arrival
    → x.arrival + (advance x.bytes n + total n (xs ++ (y ∷ []))) ≤ y.arrival + windows x.arrival 0 (brought n (x ∷ (xs ++ (y ∷ []))))
whole n x xs y le = omega (arith, last_window n x.arrival (0 + advance x.bytes n) xs y)

-- from a last due of d
due_from : (n d : ℕ) (xs : List Parcel) (y : Parcel) → Ordered (xs ++ (y ∷ []))
    → due_after n d (xs ++ (y ∷ [])) ≤ max (d + total n (xs ++ (y ∷ []))) (y.arrival + burst (brought n (xs ++ (y ∷ []))))
due_from n d [] y o = omega arith
due_from n d (x ∷ xs) y o =
    omega (arith, due_from n (max d x.arrival + advance x.bytes n) xs y o.1, whole n x xs y (last_of (λ z. x.arrival ≤ z.arrival) xs y o.0))

all_in : (n : ℕ) (xs : List Parcel) (y : Parcel) → Ordered (xs ++ (y ∷ [])) → total n (xs ++ (y ∷ [])) ≤ y.arrival + burst (brought n (xs ++ (y ∷ [])))
all_in n [] y o = omega arith
all_in n (x ∷ xs) y o = omega (arith, whole n x xs y (last_of (λ z. x.arrival ≤ z.arrival) xs y o.0))

-- a due time, the last due being 0 at first
due_in : (n : ℕ) (xs : List Parcel) (y : Parcel) → Ordered (xs ++ (y ∷ [])) → due_after n 0 (xs ++ (y ∷ [])) ≤ y.arrival + burst (brought n (xs ++ (y ∷ [])))
due_in n xs y o = omega (arith, due_from n 0 xs y o, all_in n xs y o)

-- later packets only add windows
windows_more : (first sum : ℕ) (xs ys : List (ℕ × ℕ)) → windows first sum xs ≤ windows first sum (xs ++ ys)
windows_more first sum [] ys = omega arith
windows_more first sum (x ∷ xs) ys = omega (arith, windows_more first (sum + x.0) xs ys)

burst_more : (xs ys : List (ℕ × ℕ)) → burst xs ≤ burst (xs ++ ys)
burst_more [] ys = omega arith
burst_more (x ∷ xs) ys = omega (arith, windows_more x.1 0 (x ∷ xs) ys, burst_more xs ys)

every_front : (Q : Parcel → Type 0) (xs ys : List Parcel) → Every Q (xs ++ ys) → Every Q xs
every_front Q [] ys h = tt
every_front Q (x ∷ xs) ys h = (h.0, every_front Q xs ys h.1)

ordered_front : (xs ys : List Parcel) → Ordered (xs ++ ys) → Ordered xs
ordered_front [] ys o = tt
ordered_front (x ∷ xs) ys o = (every_front (λ z. x.arrival ≤ z.arrival) xs ys o.0, ordered_front xs ys o.1)

-- the packet on the wire
on_wire_in : (i t : ℕ) (w : Sending) (s : Session) (p : Past) → eqb w.session i ≡ true → p.is_changed ≡ false → Track i t (sending w) s p
    → w.due ≤ w.packet.arrival + burst (brought p.interval p.accepted)
on_wire_in i t w s p mine same k =
    let up = k.used mine in
    let x = parcel w.packet in
    let c : carried i (sending w) ≡ x ∷ [] = ap (λ b. cond b (x ∷ []) []) mine in
    let order : p.accepted ≡ (p.departed ++ (x ∷ [])) ++ parcels s.waiting =
    k.order ∙ ap (λ l. p.departed ++ (l ++ parcels s.waiting)) c ∙ sym (append_assoc p.departed (x ∷ []) (parcels s.waiting)) in
    let o = ordered_front (p.departed ++ (x ∷ [])) (parcels s.waiting) (subst Ordered order k.ordered) in
    let last : w.due ≡ due_after p.interval 0 (p.departed ++ (x ∷ [])) = k.wire_due mine ∙ k.last up same ∙ ap (λ l. due_after p.interval 0 (p.departed ++ l)) c in
    let more : burst (brought p.interval (p.departed ++ (x ∷ []))) ≤ burst (brought p.interval p.accepted) =
    subst (λ l. burst (brought p.interval (p.departed ++ (x ∷ []))) ≤ burst l) (sym (ap (brought p.interval) order ∙ map-append _ (p.departed ++ (x ∷ [])) (parcels s.waiting))) (burst_more (brought p.interval (p.departed ++ (x ∷ []))) (brought p.interval (parcels s.waiting))) in
    omega (arith, last, due_in p.interval p.departed x o, more)

within_depart : (base : ℕ → ℕ → ℕ) (L t : ℕ) (w : Wire) (ss : List Session) (before : List Event)
    → ((v : Sending) → w ≡ sending v → end v ≤ v.due + L) → Told (record { longest = L; time = t; wire = w; sessions = ss }) (λ i. past i before)
    → WithinBurst L (depart base (record { longest = L; time = t; wire = w; sessions = ss }) w).answer before
within_depart base L t idle ss before h told = tt
within_depart base L t (sending w) ss before h told =
    λ same. omega (arith, h w refl, on_wire_in w.session t w _ (past w.session before) (grind (arith, nat_tests)) same (told w.session))

within : (base : ℕ → ℕ → ℕ) (st : State) (c : Call) (o : Option Refusal) (before : List Event) → ((v : Sending) → st.wire ≡ sending v → end v ≤ v.due + st.longest)
    → Told st (λ i. past i before) → WithinBurst st.longest (answered base st c o).answer before
within base st c (Some r) before h told = tt
within base st (Open c) None before h told = tt
within base st (Close c) None before h told = tt
within base st (Change c) None before h told = tt
within base st (Pick c) None before h told = tt
within base st (Arrive c) None before h told = tt
within base st Depart None before h told = within_depart base st.longest st.time st.wire st.sessions before h told

record Bound {X : Type 0} (R : Acts X) (x : X) (longest : ℕ) (r : Run X) : Type 0 where
  knows : Known R x longest r
  bound : Throughout (λ e before. WithinBurst longest e.answer before) r.history

bound_next : {X : Type 0} (R : Acts X) (x : X) (longest : ℕ) → Lawful R x → (r : Run X) (c : Call) → Bound R x longest r → Bound R x longest (next R r c)
bound_next R x longest law r c b =
    let st = r.state in
    let k = b.knows in
    let h = k.holds.kept in
    let out = within (R.means r.rule) st c (refusal (R.choices r.rule) st c) r.history (wire_in_time st.longest st.time st.wire st.sessions h.0 h.1 h.2) k.told in
    record {
      knows = known_next R x longest law r c k;
      bound = (subst (λ n. WithinBurst n (outcome R r c).answer r.history) k.holds.long out, b.bound);
    }

pub burst_bound : (X : Type 0) → BurstBound X
burst_bound X R x setup calls law proper =
    (along R (Bound R x setup.longest) (bound_next R x setup.longest law) (new x setup) calls (record { knows = known R x setup [] law; bound = tt })).bound

-- the three together
pub promised : {X : Type 0} (R : Acts X) (x : X) (setup : Setup) (calls : List Call) → Lawful R x → Proper setup → Promised R x setup calls
promised {X} R x setup calls law proper =
    record {
      on_time = λ k. on_time X R x setup (take k calls) law proper;
      burst_bound = burst_bound X R x setup calls law proper;
      no_place_lost = λ k a f. no_place_lost X R x setup (take k calls) a law proper f;
    }
