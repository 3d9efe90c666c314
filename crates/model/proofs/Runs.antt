-- What holds throughout a run. Assumes nothing.
use Rattle.std.proofs.Common.{◌≡◌, ℕ, ◌+◌, ◌-◌, ◌*◌, ◌<◌, ◌≤◌, true, cond, ◌||◌, eqb, ltb, List, [], ◌∷◌, ◌++◌, length, get_or, Some, None, Option, refl, ap, ◌∙◌, subst, arith}
use Rattle.std.proofs.lemmas.Bool.{eqb-false, leb-false, ltb-false, or_parts}
use Rattle.model.specs.declared.calls.Refusal.{Refusal}
use Rattle.model.specs.declared.calls.Refusal.TheVariants as refused
use Rattle.model.specs.declared.calls.Call.{Call}
use Rattle.model.specs.declared.calls.Call.TheVariants.{Open, Close, Change, Pick, Arrive, Depart}
use Rattle.model.specs.Model.{frame, wire_ticks, Session, blank, Sending, Wire, State, Setup, Acts, Reachable, Lawful, Run, share, waits, first, finish, due, end, checks, refusal, later, arrived, freed, least_finish, least_start, depart, answered, rule_after, outcome, next, make_refusal, new, calls_on, replay}
use Rattle.model.specs.Model.Wire.{idle, sending}
use Rattle.model.specs.Model.Reachable.{unpicked, picked}
use Rattle.ready.specs.declared.entry.Entry.{Entry}
use Rattle.model.specs.Promises.{Throughout, Proper, LeftInTime, OnTime}
use Rattle.accounts.specs.Accounts as A
use Rattle.accounts.specs.Accounts.{none}
use Rattle.accounts.proofs.Lemmas as lemma
use Rattle.std.proofs.lemmas.List.{length-map, get_or-map}
use Rattle.model.proofs.Lists.{clear}
use Rattle.model.specs.Invariants.{account, accounts, Inv, Kept, Safe}
use Rattle.model.proofs.Sessions.{advance_enough, not_waiting}
use Rattle.model.proofs.Steps.{keeps, kept_made}

-- a property of runs that every call keeps
pub along : {X : Type 0} (R : Acts X) (Q : Run X → Type 0) → ((r : Run X) (c : Call) → Q r → Q (next R r c)) → (r : Run X) (cs : List Call) → Q r → Q (calls_on R r cs)
along R Q one r [] q = q
along R Q one r (c ∷ cs) q = along R Q one (next R r c) cs (one r c q)

-- the rule stays one that picks can reach
pub reach : {X : Type 0} (R : Acts X) (x y : X) (st : State) (c : Call) (o : Option Refusal) → refusal (R.choices y) st c ≡ o → Reachable R x y → Reachable R x (rule_after R y c o)
reach R x y st (Open c) o e h = h
reach R x y st (Close c) o e h = h
reach R x y st (Change c) o e h = h
reach R x y st (Pick c) (Some r) e h = h
reach R x y st (Pick c) None e h =
    picked c.number h (leb-false (R.choices y) c.number (clear (checks (R.choices y) st (Pick c)) e).1.1.0)
reach R x y st (Arrive c) o e h = h
reach R x y st Depart o e h = h

-- the longest packet never changes
longest_freed : (base : ℕ → ℕ → ℕ) (st : State) (sum : ℕ) (f s : Option Entry) → (freed base st sum f s).longest ≡ st.longest
longest_freed base st sum None s = refl
longest_freed base st sum (Some f) None = refl
longest_freed base st sum (Some f) (Some s) = refl

longest_depart : (base : ℕ → ℕ → ℕ) (st : State) (w : Wire) → (depart base st w).state.longest ≡ st.longest
longest_depart base st idle = refl
longest_depart base st (sending w) = longest_freed base (later st (end w)) (w.noted + wire_ticks w.packet.bytes) (least_finish (later st (end w))) (least_start (later st (end w)))

longest_arrived : (w : Wire) (st : State) (i bytes : ℕ) → (arrived w st i bytes).longest ≡ st.longest
longest_arrived idle st i bytes = refl
longest_arrived (sending w) st i bytes = refl

pub longest_answered : (base : ℕ → ℕ → ℕ) (st : State) (c : Call) (o : Option Refusal) → (answered base st c o).state.longest ≡ st.longest
longest_answered base st c (Some r) = refl
longest_answered base st (Open c) None = refl
longest_answered base st (Close c) None = refl
longest_answered base st (Change c) None = refl
longest_answered base st (Pick c) None = refl
longest_answered base st (Arrive c) None = longest_arrived st.wire (later st c.time) c.session c.bytes
longest_answered base st Depart None = longest_depart base st st.wire

-- what leaves was on the wire in time
leaves_depart : (base : ℕ → ℕ → ℕ) (st : State) (w : Wire) → ((v : Sending) → w ≡ sending v → end v ≤ v.due + st.longest) → LeftInTime st.longest (depart base st w).answer
leaves_depart base st idle h = tt
leaves_depart base st (sending w) h = h w refl

leaves : (base : ℕ → ℕ → ℕ) (st : State) (c : Call) (o : Option Refusal) → ((v : Sending) → st.wire ≡ sending v → end v ≤ v.due + st.longest) → LeftInTime st.longest (answered base st c o).answer
leaves base st c (Some r) h = tt
leaves base st (Open c) None h = tt
leaves base st (Close c) None h = tt
leaves base st (Change c) None h = tt
leaves base st (Pick c) None h = tt
leaves base st (Arrive c) None h = tt
leaves base st Depart None h = leaves_depart base st st.wire h

-- a state in which the invariant holds has nothing late
pub wire_in_time : (L t : ℕ) (w : Wire) (ss : List Session) (P E : ℕ) → Inv L t w ss P E → (v : Sending) → w ≡ sending v → end v ≤ v.due + L
wire_in_time L t w ss P E inv v e = let s = subst (λ u. Inv L t u ss P E) e inv in s.wired.on_time

head_in_time : (L t : ℕ) (w : Wire) (ss : List Session) (P E k : ℕ) → Inv L t w ss P E → k < length ss → waits (get_or ss k blank) ≡ true → t ≤ due (get_or ss k blank) + L
head_in_time L t idle ss P E k inv lt w = absurd (not_waiting (get_or ss k blank) (inv.wired.2 k lt).none w)
head_in_time L t (sending v) ss P E k inv lt w =
    let s = get_or ss k blank in
    let is : A.at (accounts ss) k ≡ account s = get_or-map account ss k blank none lt in
    let g = inv.base.good k lt in
    let f = inv.wired in
    let ticks = wire_ticks (first s.waiting).bytes in
    let level : (account s).level ≡ s.start = ap (λ b. cond b s.start s.last_finish) w in
    let enough : frame * ticks ≤ share s * (finish s - (account s).level) =
    subst (λ n. frame * ticks ≤ share s * n) (omega (arith, level)) (advance_enough (first s.waiting).bytes s.interval (share s) (g.divides (g.served w)).1) in
    let by = lemma.on_time L (accounts ss) k P E ticks t (end v) (due s) (omega (arith, length-map ss account)) (rw is w) (rw is enough) inv.base.sound.covered
    (omega (arith, f.now, f.free, f.begun)) (rw is (omega (arith, g.head w))) in
    omega (arith, by, f.until)

-- what every call keeps
pub record Held {X : Type 0} (R : Acts X) (x : X) (longest : ℕ) (r : Run X) : Type 0 where
  pub reached : Reachable R x r.rule
  pub long : r.state.longest ≡ longest
  pub kept : Kept r.state
  pub gone : Throughout (λ e before. LeftInTime longest e.answer) r.history

pub held_next : {X : Type 0} (R : Acts X) (x : X) (longest : ℕ) → Lawful R x → (r : Run X) (c : Call) → Held R x longest r → Held R x longest (next R r c)
held_next R x longest law r c h =
    let y = r.rule in
    let st = r.state in
    let k = h.kept in
    let safe : Safe (R.means y) = law y h.reached in
    let out = leaves (R.means y) st c (refusal (R.choices y) st c) (wire_in_time st.longest st.time st.wire st.sessions k.0 k.1 k.2) in
    record {
      reached = reach R x y st c (refusal (R.choices y) st c) refl h.reached;
      long = longest_answered (R.means y) st c (refusal (R.choices y) st c) ∙ h.long;
      kept = keeps (R.choices y) (R.means y) safe st c k;
      gone = (subst (λ n. LeftInTime n (outcome R r c).answer) h.long out, h.gone);
    }

pub held : {X : Type 0} (R : Acts X) (x : X) (setup : Setup) (calls : List Call) → Lawful R x → Held R x setup.longest (replay R x setup calls)
held R x setup calls law =
    along R (Held R x setup.longest) (held_next R x setup.longest law) (new x setup) calls
    (record { reached = unpicked; long = refl; kept = kept_made setup; gone = tt })

pub on_time : (X : Type 0) → OnTime X
on_time X R x setup calls law proper =
    let r = replay R x setup calls in
    let h = held R x setup calls law in
    let st = r.state in
    let k = h.kept in
    record {
      wire = λ w e. omega (arith, wire_in_time st.longest st.time st.wire st.sessions k.0 k.1 k.2 w e, h.long);
      heads = λ i lt w. omega (arith, head_in_time st.longest st.time st.wire st.sessions k.0 k.1 i k.2 (omega (arith, k.2.base.many)) w, h.long);
      gone = h.gone;
    }

-- a line that is made is proper
pub made_proper : (longest : ℕ) → make_refusal longest ≡ None → Proper (record { longest = longest })
made_proper longest none =
    let ok = or_parts (eqb longest 0) (ltb 9216 longest) (clear ((eqb longest 0 || ltb 9216 longest, refused.Longest) ∷ []) none).0 in
    (omega (arith, eqb-false longest 0 ok.0), ltb-false 9216 longest ok.1)

-- one call more at the end of a list
pub calls_push : {X : Type 0} (R : Acts X) (r : Run X) (cs : List Call) (c : Call) → calls_on R r (cs ++ (c ∷ [])) ≡ next R (calls_on R r cs) c
calls_push R r [] c = refl
calls_push R r (d ∷ cs) c = calls_push R (next R r d) cs c
