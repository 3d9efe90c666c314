-- A session's head goes on the wire, as the code makes it, and an arrival at rest, whose session joins and sends in one.
use Rattle.std.proofs.Common.{◌≡◌, ℕ, ◌<◌, List, length, get_or, set, None, sym, refl, ap, ◌∙◌, subst}
use Rattle.std.proofs.lemmas.List.{get_or_default, get_or-set_same, set-set}
use Rattle.model.specs.declared.calls.Arrival.{Arrival}
use Rattle.model.specs.declared.calls.Call.TheVariants.{Arrive}
use Rattle.model.specs.Model.{Session, Sending, State, answered, arrived, blank, joined, later, refusal, sent}
use Rattle.model.specs.Model.Wire.{idle, sending}
use Rattle.model.specs.Invariants.{Steady}
use Rattle.line.specs.Needed.{Light, head_sent}
use Rattle.line.specs.Views.{after}
use Rattle.line.proofs.Steadies.{kept, light}

-- a line with this packet on the wire and this session in its place
abbrev pub moved : State → ℕ → ℕ → Sending → Session → State
moved st i t w s = record { longest = st.longest; time = t; wire = sending w; sessions = set st.sessions i s }

abbrev pub joins : Arrival → Session → Session
joins c s = joined s s.waiting (record { bytes = c.bytes; arrival = c.time; entry = 0 })

-- the arrival's session has the packet, and its head is sent
accepted : (st : State) (c : Arrival) (d : Session) → st.wire ≡ idle → c.session < length st.sessions → None ≡ refusal 0 st (Arrive c)
    → let s = joins c (get_or st.sessions c.session d) in moved st c.session c.time (head_sent c.session 0 c.time s) (sent s) ≡ after st (Arrive c)
accepted st c d rest lt none =
    let i = c.session in
    let s = joins c (get_or st.sessions i blank) in
    let sends : Session → State = λ x. moved st i c.time (head_sent i 0 c.time x) (sent x) in
    let x = get_or (set st.sessions i s) i blank in
    let line : List Session → State = λ ss. record { longest = st.longest; time = c.time; wire = sending (head_sent i 0 c.time x); sessions = ss } in
    ap (λ y. sends (joins c y)) (get_or_default st.sessions i d blank lt)
    ∙ ap sends (sym (get_or-set_same st.sessions i s blank lt))
    ∙ ap line (sym (set-set st.sessions i s (sent x)))
    ∙ ap (λ v. arrived v (later st c.time) i c.bytes) (sym rest)
    ∙ ap (λ o. (answered (λ s f. 0) st (Arrive c) o).state) none

module _ (st now : State) (c : Arrival) (i : ℕ) (d s : Session) (same : st ≡ now) (rest : now.wire ≡ idle) (place : i ≡ c.session) (lt : i < length st.sessions)
    (none : None ≡ refusal 0 now (Arrive c)) (is : s ≡ joins c (get_or st.sessions i d)) (steady : Steady st) where
  pub begun : (w : Sending) (t : Session) → w ≡ head_sent i 0 c.time s → t ≡ sent s → moved st i c.time w t ≡ after now (Arrive c)
  begun w t e f =
      let sends : State → ℕ → Session → State = λ x k y. moved x k c.time (head_sent k 0 c.time y) (sent y) in
      ap (λ v. moved st i c.time v t) e ∙ ap (moved st i c.time (head_sent i 0 c.time s)) f
      ∙ ap (sends st i) is ∙ ap (λ k. sends st k (joins c (get_or st.sessions k d))) place
      ∙ ap (λ x. sends x c.session (joins c (get_or x.sessions c.session d))) same
      ∙ accepted now c d rest (subst (λ x. c.session < length x.sessions) same (subst (λ k. k < length st.sessions) place lt)) none

  pub begun_light : Light (head_sent i 0 c.time s)
  begun_light = light (after now (Arrive c)) (kept 0 st now (Arrive c) same steady _ refl) (head_sent i 0 c.time s) (sym (ap (λ x. x.wire) (begun _ _ refl refl)))
