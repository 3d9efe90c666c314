-- A session and its history: what was accepted has departed, is on the wire, or waits. Assumes nothing.
use Rattle.std.proofs.Common.{◌≡◌, ℕ, ◌+◌, ◌<◌, ◌≤◌, max, Bool, true, false, cond, eqb, List, [], ◌∷◌, ◌++◌, length, get_or, set, sym, refl, ap, ◌∙◌, subst, arith}
use Rattle.std.proofs.lemmas.List.{append-nil, append_assoc, map-append, get_or-set_same, get_or-set_other}
use Rattle.std.proofs.lemmas.Bool.{false≢true, true≢false, eqb-true, eqb-false}
use Rattle.std.proofs.lemmas.Bool.Decides.{nat_tests}
use Rattle.model.specs.declared.calls.Packet.{Packet}
use Rattle.model.specs.declared.calls.Opening.{Opening}
use Rattle.model.specs.Model.{advance, Session, blank, Sending, Wire, some, waits, first, behind, finish, due, on_wire, opened, closed, changed, headed, joined, sent, rested}
use Rattle.model.specs.Model.Wire.{idle, sending}
use Rattle.model.specs.Promises.{Past, opens, closes, changes, accepts, leaves}
use Rattle.model.specs.declared.calls.Parcel.{Parcel}
use Rattle.model.specs.History.{parcel, parcels, carried, due_after}
use Rattle.model.proofs.Lists.{Every, every_map, every-push}
use Rattle.model.proofs.Sessions.{nobody}

pub due_push : (interval d : ℕ) (xs : List Parcel) (y : Parcel) → due_after interval d (xs ++ (y ∷ [])) ≡ max (due_after interval d xs) y.arrival + advance y.bytes interval
due_push interval d [] y = refl
due_push interval d (x ∷ xs) y = due_push interval (max d x.arrival + advance x.bytes interval) xs y

-- arrivals in their order, none after t
abbrev pub Ordered : List Parcel → Type 0
Ordered [] = Unit {0}
Ordered (x ∷ xs) = Every (λ y. x.arrival ≤ y.arrival) xs × Ordered xs

pub ordered_push : (xs : List Parcel) (y : Parcel) → Ordered xs → Every (λ x. x.arrival ≤ y.arrival) xs → Ordered (xs ++ (y ∷ []))
ordered_push [] y o e = (tt, tt)
ordered_push (x ∷ xs) y o e = (every-push (λ z. x.arrival ≤ z.arrival) xs y o.0 e.0, ordered_push xs y o.1 e.1)

abbrev WireDue : ℕ → Wire → ℕ → Type 0
WireDue i idle d = Unit {0}
WireDue i (sending w) d = eqb w.session i ≡ true → w.due ≡ d

pub record Track (i t : ℕ) (wire : Wire) (s : Session) (p : Past) : Type 0 where
  pub up : p.is_open ≡ s.is_open
  pub used : on_wire wire i ≡ true → s.is_open ≡ true
  pub places : s.is_open ≡ true → p.places ≡ s.places
  pub interval : s.is_open ≡ true → p.is_changed ≡ false → p.interval ≡ s.interval
  pub order : p.accepted ≡ p.departed ++ (carried i wire ++ parcels s.waiting)
  pub early : Every (λ x. x.arrival ≤ t) p.accepted
  pub ordered : Ordered p.accepted
  pub last : s.is_open ≡ true → p.is_changed ≡ false → s.last_due ≡ due_after p.interval 0 (p.departed ++ carried i wire)
  pub head : s.is_open ≡ true → p.is_changed ≡ false → waits s ≡ true → s.due_start ≡ max s.last_due (first s.waiting).arrival
  pub wire_due : WireDue i wire s.last_due

-- time passes
pub track_later : (i t t' : ℕ) (wire : Wire) (s : Session) (p : Past) → t ≤ t' → Track i t wire s p → Track i t' wire s p
track_later i t t' wire s p le k =
    record {
      up = k.up;
      used = k.used;
      places = k.places;
      interval = k.interval;
      order = k.order;
      early = every_map (λ x. x.arrival ≤ t) (λ x. x.arrival ≤ t') (λ x h. omega arith) p.accepted k.early;
      ordered = k.ordered;
      last = k.last;
      head = k.head;
      wire_due = k.wire_due;
    }

none_carried : (i : ℕ) (wire : Wire) → on_wire wire i ≡ false → carried i wire ≡ []
none_carried i idle h = refl
none_carried i (sending w) h = ap (λ b. cond b (parcel w.packet ∷ []) []) h

free_due : (i : ℕ) (wire : Wire) (d : ℕ) → on_wire wire i ≡ false → WireDue i wire d
free_due i idle d h = tt
free_due i (sending w) d h = λ hit. absurd (false≢true (sym h ∙ hit))

unused : (b : Bool) (o : Bool) → (b ≡ true → o ≡ true) → o ≡ false → b ≡ false
unused true o h shut = sym (h refl) ∙ shut
unused false o h shut = refl

-- opened
pub track_opened : (i t : ℕ) (wire : Wire) (s : Session) (p : Past) (c : Opening) → s.is_open ≡ false → Track i t wire s p → Track i t wire (opened c.interval c.places s) (opens c p)
track_opened i t wire s p c shut k =
    let free = unused (on_wire wire i) s.is_open k.used shut in
    let none = none_carried i wire free in
    record {
      up = refl;
      used = λ w. refl;
      places = λ o. refl;
      interval = λ o u. refl;
      order = sym (append-nil (carried i wire) ∙ none);
      early = tt;
      ordered = tt;
      last = λ o u. ap (due_after c.interval 0) (sym none);
      head = λ o u w. absurd (false≢true w);
      wire_due = free_due i wire 0 free;
    }

-- closed
pub track_closed : (i t P : ℕ) (wire : Wire) (s : Session) (p : Past) → waits s ≡ false → on_wire wire i ≡ false → Track i t wire s p → Track i t wire (closed P s) (closes p)
track_closed i t P wire s p idle-here free k =
    record {
      up = refl;
      used = λ w. absurd (false≢true (sym free ∙ w));
      places = λ o. absurd (false≢true o);
      interval = λ o u. absurd (false≢true o);
      order = sym (ap (λ c. c ++ parcels s.waiting) (none_carried i wire free) ∙ ap parcels (nobody s.waiting idle-here));
      early = tt;
      ordered = tt;
      last = λ o u. absurd (false≢true o);
      head = λ o u w. absurd (false≢true o);
      wire_due = free_due i wire s.last_due free;
    }

-- changed
pub track_changed : (i t P u interval : ℕ) (wire : Wire) (s : Session) (p : Past) → Track i t wire s p → Track i t wire (changed P u interval s) (changes p)
track_changed i t P u interval wire s p k =
    record {
      up = k.up;
      used = k.used;
      places = k.places;
      interval = λ o same. absurd (true≢false same);
      order = k.order;
      early = k.early;
      ordered = k.ordered;
      last = λ o same. absurd (true≢false same);
      head = λ o same w. absurd (true≢false same);
      wire_due = k.wire_due;
    }

-- one packet more
waiting_joined : (s : Session) (ps : List Packet) (x : Packet) → (joined s ps x).waiting ≡ ps ++ (x ∷ [])
waiting_joined s [] x = refl
waiting_joined s (q ∷ qs) x = refl

pub track_joined : (i t : ℕ) (wire : Wire) (s : Session) (p : Past) (ps : List Packet) (x : Packet) → s.waiting ≡ ps → x.arrival ≡ t → Track i t wire s p → Track i t wire (joined s ps x) (accepts (parcel x) p)
track_joined i t wire s p ps x is now k =
    let all = every-push (λ y. y.arrival ≤ t) p.accepted (parcel x) k.early (omega (arith, now)) in
    let o = ordered_push p.accepted (parcel x) k.ordered (subst (λ n. Every (λ y. y.arrival ≤ n) p.accepted) (sym now) k.early) in
    let order : p.accepted ++ (parcel x ∷ []) ≡ p.departed ++ (carried i wire ++ parcels (ps ++ (x ∷ []))) =
    ap (λ l. l ++ (parcel x ∷ [])) (k.order ∙ ap (λ l. p.departed ++ (carried i wire ++ parcels l)) is) ∙ append_assoc p.departed (carried i wire ++ parcels ps) (parcel x ∷ [])
    ∙ ap (λ l. p.departed ++ l) (append_assoc (carried i wire) (parcels ps) (parcel x ∷ []) ∙ ap (λ l. carried i wire ++ l) (sym (map-append parcel ps (x ∷ [])))) in
    go ps is order all o
  where
    go : (ps : List Packet) → s.waiting ≡ ps → p.accepted ++ (parcel x ∷ []) ≡ p.departed ++ (carried i wire ++ parcels (ps ++ (x ∷ [])))
        → Every (λ y. y.arrival ≤ t) (p.accepted ++ (parcel x ∷ [])) → Ordered (p.accepted ++ (parcel x ∷ [])) → Track i t wire (joined s ps x) (accepts (parcel x) p)
    go [] is order all o =
        record { up = k.up; used = k.used; places = k.places; interval = k.interval; order = order; early = all; ordered = o; last = k.last; head = λ o u w. refl; wire_due = k.wire_due }
    go (q ∷ qs) is order all o =
        record {
          up = k.up;
          used = k.used;
          places = k.places;
          interval = k.interval;
          order = order;
          early = all;
          ordered = o;
          last = k.last;
          head = λ o u w. k.head o u (ap some is) ∙ ap (λ l. max s.last_due (first l).arrival) is;
          wire_due = k.wire_due;
        }

-- the packet on the wire departs
leaves_if : (b : Bool) → Parcel → Past → Past
leaves_if b x p = cond b (leaves x p) p

gone : (b : Bool) (x : Parcel) (p : Past) → (cond b (leaves x p) p).departed ≡ p.departed ++ cond b (x ∷ []) []
gone true x p = refl
gone false x p = sym (append-nil p.departed)

same_up : (b : Bool) (x : Parcel) (p : Past) → ((cond b (leaves x p) p).is_open ≡ p.is_open) × ((cond b (leaves x p) p).interval ≡ p.interval) × ((cond b (leaves x p) p).places ≡ p.places)
    × ((cond b (leaves x p) p).is_changed ≡ p.is_changed) × ((cond b (leaves x p) p).accepted ≡ p.accepted)
same_up true x p = (refl, refl, refl, refl, refl)
same_up false x p = (refl, refl, refl, refl, refl)

pub track_freed : (i t : ℕ) (w : Sending) (s : Session) (p : Past) → Track i t (sending w) s p → Track i t idle s (cond (eqb w.session i) (leaves (parcel w.packet) p) p)
track_freed i t w s p k =
    let b = eqb w.session i in
    let x = parcel w.packet in
    let p' = cond b (leaves x p) p in
    let same = same_up b x p in
    let g : p'.departed ≡ p.departed ++ carried i (sending w) = gone b x p in
    record {
      up = same.0 ∙ k.up;
      used = λ away. absurd (false≢true away);
      places = λ o. same.2 ∙ k.places o;
      interval = λ o u. same.1 ∙ k.interval o (sym same.3 ∙ u);
      order = same.4 ∙ k.order ∙ sym (append_assoc p.departed (carried i (sending w)) (parcels s.waiting)) ∙ ap (λ l. l ++ parcels s.waiting) (sym g);
      early = subst (Every (λ y. y.arrival ≤ t)) (sym same.4) k.early;
      ordered = subst Ordered (sym same.4) k.ordered;
      last = λ o u. k.last o (sym same.3 ∙ u) ∙ ap (λ l. due_after p.interval 0 l) (sym g) ∙ ap (λ n. due_after n 0 p'.departed) (sym same.1) ∙ ap (due_after p'.interval 0) (sym (append-nil p'.departed));
      head = λ o u. k.head o (sym same.3 ∙ u);
      wire_due = tt;
    }

-- the line comes to rest
pub track_rested : (i t : ℕ) (s : Session) (p : Past) → Track i t idle s p → Track i t idle (rested s) p
track_rested i t s p k =
    record { up = k.up; used = k.used; places = k.places; interval = k.interval; order = k.order; early = k.early; ordered = k.ordered; last = k.last; head = k.head; wire_due = tt }

-- its head goes on the wire
pub track_sent : (i t noted : ℕ) (s : Session) (p : Past) → waits s ≡ true → s.is_open ≡ true → Track i t idle s p
    → Track i t (sending (record { session = i; packet = first s.waiting; due = due s; noted = noted; begun = t })) (sent s) p
track_sent i t noted s p w up k = go s.waiting refl
  where
    hit : eqb i i ≡ true
    hit = grind (arith, nat_tests)

    mine : (x : Packet) → cond (eqb i i) (parcel x ∷ []) [] ≡ parcel x ∷ []
    mine x = ap (λ b. cond b (parcel x ∷ []) []) hit

    go : (ps : List Packet) → s.waiting ≡ ps → Track i t (sending (record { session = i; packet = first s.waiting; due = due s; noted = noted; begun = t })) (sent s) p
    go [] is = absurd (false≢true (sym (ap some is) ∙ w))
    go (q ∷ qs) is =
        let x = first s.waiting in
        let qx : x ≡ q = ap first is in
        let b : behind s.waiting ≡ qs = ap behind is in
        let order : p.accepted ≡ p.departed ++ (cond (eqb i i) (parcel x ∷ []) [] ++ parcels (behind s.waiting)) =
        k.order ∙ ap (λ l. p.departed ++ parcels l) is ∙ ap (λ l. p.departed ++ (parcel q ∷ parcels l)) (sym b) ∙ ap (λ y. p.departed ++ (parcel y ∷ parcels (behind s.waiting))) (sym qx)
        ∙ ap (λ l. p.departed ++ (l ++ parcels (behind s.waiting))) (sym (mine x)) in
        let last : p.is_changed ≡ false → due s ≡ due_after p.interval 0 (p.departed ++ cond (eqb i i) (parcel x ∷ []) []) =
        λ u. ap (λ n. n + advance x.bytes s.interval) (k.head up u w ∙ ap (λ n. max n x.arrival) (k.last up u ∙ ap (due_after p.interval 0) (append-nil p.departed)))
        ∙ ap (λ n. max (due_after p.interval 0 p.departed) x.arrival + advance x.bytes n) (sym (k.interval up u))
        ∙ sym (due_push p.interval 0 p.departed (parcel x)) ∙ ap (λ l. due_after p.interval 0 (p.departed ++ l)) (sym (mine x)) in
        done (behind s.waiting) order last
      where
        done : (ps : List Packet) → p.accepted ≡ p.departed ++ (cond (eqb i i) (parcel (first s.waiting) ∷ []) [] ++ parcels ps)
            → (p.is_changed ≡ false → due s ≡ due_after p.interval 0 (p.departed ++ cond (eqb i i) (parcel (first s.waiting) ∷ []) []))
            → Track i t (sending (record { session = i; packet = first s.waiting; due = due s; noted = noted; begun = t })) (headed s (finish s) (due s) ps) p
        done [] order last =
            record { up = k.up; used = λ u. up; places = k.places; interval = k.interval; order = order; early = k.early; ordered = k.ordered; last = λ o. last; head = λ o u w. absurd (false≢true w); wire_due = λ u. refl }
        done (r ∷ rs) order last =
            record { up = k.up; used = λ u. up; places = k.places; interval = k.interval; order = order; early = k.early; ordered = k.ordered; last = λ o. last; head = λ o u w. refl; wire_due = λ u. refl }

-- another's head goes on the wire
pub track_other : (i t : ℕ) (w : Sending) (s : Session) (p : Past) → eqb w.session i ≡ false → Track i t idle s p → Track i t (sending w) s p
track_other i t w s p away k =
    let none = none_carried i (sending w) away in
    record {
      up = k.up;
      used = λ hit. absurd (false≢true (sym away ∙ hit));
      places = k.places;
      interval = k.interval;
      order = k.order ∙ ap (λ c. p.departed ++ (c ++ parcels s.waiting)) (sym none);
      early = k.early;
      ordered = k.ordered;
      last = λ o u. k.last o u ∙ ap (λ c. due_after p.interval 0 (p.departed ++ c)) (sym none);
      head = k.head;
      wire_due = λ hit. absurd (false≢true (sym away ∙ hit));
    }

-- one session moves and its history with it
pub moves : (t : ℕ) (w : Wire) (ss : List Session) (j : ℕ) (b : Session) (P : ℕ → Past) (F : Past → Past) → j < length ss
    → ((i : ℕ) → Track i t w (get_or ss i blank) (P i)) → Track j t w b (F (P j)) → (i : ℕ) → Track i t w (get_or (set ss j b) i blank) (cond (eqb j i) (F (P i)) (P i))
moves t w ss j b P F lt all new i = go (eqb j i) refl
  where
    go : (c : Bool) → eqb j i ≡ c → Track i t w (get_or (set ss j b) i blank) (cond c (F (P i)) (P i))
    go true e = subst (λ n. Track n t w (get_or (set ss j b) n blank) (F (P n))) (eqb-true j i e) (rw (get_or-set_same ss j b blank lt) new)
    go false e = rw (get_or-set_other ss j i b blank (λ same. eqb-false j i e (sym same))) (all i)
