-- Fields read into slots are those read by the names still wanted. Assumes nothing.
use Rattle.std.proofs.Common.{◌≡◌, ℕ, zero, suc, ◌<◌, ◌≤◌, Bool, true, false, cond, List, [], ◌∷◌, length, set, Some, None, Ok, Err, Option, Result, sym, refl, ap, ◌∙◌, arith}
use Rattle.std.specs.Str.{bytes_eq}
use Rattle.grammar.specs.Tokens.{Token, opening, closing, word, number}
use Rattle.grammar.specs.Grammar.{put, values}
use Rattle.grammar.specs.Faults.{Fault, no_field}
use Rattle.grammar.specs.Reader.{Read, go, stop, then, token, taken, expect, or_fault, as_word, as_number, as_closing, as_last, as_next, further, place_in, without, field, field_or_end, fields}
use Rattle.grammar.specs.Slots.{free_place, frees, slot_field, slot_turn, slot_fields, before, all_filled, closed, free, SlotsServe}
use Rattle.grammar.proofs.Scans.{Told, told_weaker}
use Rattle.grammar.proofs.Places.{Sure, sure_of, place_put, length_put}
use Rattle.std.proofs.lemmas.Bool.{cond_both}
use Rattle.grammar.proofs.Goings.{names_length}
use Rattle.grammar.proofs.Tells.{Listed, Fielded, field_told, fields_told}

-- The names whose slot is free.
abbrev wanted : List (List ℕ) → List (Option ℕ) → List (List ℕ)
wanted [] ss = []
wanted (n ∷ ns) [] = []
wanted (n ∷ ns) (None ∷ ss) = n ∷ wanted ns ss
wanted (n ∷ ns) (Some v ∷ ss) = wanted ns ss

-- The slot of the free one at place j.
abbrev slot_of : List (Option ℕ) → ℕ → ℕ
slot_of [] j = 0
slot_of (Some v ∷ ss) j = suc (slot_of ss j)
slot_of (None ∷ ss) zero = 0
slot_of (None ∷ ss) (suc j) = suc (slot_of ss j)

-- The values of slots, those of the free ones from a list in their order.
abbrev joined : List (Option ℕ) → List ℕ → List ℕ
joined [] vs = []
joined (Some u ∷ ss) vs = u ∷ joined ss vs
joined (None ∷ ss) [] = 0 ∷ joined ss []
joined (None ∷ ss) (v ∷ vs) = v ∷ joined ss vs

wanted_length : (ns : List (List ℕ)) (ss : List (Option ℕ)) → length ns ≡ length ss → length (wanted ns ss) ≡ frees ss
wanted_length [] [] e = refl
wanted_length [] (s ∷ ss) e = absurd (omega arith)
wanted_length (n ∷ ns) [] e = absurd (omega arith)
wanted_length (n ∷ ns) (None ∷ ss) e = ap suc (wanted_length ns ss (omega arith))
wanted_length (n ∷ ns) (Some v ∷ ss) e = wanted_length ns ss (omega arith)

joined_put : (ss : List (Option ℕ)) (j v : ℕ) (vs : List ℕ) → suc (length vs) ≡ frees ss → j ≤ length vs → joined (set ss (slot_of ss j) (Some v)) vs ≡ joined ss (put j v vs)
joined_put [] j v vs e le = absurd (omega arith)
joined_put (Some u ∷ ss) j v vs e le = ap (λ xs. u ∷ xs) (joined_put ss j v vs e le)
joined_put (None ∷ ss) zero v vs e le = refl
joined_put (None ∷ ss) (suc j) v [] e le = absurd (omega arith)
joined_put (None ∷ ss) (suc j) v (x ∷ xs) e le = ap (λ ys. x ∷ ys) (joined_put ss j v xs (omega arith) (omega arith))

wanted_set : (ns : List (List ℕ)) (ss : List (Option ℕ)) (j v : ℕ) → j < length (wanted ns ss) → wanted ns (set ss (slot_of ss j) (Some v)) ≡ without j (wanted ns ss)
wanted_set [] ss j v lt = absurd (omega arith)
wanted_set (n ∷ ns) [] j v lt = absurd (omega arith)
wanted_set (n ∷ ns) (None ∷ ss) zero v lt = refl
wanted_set (n ∷ ns) (None ∷ ss) (suc j) v lt = ap (λ ws. n ∷ ws) (wanted_set ns ss j v (omega arith))
wanted_set (n ∷ ns) (Some u ∷ ss) j v lt = wanted_set ns ss j v lt

set_length : (ss : List (Option ℕ)) (i : ℕ) (x : Option ℕ) → length (set ss i x) ≡ length ss
set_length [] i x = refl
set_length (s ∷ ss) zero x = refl
set_length (s ∷ ss) (suc i) x = ap suc (set_length ss i x)

-- A place that is there, seen through a function.
abbrev over : (ℕ → ℕ) → Option ℕ → Option ℕ
over g None = None
over g (Some i) = Some (g i)

over_further : (g : ℕ → ℕ) (ss : List (Option ℕ)) (o : Option ℕ) → further (over (slot_of ss) o) ≡ over (slot_of (None ∷ ss)) (further o)
over_further g ss None = refl
over_further g ss (Some i) = refl

over_some : (u : ℕ) (ss : List (Option ℕ)) (o : Option ℕ) → further (over (slot_of ss) o) ≡ over (slot_of (Some u ∷ ss)) o
over_some u ss None = refl
over_some u ss (Some i) = refl

over_cond : (b : Bool) (ss : List (Option ℕ)) (o : Option ℕ) → cond b (Some 0) (further (over (slot_of ss) o)) ≡ over (slot_of (None ∷ ss)) (cond b (Some 0) (further o))
over_cond true ss o = refl
over_cond false ss o = over_further (λ i. i) ss o

place_over : (ns : List (List ℕ)) (ss : List (Option ℕ)) (w : List ℕ) → free_place ns ss w ≡ over (slot_of ss) (place_in (wanted ns ss) w)
place_over [] ss w = refl
place_over (n ∷ ns) [] w = refl
place_over (n ∷ ns) (None ∷ ss) w = ap (λ o. cond (bytes_eq w n) (Some 0) (further o)) (place_over ns ss w) ∙ over_cond (bytes_eq w n) ss (place_in (wanted ns ss) w)
place_over (n ∷ ns) (Some v ∷ ss) w = ap further (place_over ns ss w) ∙ over_some v ss (place_in (wanted ns ss) w)

-- The same reader with another value.
abbrev mapped : {A B : Type 0} → (A → B) → Read A → Read B
mapped f (go a col rest) = go (f a) col rest
mapped f (stop e c) = stop e c

-- Readers that agree.
pub then_then : {A B C : Type 0} (r : Read A) (k : A → ℕ → List ℕ → Read B) (l : B → ℕ → List ℕ → Read C) → then (then r k) l ≡ then r (λ a c x. then (k a c x) l)
then_then (go a col rest) k l = refl
then_then (stop e c) k l = refl

then_same : {A B : Type 0} (P : A → List ℕ → Type 0) (r : Read A) (k l : A → ℕ → List ℕ → Read B) → Told P r
    → ((a : A) (col : ℕ) (rest : List ℕ) → P a rest → k a col rest ≡ l a col rest) → then r k ≡ then r l
then_same P (go a col rest) k l t h = h a col rest t
then_same P (stop e c) k l t h = refl

mapped_then : {A B C : Type 0} (f : B → C) (r : Read A) (k : A → ℕ → List ℕ → Read B) → then r (λ a c x. mapped f (k a c x)) ≡ mapped f (then r k)
mapped_then f (go a col rest) k = refl
mapped_then f (stop e c) k = refl

then_mapped : {A B C : Type 0} (f : A → B) (r : Read A) (k : B → ℕ → List ℕ → Read C) → then (mapped f r) k ≡ then r (λ a. k (f a))
then_mapped f (go a col rest) k = refl
then_mapped f (stop e c) k = refl

abbrev result_over : {A B : Type 0} → (A → B) → Result A Fault → Result B Fault
result_over f (Ok a) = Ok (f a)
result_over f (Err e) = Err e

taken_over : {A B : Type 0} (f : A → B) (x : Result A Fault) (c col : ℕ) (rest : List ℕ) → taken (result_over f x) c col rest ≡ mapped f (taken x c col rest)
taken_over f (Ok a) c col rest = refl
taken_over f (Err e) c col rest = refl

expect_over : {A B : Type 0} (f : A → B) (choice : Option Token → Result A Fault) (other : Option Token → Result B Fault) (r : Read (Option Token × ℕ))
    → ((t : Option Token) → other t ≡ result_over f (choice t)) → then r (λ t. taken (other t.0) t.1) ≡ mapped f (then r (λ t. taken (choice t.0) t.1))
expect_over f choice other (go a col rest) h = ap (λ x. taken x a.1 col rest) (h a.0) ∙ taken_over f (choice a.0) a.1 col rest
expect_over f choice other (stop e c) h = refl

or_over : (g : ℕ → ℕ) (o : Option ℕ) → or_fault no_field (over g o) ≡ result_over g (or_fault no_field o)
or_over g None = refl
or_over g (Some i) = refl

word_over : (ns : List (List ℕ)) (ss : List (Option ℕ)) (t : Option Token) → as_word no_field (free_place ns ss) t ≡ result_over (slot_of ss) (as_word no_field (place_in (wanted ns ss)) t)
word_over ns ss (Some opening) = refl
word_over ns ss (Some closing) = refl
word_over ns ss (Some (word w)) = ap (or_fault no_field) (place_over ns ss w) ∙ or_over (slot_of ss) (place_in (wanted ns ss) w)
word_over ns ss (Some (number ds)) = refl
word_over ns ss None = refl

always : {A : Type 0} (r : Read A) → Told (λ _ _. Unit {0}) r
always (go a col rest) = tt
always (stop e c) = tt

-- A field behind its word.
abbrev tail : ℕ → ℕ → List ℕ → Read (ℕ × ℕ)
tail i c1 r1 = then (expect as_number c1 r1) (λ v c2 r2. then (expect as_closing c2 r2) (λ _ c3 r3. go (i, v) c3 r3))

-- A pair whose place is seen through a function.
abbrev moved : (ℕ → ℕ) → ℕ × ℕ → ℕ × ℕ
moved g f = (g f.0, f.1)

rest_over : (g : ℕ → ℕ) (j c : ℕ) (r : List ℕ) → tail (g j) c r ≡ mapped (moved g) (tail j c r)
rest_over g j c r =
    then_same (λ _ _. Unit {0}) (expect as_number c r) (λ v c2 r2. then (expect as_closing c2 r2) (λ _ c3 r3. go (g j, v) c3 r3)) (λ v c2 r2. mapped (moved g) (then (expect as_closing c2 r2) (λ _ c3 r3. go (j, v) c3 r3)))
    (always (expect as_number c r)) (λ v c2 r2 _. mapped_then (moved g) (expect as_closing c2 r2) (λ _ c3 r3. go (j, v) c3 r3))
    ∙ mapped_then (moved g) (expect as_number c r) (λ v c2 r2. then (expect as_closing c2 r2) (λ _ c3 r3. go (j, v) c3 r3))

field_over : (ns : List (List ℕ)) (ss : List (Option ℕ)) (col : ℕ) (xs : List ℕ)
    → slot_field ns ss col xs ≡ mapped (moved (slot_of ss)) (field (wanted ns ss) col xs)
field_over ns ss col xs =
    let ws : List (List ℕ) = wanted ns ss in
    let G : ℕ × ℕ → ℕ × ℕ = moved (slot_of ss) in
    ap (λ r. then r tail) (expect_over (slot_of ss) (as_word no_field (place_in ws)) (as_word no_field (free_place ns ss)) (token col xs) (word_over ns ss))
    ∙ then_mapped (slot_of ss) (expect (as_word no_field (place_in ws)) col xs) tail
    ∙ then_same (λ _ _. Unit {0}) (expect (as_word no_field (place_in ws)) col xs) (λ j. tail (slot_of ss j)) (λ j c r. mapped G (tail j c r)) (always (expect (as_word no_field (place_in ws)) col xs)) (λ j c r _. rest_over (slot_of ss) j c r)
    ∙ mapped_then G (expect (as_word no_field (place_in ws)) col xs) tail

-- A name that is found stands within.
below_further : (n : ℕ) (o : Option ℕ) → Sure (λ i. i < n) o → Sure (λ i. i < suc n) (further o)
below_further n None s = tt
below_further n (Some i) s = omega (arith, s)

pub place_below : (ns : List (List ℕ)) (w : List ℕ) → Sure (λ i. i < length ns) (place_in ns w)
place_below [] w = tt
place_below (n ∷ ns) w = cond_both (bytes_eq w n) _ _ (Sure (λ i. i < suc (length ns))) (λ _. omega arith) (λ _. below_further (length ns) (place_in ns w) (place_below ns w))

-- A value put among the others, or into its slot first.
put_mapped : (ss : List (Option ℕ)) (j v : ℕ) (r : Read (List ℕ)) → Told (λ vs _. (suc (length vs) ≡ frees ss) × (j ≤ length vs)) r
    → mapped (joined (set ss (slot_of ss j) (Some v))) r ≡ mapped (joined ss) (then r (λ vs c2 r2. go (put j v vs) c2 r2))
put_mapped ss j v (go vs col rest) t = ap (λ l. go l col rest) (joined_put ss j v vs t.0 t.1)
put_mapped ss j v (stop e c) t = refl

-- At the closing bracket no slot is free exactly if no name is wanted any more.
abbrev given : List ℕ → Result Bool Fault → Result (List ℕ) Fault
given vs (Ok b) = Ok vs
given vs (Err e) = Err e

before_given : (v : ℕ) (vs : List ℕ) (x : Result Bool Fault) → before v (given vs x) ≡ given (v ∷ vs) x
before_given v vs (Ok b) = refl
before_given v vs (Err e) = refl

filled_given : (ns : List (List ℕ)) (ss : List (Option ℕ)) → length ns ≡ length ss → all_filled ss ≡ given (joined ss []) (as_last (wanted ns ss))
filled_given [] [] e = refl
filled_given [] (s ∷ ss) e = absurd (omega arith)
filled_given (n ∷ ns) [] e = absurd (omega arith)
filled_given (n ∷ ns) (None ∷ ss) e = refl
filled_given (n ∷ ns) (Some v ∷ ss) e = ap (before v) (filled_given ns ss (omega arith)) ∙ before_given v (joined ss []) (as_last (wanted ns ss))

last_given : (ss : List (Option ℕ)) (more : ℕ → ℕ → List ℕ → Read (List ℕ)) (ws : List (List ℕ)) (c col : ℕ) (rest : List ℕ)
    → taken (given (joined ss []) (as_last ws)) c col rest ≡ mapped (joined ss) (then (taken (as_last ws) c col rest) (field_or_end ws more))
last_given ss more [] c col rest = refl
last_given ss more (w ∷ ws) c col rest = refl

module _ (ns : List (List ℕ)) (ss : List (Option ℕ)) (even : length ns ≡ length ss) (more : ℕ → ℕ → List ℕ → Read (List ℕ)) (other : List (Option ℕ) → ℕ → List ℕ → Read (List (Option ℕ) × ℕ))
    (agree : (j v c : ℕ) (r : List ℕ) → j < length (wanted ns ss) → then (other (set ss (slot_of ss j) (Some v)) c r) closed ≡ mapped (joined (set ss (slot_of ss j) (Some v))) (more j c r))
    (long : (j c : ℕ) (r : List ℕ) → Told (λ vs _. length vs ≡ length (without j (wanted ns ss))) (more j c r)) where
  inner : (rest r1 : List ℕ) (f : ℕ × ℕ) (c1 : ℕ) → Fielded rest (wanted ns ss) f r1
      → then (other (set ss (slot_of ss f.0) (Some f.1)) c1 r1) closed ≡ mapped (joined ss) (then (more f.0 c1 r1) (λ vs c2 r2. go (put f.0 f.1 vs) c2 r2))
  inner rest r1 f c1 d =
      let lt : f.0 < length (wanted ns ss) = sure_of (λ i. i < length (wanted ns ss)) (place_in (wanted ns ss) d.name) f.0 d.place (place_below (wanted ns ss) d.name) in
      let one : length (wanted ns ss) ≡ suc (length (without f.0 (wanted ns ss))) =
      ap length (place_put (wanted ns ss) d.name f.0 d.place) ∙ length_put f.0 d.name (without f.0 (wanted ns ss)) in
      let count = wanted_length ns ss even in
      agree f.0 f.1 c1 r1 lt
      ∙ put_mapped ss f.0 f.1 (more f.0 c1 r1)
      (told_weaker (λ vs _. length vs ≡ length (without f.0 (wanted ns ss))) (λ vs _. (suc (length vs) ≡ frees ss) × (f.0 ≤ length vs)) (more f.0 c1 r1) (λ vs rest' l. (omega arith, omega arith)) (long f.0 c1 r1))

  one_field : (c : ℕ) (r : List ℕ)
      → then (then (slot_field ns ss c r) (λ f c1 r1. other (set ss f.0 (Some f.1)) c1 r1)) closed ≡ mapped (joined ss) (field_or_end (wanted ns ss) more true c r)
  one_field c r =
      let G : ℕ × ℕ → ℕ × ℕ = moved (slot_of ss) in
      let K : ℕ × ℕ → ℕ → List ℕ → Read (List ℕ) = λ f c1 r1. then (more f.0 c1 r1) (λ vs c2 r2. go (put f.0 f.1 vs) c2 r2) in
      let L : ℕ × ℕ → ℕ → List ℕ → Read (List ℕ) = λ f c1 r1. then (other (set ss f.0 (Some f.1)) c1 r1) closed in
      then_then (slot_field ns ss c r) (λ f c1 r1. other (set ss f.0 (Some f.1)) c1 r1) closed
      ∙ ap (λ x. then x L) (field_over ns ss c r)
      ∙ then_mapped G (field (wanted ns ss) c r) L
      ∙ then_same (Fielded r (wanted ns ss)) (field (wanted ns ss) c r) (λ f. L (G f)) (λ f c1 r1. mapped (joined ss) (K f c1 r1)) (field_told (wanted ns ss) c r) (λ f c1 r1 d. inner r r1 f c1 d)
      ∙ mapped_then (joined ss) (field (wanted ns ss) c r) K

  turn : (o : Option Token) (c col : ℕ) (rest : List ℕ)
      → then (slot_turn ns ss other o c col rest) closed ≡ mapped (joined ss) (then (taken (as_next (wanted ns ss) o) c col rest) (field_or_end (wanted ns ss) more))
  turn (Some opening) c col rest = one_field col rest
  turn (Some closing) c col rest = ap (λ x. taken x c col rest) (filled_given ns ss even) ∙ last_given ss more (wanted ns ss) c col rest
  turn (Some (word w)) c col rest = refl
  turn (Some (number ds)) c col rest = refl
  turn None c col rest = refl

  one_turn : (r : Read (Option Token × ℕ))
      → then (then r (λ t. slot_turn ns ss other t.0 t.1)) closed ≡ mapped (joined ss) (then (then r (λ t. taken (as_next (wanted ns ss) t.0) t.1)) (field_or_end (wanted ns ss) more))
  one_turn (go t col rest) = turn t.0 t.1 col rest
  one_turn (stop e c) = refl

-- As many values as names wanted.
values_length : (ps : List (List ℕ × ℕ)) → length (values ps) ≡ length ps
values_length [] = refl
values_length (p ∷ ps) = ap suc (values_length ps)

pub told_length : (k : ℕ) (ws : List (List ℕ)) (c : ℕ) (r : List ℕ) → Told (λ vs _. length vs ≡ length ws) (fields k ws c r)
told_length k ws c r =
    told_weaker (Listed r ws) (λ vs _. length vs ≡ length ws) (fields k ws c r)
    (λ vs rest l. sym (ap length l.are_valued) ∙ values_length l.pairs ∙ sym (names_length l.pairs) ∙ ap length l.are_named) (fields_told k ws c r)

slots_same : (k : ℕ) (ns : List (List ℕ)) (ss : List (Option ℕ)) (col : ℕ) (xs : List ℕ) → length ns ≡ length ss
    → then (slot_fields k ns ss col xs) closed ≡ mapped (joined ss) (fields k (wanted ns ss) col xs)
slots_same zero ns ss col xs even = refl
slots_same (suc k) ns ss col xs even =
    one_turn ns ss even (λ i. fields k (without i (wanted ns ss))) (slot_fields k ns)
    (λ j v c r lt. slots_same k ns (set ss (slot_of ss j) (Some v)) c r (even ∙ sym (set_length ss (slot_of ss j) (Some v)))
    ∙ ap (λ ws. mapped (joined (set ss (slot_of ss j) (Some v))) (fields k ws c r)) (wanted_set ns ss j v lt))
    (λ j c r. told_length k (without j (wanted ns ss)) c r) (token col xs)

-- Where all slots are free.
free_length : (ns : List (List ℕ)) → length ns ≡ length (free ns)
free_length [] = refl
free_length (n ∷ ns) = ap suc (free_length ns)

free_wanted : (ns : List (List ℕ)) → wanted ns (free ns) ≡ ns
free_wanted [] = refl
free_wanted (n ∷ ns) = ap (λ ms. n ∷ ms) (free_wanted ns)

free_joined : (ns : List (List ℕ)) (vs : List ℕ) → length vs ≡ length ns → joined (free ns) vs ≡ vs
free_joined [] [] e = refl
free_joined [] (v ∷ vs) e = absurd (omega arith)
free_joined (n ∷ ns) [] e = absurd (omega arith)
free_joined (n ∷ ns) (v ∷ vs) e = ap (λ xs. v ∷ xs) (free_joined ns vs (omega arith))

free_mapped : (ns : List (List ℕ)) (r : Read (List ℕ)) → Told (λ vs _. length vs ≡ length ns) r → mapped (joined (free ns)) r ≡ r
free_mapped ns (go vs col rest) t = ap (λ l. go l col rest) (free_joined ns vs t)
free_mapped ns (stop e c) t = refl

pub slots_serve : SlotsServe
slots_serve k ns col xs =
    slots_same k ns (free ns) col xs (free_length ns)
    ∙ ap (λ ws. mapped (joined (free ns)) (fields k ws col xs)) (free_wanted ns)
    ∙ free_mapped ns (fields k ns col xs) (told_length k ns col xs)
