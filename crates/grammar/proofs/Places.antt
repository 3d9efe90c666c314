-- Places of names among those wanted. Assumes nothing.
use Rattle.std.proofs.Common.{◌≡◌, ℕ, zero, suc, Bool, true, false, not, ◌&&◌, List, [], ◌∷◌, map, length, Some, None, Option, sym, refl, ap, ◌∙◌, subst, inl, inr, ⊎_elim}
use Rattle.std.specs.Str.{bytes_eq}
use Rattle.std.proofs.lemmas.Slice.Eq.{bytes_eq-Decides}
use Rattle.std.proofs.lemmas.Bool.{cond-true, cond-false, cond_both, and_parts}
use Rattle.grammar.specs.Forms.{Row, table, Stands}
use Rattle.grammar.specs.Grammar.{put, Shuffled, names, values}
use Rattle.grammar.specs.Reader.{row_in, place_in, further, without}

-- An option and its value.
abbrev IsNone : {A : Type 0} → Option A → Type 0
IsNone None = Unit {0}
IsNone (Some a) = ⊥

pub none_some : {A : Type 0} (a : A) → None ≡ Some a → ⊥
none_some a e = subst IsNone e tt

-- What holds of an option's value.
abbrev pub Sure : {A : Type 0} → (A → Type 0) → Option A → Type 0
Sure P None = Unit {0}
Sure P (Some a) = P a

pub sure_of : {A : Type 0} (P : A → Type 0) (o : Option A) (a : A) → o ≡ Some a → Sure P o → P a
sure_of P o a e s = subst (Sure P) e s

pub sure_weaker : {A : Type 0} (P Q : A → Type 0) (o : Option A) → ((a : A) → P a → Q a) → Sure P o → Sure Q o
sure_weaker P Q None h s = tt
sure_weaker P Q (Some a) h s = h a s

-- Bytes are the same as themselves.
pub same_self : (w : List ℕ) → bytes_eq w w ≡ true
same_self w = (bytes_eq-Decides w w).1 refl

-- The row that is found has the word, and stands in the table.
abbrev Has : List ℕ → List Row → Row → Type 0
Has w rs r = (w ≡ r.call) × Stands r rs

row_sure : (rs : List Row) (w : List ℕ) → Sure (Has w rs) (row_in rs w)
row_sure [] w = tt
row_sure (r ∷ rs) w =
    cond_both (bytes_eq w r.call) _ _ (Sure (Has w (r ∷ rs)))
    (λ t. ((bytes_eq-Decides w r.call).0 t, inl refl))
    (λ _. sure_weaker (Has w rs) (Has w (r ∷ rs)) (row_in rs w) (λ q h. (h.0, inr h.1)) (row_sure rs w))

pub row_word : (w : List ℕ) (r : Row) → row_in table w ≡ Some r → (w ≡ r.call) × Stands r table
row_word w r e = sure_of (Has w table) (row_in table w) r e (row_sure table w)

-- A name that is found stands at its place.
further_sure : (n : List ℕ) (ns : List (List ℕ)) (w : List ℕ) (o : Option ℕ) → Sure (λ i. ns ≡ put i w (without i ns)) o → Sure (λ i. n ∷ ns ≡ put i w (without i (n ∷ ns))) (further o)
further_sure n ns w None s = tt
further_sure n ns w (Some i) s = ap (λ xs. n ∷ xs) s

place_sure : (ns : List (List ℕ)) (w : List ℕ) → Sure (λ i. ns ≡ put i w (without i ns)) (place_in ns w)
place_sure [] w = tt
place_sure (n ∷ ns) w =
    cond_both (bytes_eq w n) _ _ (Sure (λ i. n ∷ ns ≡ put i w (without i (n ∷ ns))))
    (λ t. ap (λ x. x ∷ ns) (sym ((bytes_eq-Decides w n).0 t)))
    (λ _. further_sure n ns w (place_in ns w) (place_sure ns w))

pub place_put : (ns : List (List ℕ)) (w : List ℕ) (i : ℕ) → place_in ns w ≡ Some i → ns ≡ put i w (without i ns)
place_put ns w i e = sure_of (λ j. ns ≡ put j w (without j ns)) (place_in ns w) i e (place_sure ns w)

-- What is put into pairs is put into their names and values.
pub map_put : {X Y : Type 0} (f : X → Y) (i : ℕ) (x : X) (xs : List X) → map f (put i x xs) ≡ put i (f x) (map f xs)
map_put f zero x xs = refl
map_put f (suc i) x [] = refl
map_put f (suc i) x (y ∷ ys) = ap (λ zs. f y ∷ zs) (map_put f i x ys)

pub length_put : {X : Type 0} (i : ℕ) (x : X) (xs : List X) → length (put i x xs) ≡ suc (length xs)
length_put zero x xs = refl
length_put (suc i) x [] = refl
length_put (suc i) x (y ∷ ys) = ap suc (length_put i x ys)

pub shuffled_length : {X : Type 0} (xs ys : List X) → Shuffled xs ys → length ys ≡ length xs
shuffled_length [] ys s = ap length s
shuffled_length (x ∷ xs) ys s = ap length s.2 ∙ length_put s.0 x s.1 ∙ ap suc (shuffled_length xs s.1 s.3)

-- None of the names is this word.
abbrev pub Lacks : List ℕ → List (List ℕ) → Type 0
Lacks w [] = Unit {0}
Lacks w (n ∷ ns) = (bytes_eq n w ≡ false) × Lacks w ns

-- No name comes twice.
abbrev pub Distinct : List (List ℕ) → Type 0
Distinct [] = Unit {0}
Distinct (n ∷ ns) = Lacks n ns × Distinct ns

-- The tests of that.
abbrev lacks : List ℕ → List (List ℕ) → Bool
lacks w [] = true
lacks w (n ∷ ns) = not (bytes_eq n w) && lacks w ns

abbrev distinct : List (List ℕ) → Bool
distinct [] = true
distinct (n ∷ ns) = lacks n ns && distinct ns

not_true : (b : Bool) → not b ≡ true → b ≡ false
not_true true e = sym e
not_true false e = refl

tells_lacks : (w : List ℕ) (ns : List (List ℕ)) → lacks w ns ≡ true → Lacks w ns
tells_lacks w [] e = tt
tells_lacks w (n ∷ ns) e = let p = and_parts (not (bytes_eq n w)) (lacks w ns) e in (not_true (bytes_eq n w) p.0, tells_lacks w ns p.1)

tells_distinct : (ns : List (List ℕ)) → distinct ns ≡ true → Distinct ns
tells_distinct [] e = tt
tells_distinct (n ∷ ns) e = let p = and_parts (lacks n ns) (distinct ns) e in (tells_lacks n ns p.0, tells_distinct ns p.1)

-- The words of a table.
abbrev calls : List Row → List (List ℕ)
calls rs = map (λ r. r.call) rs

-- In each row, no name comes twice.
abbrev rows_distinct : List Row → Bool
rows_distinct [] = true
rows_distinct (r ∷ rs) = distinct r.names && rows_distinct rs

named : (rs : List Row) → rows_distinct rs ≡ true → (r : Row) → Stands r rs → Distinct r.names
named [] e r s = absurd s
named (t ∷ ts) e r s =
    let p = and_parts (distinct t.names) (rows_distinct ts) e in
    ⊎_elim (λ q. subst (λ x. Distinct x.names) (sym q) (tells_distinct t.names p.0)) (λ h. named ts p.1 r h) s

pub table_distinct : (r : Row) → Stands r table → Distinct r.names
table_distinct r s = named table refl r s

-- A row of the table has not the word of an earlier one.
lacks_call : (w : List ℕ) (rs : List Row) (r : Row) → Lacks w (calls rs) → Stands r rs → bytes_eq r.call w ≡ false
lacks_call w [] r l s = absurd s
lacks_call w (t ∷ ts) r l s = ⊎_elim (λ q. ap (λ x. bytes_eq x.call w) q ∙ l.0) (λ h. lacks_call w ts r l.1 h) s

found : (rs : List Row) (r : Row) → Distinct (calls rs) → Stands r rs → row_in rs r.call ≡ Some r
found [] r d s = absurd s
found (t ∷ ts) r d s =
    ⊎_elim
    (λ q. ap (λ x. row_in (t ∷ ts) x.call) q ∙ cond-true _ _ _ (same_self t.call) ∙ ap (λ x. Some x) (sym q))
    (λ h. cond-false _ _ _ (lacks_call t.call ts r d.0 h) ∙ found ts r d.1 h)
    s

-- Each row is found by its word.
pub row_found : (r : Row) → Stands r table → row_in table r.call ≡ Some r
row_found r s = found table r (tells_distinct (calls table) refl) s

lacks_put : (w : List ℕ) (i : ℕ) (p : List ℕ × ℕ) (qs : List (List ℕ × ℕ)) → Lacks w (names (put i p qs)) → (bytes_eq p.0 w ≡ false) × Lacks w (names qs)
lacks_put w zero p qs l = l
lacks_put w (suc i) p [] l = l
lacks_put w (suc i) p (q ∷ qs) l = let r = lacks_put w i p qs l.1 in (r.0, (l.0, r.1))

pub distinct_put : (i : ℕ) (p : List ℕ × ℕ) (qs : List (List ℕ × ℕ)) → Distinct (names (put i p qs)) → Distinct (names qs)
distinct_put zero p qs d = d.1
distinct_put (suc i) p [] d = tt
distinct_put (suc i) p (q ∷ qs) d = ((lacks_put q.0 i p qs d.0).1, distinct_put i p qs d.1)

-- Where no name comes twice, the name put in is found at a place that is as good.
pub record Placed (p : List ℕ × ℕ) (ps qs : List (List ℕ × ℕ)) : Type 0 where
  pub place : ℕ
  pub found : place_in (names ps) p.0 ≡ Some place
  pub others : without place (names ps) ≡ names qs
  pub all : put place p.1 (values qs) ≡ values ps

pub placed : (i : ℕ) (p : List ℕ × ℕ) (qs : List (List ℕ × ℕ)) → Distinct (names (put i p qs)) → Placed p (put i p qs) qs
placed zero p qs d = record { place = 0; found = cond-true _ _ _ (same_self p.0); others = refl; all = refl }
placed (suc i) p [] d = record { place = 0; found = cond-true _ _ _ (same_self p.0); others = refl; all = refl }
placed (suc i) p (q ∷ qs) d =
    let r = placed i p qs d.1 in
    record {
      place = suc r.place;
      found = cond-false _ _ _ (lacks_put q.0 i p qs d.0).0 ∙ ap further r.found;
      others = ap (λ ns. q.0 ∷ ns) r.others;
      all = ap (λ vs. q.1 ∷ vs) r.all;
    }
