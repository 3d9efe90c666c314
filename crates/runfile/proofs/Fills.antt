-- Which slot a word has, and how the slots fill. Assumes nothing.
use Rattle.std.proofs.Common.{◌≡◌, ℕ, zero, suc, ◌<◌, Bool, true, false, not, cond, List, [], ◌∷◌, length, get_or, replicate, set, Some, None, Ok, Err, Option, Result, sym, refl, ap, ◌∙◌, subst, inl, inr, ⊎_elim, arith}
use Rattle.std.specs.Bool.{then_some}
use Rattle.std.specs.Option.{MatchOption, is_some, ok_or}
use Rattle.std.specs.Result.{IfOk, IfErr, IsErrAnd, MatchResult}
use Rattle.std.proofs.lemmas.Result.{err_from_is_err_and}
use Rattle.std.specs.Str.{bytes_eq}
use Rattle.std.proofs.lemmas.Slice.Eq.{bytes_eq-Decides}
use Rattle.std.proofs.lemmas.Bool.{cond-true, cond-false, cases_Bool}
use Rattle.grammar.specs.Faults.{no_field}
use Rattle.grammar.specs.Forms.{table, Stands}
use Rattle.grammar.specs.Tokens.{opening}
use Rattle.grammar.specs.Reader.{go, taken, then, token, place_in, fields, further}
use Rattle.grammar.specs.Slots.{all_filled, before, closed, free, free_place, frees, slot_field, slot_turn, slot_fields}
use Rattle.grammar.proofs.Places.{Lacks, Distinct, none_some, table_distinct}
use Rattle.grammar.proofs.Slots.{then_then, slots_serve}
use Rattle.runfile.specs.declared.faults.Fault.{Fault}
use Rattle.runfile.specs.declared.faults.Fault.TheVariants.{Field}
use Rattle.runfile.specs.declared.faults.FormFault.{FormFault}
use Rattle.runfile.specs.declared.faults.FormFault.TheVariants.{Wrong}
use Rattle.runfile.specs.declared.place.Place.{Place}
use Rattle.runfile.specs.declared.reader.Reader.{Reader}
use Rattle.runfile.specs.declared.words.Kind.{Kind}
use Rattle.runfile.specs.declared.words.Kind.TheVariants.{Link, Open, Close, Change, Pick, Arrive, Depart}
use Rattle.runfile.specs.Filling.{filled_field}
use Rattle.runfile.specs.Kinds.{row_of}
use Rattle.runfile.specs.Met.{met}
use Rattle.runfile.specs.Places.{Along}
use Rattle.runfile.specs.Reads.{Behind, Moves, line_end, read_of}

-- The row of each kind stands in the table.
kind_stands : (k : Kind) → Stands (row_of k) table
kind_stands Link = inl refl
kind_stands Open = inr (inl refl)
kind_stands Close = inr (inr (inl refl))
kind_stands Change = inr (inr (inr (inl refl)))
kind_stands Pick = inr (inr (inr (inr (inl refl))))
kind_stands Arrive = inr (inr (inr (inr (inr (inl refl)))))
kind_stands Depart = inr (inr (inr (inr (inr (inr (inl refl))))))

other : (w text : List ℕ) → (w ≡ text → ⊥) → bytes_eq w text ≡ false
other w text h = ⊎_elim (λ e. absurd (h ((bytes_eq-Decides w text).0 e))) (λ e. e) (cases_Bool (bytes_eq w text))

-- A word that none of the names is has no slot.
lacks_free : (w : List ℕ) (ns : List (List ℕ)) (ss : List (Option ℕ)) → Lacks w ns → free_place ns ss w ≡ None
lacks_free w [] ss l = refl
lacks_free w (n ∷ ns) [] l = refl
lacks_free w (n ∷ ns) (None ∷ ss) l =
    cond-false _ _ _ (other w n (λ e. none_some true (ap (λ b. cond b None (Some true)) (sym ((bytes_eq-Decides n w).1 (sym e)) ∙ l.0))))
    ∙ ap further (lacks_free w ns ss l.1)
lacks_free w (n ∷ ns) (Some v ∷ ss) l = ap further (lacks_free w ns ss l.1)

-- The slot that is found, if it is free.
abbrev pub if_free : ℕ → Option ℕ → Option ℕ
if_free i None = Some i
if_free i (Some v) = None

abbrev pub free_at : List (Option ℕ) → Option ℕ → Option ℕ
free_at ss None = None
free_at ss (Some i) = if_free i (get_or ss i None)

-- What a filter leaves of a slot.
by_free : (i : ℕ) (b : Bool) (o : Option ℕ) → is_some o ≡ not b → then_some b i ≡ if_free i o
by_free i true None e = refl
by_free i false (Some v) e = refl
by_free i _ _ e = cc

pub filtered : {P : ℕ → Bool → Type 0} (ss : List (Option ℕ)) (o r : Option ℕ) → MatchOption o (r ≡ None) (λ i. (b : Bool) × P i b × (r ≡ then_some b i))
    → ((i : ℕ) (b : Bool) → P i b → is_some (get_or ss i None) ≡ not b) → r ≡ free_at ss o
filtered ss None r m h = m
filtered ss (Some i) r m h = m.2 ∙ by_free i m.0 (get_or ss i None) (h i m.0 m.1)

further_free : (i : ℕ) (o : Option ℕ) → further (if_free i o) ≡ if_free (suc i) o
further_free i None = refl
further_free i (Some v) = refl

further_at : (s : Option ℕ) (ss : List (Option ℕ)) (o : Option ℕ) → further (free_at ss o) ≡ free_at (s ∷ ss) (further o)
further_at s ss None = refl
further_at s ss (Some i) = further_free i (get_or ss i None)

module _ (w : List ℕ) where
  first_free : (n : List ℕ) (ns : List (List ℕ)) (s : Option ℕ) (ss : List (Option ℕ)) → w ≡ n → Lacks n ns → free_place (n ∷ ns) (s ∷ ss) w ≡ if_free 0 s
  first_free n ns None ss e l = cond-true _ _ _ ((bytes_eq-Decides w n).1 e)
  first_free n ns (Some v) ss e l = ap further (lacks_free w ns ss (subst (λ x. Lacks x ns) (sym e) l))

  later_free : (n : List ℕ) (ns : List (List ℕ)) (s : Option ℕ) (ss : List (Option ℕ)) → bytes_eq w n ≡ false → free_place (n ∷ ns) (s ∷ ss) w ≡ further (free_place ns ss w)
  later_free n ns None ss e = cond-false _ _ _ e
  later_free n ns (Some v) ss e = refl

  found_free : (ns : List (List ℕ)) (ss : List (Option ℕ)) → Distinct ns → length ss ≡ length ns → free_place ns ss w ≡ free_at ss (place_in ns w)
  found_free [] ss d even = refl
  found_free (n ∷ ns) [] d even = absurd (omega arith)
  found_free (n ∷ ns) (s ∷ ss) d even =
      ⊎_elim
      (λ t. first_free n ns s ss ((bytes_eq-Decides w n).0 t) d.0 ∙ ap (free_at (s ∷ ss)) (sym (cond-true _ _ _ t)))
      (λ f.
      later_free n ns s ss f
      ∙ ap further (found_free ns ss d.1 (omega arith))
      ∙ further_at s ss (place_in ns w)
      ∙ ap (free_at (s ∷ ss)) (sym (cond-false _ _ _ f)))
      (cases_Bool (bytes_eq w n))

-- A name of a kind's fields has its slot, if that is free.
pub kind_free : (k : Kind) (ss : List (Option ℕ)) (w : List ℕ) → length ss ≡ length (row_of k).names → free_place (row_of k).names ss w ≡ free_at ss (place_in (row_of k).names w)
kind_free k ss w even = found_free w (row_of k).names ss (table_distinct (row_of k) (kind_stands k)) even

-- One field more goes into its slot, and the others are read as before.
pub one_more : (names : List (List ℕ)) (ss : List (Option ℕ)) (k col : ℕ) (xs : List ℕ) (c col1 : ℕ) (r1 : List ℕ) → go (Some opening, c) col1 r1 ≡ token col xs
    → then (filled_field names ss col1 r1) (slot_fields k names) ≡ slot_fields (suc k) names ss col xs
one_more names ss k col xs c col1 r1 e =
    then_then (slot_field names ss col1 r1) (λ f. go (set ss f.0 (Some f.1))) (slot_fields k names)
    ∙ ap (λ r. then r (λ t. slot_turn names ss (slot_fields k names) t.0 t.1)) e

-- Slots that are all free, as many as there are names.
all_free : (names : List (List ℕ)) → free names ≡ replicate (length names) None
all_free [] = refl
all_free (n ∷ ns) = ap (λ ss. None ∷ ss) (all_free ns)

free_frees : (n : ℕ) → frees (replicate n None) ≡ n
free_frees zero = refl
free_frees (suc n) = ap suc (free_frees n)

pub read_values : (n : ℕ) (names : List (List ℕ)) (col : ℕ) (xs : List ℕ) → n ≡ length names
    → then (slot_fields (suc (frees (replicate n None))) names (replicate n None) col xs) closed ≡ fields (suc (length names)) names col xs
read_values n names col xs e =
    ap (λ k. then (slot_fields (suc k) names (replicate n None) col xs) closed) (free_frees n)
    ∙ rw (e, ← all_free names) (slots_serve (suc (length names)) names col xs)

-- A free slot is a field that is missing.
lacks_one : (ss : List (Option ℕ)) (i : ℕ) → i < length ss → get_or ss i None ≡ None → all_filled ss ≡ Err no_field
lacks_one [] i low e = absurd (omega arith)
lacks_one (None ∷ ss) i low e = refl
lacks_one (Some v ∷ ss) zero low e = absurd (none_some v (sym e))
lacks_one (Some v ∷ ss) (suc i) low e = ap (before v) (lacks_one ss i (omega arith) e)

err_from : (o : Option ℕ) (e : Fault) → Err e ≡ ok_or o Field → (o ≡ None) × (e ≡ Field)
err_from None e h = (refl, (cc))
err_from (Some v) e h = cc

some_from : (o : Option ℕ) (v : ℕ) → Ok v ≡ ok_or o Field → o ≡ Some v
some_from None v h = cc
some_from (Some u) v h = cc

-- Slots that all hold a value.
full : (ss : List (Option ℕ)) (vs : List ℕ) → length ss ≡ length vs → ((k : ℕ) → k < length ss → get_or ss k None ≡ Some (get_or vs k 0)) → all_filled ss ≡ Ok vs
full [] [] n h = refl
full [] (v ∷ vs) n h = absurd (omega arith)
full (s ∷ ss) [] n h = absurd (omega arith)
full (s ∷ ss) (v ∷ vs) n h =
    ap (λ x. all_filled (x ∷ ss)) (h 0 (omega arith)) ∙ ap (before v) (full ss vs (omega arith) (λ k l. h (suc k) (omega arith)))

-- The values of all slots, or at the closing bracket the fault of one that is free.
pub tried : {P : List ℕ → Type 0} {Q : Fault → Type 0} {Z : Fault → FormFault → Type 0} (ss : List (Option ℕ)) (end : Place) (r q : Reader) (y : Result (List ℕ) Fault) (x : Result (List ℕ) FormFault)
    → IfOk y P → ((vs : List ℕ) → P vs → (length ss ≡ length vs) × ((k : ℕ) → k < length ss → Ok (get_or vs k 0) ≡ ok_or (get_or ss k None) Field))
    → IfErr y Q → ((e : Fault) → Q e → (i : ℕ) × (i < length ss) × (Err e ≡ ok_or (get_or ss i None) Field))
    → MatchResult y (λ vs. x ≡ Ok vs) (λ e. IsErrAnd x (Z e)) → ((e : Fault) (f : FormFault) → Z e f → f ≡ Wrong e end)
    → Behind r q → Along (line_end r) r.place end
    → (read_of met (λ vs. vs) x q ≡ closed (ss, end.column) q.place.column q.rest.now) × Moves met r x q
tried ss end r q (Ok vs) x p ok e err is at b a =
    let h = ok vs p in
    let all = full ss vs h.0 (λ k l. some_from (get_or ss k None) (get_or vs k 0) (h.1 k l)) in
    rw is (sym (ap (λ l. taken l end.column q.place.column q.rest.now) all), b)
tried ss end r q (Err e) x p ok q' err is at b a =
    let h = err e q' in
    let o = err_from (get_or ss h.0 None) e h.2 in
    let f = err_from_is_err_and x is in
    let same : f.0 ≡ Wrong Field end = at e f.0 f.2 ∙ ap (λ g. Wrong g end) o.1 in
    rw (f.1, same) (sym (ap (λ l. taken l end.column q.place.column q.rest.now) (lacks_one ss h.0 h.1 o.0)), a)
