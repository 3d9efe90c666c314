-- A fault inside a line stays, whatever follows. Assumes nothing.
use Rattle.std.proofs.Common.{◌≡◌, ℕ, zero, suc, ◌+◌, ◌<◌, ◌≤◌, Bool, true, false, cond, eqb, leb, ◌⊎◌, List, [], ◌∷◌, ◌++◌, length, take, drop, Some, None, Ok, Err, Option, Result, sym, refl, ap, ◌∙◌, subst, inl, inr, ⊎_elim, arith}
use Rattle.std.proofs.lemmas.List.{length-drop, take-append-le, drop-append-le}
use Rattle.std.proofs.lemmas.Bool.{cond-false}
use Rattle.grammar.specs.Bytes.{inside, run_length}
use Rattle.grammar.specs.Faults.{Fault, no_bracket, no_word, no_number, no_field}
use Rattle.grammar.specs.Forms.{Row, Form, table}
use Rattle.grammar.specs.Tokens.{Token, word, number}
use Rattle.grammar.specs.Grammar.{Spells}
use Rattle.grammar.specs.Reader.{Read, go, stop, then, cut, decide, token, taken, expect, as_opening, as_closing, as_end, as_number, as_word, as_next, row_in, place_in, without, field, field_or_end, fields, body, form, Answer, good, wrong, answer, read}
use Rattle.grammar.proofs.Scans.{inside_false, run_within}
use Rattle.grammar.proofs.Goings.{spells_read}

-- Two choices by one test.
cond_two : {A B : Type 0} (b : Bool) (x y : A) (u v : B) (P : A → B → Type 0) → (b ≡ true → P x u) → (b ≡ false → P y v) → P (cond b x y) (cond b u v)
cond_two true x y u v P p q = p refl
cond_two false x y u v P p q = q refl

module _ (tail : List ℕ) where
  -- A run of letters or digits does not go on over a blank.
  run_same : (lo hi : ℕ) (xs : List ℕ) → 32 < lo → run_length lo hi (xs ++ (32 ∷ tail)) ≡ run_length lo hi xs
  run_same lo hi [] h = cond-false _ _ _ (inside_false lo hi 32 (λ w. omega (arith, w.0)))
  run_same lo hi (b ∷ bs) h = ap (λ n. cond (inside lo hi b) (suc n) 0) (run_same lo hi bs h)

module _ (lim : ℕ) (tail : List ℕ) where
  -- The token at c ends at col, and is read the same if more follows; the line's end is at lim.
  abbrev LastsAt : Option Token → ℕ → ℕ → List ℕ → Read (Option Token × ℕ) → Type 0
  LastsAt (Some t) c col rest s = (1 ≤ c) × (c < lim) × (1 ≤ col) × (col + length rest ≡ lim) × (s ≡ go (Some t, c) col (rest ++ (32 ∷ tail)))
  LastsAt None c col rest s = (1 ≤ c) × (c ≡ lim)

  abbrev TokenLasts : Read (Option Token × ℕ) → Read (Option Token × ℕ) → Type 0
  TokenLasts (go a col rest) s = LastsAt a.0 a.1 col rest s
  TokenLasts (stop e c) s = (1 ≤ c) × (c < lim) × (s ≡ stop e c)

  cut_lasts : (make : List ℕ → Token) (lo hi col b : ℕ) (bs : List ℕ) → 32 < lo → 1 ≤ col → col + length (b ∷ bs) ≡ lim
      → TokenLasts (cut make (run_length lo hi (b ∷ bs)) col (b ∷ bs)) (cut make (run_length lo hi ((b ∷ bs) ++ (32 ∷ tail))) col ((b ∷ bs) ++ (32 ∷ tail)))
  cut_lasts make lo hi col b bs h one is =
      let n : ℕ = run_length lo hi (b ∷ bs) in
      let xs : List ℕ = b ∷ bs in
      let le : run_length lo hi (b ∷ bs) ≤ length (b ∷ bs) = run_within lo hi (b ∷ bs) in
      let long = length-drop (run_length lo hi (b ∷ bs)) (b ∷ bs) in (
        one,
        omega arith,
        omega arith,
        omega arith,
        ap (λ m. cut make m col (xs ++ (32 ∷ tail))) (run_same tail lo hi xs h)
            ∙ ap (λ l. go (Some (make l), col) (col + n) (drop n (xs ++ (32 ∷ tail)))) (take-append-le n xs (32 ∷ tail) le)
            ∙ ap (λ l. go (Some (make (take n xs)), col) (col + n) l) (drop-append-le n xs (32 ∷ tail) le),
      )

  decide_lasts : (col b : ℕ) (bs : List ℕ) → 1 ≤ col → col + length (b ∷ bs) ≡ lim → TokenLasts (decide col b bs) (decide col b (bs ++ (32 ∷ tail)))
  decide_lasts col b bs one is =
      let xs : List ℕ = b ∷ bs in
      cond_two (eqb b 40) _ _ _ _ TokenLasts (λ _. (one, omega arith, omega arith, omega arith, refl))
      (λ _. cond_two (eqb b 41) _ _ _ _ TokenLasts (λ _. (one, omega arith, omega arith, omega arith, refl))
      (λ _. cond_two (inside 97 122 b) _ _ _ _ TokenLasts (λ _. cut_lasts word 97 122 col b bs (omega arith) one is)
      (λ _. cond_two (inside 48 57 b) _ _ _ _ TokenLasts
      (λ _. subst
      (λ n. TokenLasts
      (cond (leb (run_length 48 57 xs) 13) (cut number (run_length 48 57 xs) col xs) (stop no_number col))
      (cond (leb n 13) (cut number (run_length 48 57 (xs ++ (32 ∷ tail))) col (xs ++ (32 ∷ tail))) (stop no_number col)))
      (sym (run_same tail 48 57 xs (omega arith)))
      (cond_two (leb (run_length 48 57 xs) 13) _ _ _ _ TokenLasts (λ _. cut_lasts number 48 57 col b bs (omega arith) one is) (λ _. (one, omega arith, refl))))
      (λ _. (one, omega arith, refl)))))

  token_lasts : (col : ℕ) (line : List ℕ) → 1 ≤ col → col + length line ≡ lim → TokenLasts (token col line) (token col (line ++ (32 ∷ tail)))
  token_lasts col [] one is = (one, omega arith)
  token_lasts col (b ∷ bs) one is =
      cond_two (eqb b 32) _ _ _ _ TokenLasts (λ _. token_lasts (col + 1) bs (omega arith) (omega arith)) (λ _. decide_lasts col b bs one is)

  -- A fault at the line's end, or one that stays.
  abbrev Stays : {A : Type 0} → Fault → ℕ → Read A → Type 0
  Stays e c s = (1 ≤ c) × (c ≤ lim) × ((c ≡ lim) ⊎ (s ≡ stop e c))

  -- A reader goes on the same if more follows.
  abbrev Lasts : {A : Type 0} → Read A → Read A → Type 0
  Lasts (go a col rest) s = (1 ≤ col) × (col + length rest ≡ lim) × (s ≡ go a col (rest ++ (32 ∷ tail)))
  Lasts (stop e c) s = Stays e c s

  -- Its faults stay the same.
  abbrev Holds : {A : Type 0} → Read A → Read A → Type 0
  Holds (go a col rest) s = Unit {0}
  Holds (stop e c) s = Stays e c s

  stays_then : {A B : Type 0} (e : Fault) (c : ℕ) (s : Read A) (k : A → ℕ → List ℕ → Read B) → Stays e c s → Stays e c (then s k)
  stays_then e c s k h = (h.0, h.1, ⊎_elim (λ x. inl x) (λ y. inr (ap (λ r. then r k) y)) h.2)

  then_lasts : {A B : Type 0} (r s : Read A) (k : A → ℕ → List ℕ → Read B) → Lasts r s
      → ((a : A) (col : ℕ) (rest : List ℕ) → 1 ≤ col → col + length rest ≡ lim → Lasts (k a col rest) (k a col (rest ++ (32 ∷ tail)))) → Lasts (then r k) (then s k)
  then_lasts (go a col rest) s k l h = subst (Lasts (k a col rest)) (sym (ap (λ r. then r k) l.2)) (h a col rest l.0 l.1)
  then_lasts (stop e c) s k l h = stays_then e c s k l

  then_holds : {A B : Type 0} (r s : Read A) (k : A → ℕ → List ℕ → Read B) → Lasts r s
      → ((a : A) (col : ℕ) (rest : List ℕ) → 1 ≤ col → col + length rest ≡ lim → Holds (k a col rest) (k a col (rest ++ (32 ∷ tail)))) → Holds (then r k) (then s k)
  then_holds (go a col rest) s k l h = subst (Holds (k a col rest)) (sym (ap (λ r. then r k) l.2)) (h a col rest l.0 l.1)
  then_holds (stop e c) s k l h = stays_then e c s k l

  taken_lasts : {A : Type 0} (x : Result A Fault) (c col : ℕ) (rest : List ℕ) → 1 ≤ c → c < lim → 1 ≤ col → col + length rest ≡ lim
      → Lasts (taken x c col rest) (taken x c col (rest ++ (32 ∷ tail)))
  taken_lasts (Ok a) c col rest p q r is = (r, is, refl)
  taken_lasts (Err e) c col rest p q r is = (p, omega arith, inr refl)

  at_lasts : {A : Type 0} (choice : Option Token → Result A Fault) (e : Fault) (o : Option Token) (c col : ℕ) (rest : List ℕ) (s : Read (Option Token × ℕ))
      → choice None ≡ Err e → LastsAt o c col rest s → Lasts (taken (choice o) c col rest) (then s (λ t. taken (choice t.0) t.1))
  at_lasts choice e (Some t) c col rest s none h =
      subst (Lasts (taken (choice (Some t)) c col rest)) (sym (ap (λ r. then r (λ u. taken (choice u.0) u.1)) h.4)) (taken_lasts (choice (Some t)) c col rest h.0 h.1 h.2 h.3)
  at_lasts choice e None c col rest s none h =
      subst (λ x. Lasts (taken x c col rest) (then s (λ t. taken (choice t.0) t.1))) (sym none) (h.0, omega (arith, h.1), inl h.1)

  from_token : {A : Type 0} (choice : Option Token → Result A Fault) (e : Fault) (r s : Read (Option Token × ℕ))
      → choice None ≡ Err e → TokenLasts r s → Lasts (then r (λ t. taken (choice t.0) t.1)) (then s (λ t. taken (choice t.0) t.1))
  from_token choice e (go a col rest) s none h = at_lasts choice e a.0 a.1 col rest s none h
  from_token choice e (stop f c) s none h = (h.0, omega (arith, h.1), inr (ap (λ r. then r (λ t. taken (choice t.0) t.1)) h.2))

  expect_lasts : {A : Type 0} (choice : Option Token → Result A Fault) (e : Fault) (col : ℕ) (line : List ℕ) → choice None ≡ Err e → 1 ≤ col → col + length line ≡ lim
      → Lasts (expect choice col line) (expect choice col (line ++ (32 ∷ tail)))
  expect_lasts choice e col line none one is = from_token choice e (token col line) (token col (line ++ (32 ∷ tail))) none (token_lasts col line one is)

  field_lasts : (wanted : List (List ℕ)) (col : ℕ) (line : List ℕ) → 1 ≤ col → col + length line ≡ lim → Lasts (field wanted col line) (field wanted col (line ++ (32 ∷ tail)))
  field_lasts wanted col line one is =
      then_lasts (expect (as_word no_field (place_in wanted)) col line) _ _ (expect_lasts (as_word no_field (place_in wanted)) no_word col line refl one is)
      (λ i c1 r1 o1 i1. then_lasts (expect as_number c1 r1) _ _ (expect_lasts as_number no_number c1 r1 refl o1 i1)
      (λ ds c2 r2 o2 i2. then_lasts (expect as_closing c2 r2) _ _ (expect_lasts as_closing no_bracket c2 r2 refl o2 i2)
      (λ u c3 r3 o3 i3. (o3, i3, refl))))

  more_lasts : (wanted : List (List ℕ)) (more : ℕ → ℕ → List ℕ → Read (List ℕ))
      → ((i col : ℕ) (rest : List ℕ) → 1 ≤ col → col + length rest ≡ lim → Lasts (more i col rest) (more i col (rest ++ (32 ∷ tail))))
      → (b : Bool) (col : ℕ) (rest : List ℕ) → 1 ≤ col → col + length rest ≡ lim → Lasts (field_or_end wanted more b col rest) (field_or_end wanted more b col (rest ++ (32 ∷ tail)))
  more_lasts wanted more h true col rest one is =
      then_lasts (field wanted col rest) _ _ (field_lasts wanted col rest one is)
      (λ f c1 r1 o1 i1. then_lasts (more f.0 c1 r1) _ _ (h f.0 c1 r1 o1 i1) (λ vs c2 r2 o2 i2. (o2, i2, refl)))
  more_lasts wanted more h false col rest one is = (one, is, refl)

  fields_lasts : (k : ℕ) (wanted : List (List ℕ)) (col : ℕ) (line : List ℕ) → 1 ≤ col → col + length line ≡ lim → Lasts (fields k wanted col line) (fields k wanted col (line ++ (32 ∷ tail)))
  fields_lasts zero wanted col line one is = (one, omega arith, inr refl)
  fields_lasts (suc k) wanted col line one is =
      then_lasts (expect (as_next wanted) col line) _ _ (expect_lasts (as_next wanted) no_bracket col line refl one is)
      (more_lasts wanted (λ i. fields k (without i wanted)) (λ i c r o e. fields_lasts k (without i wanted) c r o e))

  end_at : {B : Type 0} (o : Option Token) (c col : ℕ) (rest : List ℕ) (s : Read (Option Token × ℕ)) (b : B) → LastsAt o c col rest s
      → Holds (then (taken (as_end o) c col rest) (λ _ c1 r1. go b c1 r1)) (then (then s (λ t. taken (as_end t.0) t.1)) (λ _ c1 r1. go b c1 r1))
  end_at (Some t) c col rest s b h = (h.0, omega (arith, h.1), inr (ap (λ r. then (then r (λ u. taken (as_end u.0) u.1)) (λ _ c1 r1. go b c1 r1)) h.4))
  end_at None c col rest s b h = tt

  end_holds : {B : Type 0} (r s : Read (Option Token × ℕ)) (b : B) → TokenLasts r s
      → Holds (then (then r (λ t. taken (as_end t.0) t.1)) (λ _ c1 r1. go b c1 r1)) (then (then s (λ t. taken (as_end t.0) t.1)) (λ _ c1 r1. go b c1 r1))
  end_holds (go a col rest) s b h = end_at a.0 a.1 col rest s b h
  end_holds (stop e c) s b h = (h.0, omega (arith, h.1), inr (ap (λ r. then (then r (λ u. taken (as_end u.0) u.1)) (λ _ c1 r1. go b c1 r1)) h.2))

  body_lasts : (row : Row) (col : ℕ) (line : List ℕ) → 1 ≤ col → col + length line ≡ lim → Lasts (body row col line) (body row col (line ++ (32 ∷ tail)))
  body_lasts row col line one is =
      then_lasts (fields (suc (length row.names)) row.names col line) _ _ (fields_lasts (suc (length row.names)) row.names col line one is)
      (λ vs c1 r1 o1 i1. (o1, i1, refl))

  form_holds : (col : ℕ) (line : List ℕ) → 1 ≤ col → col + length line ≡ lim → Holds (form col line) (form col (line ++ (32 ∷ tail)))
  form_holds col line one is =
      then_holds (expect as_opening col line) _ _ (expect_lasts as_opening no_bracket col line refl one is)
      (λ u c1 r1 o1 i1. then_holds (expect (as_word no_word (row_in table)) c1 r1) _ _ (expect_lasts (as_word no_word (row_in table)) no_word c1 r1 refl o1 i1)
      (λ row c2 r2 o2 i2. then_holds (body row c2 r2) _ _ (body_lasts row c2 r2 o2 i2)
      (λ f c3 r3 o3 i3. end_holds (token c3 r3) (token c3 (r3 ++ (32 ∷ tail))) f (token_lasts c3 r3 o3 i3))))

-- The column of an answer.
abbrev column_in : Answer → ℕ
column_in (good f) = 0
column_in (wrong e c) = c

abbrev IsWrong : Answer → Type 0
IsWrong (good f) = ⊥
IsWrong (wrong e c) = Unit {0}

answered : (lim : ℕ) (tail : List ℕ) (r s : Read Form) (e : Fault) (c : ℕ) → Holds lim tail r s → answer r ≡ wrong e c → (1 ≤ c) × (c ≤ lim) × ((c ≡ lim) ⊎ (answer s ≡ wrong e c))
answered lim tail (go f col rest) s e c h is = absurd (subst IsWrong (sym is) tt)
answered lim tail (stop e' c') s e c h is =
    let same : c' ≡ c = ap column_in is in
    (omega (arith, h.0), omega (arith, h.1), ⊎_elim (λ x. inl (sym same ∙ x)) (λ y. inr (ap answer y ∙ is)) h.2)

read_holds : (line tail : List ℕ) (e : Fault) (c : ℕ) → read line ≡ wrong e c
    → (1 ≤ c) × (c ≤ 1 + length line) × ((c ≡ 1 + length line) ⊎ (read (line ++ (32 ∷ tail)) ≡ wrong e c))
read_holds line tail e c is = answered (1 + length line) tail (form 1 line) (form 1 (line ++ (32 ∷ tail))) e c (form_holds (1 + length line) tail 1 line (omega arith) refl) is

-- A column of the line, or the one behind it.
pub column_in_line : (line : List ℕ) (e : Fault) (c : ℕ) → read line ≡ wrong e c → (1 ≤ c) × (c ≤ 1 + length line)
column_in_line line e c is = let h = read_holds line [] e c is in (h.0, h.1)

-- A fault at a byte of the line stays.
pub stays_wrong : (line tail : List ℕ) (e : Fault) (c : ℕ) → read line ≡ wrong e c → c ≤ length line → read (line ++ (32 ∷ tail)) ≡ wrong e c
stays_wrong line tail e c is le = ⊎_elim (λ x. absurd (omega arith)) (λ y. y) (read_holds line tail e c is).2

pub fault_stays : (line tail : List ℕ) (e : Fault) (c : ℕ) → read line ≡ wrong e c → c ≤ length line
    → (read (line ++ (32 ∷ tail)) ≡ wrong e c) × ((f : Form) → Spells (line ++ (32 ∷ tail)) f → ⊥)
fault_stays line tail e c is le =
    let w = stays_wrong line tail e c is le in
    (w, λ f s. subst IsWrong (sym w ∙ spells_read (line ++ (32 ∷ tail)) f s) tt)
