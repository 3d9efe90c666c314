-- Columns counted from farther on. Assumes nothing.
use Rattle.std.proofs.Common.{◌≡◌, ℕ, zero, suc, ◌+◌, Bool, true, false, cond, eqb, leb, List, [], ◌∷◌, length, take, drop, Some, Ok, Err, Option, Result, refl, ap, ◌∙◌, arith}
use Rattle.grammar.specs.Bytes.{inside, run_length}
use Rattle.grammar.specs.Faults.{Fault, no_word, no_field}
use Rattle.grammar.specs.Forms.{Row, Form, table}
use Rattle.grammar.specs.Tokens.{Token, opening, closing, word, number}
use Rattle.grammar.specs.Claims.{farther, ColumnsShift}
use Rattle.grammar.specs.Reader.{Read, go, stop, then, cut, decide, token, taken, expect, as_opening, as_closing, as_end, as_number, as_word, as_next, row_in, place_in, without, field, field_or_end, fields, body, form, answer}

module _ (k : ℕ) where
  -- The same reader, k columns on.
  abbrev ahead : {A : Type 0} → Read A → Read A
  ahead (go a col rest) = go a (col + k) rest
  ahead (stop e c) = stop e (c + k)

  -- The same token, k columns on.
  abbrev token_ahead : Read (Option Token × ℕ) → Read (Option Token × ℕ)
  token_ahead (go t col rest) = go (t.0, t.1 + k) (col + k) rest
  token_ahead (stop e c) = stop e (c + k)

  cond_ahead : (b : Bool) (x y u v : Read (Option Token × ℕ)) → x ≡ token_ahead u → y ≡ token_ahead v → cond b x y ≡ token_ahead (cond b u v)
  cond_ahead true x y u v p q = p
  cond_ahead false x y u v p q = q

  cut_ahead : (make : List ℕ → Token) (n col : ℕ) (bs : List ℕ) → cut make n (col + k) bs ≡ token_ahead (cut make n col bs)
  cut_ahead make n col bs = let e : col + k + n ≡ col + n + k = omega arith in ap (λ c. go (Some (make (take n bs)), col + k) c (drop n bs)) e

  decide_ahead : (col b : ℕ) (bs : List ℕ) → decide (col + k) b bs ≡ token_ahead (decide col b bs)
  decide_ahead col b bs =
      let one : col + k + 1 ≡ col + 1 + k = omega arith in
      cond_ahead (eqb b 40) _ _ _ _ (ap (λ c. go (Some opening, col + k) c bs) one)
      (cond_ahead (eqb b 41) _ _ _ _ (ap (λ c. go (Some closing, col + k) c bs) one)
      (cond_ahead (inside 97 122 b) _ _ _ _ (cut_ahead word (run_length 97 122 (b ∷ bs)) col (b ∷ bs))
      (cond_ahead (inside 48 57 b) _ _ _ _
      (cond_ahead (leb (run_length 48 57 (b ∷ bs)) 13) _ _ _ _ (cut_ahead number (run_length 48 57 (b ∷ bs)) col (b ∷ bs)) refl)
      refl)))

  tokens_ahead : (col : ℕ) (line : List ℕ) → token (col + k) line ≡ token_ahead (token col line)
  tokens_ahead col [] = refl
  tokens_ahead col (b ∷ bs) =
      let one : col + k + 1 ≡ col + 1 + k = omega arith in
      cond_ahead (eqb b 32) _ _ _ _ (ap (λ c. token c bs) one ∙ tokens_ahead (col + 1) bs) (decide_ahead col b bs)

  -- A reader that is the same from k columns on.
  abbrev Shifts : {A B : Type 0} → (A → ℕ → List ℕ → Read B) → Type 0
  Shifts {A} f = (a : A) (col : ℕ) (rest : List ℕ) → f a (col + k) rest ≡ ahead (f a col rest)

  then_ahead : {A B : Type 0} (r : Read A) (f : A → ℕ → List ℕ → Read B) → Shifts f → then (ahead r) f ≡ ahead (then r f)
  then_ahead (go a col rest) f h = h a col rest
  then_ahead (stop e c) f h = refl

  chain : {A B : Type 0} (s r : Read A) (f : A → ℕ → List ℕ → Read B) → s ≡ ahead r → Shifts f → then s f ≡ ahead (then r f)
  chain s r f e h = ap (λ x. then x f) e ∙ then_ahead r f h

  taken_ahead : {A : Type 0} (x : Result A Fault) (c col : ℕ) (rest : List ℕ) → taken x (c + k) (col + k) rest ≡ ahead (taken x c col rest)
  taken_ahead (Ok a) c col rest = refl
  taken_ahead (Err e) c col rest = refl

  chosen_ahead : {A : Type 0} (choice : Option Token → Result A Fault) (r : Read (Option Token × ℕ))
      → then (token_ahead r) (λ t. taken (choice t.0) t.1) ≡ ahead (then r (λ t. taken (choice t.0) t.1))
  chosen_ahead choice (go t col rest) = taken_ahead (choice t.0) t.1 col rest
  chosen_ahead choice (stop e c) = refl

  expect_ahead : {A : Type 0} (choice : Option Token → Result A Fault) (col : ℕ) (line : List ℕ) → expect choice (col + k) line ≡ ahead (expect choice col line)
  expect_ahead choice col line = ap (λ r. then r (λ t. taken (choice t.0) t.1)) (tokens_ahead col line) ∙ chosen_ahead choice (token col line)

  field_ahead : (wanted : List (List ℕ)) (col : ℕ) (line : List ℕ) → field wanted (col + k) line ≡ ahead (field wanted col line)
  field_ahead wanted col line =
      chain _ (expect (as_word no_field (place_in wanted)) col line) _ (expect_ahead (as_word no_field (place_in wanted)) col line)
      (λ i c1 r1. chain _ (expect as_number c1 r1) _ (expect_ahead as_number c1 r1)
      (λ ds c2 r2. chain _ (expect as_closing c2 r2) _ (expect_ahead as_closing c2 r2)
      (λ u c3 r3. refl)))

  more_ahead : (wanted : List (List ℕ)) (more : ℕ → ℕ → List ℕ → Read (List ℕ)) → Shifts more → Shifts (field_or_end wanted more)
  more_ahead wanted more h true col rest =
      chain _ (field wanted col rest) _ (field_ahead wanted col rest)
      (λ f c1 r1. chain _ (more f.0 c1 r1) _ (h f.0 c1 r1) (λ vs c2 r2. refl))
  more_ahead wanted more h false col rest = refl

  fields_ahead : (n : ℕ) (wanted : List (List ℕ)) (col : ℕ) (line : List ℕ) → fields n wanted (col + k) line ≡ ahead (fields n wanted col line)
  fields_ahead zero wanted col line = refl
  fields_ahead (suc n) wanted col line =
      chain _ (expect (as_next wanted) col line) (field_or_end wanted (λ i. fields n (without i wanted))) (expect_ahead (as_next wanted) col line)
      (more_ahead wanted (λ i. fields n (without i wanted)) (λ i c r. fields_ahead n (without i wanted) c r))

  body_ahead : (row : Row) (col : ℕ) (line : List ℕ) → body row (col + k) line ≡ ahead (body row col line)
  body_ahead row col line =
      chain _ (fields (suc (length row.names)) row.names col line) _ (fields_ahead (suc (length row.names)) row.names col line) (λ vs c1 r1. refl)

  form_ahead : (col : ℕ) (line : List ℕ) → form (col + k) line ≡ ahead (form col line)
  form_ahead col line =
      chain _ (expect as_opening col line) _ (expect_ahead as_opening col line)
      (λ u c1 r1. chain _ (expect (as_word no_word (row_in table)) c1 r1) _ (expect_ahead (as_word no_word (row_in table)) c1 r1)
      (λ row c2 r2. chain _ (body row c2 r2) _ (body_ahead row c2 r2)
      (λ f c3 r3. chain _ (expect as_end c3 r3) _ (expect_ahead as_end c3 r3)
      (λ v c4 r4. refl))))

  answer_ahead : (r : Read Form) → answer (ahead r) ≡ farther k (answer r)
  answer_ahead (go f col rest) = refl
  answer_ahead (stop e c) = refl

pub columns_shift : ColumnsShift
columns_shift k col line = ap answer (form_ahead k col line) ∙ answer_ahead k (form col line)
