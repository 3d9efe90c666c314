-- What the scanner makes of a line's bytes. Assumes nothing.
use Rattle.std.proofs.Common.{◌≡◌, ℕ, zero, suc, ◌+◌, ◌<◌, ◌≤◌, true, false, eqb, leb, List, [], ◌∷◌, ◌++◌, length, take, drop, Some, None, Option, sym, refl, ap, ◌∙◌, ⊎_elim, true≢false, arith}
use Rattle.std.specs.List.{AllByRecursion}
use Rattle.std.proofs.lemmas.List.{length-take-le, take-append-drop, take_at, drop_at}
use Rattle.std.proofs.lemmas.Bool.{cond_both, cond-true, cond-false, cases_Bool, and_parts, and_from, leb-true, le-leb, eqb-true, ne_eqb, and_left, lt-leb}
use Rattle.grammar.specs.Bytes.{Within, inside, run_length, Ends, blanks}
use Rattle.grammar.specs.Tokens.{Token, opening, closing, word, number, bytes_of, Sound, Apart, Starts, Tokens}
use Rattle.grammar.specs.Reader.{Read, go, stop, then, cut, decide, token}

-- The test and what it tests.
pub inside_true : (lo hi b : ℕ) → Within lo hi b → inside lo hi b ≡ true
inside_true lo hi b w = and_from (leb lo b) (leb b hi) (le-leb lo b w.0) (le-leb b hi w.1)

pub true_inside : (lo hi b : ℕ) → inside lo hi b ≡ true → Within lo hi b
true_inside lo hi b t = let p = and_parts (leb lo b) (leb b hi) t in (leb-true lo b p.0, leb-true b hi p.1)

pub inside_false : (lo hi b : ℕ) → (Within lo hi b → ⊥) → inside lo hi b ≡ false
inside_false lo hi b h = ⊎_elim (λ t. absurd (h (true_inside lo hi b t))) (λ f. f) (cases_Bool (inside lo hi b))

-- A run at the front: within the list, inside the bounds, and as long as can be.
pub run_within : (lo hi : ℕ) (xs : List ℕ) → run_length lo hi xs ≤ length xs
run_within lo hi [] = omega arith
run_within lo hi (b ∷ bs) =
    let rest = run_within lo hi bs in
    cond_both (inside lo hi b) (suc (run_length lo hi bs)) 0 (λ n. n ≤ suc (length bs)) (λ _. omega arith) (λ _. omega arith)

pub run_in : (lo hi : ℕ) (xs : List ℕ) → AllByRecursion (Within lo hi) (take (run_length lo hi xs) xs)
run_in lo hi [] = tt
run_in lo hi (b ∷ bs) =
    cond_both (inside lo hi b) (suc (run_length lo hi bs)) 0 (λ n. AllByRecursion (Within lo hi) (take n (b ∷ bs))) (λ t. (true_inside lo hi b t, run_in lo hi bs)) (λ _. tt)

pub run_ends : (lo hi : ℕ) (xs : List ℕ) → Ends lo hi (drop (run_length lo hi xs) xs)
run_ends lo hi [] = tt
run_ends lo hi (b ∷ bs) =
    cond_both (inside lo hi b) (suc (run_length lo hi bs)) 0 (λ n. Ends lo hi (drop n (b ∷ bs))) (λ _. run_ends lo hi bs) (λ f w. true≢false (sym (inside_true lo hi b w) ∙ f))

pub run_of : (lo hi : ℕ) (w rest : List ℕ) → AllByRecursion (Within lo hi) w → Ends lo hi rest → run_length lo hi (w ++ rest) ≡ length w
run_of lo hi [] [] a e = refl
run_of lo hi [] (b ∷ bs) a e = cond-false _ _ _ (inside_false lo hi b e)
run_of lo hi (b ∷ w) rest a e = cond-true _ _ _ (inside_true lo hi b a.0) ∙ ap suc (run_of lo hi w rest a.1 e)

-- What holds of a reader's value and of the bytes left, if it has no fault.
abbrev pub Told : {A : Type 0} → (A → List ℕ → Type 0) → Read A → Type 0
Told P (go a col rest) = P a rest
Told P (stop e c) = Unit {0}

pub then_told : {A B : Type 0} (P : A → List ℕ → Type 0) (Q : B → List ℕ → Type 0) (r : Read A) (k : A → ℕ → List ℕ → Read B)
    → Told P r → ((a : A) (col : ℕ) (rest : List ℕ) → P a rest → Told Q (k a col rest)) → Told Q (then r k)
then_told P Q (go a col rest) k p h = h a col rest p
then_told P Q (stop e c) k p h = tt

pub told_weaker : {A : Type 0} (P Q : A → List ℕ → Type 0) (r : Read A) → ((a : A) (rest : List ℕ) → P a rest → Q a rest) → Told P r → Told Q r
told_weaker P Q (go a col rest) h p = h a rest p
told_weaker P Q (stop e c) h p = tt

-- What the next token says of a line.
abbrev pub Begins : List ℕ → Option Token → List ℕ → Type 0
Begins line (Some t) rest = Starts line t rest
Begins line None rest = Tokens line []

behind_blank : (b : ℕ) (bs : List ℕ) (t : Option Token) (rest : List ℕ) → b ≡ 32 → Begins bs t rest → Begins (b ∷ bs) t rest
behind_blank b bs (Some t) rest e s = record { before = suc s.before; is = ap (λ x. x ∷ bs) e ∙ ap (λ xs. 32 ∷ xs) s.is; sound = s.sound; apart = s.apart }
behind_blank b bs None rest e s = (suc s.0, ap (λ x. x ∷ bs) e ∙ ap (λ xs. 32 ∷ xs) s.1)

here : (line : List ℕ) (t : Token) (rest : List ℕ) → line ≡ bytes_of t ++ rest → Sound t → Apart t rest → Starts line t rest
here line t rest e s a = record { before = 0; is = e; sound = s; apart = a }

run_some : (lo hi b : ℕ) (bs : List ℕ) → inside lo hi b ≡ true → 0 < length (take (run_length lo hi (b ∷ bs)) (b ∷ bs))
run_some lo hi b bs t =
    omega (arith, length-take-le (run_length lo hi (b ∷ bs)) (b ∷ bs) (run_within lo hi (b ∷ bs)), cond-true (inside lo hi b) (suc (run_length lo hi bs)) 0 t)

decide_told : (col b : ℕ) (bs : List ℕ) → Told (λ t rest. Begins (b ∷ bs) t.0 rest) (decide col b bs)
decide_told col b bs =
    let P : Read (Option Token × ℕ) → Type 0 = Told (λ t rest. Begins (b ∷ bs) t.0 rest) in
    cond_both (eqb b 40) _ _ P (λ e. here (b ∷ bs) opening bs (ap (λ x. x ∷ bs) (eqb-true b 40 e)) tt tt)
    (λ _. cond_both (eqb b 41) _ _ P (λ e. here (b ∷ bs) closing bs (ap (λ x. x ∷ bs) (eqb-true b 41 e)) tt tt)
    (λ _. cond_both (inside 97 122 b) _ _ P
    (λ t. here (b ∷ bs) (word (take (run_length 97 122 (b ∷ bs)) (b ∷ bs))) (drop (run_length 97 122 (b ∷ bs)) (b ∷ bs))
    (sym (take-append-drop (run_length 97 122 (b ∷ bs)) (b ∷ bs))) (run_some 97 122 b bs t, run_in 97 122 (b ∷ bs)) (run_ends 97 122 (b ∷ bs)))
    (λ _. cond_both (inside 48 57 b) _ _ P
    (λ t. cond_both (leb (run_length 48 57 (b ∷ bs)) 13) _ _ P
    (λ few.
    let n = leb-true (run_length 48 57 (b ∷ bs)) 13 few in
    let long = length-take-le (run_length 48 57 (b ∷ bs)) (b ∷ bs) (run_within 48 57 (b ∷ bs)) in
    here (b ∷ bs) (number (take (run_length 48 57 (b ∷ bs)) (b ∷ bs))) (drop (run_length 48 57 (b ∷ bs)) (b ∷ bs))
    (sym (take-append-drop (run_length 48 57 (b ∷ bs)) (b ∷ bs))) (run_some 48 57 b bs t, omega arith, run_in 48 57 (b ∷ bs)) (run_ends 48 57 (b ∷ bs)))
    (λ _. tt))
    (λ _. tt))))

-- A token that is read begins the line, and at the end there are but blanks.
pub token_told : (col : ℕ) (line : List ℕ) → Told (λ t rest. Begins line t.0 rest) (token col line)
token_told col [] = (0, refl)
token_told col (b ∷ bs) =
    cond_both (eqb b 32) _ _ (Told (λ t rest. Begins (b ∷ bs) t.0 rest))
    (λ e. told_weaker (λ t rest. Begins bs t.0 rest) (λ t rest. Begins (b ∷ bs) t.0 rest) (token (col + 1) bs) (λ t rest s. behind_blank b bs t.0 rest (eqb-true b 32 e) s) (token_told (col + 1) bs))
    (λ _. decide_told col b bs)

-- A token that begins the line is read.
skip : (k col : ℕ) (xs : List ℕ) → token col (blanks k ++ xs) ≡ token (col + k) xs
skip zero col xs = ap (λ c. token c xs) (omega arith)
skip (suc k) col xs = let e : col + 1 + k ≡ col + suc k = omega arith in skip k (col + 1) xs ∙ ap (λ c. token c xs) e

cut_of : (make : List ℕ → Token) (n col : ℕ) (w rest : List ℕ) → n ≡ length w → cut make n col (w ++ rest) ≡ go (Some (make w), col) (col + length w) rest
cut_of make n col w rest e =
    ap (λ m. cut make m col (w ++ rest)) e
    ∙ ap (λ l. go (Some (make l), col) (col + length w) (drop (length w) (w ++ rest))) (take_at w rest (length w) refl)
    ∙ ap (λ l. go (Some (make w), col) (col + length w) l) (drop_at w rest (length w) refl)

direct : (col : ℕ) (t : Token) (rest : List ℕ) → Sound t → Apart t rest → (c : ℕ) × (col' : ℕ) × (token col (bytes_of t ++ rest) ≡ go (Some t, c) col' rest)
direct col opening rest s a = (col, col + 1, refl)
direct col closing rest s a = (col, col + 1, refl)
direct col (word []) rest s a = absurd (omega (arith, s.0))
direct col (word (b ∷ w)) rest s a =
    let low : 97 ≤ b = s.1.0.0 in (
      col,
      col + length (b ∷ w),
      cond-false _ _ _ (ne_eqb b 32 (λ e. omega arith))
          ∙ cond-false _ _ _ (ne_eqb b 40 (λ e. omega arith))
          ∙ cond-false _ _ _ (ne_eqb b 41 (λ e. omega arith))
          ∙ cond-true _ _ _ (inside_true 97 122 b s.1.0)
          ∙ cut_of word (run_length 97 122 ((b ∷ w) ++ rest)) col (b ∷ w) rest (run_of 97 122 (b ∷ w) rest s.1 a),
    )
direct col (number []) rest s a = absurd (omega (arith, s.0))
direct col (number (b ∷ w)) rest s a =
    let low : 48 ≤ b = s.2.0.0 in
    let high : b ≤ 57 = s.2.0.1 in
    let run = run_of 48 57 (b ∷ w) rest s.2 a in
    let few : run_length 48 57 ((b ∷ w) ++ rest) ≤ 13 = omega (arith, s.1) in (
      col,
      col + length (b ∷ w),
      cond-false _ _ _ (ne_eqb b 32 (λ e. omega arith))
          ∙ cond-false _ _ _ (ne_eqb b 40 (λ e. omega arith))
          ∙ cond-false _ _ _ (ne_eqb b 41 (λ e. omega arith))
          ∙ cond-false _ _ _ (and_left (leb 97 b) (leb b 122) (lt-leb 97 b (omega arith)))
          ∙ cond-true _ _ _ (inside_true 48 57 b s.2.0)
          ∙ cond-true _ _ _ (le-leb (run_length 48 57 ((b ∷ w) ++ rest)) 13 few)
          ∙ cut_of number (run_length 48 57 ((b ∷ w) ++ rest)) col (b ∷ w) rest run,
    )

pub at_token : (col : ℕ) (line : List ℕ) (t : Token) (rest : List ℕ) → Starts line t rest → (c : ℕ) × (col' : ℕ) × (token col line ≡ go (Some t, c) col' rest)
at_token col line t rest s =
    let d = direct (col + s.before) t rest s.sound s.apart in
    (d.0, d.1, ap (token col) s.is ∙ skip s.before col (bytes_of t ++ rest) ∙ d.2)

-- Blanks alone are read as the line's end.
skip_all : (k col : ℕ) → token col (blanks k) ≡ go (None, col + k) (col + k) []
skip_all zero col = let e : col ≡ col + 0 = omega arith in ap (λ c. go (None, c) c []) e
skip_all (suc k) col = let e : col + 1 + k ≡ col + suc k = omega arith in skip_all k (col + 1) ∙ ap (λ c. go (None, c) c []) e

pub at_end : (col : ℕ) (line : List ℕ) → Tokens line [] → (c : ℕ) × (token col line ≡ go (None, c) c [])
at_end col line t = (col + t.0, ap (token col) t.1 ∙ skip_all t.0 col)
