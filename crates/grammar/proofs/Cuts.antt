-- A text and its lines. Assumes nothing.
use Rattle.std.proofs.Common.{◌≡◌, ℕ, suc, ◌<◌, ◌≤◌, Bool, true, false, cond, eqb, ◌⊎◌, List, [], ◌∷◌, ◌++◌, length, take, drop, sym, refl, ap, ◌∙◌, inl, inr, ⊎_elim, arith}
use Rattle.std.specs.List.{AllByRecursion}
use Rattle.std.proofs.lemmas.List.{append_assoc}
use Rattle.std.proofs.lemmas.Bool.{cond_both, cond-false, eqb-true, eqb-false, ne_eqb}
use Rattle.grammar.specs.Claims.{FewLines}
use Rattle.grammar.specs.Lines.{onto, lines, line_length, FirstLine, ended, Lined}

onto_lined : (b : ℕ) (bs : List ℕ) (ls : List (List ℕ)) → (b ≡ 10 → ⊥) → Lined bs ls → Lined (b ∷ bs) (onto b ls)
onto_lined b bs [] ne h = ((ne, tt), inr (ap (λ xs. b ∷ xs) h, omega arith, refl))
onto_lined b bs (l ∷ ls) ne h =
    ((ne, h.0), ⊎_elim (λ x. inl (x.0, ap (λ xs. b ∷ xs) x.1, x.2)) (λ y. inr (ap (λ xs. b ∷ xs) y.0, omega arith, y.2)) h.1)

-- A text is made of its lines.
pub lined : (text : List ℕ) → Lined text (lines text)
lined [] = refl
lined (b ∷ bs) =
    cond_both (eqb b 10) _ _ (Lined (b ∷ bs))
    (λ e. (tt, inl (bs, ap (λ x. x ∷ bs) (eqb-true b 10 e), lined bs)))
    (λ e. onto_lined b bs (lines bs) (eqb-false b 10 e) (lined bs))

front : (l rest : List ℕ) → AllByRecursion (λ b. b ≡ 10 → ⊥) l → lines (l ++ (10 ∷ rest)) ≡ l ∷ lines rest
front [] rest a = refl
front (b ∷ l) rest a = cond-false _ _ _ (ne_eqb b 10 a.0) ∙ ap (onto b) (front l rest a.1)

alone : (b : ℕ) (l : List ℕ) → AllByRecursion (λ x. x ≡ 10 → ⊥) (b ∷ l) → lines (b ∷ l) ≡ (b ∷ l) ∷ []
alone b [] a = cond-false _ _ _ (ne_eqb b 10 a.0)
alone b (x ∷ l) a = cond-false _ _ _ (ne_eqb b 10 a.0) ∙ ap (onto b) (alone x l a.1)

last : (l : List ℕ) → AllByRecursion (λ x. x ≡ 10 → ⊥) l → 0 < length l → lines l ≡ l ∷ []
last [] a some = absurd (omega arith)
last (b ∷ l) a some = alone b l a

-- What a text is made of is its lines.
pub only_lines : (text : List ℕ) (ls : List (List ℕ)) → Lined text ls → lines text ≡ ls
only_lines text [] h = ap lines h
only_lines text (l ∷ ls) h =
    ⊎_elim
    (λ x. ap lines x.1 ∙ front l x.0 h.0 ∙ ap (λ ms. l ∷ ms) (only_lines x.0 ls x.2))
    (λ y. ap lines y.0 ∙ last l h.0 y.1 ∙ ap (λ ms. l ∷ ms) (sym y.2))
    h.1

-- Lines, each ended, are the text that they make.
ended_back : (text : List ℕ) (ls : List (List ℕ)) → Lined text ls → (ended ls ≡ text) ⊎ (ended ls ≡ text ++ (10 ∷ []))
ended_back text [] h = inl (sym h)
ended_back text (l ∷ ls) h =
    ⊎_elim
    (λ x. ⊎_elim
    (λ e. inl (ap (λ t. l ++ (10 ∷ t)) e ∙ sym x.1))
    (λ e. inr (ap (λ t. l ++ (10 ∷ t)) e ∙ sym (append_assoc l (10 ∷ x.0) (10 ∷ [])) ∙ ap (λ t. t ++ (10 ∷ [])) (sym x.1)))
    (ended_back x.0 ls x.2))
    (λ y. inr (ap (λ ms. l ++ (10 ∷ ended ms)) y.2 ∙ ap (λ t. t ++ (10 ∷ [])) (sym y.0)))
    h.1

pub joins_back : (text : List ℕ) → (ended (lines text) ≡ text) ⊎ (ended (lines text) ≡ text ++ (10 ∷ []))
joins_back text = ended_back text (lines text) (lined text)

-- The first line, and the lines after it.
abbrev FirstOf : ℕ → List ℕ → List (List ℕ)
FirstOf n text = take n text ∷ lines (drop (suc n) text)

parted : (t : Bool) (b : ℕ) (bs : List ℕ) → onto b (lines bs) ≡ FirstOf (suc (line_length bs)) (b ∷ bs) → cond t ([] ∷ lines bs) (onto b (lines bs)) ≡ FirstOf (cond t 0 (suc (line_length bs))) (b ∷ bs)
parted true b bs e = refl
parted false b bs e = e

pub first_line : FirstLine
first_line [] h = absurd (omega arith)
first_line (b ∷ []) h = parted (eqb b 10) b [] refl
first_line (b ∷ c ∷ cs) h = parted (eqb b 10) b (c ∷ cs) (ap (onto b) (first_line (c ∷ cs) (omega arith)))

-- No more lines than bytes.
onto_few : (b : ℕ) (ls : List (List ℕ)) (n : ℕ) → length ls ≤ n → length (onto b ls) ≤ suc n
onto_few b [] n h = omega arith
onto_few b (l ∷ ls) n h = omega arith

pub few_lines : FewLines
few_lines [] = omega arith
few_lines (b ∷ bs) =
    let rest = few_lines bs in
    cond_both (eqb b 10) _ _ (λ ls. length ls ≤ suc (length bs)) (λ _. omega arith) (λ _. onto_few b (lines bs) (length bs) rest)
