-- How many bytes at the front of a text pass a test. Assumes nothing.
use Rattle.std.proofs.Common.{◌≡◌, ℕ, ◌≤◌, drop, ap, add-one, suc, not, true, false, cond, ltb, List, [], ◌∷◌, length, Some, None, refl, ◌∙◌, one-add, arith}
use Rattle.std.specs.Prelude.{◌==◌}
use Rattle.std.specs.List.{prefix_len, position_or_len}
use Rattle.std.proofs.lemmas.List.{drop-drop}
use Rattle.std.proofs.lemmas.List.Sums.{prefix_len-le-length}
use Rattle.grammar.specs.Bytes.{inside, run_length}
use Rattle.grammar.specs.Lines.{line_length}
use Rattle.runfile.specs.Cutting.{EndsFirst}
use Rattle.std.proofs.lemmas.Bool.{cond_both, ltb-true, ltb-false}

pub run_taken : (lo hi : ℕ) (bs : List ℕ) → prefix_len (inside lo hi) bs ≡ run_length lo hi bs
run_taken lo hi [] = refl
run_taken lo hi (b ∷ bs) = rw (one-add, run_taken lo hi bs)

line_taken : (bs : List ℕ) → position_or_len (λ b. b == 10) bs ≡ line_length bs
line_taken [] = refl
line_taken (b ∷ bs) = rw (one-add, line_taken bs) (elim (b == 10) as (λ t. cond (not t) (suc (line_length bs)) 0 ≡ cond t 0 (suc (line_length bs))) [ true ↦ refl | false ↦ refl ])

-- where a line end is found, the first line ends
pub line_found : (bs : List ℕ) → EndsFirst bs (cond (ltb (position_or_len (λ b. b == 10) bs) (length bs)) (Some (position_or_len (λ b. b == 10) bs)) None)
line_found bs =
    let n = position_or_len (λ b. b == 10) bs in
    let few : n ≤ length bs = prefix_len-le-length (λ b. not (b == 10)) bs in
    cond_both (ltb n (length bs)) _ _ (EndsFirst bs) (λ t. (line_taken bs, ltb-true n (length bs) t)) (λ f. omega (arith, few, ltb-false n (length bs) f, line_taken bs))

-- behind a line, its end is passed over, if it has one
pub behind_end : (xs back : List ℕ) (n : ℕ) → back ≡ drop n xs → drop 1 back ≡ drop (suc n) xs
behind_end xs back n e = ap (drop 1) e ∙ drop-drop 1 n xs ∙ ap (λ k. drop k xs) (add-one n)
