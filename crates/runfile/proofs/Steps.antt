-- The scanner's steps, byte by byte. Assumes nothing.
use Rattle.std.proofs.Common.{◌≡◌, ℕ, zero, suc, ◌+◌, eqb, List, [], ◌∷◌, take, drop, IsUtf8, IsAscii, sym, ap, ◌∙◌, subst, ⊎_elim, arith}
use Rattle.std.specs.List.{AllByRecursion}
use Rattle.std.proofs.lemmas.Bool.{cond-true, cond-false, cases_Bool, eqb-true, eqb-false}
use Rattle.std.proofs.lemmas.Str.{IsUtf8-from_ascii}
use Rattle.grammar.specs.Bytes.{Within, run_length}
use Rattle.grammar.specs.Reader.{token}
use Rattle.grammar.proofs.Scans.{inside_true, inside_false, run_in}
use Rattle.runfile.specs.Scanned.{begun}

-- A run of letters is text.
letters_ascii : (bs : List ℕ) → AllByRecursion (Within 97 122) bs → IsAscii bs
letters_ascii [] a i = omega arith
letters_ascii (b ∷ bs) a zero = omega (arith, a.0.1)
letters_ascii (b ∷ bs) a (suc i) = letters_ascii bs a.1 i

pub letters_text : (xs w : List ℕ) (n : ℕ) → n ≡ run_length 97 122 xs → w ≡ take n xs → IsUtf8 w
letters_text xs w n e is =
    subst IsUtf8 (sym (is ∙ ap (λ k. take k xs) e)) (IsUtf8-from_ascii (take (run_length 97 122 xs) xs) (letters_ascii (take (run_length 97 122 xs) xs) (run_in 97 122 xs)))

-- Behind the blanks a token begins.
stuck_none : (col : ℕ) (xs : List ℕ) → begun (col + 0) xs ≡ begun col xs
stuck_none col xs = let e : col + 0 ≡ col = omega arith in ap (λ c. begun c xs) e

pub behind_blanks : (col : ℕ) (xs : List ℕ) → begun (col + run_length 32 32 xs) (drop (run_length 32 32 xs) xs) ≡ token col xs
behind_blanks col [] = stuck_none col []
behind_blanks col (b ∷ bs) =
    ⊎_elim
    (λ e.
    let n : run_length 32 32 (b ∷ bs) ≡ suc (run_length 32 32 bs) = cond-true _ _ _ (inside_true 32 32 b (omega (arith, eqb-true b 32 e), omega (arith, eqb-true b 32 e))) in
    let one : col + suc (run_length 32 32 bs) ≡ col + 1 + run_length 32 32 bs = omega arith in
    ap (λ k. begun (col + k) (drop k (b ∷ bs))) n
    ∙ ap (λ c. begun c (drop (run_length 32 32 bs) bs)) one
    ∙ behind_blanks (col + 1) bs
    ∙ sym (cond-true _ _ _ e))
    (λ e.
    let n : run_length 32 32 (b ∷ bs) ≡ 0 = cond-false _ _ _ (inside_false 32 32 b (λ w. eqb-false b 32 e (omega (arith, w.0, w.1)))) in
    ap (λ k. begun (col + k) (drop k (b ∷ bs))) n ∙ stuck_none col (b ∷ bs) ∙ sym (cond-false _ _ _ e))
    (cases_Bool (eqb b 32))

pub begun_behind : (n col col' : ℕ) (xs rest : List ℕ) → n ≡ run_length 32 32 xs → rest ≡ drop n xs → col' ≡ col + n → begun col' rest ≡ token col xs
begun_behind n col col' xs rest e r c = ap (λ k. begun k rest) c ∙ ap (begun (col + n)) r ∙ ap (λ k. begun (col + k) (drop k xs)) e ∙ behind_blanks col xs
