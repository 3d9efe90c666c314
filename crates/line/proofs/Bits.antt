-- The ones of a set of bits are as many as the sessions in it.
use Rattle.std.proofs.Common.{◌≡◌, ℕ, ◌+◌, ◌*◌, ◌/◌, ◌%◌, ◌≤◌, Bool, true, false, cond, List, [], ◌∷◌, reverse, count_by, sym, refl, ap, ◌∙◌, arith}
use Rattle.std.specs.List.{fold}
use lib.Count.{ones, ones_step}
use Rattle.std.proofs.lemmas.List.{reverse-append}
use Rattle.std.proofs.lemmas.List.Sums.{fold_push, sum_by-cons}
use Rattle.model.specs.Model.{Session, waits}
use Rattle.line.specs.Waiting.{waiting_bit, waiting_set}

bit_le : (b : Bool) → cond {A = ℕ} b 1 0 ≤ 1
bit_le true = omega arith
bit_le false = omega arith

pub ones_waiting : (ss : List Session) → ones (waiting_set ss) ≡ count_by waits ss
unfolding ones
ones_waiting [] = refl
ones_waiting (s ∷ ss) =
    let n = waiting_set ss * 2 + waiting_bit s in
    let low : n % 2 ≡ waiting_bit s = omega (arith, bit_le (waits s)) in
    let high : n / 2 ≡ waiting_set ss = omega (arith, bit_le (waits s)) in
    ones_step n ∙ ap (λ m. m + ones (n / 2)) low ∙ ap (λ m. waiting_bit s + ones m) high ∙ ap (λ m. waiting_bit s + m) (ones_waiting ss)
    ∙ sym (sum_by-cons (λ x. cond (waits x) 1 0) s ss)

-- from the last session down
abbrev pub set_from_last : List Session → ℕ
set_from_last ss = fold (λ set s. set * 2 + waiting_bit s) 0 ss

pub from_last_all : (ss : List Session) → set_from_last (reverse ss) ≡ waiting_set ss
from_last_all [] = refl
from_last_all (s ∷ ss) =
    ap set_from_last (reverse-append (s ∷ []) ss) ∙ fold_push (λ set s. set * 2 + waiting_bit s) 0 (reverse ss) s
    ∙ ap (λ set. set * 2 + waiting_bit s) (from_last_all ss)
