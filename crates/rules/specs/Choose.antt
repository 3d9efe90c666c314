-- Laws of a pair's two sides.
use Rattle.std.specs.Prelude.{◌≡◌, ℕ, ◌+◌, ◌-◌, ◌<◌, min, nat_lt}
use Rattle.std.proofs.Common.{ap, arith}
use Rattle.std.proofs.lemmas.Bool.{cond_both, ltb-true, ltb-false}
use Rattle.rules.specs.declared.pair.Pair.{Pair}
use Rattle.rules.specs.Acts.{Acts}
use Rattle.rules.specs.Pairs.{pair_choices, pair_picked}

-- where a pick leaves each side's number of choices, it leaves the pair's
pub pair_fixed : {L R : Type 0} (l : Acts L) (r : Acts R) (p : Pair L R) (n : ℕ)
    → (n < l.choices p.left → l.choices (l.after p.left n) ≡ l.choices p.left)
    → (n - l.choices p.left < r.choices p.right → r.choices (r.after p.right (n - l.choices p.left)) ≡ r.choices p.right)
    → n < pair_choices l r p → pair_choices l r (pair_picked l r p n) ≡ pair_choices l r p
pair_fixed l r p n left right below = cond_both (nat_lt n (l.choices p.left)) _ _ (λ q. pair_choices l r q ≡ pair_choices l r p)
    (λ low. ap (λ k. min 65536 (k + r.choices p.right)) (left (ltb-true n (l.choices p.left) low)))
    (λ high. ap (λ k. min 65536 (l.choices p.left + k)) (right (omega (arith, below, ltb-false n (l.choices p.left) high))))
