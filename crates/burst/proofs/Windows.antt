-- The burst figure is the greatest over every first and last.
use Rattle.std.proofs.Common.{◌≡◌, ℕ, zero, suc, ◌+◌, ◌-◌, ◌<◌, ◌≤◌, List, [], ◌∷◌, length, get_or, take, sum_by, refl, inl, inr, arith}
use Rattle.std.proofs.lemmas.List.Sums.{sum_by-cons}
use Rattle.std.proofs.lemmas.Bool.{cases_lt}
use Rattle.model.specs.Bursts.{windows, burst}
use Rattle.burst.specs.Laws.{Reached, window, BurstGreatest}

-- the advances up to a last, after a sum that came before
abbrev up_to : ℕ → ℕ → List (ℕ × ℕ) → ℕ → ℕ
up_to first sum xs last = (sum + sum_by (λ p. p.0) (take (suc last) xs)) - ((get_or xs last (0, 0)).1 - first)

-- one packet more before the last
next_last : (first sum : ℕ) (p : ℕ × ℕ) (ps : List (ℕ × ℕ)) (last : ℕ) → up_to first sum (p ∷ ps) (suc last) ≡ up_to first (sum + p.0) ps last
next_last first sum p ps last = omega (arith, sum_by-cons (λ q. q.0) p (take (suc last) ps))

-- the first packet is the last
only_last : (first sum : ℕ) (p : ℕ × ℕ) (ps : List (ℕ × ℕ)) → up_to first sum (p ∷ ps) 0 ≡ (sum + p.0) - (p.1 - first)
only_last first sum p ps = omega (arith, sum_by-cons (λ q. q.0) p [])

-- no last is above the most of its first, and none is above the most of all
above_last : (first sum : ℕ) (xs : List (ℕ × ℕ)) (last : ℕ) → last < length xs → up_to first sum xs last ≤ windows first sum xs
above_last first sum [] last lt = absurd (omega arith)
above_last first sum (p ∷ ps) zero lt = omega (arith, only_last first sum p ps)
above_last first sum (p ∷ ps) (suc last) lt =
    omega (arith, next_last first sum p ps last, above_last first (sum + p.0) ps last (omega arith))

above_first : (xs : List (ℕ × ℕ)) (first last : ℕ) → first ≤ last → last < length xs → window xs first last ≤ burst xs
above_first [] first last le lt = absurd (omega arith)
above_first (p ∷ ps) zero last le lt = omega (arith, above_last p.1 0 (p ∷ ps) last lt)
above_first (p ∷ ps) (suc first) zero le lt = absurd (omega arith)
above_first (p ∷ ps) (suc first) (suc last) le lt = omega (arith, above_first ps first last (omega arith) (omega arith))

-- a last at which the windows of a first have their most
record Last (first sum : ℕ) (xs : List (ℕ × ℕ)) : Type 0 where
  last : ℕ
  inside : last < length xs
  exact : up_to first sum xs last ≡ windows first sum xs

reach_last : (first sum : ℕ) (p : ℕ × ℕ) (ps : List (ℕ × ℕ)) → Last first sum (p ∷ ps)
reach_last first sum p [] = record { last = 0; inside = omega arith; exact = omega (arith, only_last first sum p []) }
reach_last first sum p (q ∷ qs) =
    let more = reach_last first (sum + p.0) q qs in
    elim (cases_lt ((sum + p.0) - (p.1 - first)) (windows first (sum + p.0) (q ∷ qs))) [
      | inl lt ↦ record { last = suc more.last; inside = omega arith; exact = omega (arith, next_last first sum p (q ∷ qs) more.last, more.exact) }
      | inr le ↦ record { last = 0; inside = omega arith; exact = omega (arith, only_last first sum p (q ∷ qs)) }
    ]

-- a first and a last at which the most of all is had
reach_first : (p : ℕ × ℕ) (ps : List (ℕ × ℕ)) → Reached (window (p ∷ ps)) (length (p ∷ ps)) (burst (p ∷ ps))
reach_first p [] =
    let here = reach_last p.1 0 p [] in
    record { first = 0; last = here.last; order = omega arith; inside = here.inside; exact = omega (arith, here.exact) }
reach_first p (q ∷ qs) =
    let here = reach_last p.1 0 p (q ∷ qs) in
    let more = reach_first q qs in
    elim (cases_lt (windows p.1 0 (p ∷ q ∷ qs)) (burst (q ∷ qs))) [
      | inl lt ↦ record { first = suc more.first; last = suc more.last; order = omega arith; inside = omega arith; exact = omega (arith, more.exact) }
      | inr le ↦ record { first = 0; last = here.last; order = omega arith; inside = here.inside; exact = omega (arith, here.exact) }
    ]

pub burst_greatest : BurstGreatest
burst_greatest [] = record { above = above_first []; reached = λ lt. absurd (omega arith); none = λ e. refl }
burst_greatest (p ∷ ps) = record { above = above_first (p ∷ ps); reached = λ lt. reach_first p ps; none = λ e. absurd (omega arith) }
