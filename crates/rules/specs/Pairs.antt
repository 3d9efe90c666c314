-- A pair of rules, from what the left and the right are.
use Rattle.std.specs.Prelude.{◌≡◌, ℕ, ◌+◌, ◌-◌, ◌<◌, ◌≤◌, min, true, false, cond, nat_lt}
use Rattle.rules.specs.declared.pair.Pair.{Pair}
use Rattle.rules.specs.Acts.{Acts}

module _ {L R : Type 0} (l : Acts L) (r : Acts R) where
  -- what the one that stands means
  abbrev pub pair_meaning : Pair L R → ℕ → ℕ → ℕ
  pair_meaning p = cond p.on_right (r.means p.right) (l.means p.left)

  -- the left's, then the right's, cut off after 65,536
  abbrev pub pair_choices : Pair L R → ℕ
  pair_choices p = min 65536 (l.choices p.left + r.choices p.right)

  -- the numbers below the left's count go to the left, the others, less that count, to the right
  abbrev pub pair_picked : Pair L R → ℕ → Pair L R
  pair_picked p n = cond (nat_lt n (l.choices p.left))
      (record { left = l.after p.left n; right = p.right; on_right = false })
      (record { left = p.left; right = r.after p.right (n - l.choices p.left); on_right = true })

  abbrev pub pair_acts : Acts (Pair L R)
  pair_acts = record { means = pair_meaning; choices = pair_choices; after = pair_picked }

  -- After a taken pick the pair means what the side that took it means after its own pick, and the other side stays.
  abbrev pub PairLaw : Type 0
  PairLaw = (p : Pair L R) (n : ℕ) → n < pair_choices p →
      (n < l.choices p.left → (pair_meaning (pair_picked p n) ≡ l.means (l.after p.left n)) × ((pair_picked p n).right ≡ p.right))
      × (l.choices p.left ≤ n → (n - l.choices p.left < r.choices p.right) × (pair_meaning (pair_picked p n) ≡ r.means (r.after p.right (n - l.choices p.left))) × ((pair_picked p n).left ≡ p.left))
