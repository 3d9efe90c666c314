-- One changed leaf: each match above it is played again, and the leaves stay in their places.
use Rattle.std.proofs.Common.{◌≡◌, ℕ, zero, suc, ◌+◌, ◌-◌, ◌*◌, ◌/◌, ◌^◌, ◌<◌, ◌≤◌, true, List, [], ◌∷◌, length, get_or, set, take, drop, replicate, Option, sym, refl, ap, ◌∙◌, arith}
use lib.Seq.{map-set}
use Rattle.std.proofs.Math.Seq.{take-set-lt}
use Rattle.std.proofs.lemmas.Bool.{and_parts, and_from}
use Rattle.ready.specs.declared.entry.Entry.{Entry}
use Rattle.ready.specs.declared.key.Key.{Key}
use Rattle.ready.specs.Keys.{no_later, last}
use Rattle.ready.specs.Least.{Keys}
use Rattle.ready.specs.Levels.{vacant, key_of, keys_of, leaf, leaves_of, in_time, winner, winners}
use Rattle.ready.proofs.Ranks.{reflexive}

-- place i is one of the two of pair h
abbrev In : ℕ → ℕ → Type 0
In i h = (h + h ≤ i) × (i ≤ suc (h + h))

winners_set : (es : List Entry) (i h : ℕ) (x d : Entry) → In i h → suc (h + h) < length es → winners (set es i x) ≡ set (winners es) h (winner (get_or (set es i x) (h + h) d) (get_or (set es i x) (suc (h + h)) d))
winners_set [] i h x d at within = absurd (omega arith)
winners_set (a ∷ []) i h x d at within = absurd (omega arith)
winners_set (a ∷ b ∷ es) zero zero x d at within = refl
winners_set (a ∷ b ∷ es) zero (suc h) x d at within = absurd (omega (arith, at.0))
winners_set (a ∷ b ∷ es) (suc zero) zero x d at within = refl
winners_set (a ∷ b ∷ es) (suc zero) (suc h) x d at within = absurd (omega (arith, at.0))
winners_set (a ∷ b ∷ es) (suc (suc i)) zero x d at within = absurd (omega (arith, at.1))
winners_set (a ∷ b ∷ es) (suc (suc i)) (suc h) x d at within =
    let e : suc (suc (h + h)) ≡ suc h + suc h = omega arith in
    ap (λ l. winner a b ∷ l) (winners_set es i h x d (omega (arith, at.0), omega (arith, at.1)) (omega arith))
    ∙ ap (λ n. set (winner a b ∷ winners es) (suc h) (winner (get_or (a ∷ b ∷ set es i x) n d) (get_or (a ∷ b ∷ set es i x) (suc n) d))) e

-- the first node of a level, and of the next one
pub record Half (level first : ℕ) : Type 0 where
  pub odd : first ≡ 2 * (first / 2) + 1
  pub next : suc (first / 2) ≡ 2 ^ (5 - (level + 1))

pub half : (level first : ℕ) → level < 5 → suc first ≡ 2 ^ (5 - level) → Half level first
half zero first lt at = record { odd = omega arith; next = omega arith }
half (suc zero) first lt at = record { odd = omega arith; next = omega arith }
half (suc (suc zero)) first lt at = record { odd = omega arith; next = omega arith }
half (suc (suc (suc zero))) first lt at = record { odd = omega arith; next = omega arith }
half (suc (suc (suc (suc zero)))) first lt at = record { odd = omega arith; next = omega arith }
half (suc (suc (suc (suc (suc k))))) first lt at = absurd (omega arith)

-- the match above a written node is to be played again
pub up : (nodes : List Entry) (n h : ℕ) (x w d : Entry) → h ≡ (n - 1) / 2 → 0 < n → n < 63 → length nodes ≡ 63
    → winners (drop 1 nodes) ≡ take 31 (set nodes n x) → w ≡ winner (get_or (set nodes n x) (2 * h + 1) d) (get_or (set nodes n x) (2 * h + 2) d)
    → winners (drop 1 (set nodes n x)) ≡ take 31 (set (set nodes n x) h w)
up [] n h x w d above below within full stood won = absurd (omega arith)
up (a ∷ es) zero h x w d above below within full stood won = absurd (omega arith)
up (a ∷ es) (suc i) h x w d above below within full stood won =
    let first : 2 * h + 1 ≡ suc (h + h) = omega arith in
    let second : 2 * h + 2 ≡ suc (suc (h + h)) = omega arith in
    let seen : ℕ → Entry = λ n. get_or (a ∷ set es i x) n d in
    let again : w ≡ winner (seen (suc (h + h))) (seen (suc (suc (h + h)))) = won ∙ ap (λ n. winner (seen n) (seen (2 * h + 2))) first ∙ ap (λ n. winner (seen (suc (h + h))) (seen n)) second in
    winners_set es i h x d (omega arith, omega arith) (omega arith)
    ∙ ap (λ l. set l h (winner (seen (suc (h + h))) (seen (suc (suc (h + h)))))) stood
    ∙ ap (set (take 31 (set (a ∷ es) (suc i) x)) h) (sym again) ∙ sym (take-set-lt 31 (set (a ∷ es) (suc i) x) h w (omega arith))

leaves_set : (k : ℕ) (ks : Keys) (i : ℕ) (x : Option Key) → leaves_of k (set ks i x) ≡ set (leaves_of k ks) i (leaf (k + i) x)
leaves_set k [] i x = refl
leaves_set k (y ∷ ys) zero x = let e : k ≡ k + zero = omega arith in ap (λ n. leaf n x ∷ leaves_of (suc k) ys) e
leaves_set k (y ∷ ys) (suc i) x = let e : suc k + i ≡ k + suc i = omega arith in ap (λ l. leaf k y ∷ l) (leaves_set (suc k) ys i x ∙ ap (λ n. set (leaves_of (suc k) ys) i (leaf n x)) e)

pub own_set : (es : List Entry) (i : ℕ) (x : Entry) → es ≡ leaves_of 0 (keys_of es) → x ≡ leaf i (key_of x) → set es i x ≡ leaves_of 0 (keys_of (set es i x))
own_set es i x own at =
    let e : i ≡ 0 + i = omega arith in
    ap (λ l. set l i x) own ∙ ap (set (leaves_of 0 (keys_of es)) i) (at ∙ ap (λ n. leaf n (key_of x)) e)
    ∙ sym (leaves_set 0 (keys_of es) i (key_of x)) ∙ ap (leaves_of 0) (sym (map-set key_of es i x))

pub in_time_set : (es : List Entry) (i : ℕ) (x : Entry) → in_time es ≡ true → no_later x.key last ≡ true → in_time (set es i x) ≡ true
in_time_set [] i x early new = early
in_time_set (e ∷ es) zero x early new = and_from _ _ new (and_parts _ _ early).1
in_time_set (e ∷ es) (suc i) x early new = let parts = and_parts _ _ early in and_from _ _ parts.0 (in_time_set es i x parts.1 new)

pub in_time_vacant : (n : ℕ) → in_time (replicate n vacant) ≡ true
in_time_vacant zero = refl
in_time_vacant (suc n) = and_from _ _ (reflexive last) (in_time_vacant n)
