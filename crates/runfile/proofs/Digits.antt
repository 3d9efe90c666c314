-- A number of at most 13 digits fits. Assumes nothing.
use Rattle.std.proofs.Common.{◌≡◌, ℕ, suc, ◌+◌, ◌-◌, ◌*◌, ◌^◌, ◌<◌, ◌≤◌, List, [], ◌∷◌, ◌++◌, length, map, Some, sym, refl, ap, ◌∙◌, subst, pow-suc, length-append, arith}
use native.Mathlib.Nat.{pow-le-pow_right}
use denote.Ref.{Bor}
use Rattle.std.specs.Iterator.{Yields}
use Rattle.std.specs.List.{AllByRecursion}
use Rattle.std.proofs.lemmas.Fn.{fronts}
use Rattle.std.specs.declared.slice.Iter.{Iter}
use Rattle.grammar.specs.Bytes.{Within, number_from}

-- Of some digits before others, the number is below a power of ten.
pub below : (n i : ℕ) (ds es : List ℕ) → n < 10 ^ i → AllByRecursion (Within 48 57) (ds ++ es) → number_from n ds < 10 ^ (length ds + i)
below n i [] es h a = let e : 0 + i ≡ i = omega arith in subst (λ k. n < 10 ^ k) (sym e) h
below n i (d ∷ ds) es h a =
    let e : length ds + suc i ≡ suc (length ds) + i = omega arith in
    let w = a.0 in
    subst (λ k. number_from (n * 10 + (d - 48)) ds < 10 ^ k) e (below (n * 10 + (d - 48)) (suc i) ds es (omega (arith, pow-suc 10 i)) a.1)

few_below : (n i j : ℕ) → n < 10 ^ i → i ≤ j → n < 10 ^ j
few_below n i j h few = let z : 0 < 10 = omega arith in let p : 10 ^ i ≤ 10 ^ j = pow-le-pow_right {n = 10} z {i = i} {j = j} few in omega (arith, p)

pub number_below : (n : ℕ) (ds es : List ℕ) (k : ℕ) → AllByRecursion (Within 48 57) (ds ++ es) → length ds ≤ k → n ≡ number_from 0 ds → n < 10 ^ k
number_below n ds es k a few e = few_below n (length ds + 0) k (subst (λ m. m < 10 ^ (length ds + 0)) (sym e) (below 0 0 ds es (omega arith) a)) (omega arith)

digit_in : (ds : List ℕ) (d : ℕ) (es : List ℕ) → AllByRecursion (Within 48 57) (ds ++ (d ∷ es)) → Within 48 57 d
digit_in [] d es a = a.0
digit_in (e ∷ ds) d es a = digit_in ds d es a.1

-- One digit more.
pub number_push : (n : ℕ) (ds : List ℕ) (d : ℕ) → number_from n (ds ++ (d ∷ [])) ≡ number_from n ds * 10 + (d - 48)
number_push n [] d = refl
number_push n (e ∷ ds) d = number_push (n * 10 + (e - 48)) ds d

-- The digits that were taken, by reference.
abbrev pub taken : List (Bor ℕ) → List ℕ
taken xs = map (λ y. y.now) xs

pub taken_push : (n : ℕ) (xs : List (Bor ℕ)) (x : Bor ℕ) → number_from n (taken (xs ++ (x ∷ []))) ≡ number_from n (taken xs) * 10 + (x.now - 48)
taken_push n [] x = refl
taken_push n (y ∷ ys) x = taken_push (n * 10 + (y.now - 48)) ys x

so_far : (xs : List (Bor ℕ)) (s t : Iter ℕ) → Yields fronts s xs t → s.rest.now ≡ taken xs ++ t.rest.now
so_far [] s t y = ap (λ i. i.rest.now) y
so_far (x ∷ xs) s t y = y.1 ∙ ap (λ l. x.now ∷ l) (so_far xs y.0 t y.2)

-- The next one is a digit, and the number so far has room for it.
pub next_digit : (n : ℕ) (bytes : List ℕ) (xs : List (Bor ℕ)) (x : Bor ℕ) (s t u : Iter ℕ) → Yields fronts s xs t → fronts t (Some x) u → s.rest.now ≡ bytes → length bytes ≤ 13
    → AllByRecursion (Within 48 57) bytes → n ≡ number_from 0 (taken xs) → (n < 10 ^ 12) × Within 48 57 x.now
next_digit n bytes xs x s t u y f e few a h =
    let is : bytes ≡ taken xs ++ (x.now ∷ u.rest.now) = sym e ∙ so_far xs s t y ∙ ap (λ l. taken xs ++ l) f in
    let all : AllByRecursion (Within 48 57) (taken xs ++ (x.now ∷ u.rest.now)) = subst (AllByRecursion (Within 48 57)) is a in
    let long = ap length is ∙ length-append (taken xs) (x.now ∷ u.rest.now) in
    (number_below n (taken xs) (x.now ∷ u.rest.now) 12 all (omega arith) h, digit_in (taken xs) x.now u.rest.now all)
