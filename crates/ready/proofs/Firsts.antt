-- The least of some keys stands first among them, and nothing else does.
use Rattle.std.proofs.Common.{◌≡◌, ℕ, zero, suc, ◌+◌, ◌<◌, Bool, true, false, cond, [], ◌∷◌, get_or, Some, None, Option, refl, ap, ◌∙◌, subst, inl, inr, arith}
use Rattle.std.proofs.lemmas.Bool.{cases_lt, both_ways}
use Rattle.ready.specs.declared.entry.Entry.{Entry}
use Rattle.ready.specs.declared.key.Key.{Key}
use Rattle.ready.specs.Keys.{no_later}
use Rattle.ready.specs.Least.{Keys, lesser, entry, least_from, least, First, LeastLaw}
use Rattle.ready.proofs.Ranks.{total, transitive, reflexive}

none_some : {T : Type 0} (o : Option T) (x : T) → o ≡ None → o ≡ Some x → ⊥
none_some o x p q = let z : ◌≡◌ {A = ℕ} 0 1 = cc in omega arith

-- First, among the keys of the sessions from j on
record Front (j : ℕ) (ks : Keys) (e : Entry) : Type 0 where
  place : ℕ
  is : e.session ≡ j + place
  has : get_or ks place None ≡ Some e.key
  soonest : (n : ℕ) (k : Key) → get_or ks n None ≡ Some k → no_later e.key k ≡ true
  lowest : (n : ℕ) (k : Key) → n < place → get_or ks n None ≡ Some k → no_later k e.key ≡ false

abbrev Best : ℕ → Keys → Option Entry → Type 0
Best j ks None = (n : ℕ) → get_or ks n None ≡ None
Best j ks (Some e) = Front j ks e

-- what holds of a first key and of the others holds of all
each : (x : Option Key) (xs : Keys) (P : Key → Type 0) → ((k : Key) → x ≡ Some k → P k) → ((n : ℕ) (k : Key) → get_or xs n None ≡ Some k → P k) → (n : ℕ) (k : Key) → get_or (x ∷ xs) n None ≡ Some k → P k
each x xs P here there zero k h = here k h
each x xs P here there (suc n) k h = there n k h

lower : (x : Option Key) (xs : Keys) (m : ℕ) (P : Key → Type 0) → ((k : Key) → x ≡ Some k → P k) → ((n : ℕ) (k : Key) → n < m → get_or xs n None ≡ Some k → P k) → (n : ℕ) (k : Key) → n < suc m → get_or (x ∷ xs) n None ≡ Some k → P k
lower x xs m P here there zero k low h = here k h
lower x xs m P here there (suc n) k low h = there n k (omega arith) h

-- the first key wins against the best of the others
stays : (j : ℕ) (x : Key) (xs : Keys) → ((n : ℕ) (k : Key) → get_or xs n None ≡ Some k → no_later x k ≡ true) → Front j (Some x ∷ xs) (record { key = x; session = j })
stays j x xs there = record {
  place = 0;
  is = omega arith;
  has = refl;
  soonest = each (Some x) xs (λ k. no_later x k ≡ true) (λ k h. let e : x ≡ k = cc in subst (λ y. no_later x y ≡ true) e (reflexive x)) there;
  lowest = λ n k low h. absurd (omega arith);
}

-- the best of the others wins against the first key
gives_way : (j : ℕ) (x : Option Key) (xs : Keys) (e : Entry) → Front (suc j) xs e → ((k : Key) → x ≡ Some k → no_later k e.key ≡ false) → Front j (x ∷ xs) e
gives_way j x xs e f later = record {
  place = suc f.place;
  is = omega (arith, f.is);
  has = f.has;
  soonest = each x xs (λ k. no_later e.key k ≡ true) (λ k h. total k e.key (later k h)) f.soonest;
  lowest = lower x xs f.place (λ k. no_later k e.key ≡ false) later f.lowest;
}

meet : (j : ℕ) (x : Key) (xs : Keys) (e : Entry) → Front (suc j) xs e → (b : Bool) → no_later x e.key ≡ b → Best j (Some x ∷ xs) (cond b (Some (record { key = x; session = j })) (Some e))
meet j x xs e f true won = stays j x xs (λ n k h. transitive x e.key k won (f.soonest n k h))
meet j x xs e f false lost = gives_way j (Some x) xs e f (λ k h. let same : x ≡ k = cc in subst (λ y. no_later y e.key ≡ false) same lost)

none_more : (xs : Keys) → ((n : ℕ) → get_or xs n None ≡ None) → (n : ℕ) → get_or (None ∷ xs) n None ≡ None
none_more xs none zero = refl
none_more xs none (suc n) = none n

ahead : (j : ℕ) (x : Option Key) (xs : Keys) (r : Option Entry) → Best (suc j) xs r → Best j (x ∷ xs) (lesser (entry j x) r)
ahead j None xs None b = none_more xs b
ahead j None xs (Some e) b = gives_way j None xs e b (λ k h. absurd (none_some None k refl h))
ahead j (Some x) xs None b = stays j x xs (λ n k h. absurd (none_some _ k (b n) h))
ahead j (Some x) xs (Some e) b = meet j x xs e b (no_later x e.key) refl

best : (j : ℕ) (ks : Keys) → Best j ks (least_from j ks)
best j [] = λ n. refl
best j (x ∷ xs) = ahead j x xs (least_from (suc j) xs) (best (suc j) xs)

front_first : (ks : Keys) (e : Entry) → Front 0 ks e → First ks e
front_first ks e f =
    let at : e.session ≡ f.place = omega (arith, f.is) in
    record { has = ap (λ n. get_or ks n None) at ∙ f.has; soonest = f.soonest; lowest = λ n k low h. f.lowest n k (omega arith) h }

-- two entries that stand first are of one session
apart : (ks : Keys) (a b : Entry) → First ks a → First ks b → a.session < b.session → ⊥
apart ks a b f g low = both_ways (no_later a.key b.key) (g.lowest a.session a.key low f.has) (f.soonest b.session b.key g.has)

one_session : (ks : Keys) (a b : Entry) → First ks a → First ks b → a.session ≡ b.session
one_session ks a b f g = elim (cases_lt a.session b.session) [ inl low ↦ absurd (apart ks a b f g low) | inr high ↦ elim (cases_lt b.session a.session) [ inl low ↦ absurd (apart ks b a g f low) | inr more ↦ omega arith ] ]

one_first : (ks : Keys) (a b : Entry) → First ks a → First ks b → a ≡ b
one_first ks a b f g =
    let s = one_session ks a b f g in
    let read : get_or ks a.session None ≡ get_or ks b.session None = ap (λ n. get_or ks n None) s in
    let p = f.has in
    let q = g.has in
    let k : a.key ≡ b.key = cc in
    let swap : Key → Entry = λ x. record { key = x; session = a.session } in
    let move : ℕ → Entry = λ n. record { key = b.key; session = n } in
    ap swap k ∙ ap move s

only : (ks : Keys) (e : Entry) (r : Option Entry) → Best 0 ks r → First ks e → r ≡ Some e
only ks e None b f = absurd (none_some _ e.key (b e.session) f.has)
only ks e (Some a) b f = ap Some (one_first ks a e (front_first ks a b) f)

no_key : (ks : Keys) (r : Option Entry) → Best 0 ks r → ((n : ℕ) → get_or ks n None ≡ None) → r ≡ None
no_key ks None b none = refl
no_key ks (Some a) b none = absurd (none_some _ a.key (none b.place) b.has)

pub least_law : LeastLaw
least_law ks = (
  (λ e. ((λ h. front_first ks e (subst (Best 0 ks) h (best 0 ks))), only ks e (least ks) (best 0 ks))),
  (λ h. subst (Best 0 ks) h (best 0 ks)),
  no_key ks (least ks) (best 0 ks),
)
