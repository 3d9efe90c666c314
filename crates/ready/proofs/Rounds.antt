-- A knock-out among the leaves ends with the least key.
use Rattle.std.proofs.Common.{◌≡◌, ℕ, zero, suc, ◌+◌, ◌-◌, ◌<◌, ◌≤◌, Bool, true, false, cond, ◌&&◌, ltb, List, [], ◌∷◌, length, get_or, take, drop, Some, None, Option, sym, refl, ap, ◌∙◌, subst, arith, lit≤}
use Rattle.std.proofs.lemmas.List.{length-map, length-drop, take_all, take-take, drop-take}
use Rattle.std.proofs.lemmas.Bool.{both_ways, cond-true, cond-false, cond_both, lt-ltb, and_parts}
use Rattle.ready.specs.declared.entry.Entry.{Entry}
use Rattle.ready.specs.declared.key.Key.{Key}
use Rattle.ready.specs.Keys.{no_later, last}
use Rattle.ready.specs.Least.{Keys, lesser, entry, least_from, least}
use Rattle.ready.specs.Levels.{shown, key_of, keys_of, leaf, leaves_of, in_time, winner, winners}
use Rattle.ready.proofs.Leasts.{lesser_none, lesser_assoc}

-- an entry with no session has the last key, and no key is later
abbrev Fair : Entry → Type 0
Fair e = (no_later e.key last ≡ true) × (ltb e.session 32 ≡ false → e.key ≡ last)

abbrev AllFair : List Entry → Type 0
AllFair [] = Unit
AllFair (e ∷ es) = Fair e × AllFair es

fair_winner : (a b : Entry) → Fair a → Fair b → Fair (winner a b)
fair_winner a b f g = cond_both (ltb a.session 32 && no_later a.key b.key) a b Fair (λ _. f) (λ _. g)

against : (a b : Entry) → Fair a → Fair b → (n s : Bool) → no_later a.key b.key ≡ n → ltb b.session 32 ≡ s
    → cond n (Some a) (cond s (Some b) None) ≡ lesser (Some a) (cond s (Some b) None)
against a b f g true true p q = sym (cond-true _ _ _ p)
against a b f g true false p q = refl
against a b f g false true p q = sym (cond-false _ _ _ p)
against a b f g false false p q = absurd (both_ways _ p (subst (λ k. no_later a.key k ≡ true) (sym (g.1 q)) f.0))

-- a match of plain entries agrees with what they mean
match : (a b : Entry) → Fair a → Fair b → (s n : Bool) → ltb a.session 32 ≡ s → no_later a.key b.key ≡ n
    → shown (cond (s && n) a b) ≡ lesser (cond s (Some a) None) (shown b)
match a b f g true true p q = cond-true _ _ _ p ∙ against a b f g true _ q refl
match a b f g true false p q = against a b f g false _ q refl
match a b f g false n p q = refl

winner_shown : (a b : Entry) → Fair a → Fair b → shown (winner a b) ≡ lesser (shown a) (shown b)
winner_shown a b f g = match a b f g _ _ refl refl

-- the least of what some entries mean
abbrev best : List Entry → Option Entry
best [] = None
best (e ∷ es) = lesser (shown e) (best es)

fair_winners : (es : List Entry) → AllFair es → AllFair (winners es)
fair_winners [] f = f
fair_winners (a ∷ []) f = f
fair_winners (a ∷ b ∷ es) f = (fair_winner a b f.0 f.1.0, fair_winners es f.1.1)

best_winners : (es : List Entry) → AllFair es → best (winners es) ≡ best es
best_winners [] f = refl
best_winners (a ∷ []) f = refl
best_winners (a ∷ b ∷ es) f =
    ap (λ x. lesser x (best (winners es))) (winner_shown a b f.0 f.1.0)
    ∙ ap (lesser (lesser (shown a) (shown b))) (best_winners es f.1.1)
    ∙ lesser_assoc (shown a) (shown b) (best es)

-- the next level up
record Up (low up : List Entry) : Type 0 where
  fair : AllFair up
  same : best up ≡ best low

next : (low up : List Entry) → up ≡ winners low → AllFair low → Up low up
next low up won f = record { fair = subst AllFair (sym won) (fair_winners low f); same = ap best won ∙ best_winners low f }

leaf_shown : (k : ℕ) (x : Option Key) → k < 32 → shown (leaf k x) ≡ entry k x
leaf_shown k None h = refl
leaf_shown k (Some x) h = cond-true _ _ _ (lt-ltb k 32 h)

leaf_fair : (k : ℕ) (x : Option Key) → k < 32 → no_later (leaf k x).key last ≡ true → Fair (leaf k x)
leaf_fair k None h early = (early, λ _. refl)
leaf_fair k (Some x) h early = (early, λ none. absurd (both_ways _ none (lt-ltb k 32 h)))

best_leaves : (k : ℕ) (ks : Keys) → k + length ks ≤ 32 → best (leaves_of k ks) ≡ least_from k ks
best_leaves k [] h = refl
best_leaves k (x ∷ xs) h =
    ap (λ e. lesser e (best (leaves_of (suc k) xs))) (leaf_shown k x (omega arith)) ∙ ap (lesser (entry k x)) (best_leaves (suc k) xs (omega arith))

fair_leaves : (k : ℕ) (ks : Keys) → k + length ks ≤ 32 → in_time (leaves_of k ks) ≡ true → AllFair (leaves_of k ks)
fair_leaves k [] h early = tt
fair_leaves k (x ∷ xs) h early =
    let parts = and_parts _ _ early in
    (leaf_fair k x (omega arith) parts.0, fair_leaves (suc k) xs (omega arith) parts.1)

-- the winners of a part of the pairs
part : (k m : ℕ) (es : List Entry) → k + k + (m + m) ≤ length es → winners (take (m + m) (drop (k + k) es)) ≡ take m (drop k (winners es))
part zero zero es within = refl
part zero (suc m) [] within = absurd (omega arith)
part zero (suc m) (a ∷ []) within = absurd (omega arith)
part zero (suc m) (a ∷ b ∷ es) within =
    let e : suc m + suc m ≡ suc (suc (m + m)) = omega arith in
    ap (λ n. winners (take n (a ∷ b ∷ es))) e ∙ ap (λ l. winner a b ∷ l) (part zero m es (omega arith))
part (suc k) m [] within = absurd (omega arith)
part (suc k) m (a ∷ []) within = absurd (omega arith)
part (suc k) m (a ∷ b ∷ es) within =
    let e : suc k + suc k ≡ suc (suc (k + k)) = omega arith in
    ap (λ n. winners (take (m + m) (drop n (a ∷ b ∷ es)))) e ∙ part k m es (omega arith)

-- the nodes of a level are as many as stand before it, and one more
abbrev level : List Entry → ℕ → List Entry
level nodes k = take (suc k) (drop k nodes)

-- each level has the winners of the one below
below : (nodes : List Entry) (k : ℕ) → length nodes ≡ 63 → winners (drop 1 nodes) ≡ take 31 nodes → k ≤ 15 → level nodes k ≡ winners (level nodes (suc (k + k)))
below [] k full won top = absurd (omega arith)
below (a ∷ es) k full won top =
    let width : suc (suc (k + k)) ≡ suc k + suc k = omega arith in
    let all : 31 ≡ k + (31 - k) = omega arith in
    let inner : level (take 31 (a ∷ es)) k ≡ level (a ∷ es) k =
    ap (λ n. level (take n (a ∷ es)) k) all ∙ ap (take (suc k)) (drop-take k (31 - k) (a ∷ es)) ∙ take-take (suc k) (31 - k) (drop k (a ∷ es)) (omega arith) in
    sym (ap (λ n. winners (take n (drop (k + k) es))) width ∙ part k (suc k) es (omega arith) ∙ ap (λ l. level l k) won ∙ inner)

-- a knock-out of five rounds ends with the least
pub root_least : (nodes : List Entry) (d : Entry) → length nodes ≡ 63 → drop 31 nodes ≡ leaves_of 0 (keys_of (drop 31 nodes)) → in_time (drop 31 nodes) ≡ true
    → winners (drop 1 nodes) ≡ take 31 nodes → shown (get_or nodes 0 d) ≡ least (keys_of (drop 31 nodes))
root_least [] d full own early won = absurd (omega arith)
root_least (a ∷ es) d full own early won =
    let nodes : List Entry = a ∷ es in
    let leaves : List Entry = drop 31 nodes in
    let long : length leaves ≡ 32 = omega (arith, length-drop 31 nodes) in
    let room : 0 + length (keys_of leaves) ≤ 32 = omega (arith, length-map leaves key_of) in
    let fair : AllFair leaves = subst AllFair (sym own) (fair_leaves 0 (keys_of leaves) room (subst (λ l. in_time l ≡ true) own early)) in
    let whole : level nodes 31 ≡ leaves = take_all 32 leaves (omega arith) in
    let won_below : (k : ℕ) → k ≤ 15 → level nodes k ≡ winners (level nodes (suc (k + k))) = λ k. below nodes k full won in
    let u16 = next leaves (level nodes 15) (won_below 15 (lit≤ tt) ∙ ap winners whole) fair in
    let u8 = next (level nodes 15) (level nodes 7) (won_below 7 (lit≤ tt)) u16.fair in
    let u4 = next (level nodes 7) (level nodes 3) (won_below 3 (lit≤ tt)) u8.fair in
    let u2 = next (level nodes 3) (level nodes 1) (won_below 1 (lit≤ tt)) u4.fair in
    let u1 = next (level nodes 1) (a ∷ []) (won_below 0 (lit≤ tt)) u2.fair in
    sym (lesser_none (shown a)) ∙ u1.same ∙ u2.same ∙ u4.same ∙ u8.same ∙ u16.same ∙ ap best own ∙ best_leaves 0 (keys_of leaves) room
