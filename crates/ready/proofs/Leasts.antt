-- The least of several is the same however they are grouped, so a walk from the first session on finds it.
use Rattle.std.proofs.Common.{◌≡◌, ℕ, suc, Bool, true, false, cond, [], ◌∷◌, Some, None, Option, sym, refl, ◌∙◌, add-one}
use Rattle.std.proofs.lemmas.Bool.{cond-true, cond-false}
use Rattle.std.specs.List.{fold, enumerate_from}
use Rattle.ready.specs.declared.entry.Entry.{Entry}
use Rattle.ready.specs.Keys.{no_later}
use Rattle.ready.specs.Least.{Keys, lesser, entry, least_from}
use Rattle.ready.proofs.Ranks.{transitive, later}

pub lesser_none : (a : Option Entry) → lesser a None ≡ a
lesser_none None = refl
lesser_none (Some a) = refl

three : (a b c : Entry) (ab bc : Bool) → no_later a.key b.key ≡ ab → no_later b.key c.key ≡ bc
    → lesser (cond ab (Some a) (Some b)) (Some c) ≡ lesser (Some a) (cond bc (Some b) (Some c))
three a b c true true p q = cond-true _ _ _ (transitive a.key b.key c.key p q) ∙ sym (cond-true _ _ _ p)
three a b c true false p q = refl
three a b c false true p q = cond-true _ _ _ q ∙ sym (cond-false _ _ _ p)
three a b c false false p q = cond-false _ _ _ q ∙ sym (cond-false _ _ _ (later a.key b.key c.key p q))

pub lesser_assoc : (a b c : Option Entry) → lesser (lesser a b) c ≡ lesser a (lesser b c)
lesser_assoc None b c = refl
lesser_assoc (Some a) None c = refl
lesser_assoc (Some a) (Some b) None = lesser_none _
lesser_assoc (Some a) (Some b) (Some c) = three a b c _ _ refl refl

-- the best so far, of a walk that goes on with the sessions from k on
pub walked : (best : Option Entry) (k : ℕ) (ks : Keys) → fold (λ b p. lesser b (entry p.0 p.1)) best (enumerate_from k ks) ≡ lesser best (least_from k ks)
walked best k [] = sym (lesser_none best)
walked best k (x ∷ xs) = rw add-one (walked (lesser best (entry k x)) (suc k) xs ∙ lesser_assoc best (entry k x) (least_from (suc k) xs))
