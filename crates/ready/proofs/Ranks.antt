-- The laws of the one comparison of keys. Nothing else looks inside it.
use Rattle.std.proofs.Common.{◌≡◌, ◌^◌, ◌<◌, true, false, inl, inr, arith}
use Rattle.std.proofs.lemmas.Bool.{cases_Bool, both_ways}
use Rattle.std.proofs.lemmas.Bool.Decides.{nat_tests}
use Rattle.ready.specs.declared.key.Key.{Key}
use Rattle.ready.specs.Keys.{no_later, last}

pub total : (a b : Key) → no_later a b ≡ false → no_later b a ≡ true
unfolding no_later
total a b h = grind (arith, nat_tests)

pub transitive : (a b c : Key) → no_later a b ≡ true → no_later b c ≡ true → no_later a c ≡ true
unfolding no_later
transitive a b c h k = grind (arith, nat_tests)

pub reflexive : (a : Key) → no_later a a ≡ true
unfolding no_later
reflexive a = grind (arith, nat_tests)

pub later : (a b c : Key) → no_later a b ≡ false → no_later b c ≡ false → no_later a c ≡ false
later a b c h k = elim (cases_Bool (no_later a c)) [ inl sooner ↦ absurd (both_ways _ h (transitive a c b sooner (total b c k))) | inr e ↦ e ]

pub before_last : (a : Key) → a.stamp < 2 ^ 64 → no_later a last ≡ true
unfolding no_later
before_last a h = grind (arith, nat_tests)
