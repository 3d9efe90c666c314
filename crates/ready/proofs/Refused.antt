-- A session above 31 has no place in the list, so a write there alters nothing.
use Rattle.std.proofs.Common.{◌≡◌, ℕ, ◌≤◌, false, ltb, length, set, Option, sym, arith}
use lib.Seq.{set_out}
use Rattle.std.proofs.lemmas.Bool.{ltb-false}
use Rattle.ready.specs.declared.key.Key.{Key}
use Rattle.ready.specs.Least.{Keys}

pub untouched : (ks : Keys) (s : ℕ) (x : Option Key) → length ks ≡ 32 → false ≡ ltb s 32 → ks ≡ set ks s x
untouched ks s x full refused =
    let past : length ks ≤ s = omega (arith, ltb-false s 32 (sym refused)) in
    sym (set_out ks s x past)
