-- How keys are ranked.
use Rattle.std.specs.Prelude.{Bool, nat_le}
use Rattle.ready.specs.declared.key.Key.{Key}

-- the first key is sooner than the second, or they are equal
unfoldable pub no_later : Key → Key → Bool
no_later a b = nat_le a.stamp b.stamp

-- no key is later
abbrev pub last : Key
last = record { stamp = 18446744073709551615 }
