-- A knock-out among plain entries, level by level.
use Rattle.std.specs.Prelude.{ℕ, suc, Bool, true, cond, ◌&&◌, List, [], ◌∷◌, map, Some, None, Option, nat_lt}
use Rattle.ready.specs.declared.entry.Entry.{Entry}
use Rattle.ready.specs.declared.key.Key.{Key}
use Rattle.ready.specs.Keys.{no_later, last}
use Rattle.ready.specs.Least.{Keys}

-- the leaf of a session that has no key
abbrev pub vacant : Entry
vacant = record { key = last; session = 32 }

-- what a plain entry means
abbrev pub shown : Entry → Option Entry
shown e = cond (nat_lt e.session 32) (Some e) None

abbrev pub key_of : Entry → Option Key
key_of e = cond (nat_lt e.session 32) (Some e.key) None

abbrev pub keys_of : List Entry → Keys
keys_of es = map key_of es

-- the leaf of session k, from its key
abbrev pub leaf : ℕ → Option Key → Entry
leaf k None = vacant
leaf k (Some x) = record { key = x; session = k }

-- the leaves of the sessions from k on
abbrev pub leaves_of : ℕ → Keys → List Entry
leaves_of k [] = []
leaves_of k (x ∷ xs) = leaf k x ∷ leaves_of (suc k) xs

-- no key is later than the last one
abbrev pub in_time : List Entry → Bool
in_time [] = true
in_time (e ∷ es) = no_later e.key last && in_time es

-- the left one, unless it is vacant or the right one's key is sooner
abbrev pub winner : Entry → Entry → Entry
winner a b = cond (nat_lt a.session 32 && no_later a.key b.key) a b

-- the winners of the pairs
abbrev pub winners : List Entry → List Entry
winners [] = []
winners (a ∷ []) = a ∷ []
winners (a ∷ b ∷ xs) = winner a b ∷ winners xs
