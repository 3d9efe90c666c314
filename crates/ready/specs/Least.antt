-- The least of some keys, and the session that has it: the lower session on equal keys.
use Rattle.std.specs.Prelude.{◌≡◌, ℕ, suc, ◌<◌, true, false, cond, List, [], ◌∷◌, Some, None, Option, slice_index_or}
use Rattle.ready.specs.declared.entry.Entry.{Entry}
use Rattle.ready.specs.declared.key.Key.{Key}
use Rattle.ready.specs.Keys.{no_later}

-- for each session, from 0 on, a key or none
abbrev pub Keys : Type 0
Keys = List (Option Key)

-- of two entries the one with the lesser key; the first on equal keys
abbrev pub lesser : Option Entry → Option Entry → Option Entry
lesser None b = b
lesser (Some a) None = Some a
lesser (Some a) (Some b) = cond (no_later a.key b.key) (Some a) (Some b)

abbrev pub entry : ℕ → Option Key → Option Entry
entry k None = None
entry k (Some x) = Some (record { key = x; session = k })

-- keys of the sessions from k on
abbrev pub least_from : ℕ → Keys → Option Entry
least_from k [] = None
least_from k (x ∷ xs) = lesser (entry k x) (least_from (suc k) xs)

abbrev pub least : Keys → Option Entry
least ks = least_from 0 ks

-- an entry stands first among the keys
pub record First (ks : Keys) (e : Entry) : Type 0 where
  -- its session has its key
  pub has : slice_index_or ks e.session None ≡ Some e.key
  -- no session has a sooner one
  pub soonest : (n : ℕ) (k : Key) → slice_index_or ks n None ≡ Some k → no_later e.key k ≡ true
  -- the key of each lower session is later
  pub lowest : (n : ℕ) (k : Key) → n < e.session → slice_index_or ks n None ≡ Some k → no_later k e.key ≡ false

-- The least is the entry that stands first, and there is none exactly if no session has a key.
abbrev pub LeastLaw : Type 0
LeastLaw = (ks : Keys)
    → ((e : Entry) → (least ks ≡ Some e → First ks e) × (First ks e → least ks ≡ Some e))
    × (least ks ≡ None → (n : ℕ) → slice_index_or ks n None ≡ None)
    × (((n : ℕ) → slice_index_or ks n None ≡ None) → least ks ≡ None)
