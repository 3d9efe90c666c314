-- The slots of fields, and the fields that go into them.
use Rattle.std.specs.Prelude.{◌≡◌, ℕ, ◌<◌, List, length, Some, None, Option, slice_index_or, slice_set}
use Rattle.grammar.specs.Reader.{Read, go, then}
use Rattle.grammar.specs.Slots.{slot_field}

-- A slot is there, and free.
pub record IsFree (slots : List (Option ℕ)) (i : ℕ) : Type 0 where
  pub within : i < length slots
  pub empty : slice_index_or slots i None ≡ None

-- A field behind its opening bracket, put into its slot.
abbrev pub filled_field : List (List ℕ) → List (Option ℕ) → ℕ → List ℕ → Read (List (Option ℕ))
filled_field names slots col xs = then (slot_field names slots col xs) (λ f. go (slice_set slots f.0 (Some f.1)))
