-- What a form asks of a line.
use Rattle.std.specs.Prelude.{ℕ, List, slice_index}
use Rattle.grammar.specs.Forms.{Form, Kind, link, opens, close, change, pick, arrive, depart}
use Rattle.model.specs.declared.calls.Call.{Call}
use Rattle.model.specs.declared.calls.Call.TheVariants.{Open, Close, Change, Pick, Arrive, Depart}

-- To make it, or a call on it.
pub data Order : Type 0 where
  make : ℕ → Order
  call : Call → Order

-- By the form's kind and its values in the order of its fields.
abbrev pub ordered : Kind → List ℕ → Order
ordered link vs = make (slice_index vs 0)
ordered opens vs = call (Open (record { session = slice_index vs 1; interval = slice_index vs 2; places = slice_index vs 3; time = slice_index vs 0 }))
ordered close vs = call (Close (record { session = slice_index vs 1; time = slice_index vs 0 }))
ordered change vs = call (Change (record { session = slice_index vs 1; interval = slice_index vs 2; time = slice_index vs 0 }))
ordered pick vs = call (Pick (record { number = slice_index vs 1; time = slice_index vs 0 }))
ordered arrive vs = call (Arrive (record { session = slice_index vs 1; bytes = slice_index vs 2; time = slice_index vs 0 }))
ordered depart vs = call Depart

abbrev pub order_of : Form → Order
order_of f = ordered f.kind f.values
