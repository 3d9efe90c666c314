-- The kinds of form: a table with the word of each and the words of its fields.
use Rattle.std.specs.Prelude.{◌≡◌, ℕ, ◌⊎◌, List, [], ◌∷◌, codes}

-- The kinds of form.
pub data Kind : Type 0 where
  link : Kind
  opens : Kind
  close : Kind
  change : Kind
  pick : Kind
  arrive : Kind
  depart : Kind

-- A row of the table: a kind, its word, and the words of its fields in the order of a form's values.
pub record Row : Type 0 where
  pub kind : Kind
  pub call : List ℕ
  pub names : List (List ℕ)

abbrev pub link_row : Row
link_row = record { kind = link; call = codes "link"; names = codes "longest" ∷ [] }

abbrev pub open_row : Row
open_row = record { kind = opens; call = codes "open"; names = codes "at" ∷ codes "session" ∷ codes "interval" ∷ codes "places" ∷ [] }

abbrev pub close_row : Row
close_row = record { kind = close; call = codes "close"; names = codes "at" ∷ codes "session" ∷ [] }

abbrev pub change_row : Row
change_row = record { kind = change; call = codes "change"; names = codes "at" ∷ codes "session" ∷ codes "interval" ∷ [] }

abbrev pub pick_row : Row
pick_row = record { kind = pick; call = codes "pick"; names = codes "at" ∷ codes "rule" ∷ [] }

abbrev pub arrive_row : Row
arrive_row = record { kind = arrive; call = codes "arrive"; names = codes "at" ∷ codes "session" ∷ codes "bytes" ∷ [] }

abbrev pub depart_row : Row
depart_row = record { kind = depart; call = codes "depart"; names = [] }

-- The table: one row for each kind.
abbrev pub table : List Row
table = link_row ∷ open_row ∷ close_row ∷ change_row ∷ pick_row ∷ arrive_row ∷ depart_row ∷ []

-- A row stands in a table.
abbrev pub Stands : Row → List Row → Type 0
Stands r [] = ⊥
Stands r (t ∷ ts) = (r ≡ t) ⊎ Stands r ts

-- A form: its kind, and a value for each of the kind's fields in their order.
pub record Form : Type 0 where
  pub kind : Kind
  pub values : List ℕ
