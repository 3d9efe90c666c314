-- Fields read into slots, one for each name of a form: the shape that code has.
use Rattle.std.specs.Prelude.{◌≡◌, ℕ, zero, suc, cond, List, [], ◌∷◌, map, Some, None, Ok, Err, Option, Result, slice_set}
use Rattle.std.specs.Str.{bytes_eq}
use Rattle.grammar.specs.Faults.{Fault, no_bracket, no_field}
use Rattle.grammar.specs.Tokens.{Token, opening, closing, word, number}
use Rattle.grammar.specs.Reader.{Read, go, stop, then, token, taken, expect, as_word, as_number, as_closing, further, fields}

-- The place of a word among the names whose slot is free.
abbrev pub free_place : List (List ℕ) → List (Option ℕ) → List ℕ → Option ℕ
free_place [] ss w = None
free_place (n ∷ ns) [] w = None
free_place (n ∷ ns) (None ∷ ss) w = cond (bytes_eq w n) (Some 0) (further (free_place ns ss w))
free_place (n ∷ ns) (Some v ∷ ss) w = further (free_place ns ss w)

-- How many slots are free.
abbrev pub frees : List (Option ℕ) → ℕ
frees [] = 0
frees (None ∷ ss) = suc (frees ss)
frees (Some v ∷ ss) = frees ss

-- A field behind its opening bracket: its slot and its value.
abbrev pub slot_field : List (List ℕ) → List (Option ℕ) → ℕ → List ℕ → Read (ℕ × ℕ)
slot_field names ss col xs =
    then (expect (as_word no_field (free_place names ss)) col xs)
    (λ i c1 r1. then (expect as_number c1 r1)
    (λ v c2 r2. then (expect as_closing c2 r2)
    (λ _ c3 r3. go (i, v) c3 r3)))

-- A field goes into its slot, and more may follow; the closing bracket ends the fields: the slots, and its column.
abbrev pub slot_turn : List (List ℕ) → List (Option ℕ) → (List (Option ℕ) → ℕ → List ℕ → Read (List (Option ℕ) × ℕ)) → Option Token → ℕ → ℕ → List ℕ → Read (List (Option ℕ) × ℕ)
slot_turn names ss more (Some opening) c col rest = then (slot_field names ss col rest) (λ f c1 r1. more (slice_set ss f.0 (Some f.1)) c1 r1)
slot_turn names ss more (Some closing) c col rest = go (ss, c) col rest
slot_turn names ss more (Some (word w)) c col rest = stop no_bracket c
slot_turn names ss more (Some (number ds)) c col rest = stop no_bracket c
slot_turn names ss more None c col rest = stop no_bracket c

-- Fewer than k fields, each into its slot, and the form's closing bracket.
abbrev pub slot_fields : ℕ → List (List ℕ) → List (Option ℕ) → ℕ → List ℕ → Read (List (Option ℕ) × ℕ)
slot_fields zero names ss col xs = stop no_field col
slot_fields (suc k) names ss col xs = then (token col xs) (λ t. slot_turn names ss (slot_fields k names) t.0 t.1)

-- A value before the others.
abbrev pub before : ℕ → Result (List ℕ) Fault → Result (List ℕ) Fault
before v (Ok vs) = Ok (v ∷ vs)
before v (Err e) = Err e

-- The values of slots, none of which is free.
abbrev pub all_filled : List (Option ℕ) → Result (List ℕ) Fault
all_filled [] = Ok []
all_filled (None ∷ ss) = Err no_field
all_filled (Some v ∷ ss) = before v (all_filled ss)

-- The values of the slots, or a fault at the closing bracket if one is free.
abbrev pub closed : List (Option ℕ) × ℕ → ℕ → List ℕ → Read (List ℕ)
closed s col rest = taken (all_filled s.0) s.1 col rest

-- Slots that are all free.
abbrev pub free : List (List ℕ) → List (Option ℕ)
free names = map (λ _. None) names

-- Read into free slots, fields have the same values, faults and columns.
abbrev pub SlotsServe : Type 0
SlotsServe = (k : ℕ) (names : List (List ℕ)) (col : ℕ) (xs : List ℕ) → then (slot_fields k names (free names) col xs) closed ≡ fields k names col xs
