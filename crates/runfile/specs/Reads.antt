-- What the answer of a reader of a part of a line stands for.
use Rattle.std.specs.Prelude.{◌≡◌, ℕ, ◌+◌, ◌^◌, ◌<◌, ◌≤◌, length, Ok, Err, Result}
use Rattle.grammar.specs.Reader.{Read, go, stop}
use Rattle.runfile.specs.declared.place.Place.{Place}
use Rattle.runfile.specs.declared.reader.Reader.{Reader}
use Rattle.runfile.specs.Met.{Met}
use Rattle.runfile.specs.Places.{Along}

-- A place of the text from which every column up to its end can be counted.
pub record Inside (size : ℕ) (p : Place) : Type 0 where
  pub within : p.at ≤ size
  pub room : p.column + size < p.at + 2 ^ 64

-- The offset where the line of a reader ends.
abbrev pub line_end : Reader → ℕ
line_end r = r.place.at + length r.rest.now

-- In the line of r, the reader q stands where r does or behind it.
pub record Behind (r q : Reader) : Type 0 where
  pub place : Along (line_end r) r.place q.place
  pub end : line_end q ≡ line_end r

module _ {E : Type 0} (met : E → Met) {A : Type 0} where
  -- A value or a fault, where the reader stands at q behind what it read.
  abbrev pub read_of : {B : Type 0} → (A → B) → Result A E → Reader → Read B
  read_of f (Ok a) q = go (f a) q.place.column q.rest.now
  read_of f (Err e) q = stop (met e).fault (met e).place.column

  -- The reader that began at r stands at q in the same line, or met a fault at a place of it.
  abbrev pub Moves : Reader → Result A E → Reader → Type 0
  Moves r (Ok a) q = Behind r q
  Moves r (Err e) q = Along (line_end r) r.place (met e).place
