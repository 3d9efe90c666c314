-- What can be wrong with a line.
use Rattle.std.specs.Prelude.{ℕ, List, codes}

-- A bracket or the line's end is expected, or a byte is foreign; a word is expected, or is no form's; a number is
-- expected, or has too many digits; a field is missing, comes twice, or is none of the form's.
pub data Fault : Type 0 where
  no_bracket : Fault
  no_word : Fault
  no_number : Fault
  no_field : Fault

-- The number of a fault.
abbrev pub fault_number : Fault → ℕ
fault_number no_bracket = 21
fault_number no_word = 22
fault_number no_number = 23
fault_number no_field = 24

-- The word of a fault.
abbrev pub fault_word : Fault → List ℕ
fault_word no_bracket = codes "bracket"
fault_word no_word = codes "word"
fault_word no_number = codes "number"
fault_word no_field = codes "field"
