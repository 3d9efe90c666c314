-- What each fault of the code stands for, and where it was met.
use Rattle.grammar.specs.Faults.{Fault as Fails, no_bracket, no_word, no_number, no_field}
use Rattle.runfile.specs.declared.place.Place.{Place}
use Rattle.runfile.specs.declared.faults.Fault.{Fault}
use Rattle.runfile.specs.declared.faults.Fault.TheVariants.{Bracket, Word, Number, Field}
use Rattle.runfile.specs.declared.faults.ScanFault.{ScanFault}
use Rattle.runfile.specs.declared.faults.ScanFault.TheVariants.{Foreign, Long}
use Rattle.runfile.specs.declared.faults.FormFault.{FormFault}
use Rattle.runfile.specs.declared.faults.FormFault.TheVariants.{Scan, Wrong}

-- A fault and its place.
pub record Met : Type 0 where
  pub fault : Fails
  pub place : Place

-- What can be wrong with a line.
abbrev pub fault_of : Fault → Fails
fault_of Bracket = no_bracket
fault_of Word = no_word
fault_of Number = no_number
fault_of Field = no_field

-- That, with its place.
abbrev pub met_of : Fault × Place → Met
met_of m = record { fault = fault_of m.0; place = m.1 }

-- The scanner's faults.
abbrev pub scan_met : ScanFault → Met
scan_met (Foreign p) = record { fault = no_bracket; place = p }
scan_met (Long p) = record { fault = no_number; place = p }

-- The form's faults: the scanner's is told whole. Its number and word are those of the fault.
abbrev pub met : FormFault → Met
met (Scan e) = scan_met e
met (Wrong f p) = record { fault = fault_of f; place = p }
