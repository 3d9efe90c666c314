-- What a token is taken for.
use Rattle.std.specs.Prelude.{◌≡◌, ℕ, Ok, Err, Option, Result}
use Rattle.grammar.specs.Faults.{Fault as Fails}
use Rattle.grammar.specs.Reader.{go, stop, token}
use Rattle.runfile.specs.declared.faults.Fault.{Fault}
use Rattle.runfile.specs.declared.faults.FormFault.{FormFault}
use Rattle.runfile.specs.declared.faults.FormFault.TheVariants.{Scan, Wrong}
use Rattle.runfile.specs.declared.reader.Reader.{Reader}
use Rattle.runfile.specs.declared.scanner.Token.{Token}
use Rattle.runfile.specs.Met.{fault_of, scan_met}
use Rattle.runfile.specs.Scanned.{token_of}

-- What it is taken for, or the fault that it is.
abbrev pub taken_of : {A B : Type 0} → (A → B) → Result A Fault → Result B Fails
taken_of f (Ok a) = Ok (f a)
taken_of f (Err e) = Err (fault_of e)

-- The reader took the next token as P says, or the scanner met a fault.
abbrev pub Takes : {A : Type 0} → (Option Token → Result A Fault → Type 0) → Reader → Result A FormFault → Reader → Type 0
Takes P r (Ok a) q = (t : Option Token) × (col : ℕ) × (go (token_of t, col) q.place.column q.rest.now ≡ token r.place.column r.rest.now) × P t (Ok a)
Takes P r (Err (Scan e)) q = stop (scan_met e).fault (scan_met e).place.column ≡ token r.place.column r.rest.now
Takes P r (Err (Wrong f p)) q = (t : Option Token) × (go (token_of t, p.column) q.place.column q.rest.now ≡ token r.place.column r.rest.now) × P t (Err f)
