-- The forms of the code.
use Rattle.std.specs.Prelude.{◌≡◌, ℕ, ◌-◌, ◌≤◌, [], ◌∷◌, Ok, Err, Result}
use Rattle.grammar.specs.Forms.{Form as Spelled, link, opens, close, change, pick, arrive, depart}
use Rattle.grammar.specs.Reader.{Answer, good, wrong}
use Rattle.model.specs.declared.calls.Call.{Call}
use Rattle.model.specs.declared.calls.Call.TheVariants.{Open, Close, Change, Pick, Arrive, Depart}
use Rattle.runfile.specs.declared.faults.FormFault.{FormFault}
use Rattle.runfile.specs.declared.forms.Form.{Form}
use Rattle.runfile.specs.declared.forms.Form.TheVariants.{Link, Call as Calls}
use Rattle.runfile.specs.declared.place.Place.{Place}
use Rattle.runfile.specs.Met.{met}
use Rattle.runfile.specs.Places.{ahead}

-- The kind and the values of a form that is a call, in the order of the table.
abbrev pub call_form : Call → Spelled
call_form (Open c) = record { kind = opens; values = c.time ∷ c.session ∷ c.interval ∷ c.places ∷ [] }
call_form (Close c) = record { kind = close; values = c.time ∷ c.session ∷ [] }
call_form (Change c) = record { kind = change; values = c.time ∷ c.session ∷ c.interval ∷ [] }
call_form (Pick c) = record { kind = pick; values = c.time ∷ c.number ∷ [] }
call_form (Arrive c) = record { kind = arrive; values = c.time ∷ c.session ∷ c.bytes ∷ [] }
call_form Depart = record { kind = depart; values = [] }

-- The kind and the values of a form.
abbrev pub form_of : Form → Spelled
form_of (Link longest) = record { kind = link; values = longest ∷ [] }
form_of (Calls c) = call_form c

-- What the reader of a line answers.
abbrev pub answer_of : Result Form FormFault → Answer
answer_of (Ok f) = good (form_of f)
answer_of (Err e) = wrong (met e).fault (met e).place.column

-- The fault has its place in the line that begins at p, up to the end of the text.
abbrev pub FaultIn : ℕ → Place → FormFault → Type 0
FaultIn size p e = ((met e).place ≡ ahead p ((met e).place.at - p.at)) × ((met e).place.at ≤ size)

-- Begun at p, the reader of a form stands at the end of the text, or met a fault in the line.
abbrev pub Ends : ℕ → Place → Result Form FormFault → Place → Type 0
Ends size p (Ok f) q = q ≡ ahead p (size - p.at)
Ends size p (Err e) q = FaultIn size p e

-- Where it met a fault, the reader of a line stands at p again, and the fault has its place in the line, up to the end of
-- the text.
abbrev pub Leaves : ℕ → Place → Result Form FormFault → Place → Type 0
Leaves size p (Ok f) q = q ≡ ahead p (size - p.at)
Leaves size p (Err e) q = (q ≡ p) × ((met e).place ≡ ahead p ((met e).place.at - p.at)) × ((met e).place.at ≤ size)
