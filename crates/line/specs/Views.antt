-- What the book of a line and its answers stand for in the model of a line.
use Rattle.std.specs.Prelude.{ℕ, List, Ok, Err, Option, Some, None, sum_by, Result}
use Rattle.model.specs.declared.calls.Refusal.{Refusal}
use Rattle.model.specs.declared.calls.Call.{Call}
use Rattle.model.specs.Answers.{Answer}
use Rattle.model.specs.Model as M
use Rattle.line.specs.Records.{wire_of}
use Rattle.line.specs.declared.book.Book.TheInside.{Inside}

-- The book of a line is its state.
abbrev pub state_of : Inside → M.State
state_of b = record { longest = b.longest; time = b.time; wire = wire_of b.wire; sessions = b.sessions.value }

-- What is counted of sessions at the position x.
abbrev pub booked : ℕ → List M.Session → ℕ
booked x ss = sum_by (M.counted x) ss

-- Why a call may not be made, if so.
abbrev pub refused : {A : Type 0} → Result A Refusal → Option Refusal
refused (Ok a) = None
refused (Err r) = Some r

-- The answer to a call, and the line after it. Opens and closes ask nothing of the rule.
abbrev pub told : M.State → Call → Answer
told st c = (M.step 0 (λ s f. 0) st c).answer

abbrev pub after : M.State → Call → M.State
after st c = (M.step 0 (λ s f. 0) st c).state
