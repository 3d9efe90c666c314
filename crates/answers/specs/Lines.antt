-- The text of each answer line, its end included.
use Rattle.std.specs.Prelude.{ℕ, List, ◌++◌, codes, decimal}
use Rattle.std.specs.Fmt.{signed_decimal}
use Rattle.answers.specs.declared.lines.Fault.{Fault}
use Rattle.model.specs.Answers.{Answer, Done, Left, Refused}
use Rattle.model.specs.declared.calls.Departure.{Departure}
use Rattle.model.specs.declared.calls.Refusal.{Refusal}
use Rattle.model.specs.Model.{number, word}

-- A refusal by its number and word.
unfoldable pub refused_text : Refusal → List ℕ
refused_text r = codes "(refused " ++ (decimal (number r) ++ (codes " " ++ (word r ++ codes ")\n")))

-- A departure.
unfoldable pub left_text : Departure → List ℕ
left_text d =
    codes "(left (session " ++ (decimal d.session
    ++ (codes ") (bytes " ++ (decimal d.bytes
    ++ (codes ") (arrived " ++ (decimal d.arrived
    ++ (codes ") (at " ++ (decimal d.at
    ++ (codes ") (due " ++ (decimal d.due
    ++ (codes ") (spare " ++ (signed_decimal d.spare
    ++ (codes ") (waiting " ++ (decimal d.waiting
    ++ codes "))\n")))))))))))))

-- A call's answer.
abbrev pub answer_text : Answer → List ℕ
answer_text Done = codes "(done)\n"
answer_text (Left d) = left_text d
answer_text (Refused r) = refused_text r

-- A fault by its number and word, with its line and column.
unfoldable pub fault_text : ℕ → List ℕ → ℕ → ℕ → List ℕ
fault_text n w line column =
    codes "(fault " ++ (decimal n ++ (codes " " ++ (w ++ (codes " " ++ (decimal line ++ (codes " " ++ (decimal column ++ codes ")\n")))))))

abbrev pub fault_line : Fault → List ℕ
fault_line f = fault_text f.number f.word.now f.line f.column
