-- The faults of a run: the reader's whole, and the run's own.
use Rattle.std.specs.Prelude.{ℕ, ◌<◌, ◌≤◌, List, length, Ok, Err, codes, Option, Result}
use Rattle.answers.specs.Lines.{answer_text, fault_text}
use Rattle.grammar.specs.Faults.{fault_number, fault_word}
use Rattle.model.specs.declared.calls.Departure.{Departure}
use Rattle.model.specs.declared.calls.Refusal.{Refusal}
use Rattle.model.specs.Answers.{answer_of}
use Rattle.runfile.specs.Met.{met}
use Rattle.run.specs.declared.faults.RunFault.{RunFault}
use Rattle.run.specs.declared.faults.RunFault.TheVariants.{Form, Order, Page, Text}

-- What is told of a fault.
pub record Told : Type 0 where
  pub number : ℕ
  pub word : List ℕ
  pub line : ℕ
  pub column : ℕ

abbrev pub told : RunFault → Told
told (Form e) = record { number = fault_number (met e).fault; word = fault_word (met e).fault; line = (met e).place.line; column = (met e).place.column }
told (Order p) = record { number = 25; word = codes "order"; line = p.line; column = p.column }
told (Page p) = record { number = 26; word = codes "page"; line = p.line; column = p.column }
told Text = record { number = 27; word = codes "text"; line = 0; column = 0 }

-- Its line on the page.
abbrev pub told_text : Told → List ℕ
told_text t = fault_text t.number t.word t.line t.column

-- The line on the page for an answer or a fault.
abbrev pub outcome_text : Result (Result (Option Departure) Refusal) RunFault → List ℕ
outcome_text (Ok a) = answer_text (answer_of a)
outcome_text (Err e) = told_text (told e)

-- A fault whose line and column have at most five digits.
pub record ShortFault (t : Told) : Type 0 where
  pub number : t.number < 100
  pub word : length t.word ≤ 7
  pub line : t.line < 100000
  pub column : t.column < 100000

abbrev pub Short : Result (Result (Option Departure) Refusal) RunFault → Type 0
Short (Ok a) = Unit {0}
Short (Err e) = ShortFault (told e)
