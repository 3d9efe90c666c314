-- A line with its rule, and a call on it.
use Rattle.model.specs.declared.calls.Call.{Call}
use Rattle.model.specs.Answers.{Answer}
use Rattle.model.specs.Model.{Acts, Outcome, State, refusal, rule_after, step}

-- The rule as it stands, and the state of the line.
pub record Held (X : Type 0) : Type 0 where
  pub rule : X
  pub state : State

module _ {X : Type 0} (R : Acts X) (l : Held X) (c : Call) where
  -- what the rules make of the call
  abbrev pub outcome_of : Outcome
  outcome_of = step (R.choices l.rule) (R.means l.rule) l.state c

  -- the answer to it
  abbrev pub answer_to : Answer
  answer_to = outcome_of.answer

  -- the line after it
  abbrev pub line_after : Held X
  line_after = record { rule = rule_after R l.rule c (refusal (R.choices l.rule) l.state c); state = outcome_of.state }
