-- A study as the program holds it: no line yet, with the rule that it will have, or a line with its rule.
use Rattle.std.specs.Prelude.{ℕ, List, Some, None, Option}
use Rattle.model.specs.Answers.{Done, Refused}
use Rattle.model.specs.declared.calls.Refusal.{Refusal}
use Rattle.model.specs.Model.{Acts, State, made, make_refusal, refusal, rule_after, step}
use Rattle.grammar.specs.Reader.{Answer as Reading}
use Rattle.run.specs.Orders.{Order, make, call}
use Rattle.run.specs.Machine.{Reply, said, disorder, line_text, line_after, run_text}

-- (A study that is neither has been taken apart; no order leads there.)
pub data Stage (X : Type 0) : Type 0 where
  unlinked : X → Stage X
  linked : X → State → Stage X
  apart : Stage X

-- A link, by whether the line can be made.
abbrev pub link_reply : Option Refusal → Reply
link_reply None = said Done
link_reply (Some r) = said (Refused r)

abbrev pub link_after : {X : Type 0} → X → ℕ → Option Refusal → Stage X
link_after x longest None = linked x (made (record { longest = longest }))
link_after x longest (Some r) = unlinked x

module _ {X : Type 0} (R : Acts X) where
  abbrev pub stage_reply : Stage X → Order → Reply
  stage_reply (unlinked x) (make l) = link_reply (make_refusal l)
  stage_reply (unlinked x) (call c) = disorder
  stage_reply (linked x st) (make l) = disorder
  stage_reply (linked x st) (call c) = said (step (R.choices x) (R.means x) st c).answer
  stage_reply apart o = disorder

  abbrev pub stage_after : Stage X → Order → Stage X
  stage_after (unlinked x) (make l) = link_after x l (make_refusal l)
  stage_after (unlinked x) (call c) = unlinked x
  stage_after (linked x st) (make l) = linked x st
  stage_after (linked x st) (call c) = linked (rule_after R x c (refusal (R.choices x) st c)) (step (R.choices x) (R.means x) st c).state
  stage_after apart o = apart

  -- the line of the page for a line that was read so, with this number, and where it leads
  abbrev pub stage_line : Stage X → ℕ → Reading → List ℕ
  stage_line = line_text stage_reply stage_after

  abbrev pub stage_next : Stage X → Reading → Stage X
  stage_next = line_after stage_reply stage_after

  -- what a whole text writes on a page of this size
  abbrev pub stage_text : Stage X → ℕ → List ℕ → List ℕ
  stage_text = run_text stage_reply stage_after
