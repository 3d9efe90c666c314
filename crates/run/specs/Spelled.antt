-- What a text spells: the line that its first accepted link makes, and the calls that follow it. Every answer is the one
-- that the rules give after all the calls before.
use Rattle.std.specs.Prelude.{ℕ, List, [], ◌∷◌, ◌++◌, Some, None, Option}
use Rattle.model.specs.declared.calls.Call.{Call}
use Rattle.model.specs.declared.calls.Refusal.{Refusal}
use Rattle.model.specs.Model.{Acts, Setup, make_refusal, outcome, replay}
use Rattle.model.specs.Promises.{Promised}
use Rattle.run.specs.Orders.{Order, make, call}
use Rattle.run.specs.Machine.{Reply, said, disorder, run_text, text_after}
use Rattle.run.specs.Stages.{link_reply}

-- No line yet, or one for packets of at most so many bytes and the calls on it so far.
pub data Spelled : Type 0 where
  no_line : Spelled
  on_line : ℕ → List Call → Spelled

abbrev pub setup_of : ℕ → Setup
setup_of longest = record { longest = longest }

-- A link spells a line if it can be made.
abbrev pub link_spells : ℕ → Option Refusal → Spelled
link_spells longest None = on_line longest []
link_spells longest (Some r) = no_line

-- One order more.
abbrev pub spelled_after : Spelled → Order → Spelled
spelled_after no_line (make l) = link_spells l (make_refusal l)
spelled_after no_line (call c) = no_line
spelled_after (on_line l cs) (make m) = on_line l cs
spelled_after (on_line l cs) (call c) = on_line l (cs ++ (c ∷ []))

module _ {X : Type 0} (R : Acts X) (x : X) where
  -- a call is answered as the rules say after all the calls before it; a call without a line, and a second link, are out of order
  abbrev pub spelled_reply : Spelled → Order → Reply
  spelled_reply no_line (make l) = link_reply (make_refusal l)
  spelled_reply no_line (call c) = disorder
  spelled_reply (on_line l cs) (make m) = disorder
  spelled_reply (on_line l cs) (call c) = said (outcome R (replay R x (setup_of l) cs) c).answer

  -- what the run of a text writes on a page of this size
  abbrev pub page_of : ℕ → List ℕ → List ℕ
  page_of size text = run_text spelled_reply spelled_after no_line size text

  -- the line and the calls that the text has spelled where the run ends
  abbrev pub spelled_in : ℕ → List ℕ → Spelled
  spelled_in size text = text_after spelled_reply spelled_after no_line size text

  -- of those calls all is promised
  abbrev pub Kept : Spelled → Type 0
  Kept no_line = Unit {0}
  Kept (on_line l cs) = Promised R x (setup_of l) cs
