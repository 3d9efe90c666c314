-- What ties the ready queues of a line to its book, and lets every call on the line go on.
use Rattle.std.specs.Prelude.{◌≡◌, None, Some, Option}
use Rattle.ready.specs.declared.entry.Entry.{Entry}
use Rattle.ready.specs.Least.{Keys}
use Rattle.model.specs.Model.{State, finish_keys, start_keys}
use Rattle.model.specs.Invariants.{Steady}

-- What the two queues of a line hold.
pub record Stamps : Type 0 where
  pub finishes : Keys
  pub starts : Keys

-- A line that can go on, with the heads' finishes in one queue and their starts in the other.
pub record Sound (finishes starts : Keys) (st : State) : Type 0 where
  pub steady : Steady st
  pub by_finish : finishes ≡ finish_keys st.sessions
  pub by_start : starts ≡ start_keys st.sessions

-- Two entries, if both are there.
abbrev pub both : Option Entry → Option Entry → Option (Entry × Entry)
both None o = None
both (Some f) None = None
both (Some f) (Some s) = Some (f, s)
