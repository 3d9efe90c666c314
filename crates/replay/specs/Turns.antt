-- What a list of turns tells: its calls, and the history of calls and answers.
use Rattle.std.specs.Prelude.{ℕ, List, map, reverse}
use Rattle.model.specs.declared.calls.Call.{Call}
use Rattle.model.specs.Answers.{answer_of}
use Rattle.model.specs.Model.{Event, Run, Setup}
use Rattle.line.specs.Calls.{Held}
use Rattle.replay.specs.declared.turn.Turn.{Turn}

abbrev pub setup_of : ℕ → Setup
setup_of longest = record { longest = longest }

-- The calls, in their order.
abbrev pub calls_of : List Turn → List Call
calls_of ts = map (λ t. t.call) ts

-- Each call with its answer.
abbrev pub event_of : Turn → Event
event_of t = record { call = t.call; answer = answer_of t.answer }

-- The history that they tell, the last one first.
abbrev pub history_of : List Turn → List Event
history_of ts = reverse (map event_of ts)

-- A run that has come to this line, with these turns behind it.
abbrev pub run_of : {X : Type 0} → Held X → List Turn → Run X
run_of l ts = record { rule = l.rule; state = l.state; history = history_of ts }
