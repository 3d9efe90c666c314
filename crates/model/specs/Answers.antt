-- What a call is answered.
use Rattle.std.specs.Prelude.{Some, None, Option, Ok, Err, Result}
use Rattle.model.specs.declared.calls.Departure.{Departure}
use Rattle.model.specs.declared.calls.Refusal.{Refusal}

-- It is done, a packet left, or it is refused.
pub data Answer : Type 0 where
  Done : Answer
  Left : Departure → Answer
  Refused : Refusal → Answer

-- As the code answers it: what left, if anything did, or why the call is refused.
abbrev pub answer_of : Result (Option Departure) Refusal → Answer
answer_of (Ok None) = Done
answer_of (Ok (Some d)) = Left d
answer_of (Err r) = Refused r

-- Where nothing can leave.
abbrev pub said : {A : Type 0} → Result A Refusal → Answer
said (Ok a) = Done
said (Err r) = Refused r

-- Where it is a packet that leaves.
abbrev pub left : Result Departure Refusal → Answer
left (Ok d) = Left d
left (Err r) = Refused r
