-- What a form came to.
use Rattle.std.specs.Prelude.{Some, None, Option, Result}
use Rattle.model.specs.declared.calls.Departure.{Departure}
use Rattle.model.specs.declared.calls.Refusal.{Refusal}
use Rattle.model.specs.Answers.{answer_of}
use Rattle.run.specs.Machine.{Reply, said, disorder}

-- an answer, or none where it is out of order
abbrev pub reply_of : Option (Result (Option Departure) Refusal) → Reply
reply_of None = disorder
reply_of (Some a) = said (answer_of a)
