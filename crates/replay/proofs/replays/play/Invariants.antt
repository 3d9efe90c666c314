use Rattle.std.proofs.Common.{◌≡◌, [], length}
use Rattle.model.specs.Model.{calls_on}
use Rattle.replay.specs.Turns.{calls_of, run_of}
use Rattle.replay.proofs.Plays.{Told}
use Rattle.replay.proofs.replays.play.Given as goal

abbrev pub invariant-loop-turn : goal.invariant-loop-turn
invariant-loop-turn g l =
    Told g.R.Rule.acts l.line l.turns l.turn-index (calls_on g.R.Rule.acts (run_of l.initial.line []) (calls_of l.initial.turns))
    × (length l.turns ≡ length l.initial.turns)
