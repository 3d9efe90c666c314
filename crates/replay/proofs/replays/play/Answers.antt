use Rattle.std.proofs.Common.{◌<◌, ◌≤◌, length, refl, ◌∙◌, arith, length-set}
use Rattle.replay.proofs.Plays.{all_told, one_more}
use Rattle.replay.proofs.replays.play.Goals as goal

pub loop-turn-init : goal.loop-turn-init
loop-turn-init g c = (refl, refl)

pub loop-turn-preserved : goal.loop-turn-preserved
loop-turn-preserved g c =
    let ts = c.loop-turn.turns in
    let i = c.loop-turn.turn-index in
    let lt : i < length ts = omega arith in (
      one_more g.R.Rule.acts c.loop-turn.line _ ts i _ _ _ lt c.serve-turn.ensures.told c.serve-turn.ensures.after c.loop-turn.invariant.0,
      length-set ts i _ ∙ c.loop-turn.invariant.1,
    )

pub returns : goal.returns
returns g c =
    let ts = c.loop-turn.turns in
    let le : length ts ≤ c.loop-turn.turn-index = omega arith in
    all_told g.R.Rule.acts c.loop-turn.line ts c.loop-turn.turn-index _ le c.loop-turn.invariant.0
