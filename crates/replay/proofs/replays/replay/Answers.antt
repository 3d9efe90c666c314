use Rattle.std.proofs.Common.{rules}
use Rattle.model.proofs.Bursts.{promised}
use Rattle.model.proofs.Runs.{made_proper}
use Rattle.replay.specs.Turns.{calls_of, setup_of}
use Rattle.replay.proofs.replays.replay.Goals as goal

pub returns-clause-promised : goal.returns-clause-promised
returns-clause-promised g c =
    promised g.R.Rule.acts c.args.parts.rule (setup_of c.args.longest) (calls_of c.args.turns.now) (λ y reached. g.met.R.Rule.lawful y) (made_proper c.args.longest (search rules))
