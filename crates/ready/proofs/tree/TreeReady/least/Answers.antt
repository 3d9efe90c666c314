-- The root is the least.
use Rattle.std.proofs.Common.{◌∙◌}
use Rattle.ready.proofs.Rounds.{root_least}
use Rattle.ready.proofs.tree.TreeReady.least.Goals as goal

pub returns : goal.returns
returns c =
    let t = c.args.self.now in
    c.shown.ensures ∙ root_least t.nodes _ t.full t.own t.early t.won
