-- The walk folds the entries of the slots, in the order of the sessions.
use Rattle.std.proofs.Common.{None, ◌∙◌, rules, tests}
use Rattle.std.proofs.lemmas.Iterator.{YieldsList-from_slice}
use Rattle.std.proofs.lemmas.Iterator.Consumers.{fold_from_yields_List, YieldsList-from_enumerate}
use Rattle.ready.specs.Least.{lesser, entry}
use Rattle.ready.proofs.Leasts.{walked}
use Rattle.ready.proofs.table.TableReady.least.Goals as goal

pub returns : goal.returns
returns c =
    let slots = c.args.self.now.slots in
    fold_from_yields_List _ (λ b p. lesser b (entry p.0 p.1)) None _ c.fold.ensures.ran
    (YieldsList-from_enumerate (YieldsList-from_slice slots cc) (cc))
    (λ a x b q h. search (rules, tests))
    ∙ walked None 0 slots
