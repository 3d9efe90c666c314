-- What `search` leaves of first_end.
use Rattle.std.proofs.Common.{sym, subst, rules, tests}
use Rattle.std.specs.Prelude.{◌==◌}
use Rattle.std.proofs.lemmas.Iterator.{YieldsList-from_slice}
use Rattle.std.proofs.lemmas.Iterator.Search.{position_from_yields_List}
use Rattle.runfile.specs.Cutting.{EndsFirst}
use Rattle.runfile.proofs.Cuts.{line_found}
use Rattle.runfile.proofs.lines.first_end.Goals as goal

pub returns : goal.returns
returns c =
    let text = c.args.text.now in
    subst (EndsFirst text) (sym (position_from_yields_List (λ b. b == 10) _ _ _ c.position.ensures.ran (YieldsList-from_slice text cc) (λ x b q k. search (rules, tests)))) (line_found text)
