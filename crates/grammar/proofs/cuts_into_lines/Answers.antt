-- What `search` leaves of cuts_into_lines.
use Rattle.std.proofs.Common.{subst}
use Rattle.grammar.specs.Lines.{Lined}
use Rattle.grammar.proofs.Cuts.{lined, only_lines}
use Rattle.grammar.proofs.cuts_into_lines.Goals as goal

pub returns : goal.returns
returns c = λ text ls. (λ e. subst (Lined text) e (lined text), only_lines text ls)
