use Rattle.std.proofs.Common.{List, sym, ap, subst}
use Rattle.model.specs.Model.{Session, State}
use Rattle.model.specs.Model.Wire.{idle}
use Rattle.model.specs.Invariants.{Steady}
use Rattle.model.proofs.Ranges.{goes_on}
use Rattle.line.proofs.book.Book.new.Goals as goal

pub returns : goal.returns
returns c =
    let line : List Session → State = λ ss. record { longest = c.args.longest; time = 0; wire = idle; sessions = ss } in
    ap line c.memory.invariant

pub invariant_of-result : goal.invariant_of-result
invariant_of-result c = subst Steady (sym (returns c)) (goes_on.at_first (record { longest = c.args.longest }) c.requires)
