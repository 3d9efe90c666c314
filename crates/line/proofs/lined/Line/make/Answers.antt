use Rattle.std.proofs.Common.{ap, sym, subst, ◌∙◌}
use Rattle.std.specs.Prelude.{OnOk}
use Rattle.model.specs.Promises.{Proper}
use Rattle.model.specs.Model.{State, finish_keys, start_keys}
use Rattle.model.specs.Invariants.{Steady}
use Rattle.model.proofs.Ranges.{goes_on}
use Rattle.line.specs.Sound.{Stamps}
use Rattle.line.proofs.lined.Line.make.Goals as goal

pub invariant_of-result : goal.invariant_of-result
invariant_of-result g c =
    record {
      steady = subst Steady (sym c.new-in-Ok.ensures) (goes_on.at_first (record { longest = c.args.longest }) (subst (λ r. OnOk r (Proper (record { longest = c.args.longest }))) c.in-Ok.is c.may_make.ensures.proper));
      by_finish = ap (λ (s : Stamps). s.finishes) c.new.ensures ∙ ap (λ (b : State). finish_keys b.sessions) (sym c.new-in-Ok.ensures);
      by_start = ap (λ (s : Stamps). s.starts) c.new.ensures ∙ ap (λ (b : State). start_keys b.sessions) (sym c.new-in-Ok.ensures);
    }
