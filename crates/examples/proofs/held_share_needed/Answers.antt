-- The runs are computed.
use Rattle.std.proofs.Common.{◌≡◌, ℕ, max, Bool, true, false, cond, ltb, refl, arith}
use Rattle.model.specs.Model.{wire_ticks, advance, share}
use Rattle.ready.specs.Keys.{no_later}
use Rattle.examples.proofs.held_share_needed.Goals as goal

-- a held share of 0 adds nothing
adds_nothing : (b : Bool) (n : ℕ) → cond b (max n 0) n ≡ n
adds_nothing true n = omega arith
adds_nothing false n = refl

pub returns : goal.returns
unfolding wire_ticks advance no_later
returns c =
    record {
      only_shares = λ x s. adds_nothing (ltb x s.mark) (share s);
      refused_by_rules = refl;
      late_by_rules = refl;
      refused_unheld = refl;
      late_unheld = refl;
    }
