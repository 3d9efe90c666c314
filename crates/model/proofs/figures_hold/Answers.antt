use Rattle.std.proofs.Common.{refl}
use Rattle.model.specs.Model.{wire_ticks, advance}
use Rattle.ready.specs.Keys.{no_later}
use Rattle.model.proofs.figures_hold.Goals as goal

pub returns : goal.returns
unfolding wire_ticks advance no_later
returns c =
    record {
      passes = refl;
      too_long = refl;
      no_divisor = refl;
      fourth = refl;
      clock = refl;
      frame_base = refl;
      start = refl;
      stamp = refl;
      restart = refl;
      refinish = refl;
      redue = refl;
      burst_at_two = refl;
      numbers = refl;
    }
