-- The rule of the run program: a pair of two pairs of plain rules.
use Rattle.std.specs.Prelude.{◌≡◌, false}
use Rattle.rules.specs.declared.pair.Pair.{Pair}
use Rattle.rules.specs.declared.plain.Plain.{Plain}
use Rattle.rules.specs.declared.plain.Clock.{Clock}
use Rattle.rules.specs.declared.frame.Frame.{Frame}
use Rattle.rules.specs.declared.plain.Start.{Start}
use Rattle.rules.specs.declared.plain.Stamp.{Stamp}
use Rattle.rules.specs.Acts.{Acts}
use Rattle.rules.specs.Bases.{clock_base, frame_base, start_base, stamp_base}
use Rattle.rules.specs.Pairs.{pair_acts}
use Rattle.rules.specs.Plain.{plain_acts}

abbrev pub Program : Type 0
Program = Pair (Pair (Plain Clock) (Plain Frame)) (Pair (Plain Start) (Plain Stamp))

abbrev pub program_acts : Acts Program
program_acts = pair_acts (pair_acts (plain_acts clock_base) (plain_acts frame_base)) (pair_acts (plain_acts start_base) (plain_acts stamp_base))

-- As it is at first: the clock stands.
abbrev pub program_start : Program
program_start =
    record {
      left = record { left = record { 0 = record {} }; right = record { 0 = record {} }; on_right = false };
      right = record { left = record { 0 = record {} }; right = record { 0 = record {} }; on_right = false };
      on_right = false;
    }

-- Whatever stood before, there are four choices: 0 clock, 1 frame, 2 start, 3 stamp.
abbrev pub ProgramLaw : Type 0
ProgramLaw = (x : Program) → (program_acts.choices x ≡ 4)
    × (program_acts.means (program_acts.after x 0) ≡ clock_base)
    × (program_acts.means (program_acts.after x 1) ≡ frame_base)
    × (program_acts.means (program_acts.after x 2) ≡ start_base)
    × (program_acts.means (program_acts.after x 3) ≡ stamp_base)
