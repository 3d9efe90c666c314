-- The program's rule is lawful, whatever was picked.
use Rattle.std.proofs.Common.{ℕ, ◌+◌, ◌<◌, ◌≤◌, Bool, true, false, cond, List, arith}
use Rattle.rules.specs.Bases.{clock_base, frame, frame_base, stamp_base, start_base}
use Rattle.rules.specs.Program.{program_acts, program_start}
use Rattle.model.specs.Model.{Lawful}
use Rattle.run.specs.Program.{ProgramKept}
use Rattle.run.proofs.Follows.{spelled_kept}

low : (a b c : Bool) (s f : ℕ) → s < f → f ≤ s + frame → cond c (cond b stamp_base start_base) (cond a frame_base clock_base) s f ≤ s
low true b false s f above near = omega arith
low false b false s f above near = omega arith
low a true true s f above near = omega arith
low a false true s f above near = omega arith

pub program_lawful : Lawful program_acts program_start
program_lawful y reached s f above near = low y.left.on_right y.right.on_right y.on_right s f above near

pub program_kept : (size : ℕ) (text : List ℕ) → ProgramKept size text
program_kept size text = spelled_kept program_acts program_start program_lawful size text
