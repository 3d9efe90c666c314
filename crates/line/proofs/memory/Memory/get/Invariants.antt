-- The records so far are blank, and the rest have their places.
use Rattle.std.proofs.Common.{◌≡◌, ◌≤◌, replicate}
use Rattle.std.specs.Vec.{vec_capacity}
use Rattle.model.specs.Model.{blank}
use Rattle.line.proofs.memory.Memory.get.Given as goal

abbrev pub invariant-loop : goal.invariant-loop
invariant-loop l = (l.records.items ≡ replicate l.counter blank) × (32 ≤ vec_capacity l.records)
