use Rattle.std.proofs.Common.{◌≡◌, ◌^◌, ◌<◌, map, length}
use Rattle.line.proofs.Bits.{set_from_last}
use Rattle.line.proofs.book.Book.waiting_set.Given as goal

abbrev pub invariant-loop-s : goal.invariant-loop-s
invariant-loop-s l =
    (goal.iterator-loop-s).can_next l.s-iterator × (goal.iterator-loop-s).is_finite l.s-iterator
    × (l.set ≡ set_from_last (map (λ y. y.now) l.yielded)) × (l.set < 2 ^ length l.yielded)
