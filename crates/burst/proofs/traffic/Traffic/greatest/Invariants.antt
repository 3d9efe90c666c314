-- The most so far and what is left make the most of all.
use Rattle.std.proofs.Common.{◌≡◌, ◌<◌, ◌≤◌, max, length, All}
use Rattle.std.specs.List.Sorted.{IsNonDecreasingBy}
use Rattle.model.specs.Bursts.{burst, brought}
use Rattle.burst.specs.Tool.{most_packets, most_bytes}
use Rattle.burst.proofs.traffic.Traffic.greatest.Given as goal

abbrev pub invariant-loop-left : goal.invariant-loop-left
invariant-loop-left l =
    (length l.left ≤ most_packets)
    × All (λ p. (0 < p.bytes) × (p.bytes ≤ most_bytes)) l.left
    × IsNonDecreasingBy (λ p. p.arrival) l.left
    × (max l.most (burst (brought l.self.interval l.left)) ≡ burst (brought l.self.interval l.self.packets.now))

abbrev pub decreases-loop-left : goal.decreases-loop-left
decreases-loop-left l = length l.left
