-- The most so far and the packets that are left make the most of all; each packet seen brought no more than the longest can.
use Rattle.std.proofs.Common.{◌≡◌, ◌*◌, ◌≤◌, max, drop}
use Rattle.model.specs.Model.{frame}
use Rattle.model.specs.Bursts.{windows, brought}
use Rattle.burst.specs.Tool.{most_bytes, arrival_at}
use Rattle.burst.proofs.traffic.Traffic.from_first.Given as goal

abbrev pub invariant-loop-packet : goal.invariant-loop-packet
invariant-loop-packet l =
    let packets = l.self.packets.now in
    (l.window.first ≡ arrival_at packets 0)
    × (l.window.sum ≤ l.packet-index * (most_bytes * frame))
    × (max l.window.most (windows l.window.first l.window.sum (brought l.self.interval (drop l.packet-index packets)))
    ≡ windows (arrival_at packets 0) 0 (brought l.self.interval packets))
