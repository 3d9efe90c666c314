-- The packets that are left decide it, held to the arrival of the last one seen.
use Rattle.std.proofs.Common.{◌≡◌, drop}
use Rattle.burst.specs.Tool.{bad_packets}
use Rattle.burst.proofs.traffic.are_sound.Given as goal

abbrev pub invariant-loop-packet : goal.invariant-loop-packet
invariant-loop-packet l = bad_packets l.time (drop l.packet-index l.packets) ≡ bad_packets 0 l.packets
