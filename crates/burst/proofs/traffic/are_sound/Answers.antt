-- At a bad packet the rest is bad; at the end none is left.
use Rattle.std.proofs.Common.{sym, ◌∙◌}
use Rattle.std.proofs.lemmas.List.{at_drop_all}
use Rattle.burst.specs.Tool.{bad_packets}
use Rattle.burst.proofs.Lists.{stops, some_bad, all_good}
use Rattle.burst.proofs.traffic.are_sound.Goals as goal

pub returns-then-is_bad_packet : goal.returns-then-is_bad_packet
returns-then-is_bad_packet c =
    some_bad _ (sym c.loop-packet.invariant ∙ stops _ _ _ c.loop-packet-test.true (sym c.if-is_bad_packet.ensures))

pub returns : goal.returns
returns c = all_good _ (sym c.loop-packet.invariant ∙ at_drop_all (bad_packets c.loop-packet.time) _ _ c.loop-packet-test.false)
