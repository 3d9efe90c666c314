-- Once the entry is in its node, each match below that node stands, and the leaf is the new one.
use Rattle.std.proofs.Common.{◌≡◌, suc, ◌+◌, ◌-◌, ◌^◌, ◌<◌, ◌≤◌, length, set, take, drop}
use Rattle.ready.specs.Levels.{winners}
use Rattle.ready.proofs.tree.replay.Given as goal

abbrev pub invariant-loop-level : goal.invariant-loop-level
invariant-loop-level l = record {
  within : l.first < 32;
  first : suc l.first ≡ 2 ^ (5 - l.level);
  place : l.place ≤ l.first;
  full : length l.nodes ≡ 63;
  leaves : drop 31 (set l.nodes (l.first + l.place) l.entry) ≡ set (drop 31 l.fn.nodes) l.fn.session l.fn.leaf;
  won : winners (drop 1 l.nodes) ≡ take 31 (set l.nodes (l.first + l.place) l.entry);
}
