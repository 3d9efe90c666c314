-- The leaves stay in their places, and the matches above the new one are played again.
use Rattle.std.proofs.Common.{ap, ◌∙◌, set, drop, sym, arith}
use lib.Seq.{map-set}
use Rattle.std.proofs.lemmas.List.{length-map, length-drop}
use Rattle.ready.specs.Levels.{key_of, keys_of, leaf}
use Rattle.ready.proofs.Refused.{untouched}
use Rattle.ready.proofs.Replays.{own_set, in_time_set}
use Rattle.ready.proofs.tree.TreeReady.set.Goals as goal

pub returns-in_err-known-clause-after : goal.returns-in_err-known-clause-after
returns-in_err-known-clause-after c =
    let t = c.args.self.now in
    untouched (keys_of (drop 31 t.nodes)) c.args.session _ (omega (arith, length-map (drop 31 t.nodes) key_of, length-drop 31 t.nodes)) c.in_err-known.ensures

pub invariant_of-self : goal.invariant_of-self
invariant_of-self c =
    let t = c.args.self.now in
    let s = c.args.session in
    let own = c.leaf.ensures.is ∙ ap (leaf s) (sym c.leaf.ensures.key) in
    record {
      full = c.replay.ensures.full;
      own = rw c.replay.ensures.leaves (own_set (drop 31 t.nodes) s c.leaf.result t.own own);
      early = rw c.replay.ensures.leaves (in_time_set (drop 31 t.nodes) s c.leaf.result t.early c.leaf.ensures.early);
      won = c.replay.ensures.won;
    }

pub returns-clause-after : goal.returns-clause-after
returns-clause-after c =
    let leaves = drop 31 c.args.self.now.nodes in
    ap keys_of c.replay.ensures.leaves ∙ map-set key_of leaves c.args.session c.leaf.result ∙ ap (set (keys_of leaves) c.args.session) c.leaf.ensures.key
