-- A written node stands once the match above it is played again; the root has none above.
use Rattle.std.proofs.Common.{◌≡◌, ◌+◌, ◌-◌, ◌/◌, ◌^◌, set, take, drop, sym, ap, ◌∙◌, arith, length-set}
use Rattle.std.proofs.lemmas.List.{take-set-le, drop-set-lt, drop-set-add}
use Rattle.ready.specs.Levels.{winners}
use Rattle.ready.proofs.Replays.{up, half}
use Rattle.ready.proofs.tree.replay.Goals as goal

pub loop-level-init : goal.loop-level-init
loop-level-init c =
    let nodes = c.args.nodes.now in
    let s = c.args.session in
    record {
      within = omega arith;
      first = omega arith;
      place = omega arith;
      full = omega arith;
      leaves = drop-set-add 31 nodes s c.args.leaf;
      won = c.requires.won ∙ sym (take-set-le 31 nodes (31 + s) c.args.leaf (omega arith));
    }

pub loop-level-preserved : goal.loop-level-preserved
loop-level-preserved c =
    let t = c.loop-level in
    let node = t.first + t.place in
    let above = t.first / 2 + t.place / 2 in
    let next = half t.level t.first c.loop-level-test.true t.invariant.first in
    record {
      within = omega arith;
      first = next.next;
      place = omega (arith, next.odd);
      full = length-set _ _ _ ∙ t.invariant.full;
      leaves = drop-set-lt 31 (set t.nodes node t.entry) above c.winner-entry.result (omega (arith, next.odd)) ∙ t.invariant.leaves;
      won = up t.nodes node above t.entry _ _ (omega (arith, next.odd)) (omega (arith, next.odd)) (omega arith) t.invariant.full t.invariant.won c.winner-entry.ensures;
    }

pub returns : goal.returns
returns c =
    let t = c.loop-level in
    let node = t.first + t.place in
    let last : t.level ≡ 5 = omega arith in
    let root : node ≡ 0 = omega (arith, ap (λ n. 2 ^ (5 - n)) last) in
    record {
      full = length-set _ _ _ ∙ t.invariant.full;
      leaves = ap (λ n. drop 31 (set t.nodes n t.entry)) (sym root) ∙ t.invariant.leaves;
      won = ap winners (drop-set-lt 1 t.nodes 0 t.entry (omega arith)) ∙ t.invariant.won ∙ ap (λ n. take 31 (set t.nodes n t.entry)) root;
    }
