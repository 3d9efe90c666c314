use Rattle.std.proofs.Common.{◌≡◌, suc, ◌+◌, ◌-◌, ◌<◌, length, codes, ap, ◌∙◌, arith, length-drop}
use Rattle.grammar.specs.Lines.{line_length, lines}
use Rattle.page.specs.Page.{HasRoom, laid}
use Rattle.answers.proofs.Lengths.{fault_short, page_fault_short}
use Rattle.run.specs.Machine.{run_lines}
use Rattle.run.specs.Stages.{stage_after, stage_reply}
use Rattle.run.proofs.Turns.{all_laid, one_more, read_whole, room_left}
use Rattle.run.proofs.runs.answer_lines.Goals as goal

pub put_run_fault-requires : goal.put_run_fault-requires
put_run_fault-requires g c = omega (arith, fault_short 27 (codes "text") 0 0 (omega arith) (omega arith) (omega arith) (omega arith))

pub loop-i-init : goal.loop-i-init
loop-i-init g c =
    let A = stage_reply g.R.Rule.acts in
    let B = stage_after g.R.Rule.acts in
    let page = c.args.page.now in
    let text = c.args.text.now in
    let count : c.into_iter-i-iterator.result.count ≡ 0 = cc in
    let rest : c.into_iter-i-iterator.result.iter.rest.now ≡ text = ap (λ e. e.iter.rest.now) c.into_iter-i-iterator.ensures.into_iter_gives ∙ ap (λ l. l.rest.now) (c.enumerate-i-items.ensures.source ∙ c.of.ensures) in
    let size : length page.bytes.now - page.end ≡ length page.bytes.now = omega (arith, c.requires) in
    rw (count, rest) (record {
      room = omega arith;
      few = omega arith;
      left = ap (laid page) (ap (λ n. run_lines A B c.args.study 1 n (lines text)) size ∙ read_whole A B c.args.study (length page.bytes.now) text (omega arith) c.if-text-gt-LONGEST_TEXT.false);
    })

pub put_run_fault-requires-then-room-lt-ROOM : goal.put_run_fault-requires-then-room-lt-ROOM
put_run_fault-requires-then-room-lt-ROOM g c =
    let steps = c.in-Some.ensures.steps in
    let inv = c.loop-i.invariant in
    rw c.start_of_line.ensures (omega (arith, page_fault_short (c.in-Some.i + 1) (omega (arith, inv.few, steps.1, steps.0.0)), inv.room))

pub loop-i-preserved : goal.loop-i-preserved
loop-i-preserved g c =
    let A = stage_reply g.R.Rule.acts in
    let B = stage_after g.R.Rule.acts in
    let l = c.loop-i in
    let steps = c.in-Some.ensures.steps in
    let xs = l.i-iterator.iter.rest.now in
    let some : 0 < length xs = steps.0.0 in
    let put = c.put_outcome.ensures.text ∙ ap (laid l.page) c.answer_line.ensures.told in
    let room : HasRoom l.page 192 = omega (arith, l.invariant.room) in
    record {
      room = room_left l.page _ put room c.put_outcome.ensures.near;
      few = omega (arith, l.invariant.few, ap length steps.0.2, length-drop (suc (line_length xs)) xs, steps.2);
      left = one_more A B l.page l.study xs some steps.0.1 steps.0.2 steps.1 steps.2 put c.answer_line.ensures.after room c.put_outcome.ensures.near l.invariant.left;
    }

pub returns : goal.returns
returns g c =
    let A = stage_reply g.R.Rule.acts in
    let B = stage_after g.R.Rule.acts in
    all_laid A B c.loop-i.page _ c.loop-i.study (suc c.loop-i.i-iterator.count) _ c.in-None.ensures.steps.0.0 c.loop-i.invariant.left
