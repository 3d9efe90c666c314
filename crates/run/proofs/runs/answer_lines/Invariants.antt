use Rattle.page.specs.Page.{laid}
use Rattle.std.proofs.Common.{length}
use Rattle.run.specs.Stages.{stage_text}
use Rattle.run.proofs.Turns.{Goes}
use Rattle.run.proofs.runs.answer_lines.Given as goal

abbrev pub invariant-loop-i : goal.invariant-loop-i
invariant-loop-i g l =
    Goes g.R.Rule.acts l.page l.study l.i-iterator.count l.i-iterator.iter.rest.now l.text (laid l.fn.page (stage_text g.R.Rule.acts l.fn.study (length l.fn.page.bytes.now) l.text))
