use Rattle.std.proofs.Common.{length, ap, ◌∙◌}
use Rattle.page.specs.Page.{written}
use Rattle.run.proofs.Follows.{spelled_kept, writes_spelled}
use Rattle.run.proofs.runs.run.Goals as goal

pub returns : goal.returns
returns g c =
    let size = length c.args.page.now in
    let same = writes_spelled g.R.Rule.acts c.args.parts.rule c.new-study.result c.new-study.ensures size c.args.text.now in
    record {
      count = c.run_study.ensures.count ∙ ap length same;
      bytes = c.run_study.ensures.bytes ∙ ap (written c.args.page.now 0) same;
      promised = spelled_kept g.R.Rule.acts c.args.parts.rule (λ y reached. g.met.R.Rule.lawful y) size c.args.text.now;
    }
