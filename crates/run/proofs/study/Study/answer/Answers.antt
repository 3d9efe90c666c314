use Rattle.std.proofs.Common.{ap, ◌∙◌}
use Rattle.run.specs.Stages.{stage_after, stage_reply}
use Rattle.run.proofs.Orders.{call_spelled}
use Rattle.run.proofs.study.Study.answer.Goals as goal

pub returns-in-Call-clause-told : goal.returns-in-Call-clause-told
returns-in-Call-clause-told g c = rw c.in-Call.is (c.call.ensures.told ∙ ap (stage_reply g.R.Rule.acts c.args.self.now) (call_spelled c.in-Call.call))

pub returns-in-Call-clause-after : goal.returns-in-Call-clause-after
returns-in-Call-clause-after g c = rw c.in-Call.is (c.call.ensures.after ∙ ap (stage_after g.R.Rule.acts c.args.self.now) (call_spelled c.in-Call.call))
