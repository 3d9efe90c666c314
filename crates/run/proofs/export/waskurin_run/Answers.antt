use Rattle.std.proofs.Common.{length, ap, ◌∙◌, inl}
use Rattle.page.specs.Page.{written}
use Rattle.rules.specs.Program.{program_acts}
use Rattle.run.specs.Spelled.{page_of}
use Rattle.run.proofs.Programs.{program_kept}
use Rattle.run.proofs.export.waskurin_run.Goals as goal

pub returns : goal.returns
returns c =
    let size = length c.args.page.now in
    let text = c.args.text.now in
    let same = ap (λ x. page_of program_acts x size text) c.program_rule.ensures.start in
    record {
      ran = inl (c.run.ensures.count ∙ ap length same, c.run.ensures.bytes ∙ ap (written c.args.page.now 0) same);
      promised = program_kept size text;
    }

pub returns-in_default-clause-promised : goal.returns-in_default-clause-promised
returns-in_default-clause-promised c = program_kept (length c.args.page.now) c.args.text.now
