use Rattle.std.proofs.Common.{drop, ap, ◌∙◌, rules}
use Rattle.runfile.proofs.Cuts.{behind_end}
use Rattle.runfile.proofs.lines.LinesIterator.next.Goals as goal

pub returns-clause-steps : goal.returns-clause-steps
returns-clause-steps c =
    let xs = c.args.self.now.rest.now in (
      search rules,
      search rules,
      c.behind_first-self.ensures ∙ behind_end xs _ _ (c.split_at.ensures.back ∙ ap (λ n. drop n xs) c.line_len.ensures.value),
    )
