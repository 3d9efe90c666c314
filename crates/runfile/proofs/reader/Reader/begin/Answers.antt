-- What `search` leaves of begin.
use Rattle.std.proofs.Common.{sym, ◌∙◌, take, ap, rules, subst}
use Rattle.std.specs.List.{AllByRecursion}
use Rattle.grammar.specs.Bytes.{Within}
use Rattle.grammar.proofs.Scans.{run_in}
use Rattle.runfile.proofs.Steps.{letters_text}
use Rattle.runfile.proofs.reader.Reader.begin.Goals as goal

pub invariant_of-result : goal.invariant_of-result
invariant_of-result c =
    let xs = c.args.self.now.rest.now in
    record {
      few = search rules;
      digits = subst (AllByRecursion (Within 48 57)) (sym (c.split_at.ensures.front ∙ ap (λ n. take n xs) c.run_len-n.ensures.value)) (run_in 48 57 xs);
    }

-- Letters are text.
pub from_utf8_unchecked-requires : goal.from_utf8_unchecked-requires
from_utf8_unchecked-requires c =
    let text = letters_text c.args.self.now.rest.now c.split_at-in-97-to-122.result.0.now c.run_len.result c.run_len.ensures.value (search rules) in
    search rules
