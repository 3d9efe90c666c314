use Rattle.std.proofs.Common.{ap, ◌∙◌}
use lib.Count.{ones}
use Rattle.line.proofs.Bits.{ones_waiting}
use Rattle.line.proofs.book.Book.waiting.Goals as goal

pub returns : goal.returns
returns c = ap ones c.waiting_set.ensures ∙ ones_waiting c.args.self.now.sessions
