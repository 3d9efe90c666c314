-- What `search` leaves of read_line.
use Rattle.std.proofs.Common.{length, rules}
use Rattle.runfile.proofs.Ends.{ends_at}
use Rattle.runfile.proofs.forms.read_line.Goals as goal

pub returns-clause-ends : goal.returns-clause-ends
returns-clause-ends c = ends_at (length c.args.text.now) _ _ _ (search rules) c.form-form.ensures.moves c.form-form.ensures.read
