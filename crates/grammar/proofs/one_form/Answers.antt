-- What `search` leaves of one_form.
use Rattle.grammar.proofs.Goings.{one_form}
use Rattle.grammar.proofs.one_form.Goals as goal

pub returns : goal.returns
returns c = one_form
