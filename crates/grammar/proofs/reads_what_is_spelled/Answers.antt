-- What `search` leaves of reads_what_is_spelled.
use Rattle.grammar.proofs.Tells.{read_spells}
use Rattle.grammar.proofs.Goings.{spells_read}
use Rattle.grammar.proofs.reads_what_is_spelled.Goals as goal

pub returns : goal.returns
returns c = λ line form. (read_spells line form, spells_read line form)
