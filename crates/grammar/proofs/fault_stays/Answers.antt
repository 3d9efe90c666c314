-- What `search` leaves of fault_stays.
use Rattle.grammar.proofs.Lasting as lasting
use Rattle.grammar.proofs.fault_stays.Goals as goal

pub returns : goal.returns
returns c = lasting.fault_stays
