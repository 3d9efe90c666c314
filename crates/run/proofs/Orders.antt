-- A form that is a call spells it.
use Rattle.std.proofs.Common.{◌≡◌, refl}
use Rattle.model.specs.declared.calls.Call.{Call}
use Rattle.model.specs.declared.calls.Call.TheVariants.{Open, Close, Change, Pick, Arrive, Depart}
use Rattle.runfile.specs.Forming.{call_form}
use Rattle.run.specs.Orders.{call, order_of}

pub call_spelled : (c : Call) → call c ≡ order_of (call_form c)
call_spelled (Open c) = refl
call_spelled (Close c) = refl
call_spelled (Change c) = refl
call_spelled (Pick c) = refl
call_spelled (Arrive c) = refl
call_spelled Depart = refl
