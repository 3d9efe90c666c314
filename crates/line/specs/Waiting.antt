-- The sessions that wait as a set of bits, session 0 the lowest.
use Rattle.std.specs.Prelude.{ℕ, ◌+◌, ◌*◌, cond, List, [], ◌∷◌}
use Rattle.model.specs.Model.{Session, waits}

abbrev pub waiting_bit : Session → ℕ
waiting_bit s = cond (waits s) 1 0

abbrev pub waiting_set : List Session → ℕ
waiting_set [] = 0
waiting_set (s ∷ ss) = waiting_set ss * 2 + waiting_bit s
