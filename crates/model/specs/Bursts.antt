-- The burst figure of a list of packets.
use Rattle.std.specs.Prelude.{ℕ, ◌+◌, ◌-◌, max, List, [], ◌∷◌, map}
use Rattle.model.specs.declared.calls.Parcel.{Parcel}
use Rattle.model.specs.Model.{advance}

-- Over (advance, arrival) pairs: the most that came from the first on up to any last, both counted, less the time between the two.
abbrev pub windows : ℕ → ℕ → List (ℕ × ℕ) → ℕ
windows first sum [] = 0
windows first sum (p ∷ ps) = max ((sum + p.0) - (p.1 - first)) (windows first (sum + p.0) ps)

-- The burst figure: the most over every first.
abbrev pub burst : List (ℕ × ℕ) → ℕ
burst [] = 0
burst (p ∷ ps) = max (windows p.1 0 (p ∷ ps)) (burst ps)

-- What packets bring at an interval.
abbrev pub brought : ℕ → List Parcel → List (ℕ × ℕ)
brought interval xs = map (λ x. (advance x.bytes interval, x.arrival)) xs
