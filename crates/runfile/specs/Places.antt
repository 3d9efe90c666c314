-- Places of the text, one behind another in a line.
use Rattle.std.specs.Prelude.{◌≡◌, ℕ, ◌+◌, ◌≤◌}
use Rattle.runfile.specs.declared.place.Place.{Place}

-- The place n bytes on in the same line.
abbrev pub ahead : Place → ℕ → Place
ahead p n = record { at = p.at + n; line = p.line; column = p.column + n }

-- In the line of p, q stands at p or behind it, up to the offset end: columns lie apart as offsets do.
pub record Along (end : ℕ) (p q : Place) : Type 0 where
  pub line : q.line ≡ p.line
  pub behind : p.at ≤ q.at
  pub within : q.at ≤ end
  pub apart : q.column + p.at ≡ p.column + q.at
