-- The sessions of a line as accounts, and what it means that the line keeps up with all of them. Assumes nothing.
use Rattle.std.specs.Prelude.{◌≡◌, ℕ, zero, suc, ◌+◌, ◌-◌, ◌*◌, ◌<◌, ◌≤◌, max, Bool, true, false, cond, ◌&&◌, ◌⊎◌, List, length, sum_by, nat_le, nat_lt, slice_index_or, slice_set}
pub use Rattle.rules.specs.Bases.{frame}

-- A session: its share of the frame (0 where it is closed), the share held for it below its mark, whether a packet waits,
-- the start of the first that waits (where none does, the last finish), and that packet's finish.
pub record Account : Type 0 where
  pub share : ℕ
  pub held : ℕ
  pub mark : ℕ
  pub waits : Bool
  pub level : ℕ
  pub finish : ℕ

abbrev pub none : Account
none = record { share = 0; held = 0; mark = 0; waits = false; level = 0; finish = 0 }

abbrev pub at : List Account → ℕ → Account
at v i = slice_index_or v i none

abbrev pub Each : (Account → Type 0) → List Account → Type 0
Each Q v = (k : ℕ) → k < length v → Q (at v k)

-- A packet waits whose finish is at most f.
abbrev pub Due : ℕ → Account → Type 0
Due f a = (a.waits ≡ true) × (a.finish ≤ f)

-- What an account may still take from the potential P up to f: its share at each level from `from` on.
unfoldable pub from : ℕ → ℕ → Account → ℕ
from P f a = cond (a.waits && nat_le a.finish f) a.level (max P a.level)

unfoldable pub need : ℕ → ℕ → Account → ℕ
need P f a = a.share * (f - from P f a)

-- What is booked for an account at the level x.
unfoldable pub counted : ℕ → Account → ℕ
counted x a = cond (nat_lt x a.mark) (max a.share a.held) a.share

-- What of the frame is booked for none at the level x.
unfoldable pub spare : List Account → ℕ → ℕ
spare v x = frame - sum_by (counted x) v

-- c at the levels from X on, and nothing below X.
unfoldable pub above : ℕ → ℕ → ℕ → ℕ
above c X x = cond (nat_le X x) c 0

-- The sum of g over the levels below n.
unfoldable pub below : (ℕ → ℕ) → ℕ → ℕ
below g zero = 0
below g (suc n) = below g n + g n

-- What is spare from the level P up to f.
unfoldable pub free : List Account → ℕ → ℕ → ℕ
free v P f = below (λ x. above (spare v x) P x) f

unfoldable pub total : List Account → ℕ → ℕ → ℕ
total v P f = sum_by (need P f) v + free v P f

abbrev pub Asked : List Account → ℕ → ℕ → Type 0
Asked v P f = (P ≤ f) ⊎ ((k : ℕ) × (k < length v) × Due f (at v k))

-- The line keeps up: by f, from the potential E at which the wire is free, all that is needed has room, but for the longest packet.
abbrev pub Covered : ℕ → List Account → ℕ → ℕ → Type 0
Covered longest v P E = (f : ℕ) → Asked v P f → frame * E + total v P f ≤ frame * (f + longest)

abbrev pub Booked : List Account → Type 0
Booked v = sum_by (λ a. a.share) v ≤ frame

abbrev pub Marked : List Account → ℕ → Type 0
Marked v P = Each (λ a. a.mark ≤ max P a.level) v

abbrev pub Heads : List Account → Type 0
Heads v = Each (λ a. a.waits ≡ true → a.level < a.finish) v

-- What every call on a line keeps: P is the present potential, E the potential at which the wire is free.
pub record Sound (longest : ℕ) (v : List Account) (P E : ℕ) : Type 0 where
  pub covered : Covered longest v P E
  pub booked : Booked v
  pub marked : Marked v P
  pub heads : Heads v

-- b is booked as a is.
pub record Same (a b : Account) : Type 0 where
  pub share : b.share ≡ a.share
  pub held : b.held ≡ a.held
  pub mark : b.mark ≡ a.mark

-- b stands at X, and so does its head.
pub record Stamped (P X : ℕ) (b : Account) : Type 0 where
  pub stands : max P b.level ≡ X
  pub head : b.waits ≡ true → (b.level ≡ X) × (X < b.finish)

-- b is a, after a's head went on the wire.
pub record Sent (a b : Account) : Type 0 where
  pub same : Same a b
  pub after : a.finish ≤ b.level
  pub head : b.waits ≡ true → b.level < b.finish

-- b is a, lowered at its position.
pub record Lowered (P : ℕ) (a b : Account) : Type 0 where
  pub share : b.share ≤ a.share
  pub held : b.held ≡ max a.share (cond (nat_lt P a.mark) a.held 0)
  pub mark : b.mark ≡ max P a.level
  pub stamped : Stamped P (max P a.level) b

-- b is a, raised at its position.
pub record Raised (P : ℕ) (a b : Account) : Type 0 where
  pub share : a.share ≤ b.share
  pub held : b.held ≡ a.held
  pub mark : b.mark ≡ a.mark
  pub stamped : Stamped P (max P a.level) b

-- b is a, opened at P: a was closed and drained. Where a stood does not matter.
pub record Opened (P : ℕ) (a b : Account) : Type 0 where
  pub closed : a.share ≡ 0
  pub drained : a.mark ≤ P
  pub mark : b.mark ≤ P
  pub stamped : Stamped P P b

-- The booking of b in place of the account at i, at the position X.
abbrev pub Fits : List Account → ℕ → Account → ℕ → Type 0
Fits v i b X = b.share + sum_by (counted X) (slice_set v i none) ≤ frame
