-- What the burst figure is, by first and last packet, and which lists are taken.
use Rattle.std.specs.Prelude.{◌≡◌, ℕ, suc, ◌-◌, ◌*◌, ◌%◌, ◌<◌, ◌≤◌, List, length, take, drop, None, Ok, sum_by, slice_index_or}
use Rattle.model.specs.declared.calls.Parcel.{Parcel}
use Rattle.model.specs.Model.{frame}
use Rattle.model.specs.Bursts.{burst}
use Rattle.burst.specs.Tool.{most_packets, most_bytes, bytes_at, arrival_at, list_refusal, figure_of}

-- Those from the first place to the last, both counted.
abbrev pub from_to : {X : Type 0} → ℕ → ℕ → List X → List X
from_to first last xs = drop first (take (suc last) xs)

-- The value is had at a first and a last of so many.
pub record Reached (value : ℕ → ℕ → ℕ) (count n : ℕ) : Type 0 where
  pub first : ℕ
  pub last : ℕ
  pub order : first ≤ last
  pub inside : last < count
  pub exact : value first last ≡ n

-- The greatest value over every first and last of so many, 0 where there are none.
pub record Greatest (value : ℕ → ℕ → ℕ) (count n : ℕ) : Type 0 where
  pub above : (first last : ℕ) → first ≤ last → last < count → value first last ≤ n
  pub reached : 0 < count → Reached value count n
  pub none : count ≡ 0 → n ≡ 0

-- Over (advance, arrival) pairs: the advances from first to last, less the time between their arrivals.
abbrev pub window : List (ℕ × ℕ) → ℕ → ℕ → ℕ
window xs first last = sum_by (λ p. p.0) (from_to first last xs) - ((slice_index_or xs last (0, 0)).1 - (slice_index_or xs first (0, 0)).1)

-- Over packets: interval * bytes from first to last, less the time between their arrivals.
abbrev pub packet_window : ℕ → List Parcel → ℕ → ℕ → ℕ
packet_window interval ps first last = interval * sum_by (λ p. p.bytes) (from_to first last ps) - (arrival_at ps last - arrival_at ps first)

-- The burst figure is the greatest window.
abbrev pub BurstGreatest : Type 0
BurstGreatest = (xs : List (ℕ × ℕ)) → Greatest (window xs) (length xs) (burst xs)

-- So is what the tool answers.
abbrev pub FigureGreatest : Type 0
FigureGreatest = (interval : ℕ) (ps : List Parcel) (n : ℕ) → figure_of interval ps ≡ Ok n → Greatest (packet_window interval ps) (length ps) n

-- Each packet has bytes in range, and no time falls.
pub record Fine (ps : List Parcel) : Type 0 where
  pub some : (i : ℕ) → i < length ps → 0 < bytes_at ps i
  pub short : (i : ℕ) → i < length ps → bytes_at ps i ≤ most_bytes
  pub rising : (i : ℕ) → suc i < length ps → arrival_at ps i ≤ arrival_at ps (suc i)

-- The interval divides the frame, and the packets are few enough and fine.
pub record Sound (interval : ℕ) (ps : List Parcel) : Type 0 where
  pub positive : 0 < interval
  pub divides : frame % interval ≡ 0
  pub few : length ps ≤ most_packets
  pub fine : Fine ps

-- Just these lists are taken.
abbrev pub SoundTaken : Type 0
SoundTaken = (interval : ℕ) (ps : List Parcel) → (list_refusal interval ps ≡ None → Sound interval ps) × (Sound interval ps → list_refusal interval ps ≡ None)
