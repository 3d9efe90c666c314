-- The burst tool: which lists it takes, and what it answers.
use Rattle.std.specs.Prelude.{ℕ, Bool, false, ◌||◌, List, [], ◌∷◌, length, Some, None, Ok, Err, Option, Result, ◌==◌, nat_lt, slice_index_or}
use Rattle.model.specs.declared.calls.Parcel.{Parcel}
use Rattle.model.specs.declared.calls.Refusal.{Refusal}
use Rattle.model.specs.declared.calls.Refusal.TheVariants as refused
use Rattle.model.specs.Model.{bad_interval, first_of}
use Rattle.model.specs.Bursts.{burst, brought}

-- The most packets of a list, and the most bytes of a packet.
abbrev pub most_packets : ℕ
most_packets = 4096

abbrev pub most_bytes : ℕ
most_bytes = 9216

-- No bytes or too many, or an arrival before this time.
abbrev pub bad_packet : ℕ → Parcel → Bool
bad_packet time p = p.bytes == 0 || (nat_lt most_bytes p.bytes || nat_lt p.arrival time)

-- A packet of them is bad, each held to the arrival of the one in front of it, and the first to this time.
abbrev pub bad_packets : ℕ → List Parcel → Bool
bad_packets time [] = false
bad_packets time (p ∷ ps) = bad_packet time p || bad_packets p.arrival ps

-- A bad interval, too many packets, or a bad packet.
abbrev pub bad_list : ℕ → List Parcel → Bool
bad_list interval ps = bad_interval interval || (nat_lt most_packets (length ps) || bad_packets 0 ps)

-- Why a list is refused, if it is.
abbrev pub list_refusal : ℕ → List Parcel → Option Refusal
list_refusal interval ps = first_of ((bad_list interval ps, refused.List) ∷ [])

-- A figure, unless there is a refusal.
abbrev pub unless : Option Refusal → ℕ → Result ℕ Refusal
unless (Some r) n = Err r
unless None n = Ok n

-- What the tool answers.
abbrev pub figure_of : ℕ → List Parcel → Result ℕ Refusal
figure_of interval ps = unless (list_refusal interval ps) (burst (brought interval ps))

-- Where no packet is.
abbrev pub no_packet : Parcel
no_packet = record { bytes = 0; arrival = 0 }

-- The bytes and the arrival of the packet at a place.
abbrev pub bytes_at : List Parcel → ℕ → ℕ
bytes_at ps i = (slice_index_or ps i no_packet).bytes

abbrev pub arrival_at : List Parcel → ℕ → ℕ
arrival_at ps i = (slice_index_or ps i no_packet).arrival
