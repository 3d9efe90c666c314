-- The bases of the four plain rules, as functions of the least start s and the least finish f.
use Rattle.std.specs.Prelude.{◌≡◌, ℕ, ◌+◌, ◌-◌, ◌*◌, ◌/◌, ◌<◌, ◌≤◌}

abbrev pub frame : ℕ
frame = 55440

abbrev pub clock_base : ℕ → ℕ → ℕ
clock_base s f = 0

abbrev pub frame_base : ℕ → ℕ → ℕ
frame_base s f = s / frame * frame

abbrev pub start_base : ℕ → ℕ → ℕ
start_base s f = s

abbrev pub stamp_base : ℕ → ℕ → ℕ
stamp_base s f = f - frame

-- The base is never above the least start, wherever the least finish is past it by a frame at most.
abbrev pub Lawful : (ℕ → ℕ → ℕ) → Type 0
Lawful b = (s f : ℕ) → s < f → f ≤ s + frame → b s f ≤ s

-- The frame's base is the greatest multiple of the frame that is not above the least start.
abbrev pub FrameLaw : Type 0
FrameLaw = (s f : ℕ) → ((k : ℕ) × (frame_base s f ≡ k * frame)) × (frame_base s f ≤ s) × (s < frame_base s f + frame)
