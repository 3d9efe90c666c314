-- How long an answer line can be.
use Rattle.std.proofs.Common.{ℕ, ◌^◌, ◌<◌, ◌≤◌, List, length, codes, arith}
use lib.Signed.{mag}
use Rattle.std.proofs.lemmas.Fmt.{length-decimal-le, length_signed_le}
use Rattle.std.proofs.lemmas.List.{length-append}
use Rattle.std.specs.Fmt.{digits}
use Rattle.model.specs.declared.calls.Departure.{Departure}
use Rattle.model.specs.declared.calls.Refusal.{Refusal}
use Rattle.model.specs.declared.calls.Refusal.TheVariants as refused
use Rattle.answers.specs.Lines.{refused_text, left_text, fault_text}

pub refused_short : (r : Refusal) → length (refused_text r) ≤ 168
unfolding refused_text digits
refused_short refused.Clock = omega arith
refused_short refused.Overdue = omega arith
refused_short refused.Session = omega arith
refused_short refused.Taken = omega arith
refused_short refused.Draining = omega arith
refused_short refused.Closed = omega arith
refused_short refused.Interval = omega arith
refused_short refused.Length = omega arith
refused_short refused.Places = omega arith
refused_short refused.Share = omega arith
refused_short refused.Full = omega arith
refused_short refused.Busy = omega arith
refused_short refused.Idle = omega arith
refused_short refused.Rule = omega arith
refused_short refused.Longest = omega arith
refused_short refused.List = omega arith

pub left_short : (d : Departure) → d.session < 2 ^ 8 → d.bytes < 2 ^ 16 → d.arrived < 2 ^ 64 → d.at < 2 ^ 64 → d.due < 2 ^ 64 → mag d.spare < 2 ^ 63 → d.waiting < 2 ^ 8 → length (left_text d) ≤ 168
unfolding left_text
left_short d s b a t u z w =
    let ls = length-decimal-le 3 d.session (omega arith) (omega arith) (omega arith) in
    let lb = length-decimal-le 5 d.bytes (omega arith) (omega arith) (omega arith) in
    let la = length-decimal-le 20 d.arrived (omega arith) (omega arith) a in
    let lt = length-decimal-le 20 d.at (omega arith) (omega arith) t in
    let lu = length-decimal-le 20 d.due (omega arith) (omega arith) u in
    let lz = length_signed_le 19 d.spare (omega arith) z in
    let lw = length-decimal-le 3 d.waiting (omega arith) (omega arith) (omega arith) in
    simp length-append (omega arith)

-- a fault of a text of at most 65,536 bytes
pub fault_short : (n : ℕ) (w : List ℕ) (line column : ℕ) → n < 100 → length w ≤ 7 → line < 100000 → column < 100000 → length (fault_text n w line column) ≤ 32
unfolding fault_text
fault_short n w line column two short l c =
    let a = length-decimal-le 2 n (omega arith) (omega arith) (omega arith) in
    let i = length-decimal-le 5 line (omega arith) (omega arith) (omega arith) in
    let j = length-decimal-le 5 column (omega arith) (omega arith) (omega arith) in
    simp length-append (omega arith)

-- the fault of a page without room
pub page_fault_short : (line : ℕ) → line < 100000 → length (fault_text 26 (codes "page") line 1) ≤ 24
unfolding fault_text digits
page_fault_short line l =
    let i = length-decimal-le 5 line (omega arith) (omega arith) (omega arith) in
    simp length-append (omega arith)
