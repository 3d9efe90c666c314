-- The figure of packets by their bytes.
use Rattle.std.proofs.Common.{◌≡◌, ℕ, zero, suc, ◌*◌, Bool, true, false, cond, List, [], ◌∷◌, length, get_or, take, drop, Some, None, Ok, sum_by, refl, ap, ◌∙◌, mul-add, arith}
use Rattle.std.proofs.lemmas.List.{take-map, drop-map, length-map}
use Rattle.std.proofs.lemmas.List.Sums.{sum_by-cons}
use Rattle.model.specs.declared.calls.Parcel.{Parcel}
use Rattle.model.specs.declared.calls.Refusal.TheVariants as refused
use Rattle.model.specs.Model.{advance}
use Rattle.model.specs.Bursts.{burst, brought}
use Rattle.burst.specs.Tool.{arrival_at, bad_list, unless}
use Rattle.burst.specs.Laws.{from_to, window, packet_window, FigureGreatest}
use Rattle.burst.proofs.Windows.{burst_greatest}

-- advances are interval * bytes in all
advances : (n : ℕ) (ps : List Parcel) → sum_by (λ p. p.0) (brought n ps) ≡ n * sum_by (λ p. p.bytes) ps
unfolding advance
advances n [] = omega arith
advances n (p ∷ ps) = simp (sum_by-cons, mul-add) (omega (arith, advances n ps))

-- arrivals stay
arrivals : (n : ℕ) (ps : List Parcel) (i : ℕ) → (get_or (brought n ps) i (0, 0)).1 ≡ arrival_at ps i
arrivals n [] i = refl
arrivals n (p ∷ ps) zero = refl
arrivals n (p ∷ ps) (suc i) = arrivals n ps i

-- a window of packets is one of what they bring
same_window : (n : ℕ) (ps : List Parcel) (first last : ℕ) → window (brought n ps) first last ≡ packet_window n ps first last
same_window n ps first last =
    let bring : Parcel → ℕ × ℕ = λ p. (advance p.bytes n, p.arrival) in
    let cut : from_to first last (brought n ps) ≡ brought n (from_to first last ps) = ap (drop first) (take-map bring (suc last) ps) ∙ drop-map bring first (take (suc last) ps) in
    let sums = ap (sum_by (λ p. p.0)) cut ∙ advances n (from_to first last ps) in
    omega (arith, sums, arrivals n ps last, arrivals n ps first)

-- a figure is answered only where nothing is refused
unrefused : (b : Bool) (m n : ℕ) → unless (cond b (Some refused.List) None) m ≡ Ok n → m ≡ n
unrefused true m n e = cc
unrefused false m n e = cc

pub figure_greatest : FigureGreatest
figure_greatest n ps m e =
    let all = burst_greatest (brought n ps) in
    let same : burst (brought n ps) ≡ m = unrefused (bad_list n ps) (burst (brought n ps)) m e in
    let count : length (brought n ps) ≡ length ps = length-map ps _ in
    record {
      above = λ first last le lt. omega (arith, same_window n ps first last, all.above first last le (omega arith));
      reached = λ some.
          let at = all.reached (omega arith) in
          record { first = at.first; last = at.last; order = at.order; inside = omega arith; exact = omega (arith, same_window n ps at.first at.last) };
      none = λ e0. let z = all.none (omega arith) in omega arith;
    }
