-- The lists that are taken: no packet is bad just where each has a size in range and none comes before the one in front.
use Rattle.std.proofs.Common.{◌≡◌, ℕ, zero, suc, ◌+◌, ◌%◌, ◌<◌, ◌≤◌, ◌↔◌, Bool, true, false, IsTrue, cond, List, [], ◌∷◌, length, get_or, drop, Some, None, sym, refl, ap, ◌∙◌, add-one, inl, inr, mod-eq_of_lt, arith}
use Rattle.std.specs.List.{All}
use Rattle.std.specs.List.Sorted.{IsNonDecreasingBy}
use Rattle.std.proofs.lemmas.Bool.{cases_lt, false≢true}
use Rattle.std.proofs.lemmas.Bool.Decides.{nat_tests}
use Rattle.std.proofs.lemmas.List.{at_drop_more}
use Rattle.std.proofs.lemmas.List.Sorted.{IsNonDecreasingBy-from_all_adjacent}
use Rattle.model.specs.declared.calls.Parcel.{Parcel}
use Rattle.model.specs.declared.calls.Refusal.TheVariants as refused
use Rattle.model.specs.Model.{frame, bad_interval}
use Rattle.burst.specs.Tool.{most_bytes, bad_packet, bad_packets, bad_list, no_packet, arrival_at}
use Rattle.burst.specs.Laws.{Fine, Sound, SoundTaken}

-- an interval divides the frame, so it is not above it
pub in_frame : (n : ℕ) → bad_interval n ≡ false → n ≤ frame
in_frame n good =
    elim (cases_lt frame n) [ inl lt ↦ let e : frame % n ≡ frame = mod-eq_of_lt lt in grind (arith, nat_tests) | inr le ↦ le ]

-- the packet at a place, and the one behind it
size_at : (time : ℕ) (ps : List Parcel) (i : ℕ) (d : Parcel) → i < length ps → bad_packets time ps ≡ false → (0 < (get_or ps i d).bytes) × ((get_or ps i d).bytes ≤ most_bytes)
size_at time [] i d lt good = absurd (omega arith)
size_at time (p ∷ ps) zero d lt good = (grind (arith, nat_tests), grind (arith, nat_tests))
size_at time (p ∷ ps) (suc i) d lt good = size_at p.arrival ps i d (omega arith) (grind (arith, nat_tests))

order_at : (time : ℕ) (ps : List Parcel) (i : ℕ) (d : Parcel) → suc i < length ps → bad_packets time ps ≡ false → (get_or ps i d).arrival ≤ (get_or ps (suc i) d).arrival
order_at time [] i d lt good = absurd (omega arith)
order_at time (p ∷ []) i d lt good = absurd (omega arith)
order_at time (p ∷ q ∷ qs) zero d lt good = grind (arith, nat_tests)
order_at time (p ∷ q ∷ qs) (suc i) d lt good = order_at p.arrival (q ∷ qs) i d (omega arith) (grind (arith, nat_tests))

pub sized : (ps : List Parcel) → bad_packets 0 ps ≡ false → All (λ p. (0 < p.bytes) × (p.bytes ≤ most_bytes)) ps
sized ps good = λ i d lt. size_at 0 ps i d lt good

pub rising : (ps : List Parcel) → bad_packets 0 ps ≡ false → IsNonDecreasingBy (λ p. p.arrival) ps
rising ps good = IsNonDecreasingBy-from_all_adjacent (λ p. p.arrival) ps (λ i d lt. rw add-one (order_at 0 ps i d (omega arith) good))

-- the packets behind the first
fine_less : (p : Parcel) (ps : List Parcel) → Fine (p ∷ ps) → Fine ps
fine_less p ps f =
    record { some = λ i lt. f.some (suc i) (omega arith); short = λ i lt. f.short (suc i) (omega arith); rising = λ i lt. f.rising (suc i) (omega arith) }

unfine : (time : ℕ) (ps : List Parcel) → (0 < length ps → time ≤ arrival_at ps 0) → Fine ps → bad_packets time ps ≡ false
unfine time [] before f = refl
unfine time (p ∷ ps) before f =
    let some : 0 < p.bytes = f.some 0 (omega arith) in
    let short : p.bytes ≤ most_bytes = f.short 0 (omega arith) in
    let order : time ≤ p.arrival = before (omega arith) in
    let rest = unfine p.arrival ps (λ lt. f.rising 0 (omega arith)) (fine_less p ps f) in
    grind (arith, nat_tests)

-- by place
fine : (ps : List Parcel) → All (λ p. (0 < p.bytes) × (p.bytes ≤ most_bytes)) ps → IsNonDecreasingBy (λ p. p.arrival) ps → Fine ps
fine ps size order =
    record { some = λ i lt. (size i no_packet lt).0; short = λ i lt. (size i no_packet lt).1; rising = λ i lt. order i (suc i) no_packet (omega arith) lt }

pub none_bad : (ps : List Parcel) → All (λ p. (0 < p.bytes) × (p.bytes ≤ most_bytes)) ps → IsNonDecreasingBy (λ p. p.arrival) ps → bad_packets 0 ps ≡ false
none_bad ps size order = unfine 0 ps (λ lt. omega arith) (fine ps size order)

-- a list of which no packet is bad, and one with a bad packet
pub all_good : (ps : List Parcel) → bad_packets 0 ps ≡ false
    → IsTrue true ↔ (All (λ p. (0 < p.bytes) × (p.bytes ≤ most_bytes)) ps × IsNonDecreasingBy (λ p. p.arrival) ps)
all_good ps good = (λ t. (sized ps good, rising ps good), λ h. refl)

pub some_bad : (ps : List Parcel) → bad_packets 0 ps ≡ true
    → IsTrue false ↔ (All (λ p. (0 < p.bytes) × (p.bytes ≤ most_bytes)) ps × IsNonDecreasingBy (λ p. p.arrival) ps)
some_bad ps bad = (λ t. absurd (false≢true t), λ h. absurd (false≢true (sym (none_bad ps h.0 h.1) ∙ bad)))

-- the packet at i is bad
pub stops : (ps : List Parcel) (i time : ℕ) → i < length ps → bad_packet time (get_or ps i no_packet) ≡ true → bad_packets time (drop i ps) ≡ true
stops ps i time lt bad =
    let e : bad_packets time (drop i ps) ≡ bad_packets time (get_or ps i no_packet ∷ drop (i + 1) ps) = at_drop_more (bad_packets time) ps i no_packet lt in
    grind (arith, nat_tests)

-- what the checks leave, for the tactic of the list's constructor
pub ruleset list_checks = (in_frame, none_bad, sized, rising, nat_tests)

-- no refusal is a list that is not bad
not_bad : (b : Bool) → cond b (Some refused.List) None ≡ None → b ≡ false
not_bad true e = cc
not_bad false e = refl

sound : (n : ℕ) (ps : List Parcel) → bad_list n ps ≡ false → Sound n ps
sound n ps good =
    let rest : bad_packets 0 ps ≡ false = grind (arith, nat_tests) in
    record { positive = grind (arith, nat_tests); divides = grind (arith, nat_tests); few = grind (arith, nat_tests); fine = fine ps (sized ps rest) (rising ps rest) }

taken : (n : ℕ) (ps : List Parcel) → Sound n ps → bad_list n ps ≡ false
taken n ps s = let rest = unfine 0 ps (λ lt. omega arith) s.fine in grind (arith, nat_tests)

pub sound_taken : SoundTaken
sound_taken n ps = (λ e. sound n ps (not_bad (bad_list n ps) e), λ s. ap (λ b. cond b (Some refused.List) None) (taken n ps s))
