-- Packets that a line allows, and how far they take their session on.
use Rattle.std.proofs.Common.{◌≡◌, ℕ, ◌^◌, ◌<◌, ◌≤◌, Bool, ◌||◌, ltb, List, length, get_or, subst, sym, refl, mul-le-mul, arith}
use Rattle.std.specs.List.{AllByRecursion, list_any}
use Rattle.std.proofs.ByRecursion.{All-get_or}
use Rattle.std.proofs.lemmas.List.Recursion.{same_from_clauses}
use Rattle.model.specs.declared.calls.Packet.{Packet}
use Rattle.model.specs.Model.{advance, any, frame}

-- a packet of a lawful length at a lawful interval goes on by far less than a word holds
pub advance_small : (bytes interval : ℕ) → bytes ≤ 9216 → interval ≤ frame → advance bytes interval < 2 ^ 64
unfolding advance
advance_small bytes interval short divisor = omega (arith, mul-le-mul short divisor)

abbrev pub Short : Packet → Type 0
Short p = p.bytes ≤ 9216

-- one of them
pub one_short : (ps : List Packet) (k interval : ℕ) (p : Packet) → AllByRecursion Short ps → interval ≤ frame → k < length ps → p ≡ get_or ps k p → advance p.bytes interval < 2 ^ 64
one_short ps k interval p all divisor lt is =
    advance_small p.bytes interval (subst Short (sym is) (All-get_or Short ps k p lt all)) divisor

-- the library's search is the model's
pub any_is : (test : Packet → Bool) (ps : List Packet) → list_any test ps ≡ any test ps
any_is test ps = same_from_clauses (list_any test) (any test) (λ p b. test p || b) refl (λ p ps. refl) (λ p ps. refl) ps

-- it would not fit a share of that interval
abbrev pub long : ℕ → Packet → Bool
long interval p = ltb frame (advance p.bytes interval)
