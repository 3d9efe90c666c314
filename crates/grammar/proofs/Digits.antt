-- A number read digit by digit is the number that its digits write. Assumes nothing.
use Rattle.std.proofs.Common.{◌≡◌, ℕ, suc, ◌+◌, ◌-◌, ◌*◌, ◌^◌, List, [], ◌∷◌, length, ap, ◌∙◌, mul_assoc, mul_comm, add-mul, pow-suc, arith}
use Rattle.grammar.specs.Bytes.{number_from, value}

number_behind : (n : ℕ) (ds : List ℕ) → number_from n ds ≡ n * 10 ^ length ds + value ds
number_behind n [] = omega arith
number_behind n (d ∷ ds) =
    let more = number_behind (n * 10 + (d - 48)) ds in
    let apart : (n * 10 + (d - 48)) * 10 ^ length ds ≡ n * 10 * 10 ^ length ds + (d - 48) * 10 ^ length ds = add-mul (n * 10) (d - 48) (10 ^ length ds) in
    let turned : n * 10 * 10 ^ length ds ≡ n * (10 * 10 ^ length ds) = mul_assoc n 10 (10 ^ length ds) in
    let longer : n * 10 ^ suc (length ds) ≡ n * (10 * 10 ^ length ds) = ap (λ x. n * x) (pow-suc 10 (length ds) ∙ mul_comm (10 ^ length ds) 10) in
    more ∙ omega (arith, apart, turned, longer)

pub number_value : (ds : List ℕ) → number_from 0 ds ≡ value ds
number_value ds = number_behind 0 ds ∙ omega arith
