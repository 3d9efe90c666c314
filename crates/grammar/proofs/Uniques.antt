-- A line has one list of tokens. Assumes nothing.
use Rattle.std.proofs.Common.{◌≡◌, ℕ, List, [], ◌∷◌, Some, None, Option, sym, refl, ap, ◌∙◌, subst}
use Rattle.grammar.specs.Tokens.{Token, Tokens}
use Rattle.grammar.specs.Reader.{Read, go, stop}
use Rattle.grammar.proofs.Scans.{at_token, at_end}

-- The token of an answer, and the bytes left.
abbrev token_in : Read (Option Token × ℕ) → Option Token
token_in (go t col rest) = t.0
token_in (stop e c) = None

abbrev rest_in : Read (Option Token × ℕ) → List ℕ
rest_in (go t col rest) = rest
rest_in (stop e c) = []

abbrev IsNone : Option Token → Type 0
IsNone None = Unit {0}
IsNone (Some t) = ⊥

abbrev token_or : Token → Option Token → Token
token_or d None = d
token_or d (Some t) = t

no_token : (line : List ℕ) (t : Token) (ts : List Token) → Tokens line [] → Tokens line (t ∷ ts) → ⊥
no_token line t ts a b =
    let e = at_end 1 line a in
    let f = at_token 1 line t b.0 b.1 in
    subst IsNone (ap token_in (sym e.1 ∙ f.2)) tt

pub one_cut : (line : List ℕ) (ts us : List Token) → Tokens line ts → Tokens line us → ts ≡ us
one_cut line [] [] a b = refl
one_cut line [] (u ∷ us) a b = absurd (no_token line u us a b)
one_cut line (t ∷ ts) [] a b = absurd (no_token line t ts b a)
one_cut line (t ∷ ts) (u ∷ us) a b =
    let f = at_token 1 line t a.0 a.1 in
    let g = at_token 1 line u b.0 b.1 in
    let same = sym f.2 ∙ g.2 in
    let first : t ≡ u = ap (λ r. token_or t (token_in r)) same in
    let rests : a.0 ≡ b.0 = ap rest_in same in
    ap (λ x. x ∷ ts) first ∙ ap (λ xs. u ∷ xs) (one_cut b.0 ts us (subst (λ r. Tokens r ts) rests a.2) b.2)
