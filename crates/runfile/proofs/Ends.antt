-- A form that is read ends with the text. Assumes nothing.
use Rattle.std.proofs.Common.{◌≡◌, ℕ, ◌+◌, ◌-◌, eqb, leb, List, [], ◌∷◌, length, Some, None, Ok, Err, Option, Result, sym, refl, ap, ◌∙◌, subst, arith}
use Rattle.std.proofs.lemmas.Bool.{cond_both}
use Rattle.grammar.specs.Bytes.{inside, run_length}
use Rattle.grammar.specs.Faults.{no_word}
use Rattle.grammar.specs.Forms.{Form as Spelled, table}
use Rattle.grammar.specs.Tokens.{Token}
use Rattle.grammar.specs.Reader.{Read, go, stop, decide, token, taken, then, expect, as_opening, as_word, as_end, row_in, body, form}
use Rattle.grammar.proofs.Scans.{Told, then_told}
use Rattle.runfile.specs.declared.faults.FormFault.{FormFault}
use Rattle.runfile.specs.declared.forms.Form.{Form}
use Rattle.runfile.specs.declared.place.Place.{Place}
use Rattle.runfile.specs.declared.reader.Reader.{Reader}
use Rattle.runfile.specs.Forming.{Ends, form_of}
use Rattle.runfile.specs.Met.{met}
use Rattle.runfile.specs.Places.{ahead, Along}
use Rattle.runfile.specs.Reads.{Moves, line_end, read_of}

-- Where there is no token, no byte is left.
abbrev NoneLeft : Option Token → List ℕ → Type 0
NoneLeft None rest = rest ≡ []
NoneLeft (Some t) rest = Unit {0}

abbrev Tokened : Read (Option Token × ℕ) → Type 0
Tokened r = Told (λ t rest. NoneLeft t.0 rest) r

decide_ends : (col b : ℕ) (bs : List ℕ) → Tokened (decide col b bs)
decide_ends col b bs =
    cond_both (eqb b 40) _ _ Tokened (λ _. tt)
    (λ _. cond_both (eqb b 41) _ _ Tokened (λ _. tt)
    (λ _. cond_both (inside 97 122 b) _ _ Tokened (λ _. tt)
    (λ _. cond_both (inside 48 57 b) _ _ Tokened
    (λ _. cond_both (leb (run_length 48 57 (b ∷ bs)) 13) _ _ Tokened (λ _. tt) (λ _. tt))
    (λ _. tt))))

token_ends : (col : ℕ) (line : List ℕ) → Tokened (token col line)
token_ends col [] = refl
token_ends col (b ∷ bs) = cond_both (eqb b 32) _ _ Tokened (λ _. token_ends (col + 1) bs) (λ _. decide_ends col b bs)

-- What the last reader says is said of all.
last : {A B : Type 0} (Q : B → List ℕ → Type 0) (r : Read A) (k : A → ℕ → List ℕ → Read B) → ((a : A) (col : ℕ) (rest : List ℕ) → Told Q (k a col rest)) → Told Q (then r k)
last Q (go a col rest) k h = h a col rest
last Q (stop e c) k h = tt

end_case : (t : Option Token) (c col : ℕ) (rest : List ℕ) → NoneLeft t rest → Told (λ _ r. r ≡ []) (taken (as_end t) c col rest)
end_case None c col rest e = e
end_case (Some t) c col rest e = tt

end_told : (col : ℕ) (line : List ℕ) → Told (λ _ r. r ≡ []) (expect as_end col line)
end_told col line =
    then_told (λ t rest. NoneLeft t.0 rest) (λ _ r. r ≡ []) (token col line) (λ t. taken (as_end t.0) t.1) (token_ends col line)
    (λ t c r e. end_case t.0 t.1 c r e)

form_ends : (col : ℕ) (line : List ℕ) → Told (λ _ r. r ≡ []) (form col line)
form_ends col line =
    let Q : Spelled → List ℕ → Type 0 = λ _ r. r ≡ [] in
    last Q (expect as_opening col line) _
    (λ _ c1 r1. last Q (expect (as_word no_word (row_in table)) c1 r1) _
    (λ row c2 r2. last Q (body row c2 r2) _
    (λ f c3 r3. then_told (λ _ r. r ≡ []) Q (expect as_end c3 r3) _ (end_told c3 r3) (λ v c4 r4 e. e))))

-- A place by its figures.
same_place : (p q : Place) → p.at ≡ q.at → p.line ≡ q.line → p.column ≡ q.column → p ≡ q
same_place p q a l c =
    ap (λ x. record { at = x; line = p.line; column = p.column }) a
    ∙ ap (λ x. record { at = q.at; line = x; column = p.column }) l
    ∙ ap (λ x. record { at = q.at; line = q.line; column = x }) c

-- A place of the line is so many bytes on.
along_ahead : (end : ℕ) (p q : Place) → Along end p q → q ≡ ahead p (q.at - p.at)
along_ahead end p q a = same_place q (ahead p (q.at - p.at)) (omega arith) a.line (omega arith)

-- The reader of a form stands at the end, or met a fault in the line.
pub ends_at : (size : ℕ) (r q : Reader) (x : Result Form FormFault) → line_end r ≡ size → Moves met r x q → read_of met form_of x q ≡ form r.place.column r.rest.now → Ends size r.place x q.place
ends_at size r q (Ok f) e m h =
    let none : q.rest.now ≡ [] = subst (Told (λ _ l. l ≡ [])) (sym h) (form_ends r.place.column r.rest.now) in
    let all : q.place.at ≡ size = omega (arith, ap length none, m.end) in
    along_ahead (line_end r) r.place q.place m.place ∙ ap (λ n. ahead r.place (n - r.place.at)) all
ends_at size r q (Err x) e m h = (along_ahead (line_end r) r.place (met x).place m, omega (arith, m.within))
