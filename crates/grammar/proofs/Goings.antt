-- What is spelled is read. Assumes nothing.
use Rattle.std.proofs.Common.{◌≡◌, ℕ, zero, suc, ◌<◌, true, false, List, [], ◌∷◌, ◌++◌, map, length, Some, Ok, Option, Result, sym, refl, ap, ◌∙◌, subst, arith}
use Rattle.grammar.specs.Bytes.{value}
use Rattle.grammar.specs.Faults.{Fault, no_field, no_word}
use Rattle.grammar.specs.Forms.{Row, Form, table}
use Rattle.grammar.specs.Tokens.{Token, opening, closing, word, number, Tokens}
use Rattle.grammar.specs.Grammar.{Field, written, meant, put, Shuffled, names, values, Spells}
use Rattle.grammar.specs.Reader.{Read, go, then, taken, expect, or_fault, as_opening, as_closing, as_end, as_number, as_word, as_next, row_in, place_in, without, field, field_or_end, fields, body, form, good, answer, read}
use Rattle.grammar.proofs.Scans.{at_token, at_end}
use Rattle.grammar.proofs.Digits.{number_value}
use Rattle.grammar.proofs.Places.{row_found, Distinct, table_distinct, distinct_put, placed, shuffled_length}
use Rattle.grammar.proofs.Tells.{same_good}

-- A reader goes on with a value, and the bytes left have these tokens.
pub record Goes {A : Type 0} (r : Read A) (a : A) (ts : List Token) : Type 0 where
  pub col : ℕ
  pub rest : List ℕ
  pub is : r ≡ go a col rest
  pub left : Tokens rest ts

then_goes : {A B : Type 0} (r : Read A) (a : A) (ts : List Token) (k : A → ℕ → List ℕ → Read B) (b : B) (us : List Token)
    → Goes r a ts → ((col : ℕ) (rest : List ℕ) → Tokens rest ts → Goes (k a col rest) b us) → Goes (then r k) b us
then_goes r a ts k b us g h =
    let x = h g.col g.rest g.left in
    record { col = x.col; rest = x.rest; is = ap (λ s. then s k) g.is ∙ x.is; left = x.left }

expect_goes : {A : Type 0} (choice : Option Token → Result A Fault) (a : A) (t : Token) (ts : List Token) (col : ℕ) (line : List ℕ)
    → choice (Some t) ≡ Ok a → Tokens line (t ∷ ts) → Goes (expect choice col line) a ts
expect_goes choice a t ts col line e k =
    let f = at_token col line t k.0 k.1 in
    record {
      col = f.1;
      rest = k.0;
      is = ap (λ r. then r (λ s. taken (choice s.0) s.1)) f.2 ∙ ap (λ x. taken x f.0 f.1 k.0) e;
      left = k.2;
    }

end_goes : (col : ℕ) (line : List ℕ) → Tokens line [] → Goes (expect as_end col line) tt []
end_goes col line k =
    let f = at_end col line k in
    record { col = f.0; rest = []; is = ap (λ r. then r (λ s. taken (as_end s.0) s.1)) f.1; left = (0, refl) }

stays : {A : Type 0} (a b : A) (ts : List Token) (col : ℕ) (rest : List ℕ) → a ≡ b → Tokens rest ts → Goes (go a col rest) b ts
stays a b ts col rest e t = record { col = col; rest = rest; is = ap (λ x. go x col rest) e; left = t }

-- A field.
field_goes : (wanted : List (List ℕ)) (i : ℕ) (n ds : List ℕ) (ts : List Token) (col : ℕ) (line : List ℕ)
    → place_in wanted n ≡ Some i → Tokens line (word n ∷ number ds ∷ closing ∷ ts) → Goes (field wanted col line) (i, value ds) ts
field_goes wanted i n ds ts col line e k =
    then_goes (expect (as_word no_field (place_in wanted)) col line) i (number ds ∷ closing ∷ ts) _ (i, value ds) ts
    (expect_goes (as_word no_field (place_in wanted)) i (word n) (number ds ∷ closing ∷ ts) col line (ap (or_fault no_field) e) k)
    (λ c1 r1 k1. then_goes (expect as_number c1 r1) (value ds) (closing ∷ ts) _ (i, value ds) ts
    (expect_goes as_number (value ds) (number ds) (closing ∷ ts) c1 r1 (ap (λ v. Ok v) (number_value ds)) k1)
    (λ c2 r2 k2. then_goes (expect as_closing c2 r2) tt ts _ (i, value ds) ts
    (expect_goes as_closing tt closing ts c2 r2 refl k2)
    (λ c3 r3 k3. stays (i, value ds) (i, value ds) ts c3 r3 refl k3)))

-- No field any more.
last_goes : (more : ℕ → ℕ → List ℕ → Read (List ℕ)) (ts : List Token) (col : ℕ) (line : List ℕ)
    → Tokens line (closing ∷ ts) → Goes (then (expect (as_next []) col line) (field_or_end [] more)) [] ts
last_goes more ts col line k =
    then_goes (expect (as_next []) col line) false ts (field_or_end [] more) [] ts
    (expect_goes (as_next []) false closing ts col line refl k)
    (λ c1 r1 k1. stays [] [] ts c1 r1 refl k1)

-- One field more.
more_goes : (wanted : List (List ℕ)) (more : ℕ → ℕ → List ℕ → Read (List ℕ)) (i : ℕ) (f : Field) (vs all : List ℕ) (us ts : List Token) (col : ℕ) (line : List ℕ)
    → place_in wanted f.name ≡ Some i → put i (value f.digits) vs ≡ all
    → ((col : ℕ) (rest : List ℕ) → Tokens rest us → Goes (more i col rest) vs ts)
    → Tokens line (opening ∷ word f.name ∷ number f.digits ∷ closing ∷ us)
    → Goes (then (expect (as_next wanted) col line) (field_or_end wanted more)) all ts
more_goes wanted more i f vs all us ts col line at is h k =
    then_goes (expect (as_next wanted) col line) true (word f.name ∷ number f.digits ∷ closing ∷ us) (field_or_end wanted more) all ts
    (expect_goes (as_next wanted) true opening (word f.name ∷ number f.digits ∷ closing ∷ us) col line refl k)
    (λ c1 r1 k1. then_goes (field wanted c1 r1) (i, value f.digits) us _ all ts
    (field_goes wanted i f.name f.digits us c1 r1 at k1)
    (λ c2 r2 k2. then_goes (more i c2 r2) vs ts _ all ts (h c2 r2 k2)
    (λ c3 r3 k3. stays (put i (value f.digits) vs) all ts c3 r3 is k3)))

-- The fields in any order.
fields_goes : (k : ℕ) (fs : List Field) (ps : List (List ℕ × ℕ)) (ts : List Token) (col : ℕ) (line : List ℕ)
    → length fs < k → Distinct (names ps) → Shuffled (map meant fs) ps → Tokens line (written fs ++ (closing ∷ ts)) → Goes (fields k (names ps) col line) (values ps) ts
fields_goes zero fs ps ts col line le d s t = absurd (omega (arith, le))
fields_goes (suc k) [] ps ts col line le d s t =
    subst (λ qs. Goes (fields (suc k) (names qs) col line) (values qs) ts) (sym s) (last_goes (λ i. fields k (without i [])) ts col line t)
fields_goes (suc k) (f ∷ fs) ps ts col line le d s t =
    let i : ℕ = s.0 in
    let qs : List (List ℕ × ℕ) = s.1 in
    let d' : Distinct (names (put i (meant f) qs)) = subst (λ rs. Distinct (names rs)) s.2 d in
    let p = placed i (meant f) qs d' in
    let fewer : length fs < k = omega (arith, le) in
    let all : List (List ℕ) = names (put i (meant f) qs) in
    subst (λ rs. Goes (fields (suc k) (names rs) col line) (values rs) ts) (sym s.2)
    (more_goes all (λ j. fields k (without j all)) p.place f (values qs) (values (put i (meant f) qs)) (written fs ++ (closing ∷ ts)) ts col line p.found p.all
    (λ c r u. subst (λ ws. Goes (fields k ws c r) (values qs) ts) (sym p.others) (fields_goes k fs qs ts c r fewer (distinct_put i (meant f) qs d') s.3 u))
    t)

-- As many names as pairs, as many meanings as fields.
pub names_length : (ps : List (List ℕ × ℕ)) → length (names ps) ≡ length ps
names_length [] = refl
names_length (p ∷ ps) = ap suc (names_length ps)

meant_length : (fs : List Field) → length (map meant fs) ≡ length fs
meant_length [] = refl
meant_length (f ∷ fs) = ap suc (meant_length fs)

-- A form that is spelled is read.
form_goes : (col : ℕ) (line : List ℕ) (f : Form) → Spells line f → Goes (form col line) f []
form_goes col line f s =
    let row : Row = s.row in
    let wanted : List (List ℕ) = row.names in
    let fs : List Field = s.fields in
    let inner : List Token = written s.fields ++ (closing ∷ []) in
    let few : length s.fields < suc (length s.row.names) =
    omega (arith, ap length s.all_names, names_length s.pairs, shuffled_length (map meant s.fields) s.pairs s.shuffled, meant_length s.fields) in
    let distinct : Distinct (names s.pairs) = subst Distinct (sym s.all_names) (table_distinct s.row s.stands) in
    then_goes (expect as_opening col line) tt (word row.call ∷ inner) _ f []
    (expect_goes as_opening tt opening (word row.call ∷ inner) col line refl s.tokens)
    (λ c1 r1 k1. then_goes (expect (as_word no_word (row_in table)) c1 r1) row inner _ f []
    (expect_goes (as_word no_word (row_in table)) row (word row.call) inner c1 r1 (ap (or_fault no_word) (row_found row s.stands)) k1)
    (λ c2 r2 k2. then_goes (body row c2 r2) f [] _ f []
    (then_goes (fields (suc (length wanted)) wanted c2 r2) (values s.pairs) [] _ f []
    (subst (λ ws. Goes (fields (suc (length wanted)) ws c2 r2) (values s.pairs) []) s.all_names
    (fields_goes (suc (length wanted)) fs s.pairs [] c2 r2 few distinct s.shuffled k2))
    (λ c3 r3 k3. stays (record { kind = row.kind; values = values s.pairs }) f [] c3 r3 (sym s.means) k3))
    (λ c3 r3 k3. then_goes (expect as_end c3 r3) tt [] _ f [] (end_goes c3 r3 k3)
    (λ c4 r4 k4. stays f f [] c4 r4 refl k4))))

pub spells_read : (line : List ℕ) (f : Form) → Spells line f → read line ≡ good f
spells_read line f s = ap answer (form_goes 1 line f s).is

-- A line spells at most one form.
pub one_form : (line : List ℕ) (f g : Form) → Spells line f → Spells line g → f ≡ g
one_form line f g s t = same_good f g (sym (spells_read line f s) ∙ spells_read line g t)
