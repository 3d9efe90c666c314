-- What is read is spelled. Assumes nothing.
use Rattle.std.proofs.Common.{◌≡◌, ℕ, zero, suc, Bool, true, false, List, [], ◌∷◌, ◌++◌, map, length, Some, None, Option, Result, sym, refl, ap, ◌∙◌, subst}
use Rattle.grammar.specs.Bytes.{value}
use Rattle.grammar.specs.Faults.{Fault, no_field, no_word}
use Rattle.grammar.specs.Forms.{Row, Form, table}
use Rattle.grammar.specs.Tokens.{Token, opening, closing, word, number, Starts, Tokens}
use Rattle.grammar.specs.Grammar.{Field, written, meant, put, Shuffled, names, values, Spells}
use Rattle.grammar.specs.Reader.{Read, go, stop, then, token, taken, expect, or_fault, as_opening, as_closing, as_end, as_number, as_word, as_last, as_next, row_in, place_in, without, field, field_or_end, fields, body, form, Answer, good, wrong, answer, read}
use Rattle.grammar.proofs.Scans.{Told, then_told, Begins, token_told}
use Rattle.grammar.proofs.Digits.{number_value}
use Rattle.grammar.proofs.Places.{row_word, place_put, map_put}

-- The next token, taken for something.
expect_told : {A : Type 0} (choice : Option Token → Result A Fault) (col : ℕ) (line : List ℕ) (Q : A → List ℕ → Type 0)
    → ((t : Option Token) (c col' : ℕ) (rest : List ℕ) → Begins line t rest → Told Q (taken (choice t) c col' rest)) → Told Q (expect choice col line)
expect_told choice col line Q h =
    then_told (λ t rest. Begins line t.0 rest) Q (token col line) (λ t. taken (choice t.0) t.1) (token_told col line) (λ t col' rest b. h t.0 t.1 col' rest b)

opening_case : (line : List ℕ) (t : Option Token) (c col : ℕ) (rest : List ℕ) → Begins line t rest → Told (λ _ r. Starts line opening r) (taken (as_opening t) c col rest)
opening_case line (Some opening) c col rest b = b
opening_case line (Some closing) c col rest b = tt
opening_case line (Some (word w)) c col rest b = tt
opening_case line (Some (number ds)) c col rest b = tt
opening_case line None c col rest b = tt

closing_case : (line : List ℕ) (t : Option Token) (c col : ℕ) (rest : List ℕ) → Begins line t rest → Told (λ _ r. Starts line closing r) (taken (as_closing t) c col rest)
closing_case line (Some opening) c col rest b = tt
closing_case line (Some closing) c col rest b = b
closing_case line (Some (word w)) c col rest b = tt
closing_case line (Some (number ds)) c col rest b = tt
closing_case line None c col rest b = tt

end_case : (line : List ℕ) (t : Option Token) (c col : ℕ) (rest : List ℕ) → Begins line t rest → Told (λ _ r. Tokens line []) (taken (as_end t) c col rest)
end_case line (Some t) c col rest b = tt
end_case line None c col rest b = b

-- A number that is read begins the line.
abbrev Numbered : List ℕ → ℕ → List ℕ → Type 0
Numbered line v rest = (ds : List ℕ) × (value ds ≡ v) × Starts line (number ds) rest

number_case : (line : List ℕ) (t : Option Token) (c col : ℕ) (rest : List ℕ) → Begins line t rest → Told (Numbered line) (taken (as_number t) c col rest)
number_case line (Some opening) c col rest b = tt
number_case line (Some closing) c col rest b = tt
number_case line (Some (word w)) c col rest b = tt
number_case line (Some (number ds)) c col rest b = (ds, sym (number_value ds), b)
number_case line None c col rest b = tt

-- A word that a search finds begins the line.
abbrev Found : {A : Type 0} → List ℕ → (List ℕ → Option A) → A → List ℕ → Type 0
Found line find a rest = (w : List ℕ) × (find w ≡ Some a) × Starts line (word w) rest

found_case : {A : Type 0} (line : List ℕ) (e : Fault) (find : List ℕ → Option A) (w : List ℕ) (o : Option A) (c col : ℕ) (rest : List ℕ)
    → find w ≡ o → Starts line (word w) rest → Told (Found line find) (taken (or_fault e o) c col rest)
found_case line e find w (Some a) c col rest is b = (w, is, b)
found_case line e find w None c col rest is b = tt

word_case : {A : Type 0} (line : List ℕ) (e : Fault) (find : List ℕ → Option A) (t : Option Token) (c col : ℕ) (rest : List ℕ)
    → Begins line t rest → Told (Found line find) (taken (as_word e find t) c col rest)
word_case line e find (Some opening) c col rest b = tt
word_case line e find (Some closing) c col rest b = tt
word_case line e find (Some (word w)) c col rest b = found_case line e find w (find w) c col rest refl b
word_case line e find (Some (number ds)) c col rest b = tt
word_case line e find None c col rest b = tt

-- One more field, or the form's closing bracket where no field is wanted.
abbrev Next : List ℕ → List (List ℕ) → Bool → List ℕ → Type 0
Next line wanted true rest = Starts line opening rest
Next line wanted false rest = (wanted ≡ []) × Starts line closing rest

last_case : (line : List ℕ) (wanted : List (List ℕ)) (c col : ℕ) (rest : List ℕ) → Starts line closing rest → Told (Next line wanted) (taken (as_last wanted) c col rest)
last_case line [] c col rest b = (refl, b)
last_case line (n ∷ ns) c col rest b = tt

next_case : (line : List ℕ) (wanted : List (List ℕ)) (t : Option Token) (c col : ℕ) (rest : List ℕ) → Begins line t rest → Told (Next line wanted) (taken (as_next wanted t) c col rest)
next_case line wanted (Some opening) c col rest b = b
next_case line wanted (Some closing) c col rest b = last_case line wanted c col rest b
next_case line wanted (Some (word w)) c col rest b = tt
next_case line wanted (Some (number ds)) c col rest b = tt
next_case line wanted None c col rest b = tt

-- A field that is read behind its opening bracket.
pub record Fielded (line : List ℕ) (wanted : List (List ℕ)) (f : ℕ × ℕ) (rest : List ℕ) : Type 0 where
  pub name : List ℕ
  pub digits : List ℕ
  pub place : place_in wanted name ≡ Some f.0
  pub number_is : value digits ≡ f.1
  pub tokens : (ts : List Token) → Tokens rest ts → Tokens line (word name ∷ number digits ∷ closing ∷ ts)

pub field_told : (wanted : List (List ℕ)) (col : ℕ) (line : List ℕ) → Told (Fielded line wanted) (field wanted col line)
field_told wanted col line =
    then_told (Found line (place_in wanted)) (Fielded line wanted) (expect (as_word no_field (place_in wanted)) col line) _
    (expect_told (as_word no_field (place_in wanted)) col line (Found line (place_in wanted)) (word_case line no_field (place_in wanted)))
    (λ i c1 r1 w. then_told (Numbered r1) (Fielded line wanted) (expect as_number c1 r1) _
    (expect_told as_number c1 r1 (Numbered r1) (number_case r1))
    (λ v c2 r2 d. then_told (λ _ r. Starts r2 closing r) (Fielded line wanted) (expect as_closing c2 r2) _
    (expect_told as_closing c2 r2 (λ _ r. Starts r2 closing r) (closing_case r2))
    (λ u c3 r3 z. record {
      name = w.0;
      digits = d.0;
      place = w.1;
      number_is = d.1;
      tokens = λ ts t. (r1, w.2, (r2, d.2, (r3, z, t)));
    })))

-- Fields that are read up to the form's closing bracket.
pub record Listed (line : List ℕ) (wanted : List (List ℕ)) (vs : List ℕ) (rest : List ℕ) : Type 0 where
  pub all : List Field
  pub pairs : List (List ℕ × ℕ)
  pub are_named : names pairs ≡ wanted
  pub are_valued : values pairs ≡ vs
  pub shuffled : Shuffled (map meant all) pairs
  pub tokens : (ts : List Token) → Tokens rest ts → Tokens line (written all ++ (closing ∷ ts))

one_more : (line : List ℕ) (wanted : List (List ℕ)) (r0 r1 r2 : List ℕ) (f : ℕ × ℕ) (vs : List ℕ)
    → Starts line opening r0 → Fielded r0 wanted f r1 → Listed r1 (without f.0 wanted) vs r2 → Listed line wanted (put f.0 f.1 vs) r2
one_more line wanted r0 r1 r2 f vs o d l =
    let p : List ℕ × ℕ = (d.name, value d.digits) in
    record {
      all = record { name = d.name; digits = d.digits } ∷ l.all;
      pairs = put f.0 p l.pairs;
      are_named = map_put (λ q. q.0) f.0 p l.pairs ∙ ap (put f.0 d.name) l.are_named ∙ sym (place_put wanted d.name f.0 d.place);
      are_valued = map_put (λ q. q.1) f.0 p l.pairs ∙ ap (put f.0 (value d.digits)) l.are_valued ∙ ap (λ v. put f.0 v vs) d.number_is;
      shuffled = (f.0, l.pairs, refl, l.shuffled);
      tokens = λ ts t. (r0, o, d.tokens (written l.all ++ (closing ∷ ts)) (l.tokens ts t));
    }

field_or_end_told : (line : List ℕ) (wanted : List (List ℕ)) (more : ℕ → ℕ → List ℕ → Read (List ℕ))
    → ((i col : ℕ) (rest : List ℕ) → Told (Listed rest (without i wanted)) (more i col rest))
    → (b : Bool) (col : ℕ) (rest : List ℕ) → Next line wanted b rest → Told (Listed line wanted) (field_or_end wanted more b col rest)
field_or_end_told line wanted more h true col rest o =
    then_told (Fielded rest wanted) (Listed line wanted) (field wanted col rest) _ (field_told wanted col rest)
    (λ f c1 r1 d. then_told (Listed r1 (without f.0 wanted)) (Listed line wanted) (more f.0 c1 r1) _ (h f.0 c1 r1)
    (λ vs c2 r2 l. one_more line wanted rest r1 r2 f vs o d l))
field_or_end_told line wanted more h false col rest z =
    record { all = []; pairs = []; are_named = sym z.0; are_valued = refl; shuffled = refl; tokens = λ ts t. (rest, z.1, t) }

fields_step : (wanted : List (List ℕ)) (more : ℕ → ℕ → List ℕ → Read (List ℕ)) (col : ℕ) (line : List ℕ)
    → ((i col : ℕ) (rest : List ℕ) → Told (Listed rest (without i wanted)) (more i col rest))
    → Told (Listed line wanted) (then (expect (as_next wanted) col line) (field_or_end wanted more))
fields_step wanted more col line h =
    then_told (Next line wanted) (Listed line wanted) (expect (as_next wanted) col line) (field_or_end wanted more)
    (expect_told (as_next wanted) col line (Next line wanted) (next_case line wanted))
    (field_or_end_told line wanted more h)

pub fields_told : (k : ℕ) (wanted : List (List ℕ)) (col : ℕ) (line : List ℕ) → Told (Listed line wanted) (fields k wanted col line)
fields_told zero wanted col line = tt
fields_told (suc k) wanted col line = fields_step wanted (λ i. fields k (without i wanted)) col line (λ i c r. fields_told k (without i wanted) c r)

-- What follows the word of a form, read.
abbrev Bodied : List ℕ → Row → Form → List ℕ → Type 0
Bodied line row f rest = (vs : List ℕ) × (f ≡ record { kind = row.kind; values = vs }) × Listed line row.names vs rest

body_told : (row : Row) (col : ℕ) (line : List ℕ) → Told (Bodied line row) (body row col line)
body_told row col line =
    then_told (Listed line row.names) (Bodied line row) (fields (suc (length row.names)) row.names col line) _
    (fields_told (suc (length row.names)) row.names col line)
    (λ vs c r l. (vs, refl, l))

-- A form that is read is spelled.
form_told : (col : ℕ) (line : List ℕ) → Told (λ f _. Spells line f) (form col line)
form_told col line =
    let Q : Form → List ℕ → Type 0 = λ f _. Spells line f in
    then_told (λ _ r. Starts line opening r) Q (expect as_opening col line) _
    (expect_told as_opening col line (λ _ r. Starts line opening r) (opening_case line))
    (λ u c1 r1 o. then_told (Found r1 (row_in table)) Q (expect (as_word no_word (row_in table)) c1 r1) _
    (expect_told (as_word no_word (row_in table)) c1 r1 (Found r1 (row_in table)) (word_case r1 no_word (row_in table)))
    (λ row c2 r2 w. then_told (Bodied r2 row) Q (body row c2 r2) _
    (body_told row c2 r2)
    (λ f c3 r3 l. then_told (λ _ r. Tokens r3 []) Q (expect as_end c3 r3) _
    (expect_told as_end c3 r3 (λ _ r. Tokens r3 []) (end_case r3))
    (λ v c4 r4 z.
    let has = row_word w.0 row w.1 in
    record {
      row = row;
      fields = l.2.all;
      pairs = l.2.pairs;
      stands = has.1;
      tokens = (r1, o, (r2, subst (λ x. Starts r1 (word x) r2) has.0 w.2, l.2.tokens [] z));
      shuffled = l.2.shuffled;
      all_names = l.2.are_named;
      means = l.1 ∙ ap (λ vs. record { kind = row.kind; values = vs }) (sym l.2.are_valued);
    }))))

abbrev IsGood : Answer → Type 0
IsGood (good f) = Unit {0}
IsGood (wrong e c) = ⊥

abbrev form_in : Form → Answer → Form
form_in d (good f) = f
form_in d (wrong e c) = d

-- Two forms read are the same where the answers are.
pub same_good : (f g : Form) → good f ≡ good g → f ≡ g
same_good f g e = ap (form_in f) e

answered : (P : Form → Type 0) (r : Read Form) (f : Form) → Told (λ g _. P g) r → answer r ≡ good f → P f
answered P (go g col rest) f t e = subst P (same_good g f e) t
answered P (stop e c) f t is = absurd (subst IsGood (sym is) tt)

pub read_spells : (line : List ℕ) (f : Form) → read line ≡ good f → Spells line f
read_spells line f e = answered (Spells line) (form 1 line) f (form_told 1 line) e
