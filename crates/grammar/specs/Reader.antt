-- The reader of one line, from left to right up to its end or its first fault.
use Rattle.std.specs.Prelude.{ℕ, zero, suc, ◌+◌, Bool, true, false, cond, List, [], ◌∷◌, length, take, drop, Some, None, Ok, Err, Option, Result, ◌==◌, nat_le}
use Rattle.std.specs.Str.{bytes_eq}
use Rattle.grammar.specs.Bytes.{inside, run_length, number_from}
use Rattle.grammar.specs.Faults.{Fault, no_bracket, no_word, no_number, no_field}
use Rattle.grammar.specs.Forms.{Row, Form, table}
use Rattle.grammar.specs.Tokens.{Token, opening, closing, word, number}
use Rattle.grammar.specs.Grammar.{put}

-- What a reader of a part answers: a value, the column behind it and the bytes left, or a fault and its column.
pub data Read (A : Type 0) : Type 0 where
  go : A → ℕ → List ℕ → Read A
  stop : Fault → ℕ → Read A

-- One reader behind another: the first fault counts.
abbrev pub then : {A B : Type 0} → Read A → (A → ℕ → List ℕ → Read B) → Read B
then (go a col rest) k = k a col rest
then (stop e c) k = stop e c

-- The first n bytes as a token.
abbrev pub cut : (List ℕ → Token) → ℕ → ℕ → List ℕ → Read (Option Token × ℕ)
cut make n col bs = go (Some (make (take n bs)), col) (col + n) (drop n bs)

-- The token that begins with the byte b.
abbrev pub decide : ℕ → ℕ → List ℕ → Read (Option Token × ℕ)
decide col b bs =
    cond (b == 40) (go (Some opening, col) (col + 1) bs)
    (cond (b == 41) (go (Some closing, col) (col + 1) bs)
    (cond (inside 97 122 b) (cut word (run_length 97 122 (b ∷ bs)) col (b ∷ bs))
    (cond (inside 48 57 b) (cond (nat_le (run_length 48 57 (b ∷ bs)) 13) (cut number (run_length 48 57 (b ∷ bs)) col (b ∷ bs)) (stop no_number col))
    (stop no_bracket col))))

-- The next token and its column; none at the line's end.
abbrev pub token : ℕ → List ℕ → Read (Option Token × ℕ)
token col [] = go (None, col) col []
token col (b ∷ bs) = cond (b == 32) (token (col + 1) bs) (decide col b bs)

-- A token that is taken for something, or is a fault at its column.
abbrev pub taken : {A : Type 0} → Result A Fault → ℕ → ℕ → List ℕ → Read A
taken (Ok a) c col rest = go a col rest
taken (Err e) c col rest = stop e c

-- The next token, taken for what a choice makes of it.
abbrev pub expect : {A : Type 0} → (Option Token → Result A Fault) → ℕ → List ℕ → Read A
expect choice col xs = then (token col xs) (λ t. taken (choice t.0) t.1)

-- What is there, or a fault.
abbrev pub or_fault : {A : Type 0} → Fault → Option A → Result A Fault
or_fault e (Some a) = Ok a
or_fault e None = Err e

-- An opening bracket.
abbrev pub as_opening : Option Token → Result (Unit {0}) Fault
as_opening (Some opening) = Ok tt
as_opening (Some closing) = Err no_bracket
as_opening (Some (word w)) = Err no_bracket
as_opening (Some (number ds)) = Err no_bracket
as_opening None = Err no_bracket

-- A closing bracket.
abbrev pub as_closing : Option Token → Result (Unit {0}) Fault
as_closing (Some opening) = Err no_bracket
as_closing (Some closing) = Ok tt
as_closing (Some (word w)) = Err no_bracket
as_closing (Some (number ds)) = Err no_bracket
as_closing None = Err no_bracket

-- The line's end.
abbrev pub as_end : Option Token → Result (Unit {0}) Fault
as_end (Some t) = Err no_bracket
as_end None = Ok tt

-- A number, by its digits.
abbrev pub as_number : Option Token → Result ℕ Fault
as_number (Some opening) = Err no_number
as_number (Some closing) = Err no_number
as_number (Some (word w)) = Err no_number
as_number (Some (number ds)) = Ok (number_from 0 ds)
as_number None = Err no_number

-- A word that a search finds.
abbrev pub as_word : {A : Type 0} → Fault → (List ℕ → Option A) → Option Token → Result A Fault
as_word e find (Some opening) = Err no_word
as_word e find (Some closing) = Err no_word
as_word e find (Some (word w)) = or_fault e (find w)
as_word e find (Some (number ds)) = Err no_word
as_word e find None = Err no_word

-- The row whose word this is.
abbrev pub row_in : List Row → List ℕ → Option Row
row_in [] w = None
row_in (r ∷ rs) w = cond (bytes_eq w r.call) (Some r) (row_in rs w)

-- One place further.
abbrev pub further : Option ℕ → Option ℕ
further None = None
further (Some i) = Some (suc i)

-- The place of a word.
abbrev pub place_in : List (List ℕ) → List ℕ → Option ℕ
place_in [] w = None
place_in (n ∷ ns) w = cond (bytes_eq w n) (Some 0) (further (place_in ns w))

-- A list without place i.
abbrev pub without : {X : Type 0} → ℕ → List X → List X
without i [] = []
without zero (x ∷ xs) = xs
without (suc i) (x ∷ xs) = x ∷ without i xs

-- No field is wanted any more.
abbrev pub as_last : List (List ℕ) → Result Bool Fault
as_last [] = Ok false
as_last (n ∷ ns) = Err no_field

-- One more field (true), or the form's closing bracket, which is sound if no field is wanted any more.
abbrev pub as_next : List (List ℕ) → Option Token → Result Bool Fault
as_next wanted (Some opening) = Ok true
as_next wanted (Some closing) = as_last wanted
as_next wanted (Some (word w)) = Err no_bracket
as_next wanted (Some (number ds)) = Err no_bracket
as_next wanted None = Err no_bracket

-- A field behind its opening bracket: its place among those wanted, and its value.
abbrev pub field : List (List ℕ) → ℕ → List ℕ → Read (ℕ × ℕ)
field wanted col xs =
    then (expect (as_word no_field (place_in wanted)) col xs)
    (λ i c1 r1. then (expect as_number c1 r1)
    (λ v c2 r2. then (expect as_closing c2 r2)
    (λ _ c3 r3. go (i, v) c3 r3)))

-- A field and those after it, or none.
abbrev pub field_or_end : List (List ℕ) → (ℕ → ℕ → List ℕ → Read (List ℕ)) → Bool → ℕ → List ℕ → Read (List ℕ)
field_or_end wanted more true col xs = then (field wanted col xs) (λ f c1 r1. then (more f.0 c1 r1) (λ vs c2 r2. go (put f.0 f.1 vs) c2 r2))
field_or_end wanted more false col xs = go [] col xs

-- The fields wanted and the form's closing bracket, in fewer than k fields: the values in the order of those wanted.
abbrev pub fields : ℕ → List (List ℕ) → ℕ → List ℕ → Read (List ℕ)
fields zero wanted col xs = stop no_field col
fields (suc k) wanted col xs = then (expect (as_next wanted) col xs) (field_or_end wanted (λ i. fields k (without i wanted)))

-- What follows the word of a form: its fields, each once, and its closing bracket. One more field than wanted is a fault.
abbrev pub body : Row → ℕ → List ℕ → Read Form
body row col xs = then (fields (suc (length row.names)) row.names col xs) (λ vs c r. go (record { kind = row.kind; values = vs }) c r)

-- A form and the line's end.
abbrev pub form : ℕ → List ℕ → Read Form
form col xs =
    then (expect as_opening col xs)
    (λ _ c1 r1. then (expect (as_word no_word (row_in table)) c1 r1)
    (λ row c2 r2. then (body row c2 r2)
    (λ f c3 r3. then (expect as_end c3 r3)
    (λ _ c4 r4. go f c4 r4))))

-- What the reader of a line answers.
pub data Answer : Type 0 where
  good : Form → Answer
  wrong : Fault → ℕ → Answer

-- The answer without what is left.
abbrev pub answer : Read Form → Answer
answer (go f col rest) = good f
answer (stop e c) = wrong e c

-- The form of a line, or its first fault and the column of that, where the line's first byte has the column col.
abbrev pub read_from : ℕ → List ℕ → Answer
read_from col line = answer (form col line)

-- The same with columns counted from 1.
abbrev pub read : List ℕ → Answer
read line = read_from 1 line
