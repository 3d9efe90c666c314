-- What the reader promises.
use Rattle.std.specs.Prelude.{◌≡◌, ℕ, ◌+◌, ◌≤◌, ◌⊎◌, List, [], ◌∷◌, ◌++◌, length}
use Rattle.grammar.specs.Forms.{Form}
use Rattle.grammar.specs.Tokens.{Token, Tokens}
use Rattle.grammar.specs.Grammar.{Spells}
use Rattle.grammar.specs.Faults.{Fault}
use Rattle.grammar.specs.Reader.{Answer, good, wrong, read_from, read}
use Rattle.grammar.specs.Lines.{lines, ended, Lined}

-- A form that is read is spelled by the line, and each form that the line spells is read.
abbrev pub ReadsWhatIsSpelled : Type 0
ReadsWhatIsSpelled = (line : List ℕ) (form : Form) → (read line ≡ good form → Spells line form) × (Spells line form → read line ≡ good form)

-- A line spells at most one form.
abbrev pub OneForm : Type 0
OneForm = (line : List ℕ) (f g : Form) → Spells line f → Spells line g → f ≡ g

-- The lines of a text are the only ones that it is made of.
abbrev pub CutsIntoLines : Type 0
CutsIntoLines = (text : List ℕ) (ls : List (List ℕ)) → (lines text ≡ ls → Lined text ls) × (Lined text ls → lines text ≡ ls)

-- The lines, each ended, are the text again, or the text and the end that its last line lacks.
abbrev pub JoinsBack : Type 0
JoinsBack = (text : List ℕ) → (ended (lines text) ≡ text) ⊎ (ended (lines text) ≡ text ++ (10 ∷ []))

-- A text has no more lines than bytes.
abbrev pub FewLines : Type 0
FewLines = (text : List ℕ) → length (lines text) ≤ length text

-- A fault's column is one of the line's, or the one behind its last byte.
abbrev pub ColumnInLine : Type 0
ColumnInLine = (line : List ℕ) (e : Fault) (c : ℕ) → read line ≡ wrong e c → (1 ≤ c) × (c ≤ 1 + length line)

-- A fault at a byte of the line stays the same, whatever follows behind a blank: no line that begins so spells a form.
abbrev pub FaultStays : Type 0
FaultStays =
    (line tail : List ℕ) (e : Fault) (c : ℕ) → read line ≡ wrong e c → c ≤ length line
    → (read (line ++ (32 ∷ tail)) ≡ wrong e c) × ((f : Form) → Spells (line ++ (32 ∷ tail)) f → ⊥)

-- A line has at most one list of tokens.
abbrev pub OneCut : Type 0
OneCut = (line : List ℕ) (ts us : List Token) → Tokens line ts → Tokens line us → ts ≡ us

-- An answer whose columns are counted from k more.
abbrev pub farther : ℕ → Answer → Answer
farther k (good f) = good f
farther k (wrong e c) = wrong e (c + k)

-- Where the line's first byte is k columns farther on, the form is the same, and so is the fault, k columns farther on.
abbrev pub ColumnsShift : Type 0
ColumnsShift = (k col : ℕ) (line : List ℕ) → read_from (col + k) line ≡ farther k (read_from col line)
