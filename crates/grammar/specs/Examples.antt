-- Lines and what the reader answers.
use Rattle.std.specs.Prelude.{◌≡◌, ℕ, List, [], ◌∷◌, codes}
use Rattle.grammar.specs.Faults.{no_bracket, no_word, no_number, no_field}
use Rattle.grammar.specs.Forms.{link, opens, close, change, pick, arrive, depart}
use Rattle.grammar.specs.Reader.{Answer, good, wrong, read}

-- A line and its answer.
abbrev pub Gives : List ℕ → Answer → Type 0
Gives line a = read line ≡ a

-- Sound lines and faulty ones; the one by its bytes has a tab.
pub record Examples : Type 0 where
  pub line_1 : Gives (codes "(link (longest 100))") (good (record { kind = link; values = 100 ∷ [] }))
  pub line_2 : Gives (codes "  ( open(places 4)(at0) (interval 0002)(session 31))  ") (good (record { kind = opens; values = 0 ∷ 31 ∷ 2 ∷ 4 ∷ [] }))
  pub line_3 : Gives (codes "(close (session 3) (at 7))") (good (record { kind = close; values = 7 ∷ 3 ∷ [] }))
  pub line_4 : Gives (codes "(change (at 5) (session 0) (interval 4))") (good (record { kind = change; values = 5 ∷ 0 ∷ 4 ∷ [] }))
  pub line_5 : Gives (codes "(pick (rule 2)(at 9999999999999))") (good (record { kind = pick; values = 9999999999999 ∷ 2 ∷ [] }))
  pub line_6 : Gives (codes "(arrive(bytes 10)(session 1)(at 0))") (good (record { kind = arrive; values = 0 ∷ 1 ∷ 10 ∷ [] }))
  pub line_7 : Gives (codes "(depart)") (good (record { kind = depart; values = [] }))
  pub line_8 : Gives (codes " ( depart ) ") (good (record { kind = depart; values = [] }))
  pub line_9 : Gives (codes "(arrow)") (wrong no_word 2)
  pub line_10 : Gives (codes "") (wrong no_bracket 1)
  pub line_11 : Gives (codes "   ") (wrong no_bracket 4)
  pub line_12 : Gives (codes "(dePart)") (wrong no_word 2)
  pub line_13 : Gives (codes "(depart (at 0))") (wrong no_field 10)
  pub line_14 : Gives (codes "(depart") (wrong no_bracket 8)
  pub line_15 : Gives (codes "(depart) x") (wrong no_bracket 10)
  pub line_16 : Gives (codes "(depart)(") (wrong no_bracket 9)
  pub line_17 : Gives (codes "(link (longest 12345678901234))") (wrong no_number 16)
  pub line_18 : Gives (codes "(link 00000000000001)") (wrong no_number 7)
  pub line_19 : Gives (codes "(close (at 1) (at 2))") (wrong no_field 16)
  pub line_20 : Gives (codes "(close (at 1))") (wrong no_field 14)
  pub line_21 : Gives (codes "(close (at 1)") (wrong no_bracket 14)
  pub line_22 : Gives (codes "(close (at) (session 1))") (wrong no_number 11)
  pub line_23 : Gives (codes "(close (at x) (session 1))") (wrong no_number 12)
  pub line_24 : Gives (codes "(close (at 1 2) (session 1))") (wrong no_bracket 14)
  pub line_25 : Gives (codes "(close ((at 1) (session 1))") (wrong no_word 9)
  pub line_26 : Gives (codes "(close (5 1))") (wrong no_word 9)
  pub line_27 : Gives (codes "link") (wrong no_bracket 1)
  pub line_28 : Gives (codes "(") (wrong no_word 2)
  pub line_29 : Gives (codes "()") (wrong no_word 2)
  pub line_30 : Gives (codes "(link (longest 1)))") (wrong no_bracket 19)
  pub line_31 : Gives (codes "(pick (at 1)(session 1))") (wrong no_field 14)
  pub line_32 : Gives (codes "(arrive (at 1) 7") (wrong no_bracket 16)
  pub line_33 : Gives (40 ∷ 108 ∷ 105 ∷ 110 ∷ 107 ∷ 9 ∷ 40 ∷ 108 ∷ 111 ∷ 110 ∷ 103 ∷ 101 ∷ 115 ∷ 116 ∷ 32 ∷ 49 ∷ 41 ∷ 41 ∷ []) (wrong no_bracket 6)
  pub line_34 : Gives (codes "(12345678901234") (wrong no_number 2)
  pub line_35 : Gives (codes "(depart) 12345678901234") (wrong no_number 10)
  pub line_36 : Gives (codes "(link (longest 1) longest") (wrong no_bracket 19)
  pub line_37 : Gives (codes "(closed (at 1))") (wrong no_word 2)
