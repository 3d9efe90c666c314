-- What a run writes of a text, whatever stands behind its orders.
use Rattle.std.specs.Prelude.{ℕ, suc, ◌-◌, cond, List, [], ◌∷◌, ◌++◌, length, codes, nat_lt}
use Rattle.answers.specs.Lines.{answer_text, fault_text}
use Rattle.grammar.specs.Faults.{fault_number, fault_word}
use Rattle.grammar.specs.Lines.{lines}
use Rattle.grammar.specs.Reader.{Answer as Reading, good, wrong, read}
use Rattle.model.specs.Answers.{Answer}
use Rattle.run.specs.Orders.{Order, order_of}

-- What an order comes to: an answer, or it is out of order.
pub data Reply : Type 0 where
  said : Answer → Reply
  disorder : Reply

-- The line of the page for it; the run's line has the number n.
abbrev pub reply_text : ℕ → Reply → List ℕ
reply_text n (said a) = answer_text a
reply_text n disorder = fault_text 25 (codes "order") n 1

-- The fault of a page that has too little room, and of a text that is too long.
abbrev pub page_fault : ℕ → List ℕ
page_fault n = fault_text 26 (codes "page") n 1

abbrev pub text_fault : List ℕ
text_fault = fault_text 27 (codes "text") 0 0

module _ {S : Type 0} (reply : S → Order → Reply) (after : S → Order → S) where
  -- the answer to a line that was read so
  abbrev pub line_text : S → ℕ → Reading → List ℕ
  line_text s n (good f) = reply_text n (reply s (order_of f))
  line_text s n (wrong e c) = fault_text (fault_number e) (fault_word e) n c

  -- where it leads
  abbrev pub line_after : S → Reading → S
  line_after s (good f) = after s (order_of f)
  line_after s (wrong e c) = s

  -- an answer to each line, from the line n on, as long as 192 bytes of the page are free; then the fault of the page, and no line more
  abbrev pub run_lines : S → ℕ → ℕ → List (List ℕ) → List ℕ
  run_lines s n free [] = []
  run_lines s n free (l ∷ ls) =
      cond (nat_lt free 192) (page_fault n)
      (line_text s n (read l) ++ run_lines (line_after s (read l)) (suc n) (free - length (line_text s n (read l))) ls)

  -- a page under 32 bytes stays as it is, and of a text above 65,536 bytes no line is read
  abbrev pub run_text : S → ℕ → List ℕ → List ℕ
  run_text s size text =
      cond (nat_lt size 32) [] (cond (nat_lt 65536 (length text)) text_fault (run_lines s 1 size (lines text)))

  -- where the lines that are answered lead
  abbrev pub lines_after : S → ℕ → ℕ → List (List ℕ) → S
  lines_after s n free [] = s
  lines_after s n free (l ∷ ls) =
      cond (nat_lt free 192) s (lines_after (line_after s (read l)) (suc n) (free - length (line_text s n (read l))) ls)

  abbrev pub text_after : S → ℕ → List ℕ → S
  text_after s size text = cond (nat_lt size 32) s (cond (nat_lt 65536 (length text)) s (lines_after s 1 size (lines text)))
