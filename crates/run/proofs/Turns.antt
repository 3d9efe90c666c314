-- What one line of a run adds to the page.
use Rattle.std.proofs.Common.{◌≡◌, ℕ, suc, ◌+◌, ◌-◌, ◌<◌, ◌≤◌, List, [], ◌++◌, length, take, drop, sym, ap, ◌∙◌, add-one, arith}
use Rattle.std.proofs.lemmas.Bool.{cond-false, le-ltb}
use Rattle.grammar.specs.Lines.{line_length, lines}
use Rattle.grammar.specs.Reader.{read}
use Rattle.grammar.proofs.Cuts as cuts
use Rattle.page.specs.Page.{HasRoom, laid}
use Rattle.page.specs.declared.Page.{Page}
use Rattle.page.proofs.Laid.{laid_more, laid_nothing, written_length}
use Rattle.run.specs.Machine.{Reply, line_after, line_text, run_lines, run_text}
use Rattle.model.specs.Model.{Acts}
use Rattle.run.specs.Orders.{Order}
use Rattle.run.specs.Stages.{Stage, stage_after, stage_reply}

module _ {S : Type 0} (reply : S → Order → Reply) (after : S → Order → S) where
  -- what is still to be written from the line n on, where this is left of the text
  abbrev pub still : Page → S → ℕ → List ℕ → List ℕ
  still page s n xs = run_lines reply after s n (length page.bytes.now - page.end) (lines xs)

  module _ (page whole : Page) (s : S) (n : ℕ) (xs : List ℕ) (some : 0 < length xs) (inv : laid page (still page s n xs) ≡ whole) where
    abbrev line : List ℕ
    line = line_text reply after s n (read (take (line_length xs) xs))

    abbrev then : S
    then = line_after reply after s (read (take (line_length xs) xs))

    abbrev rest : List ℕ
    rest = drop (suc (line_length xs)) xs

    -- the first of the lines that are left
    pub one_line : HasRoom page 192 → length line ≤ 168 → laid (laid page line) (still (laid page line) then (suc n) rest) ≡ whole
    one_line room short =
        let free : length page.bytes.now - page.end - length line ≡ length (laid page line).bytes.now - (laid page line).end =
        omega (arith, written_length page.bytes.now page.end line (omega (arith, room, short))) in
        let adds : still page s n xs ≡ line ++ still (laid page line) then (suc n) rest =
        ap (run_lines reply after s n (length page.bytes.now - page.end)) (cuts.first_line xs some) ∙ cond-false _ _ _ (le-ltb (length page.bytes.now - page.end) 192 (omega (arith, room)))
        ∙ ap (λ f. line ++ run_lines reply after then (suc n) f (lines rest)) free in
        laid_more page line (still (laid page line) then (suc n) rest) (omega (arith, room, short)) ∙ ap (laid page) (sym adds) ∙ inv

  -- the same, as the code counts and cuts the lines
  pub one_more : (page : Page) (s : S) (xs : List ℕ) {page' whole : Page} {s' : S} {count i count' : ℕ} {line' xs' : List ℕ} → 0 < length xs → line' ≡ take (line_length xs) xs → xs' ≡ drop (suc (line_length xs)) xs
      → i ≡ count → count' ≡ count + 1 → page' ≡ laid page (line_text reply after s (i + 1) (read line')) → s' ≡ line_after reply after s (read line')
      → HasRoom page 192 → page'.end ≤ page.end + 168 → laid page (still page s (suc count) xs) ≡ whole → laid page' (still page' s' (suc count') xs') ≡ whole
  one_more page s xs {page'} {whole} {s'} {count} {i} {count'} {line'} {xs'} some cut left at on put next room near inv =
      let number = ap (λ k. k + 1) at ∙ add-one count in
      let text = ap (λ n. line_text reply after s n (read line')) number ∙ ap (λ l. line_text reply after s (suc count) (read l)) cut in
      let whole-line = put ∙ ap (laid page) text in
      let here = one_line page whole s (suc count) xs some inv room (omega (arith, near, ap (λ (p : Page). p.end) whole-line)) in
      rw (whole-line, next, cut, on, left, add-one) here

  -- at the end nothing is left
  pub all_laid : (page whole : Page) (s : S) (n : ℕ) (xs : List ℕ) → xs ≡ [] → laid page (still page s n xs) ≡ whole → page ≡ whole
  all_laid page whole s n xs none inv = sym (laid_nothing page) ∙ ap (λ l. laid page (still page s n l)) (sym none) ∙ inv

  -- a text that is read, on a page that is written on
  pub read_whole : (s : S) (size : ℕ) (text : List ℕ) → 32 ≤ size → length text ≤ 65536 → run_lines reply after s 1 size (lines text) ≡ run_text reply after s size text
  read_whole s size text room short = sym (cond-false _ _ _ (le-ltb size 32 room) ∙ cond-false _ _ _ (le-ltb 65536 (length text) short))

-- an answer leaves room for the fault of a page
pub room_left : (page : Page) {page' : Page} (text : List ℕ) → page' ≡ laid page text → HasRoom page 192 → page'.end ≤ page.end + 168 → page'.end + 24 ≤ length page'.bytes.now
room_left page {page'} text put room near =
    let end = ap (λ (p : Page). p.end) put in
    let bytes = ap (λ (p : Page). length p.bytes.now) put in
    omega (arith, room, near, end, bytes, written_length page.bytes.now page.end text (omega (arith, room, near, end)))

-- how far a run has come: of the text this is left, after so many lines, and the page has room for the fault of a page
pub record Goes {X : Type 0} (R : Acts X) (page : Page) (s : Stage X) (count : ℕ) (rest text : List ℕ) (whole : Page) : Type 0 where
  pub room : page.end + 24 ≤ length page.bytes.now
  pub few : count + length rest ≤ length text
  pub left : laid page (still (stage_reply R) (stage_after R) page s (suc count) rest) ≡ whole
