-- What a text laid on a page changes, and what stays.
use Rattle.std.specs.Prelude.{◌≡◌, ℕ, ◌+◌, ◌<◌, ◌≤◌, List, ◌++◌, length, take, drop, slice_index}
use Rattle.std.specs.Borrow.{MutBor}
use Rattle.page.specs.declared.Page.{Page}

-- the page with a text from the place `at` on; the bytes before and behind the text stay
abbrev pub written : List ℕ → ℕ → List ℕ → List ℕ
written page at text = take at page ++ (text ++ drop (at + length text) page)

-- the page is as long as it was, has the text's bytes where the text stands, and elsewhere the bytes that it had
pub record ChangedOnlyThere (page : List ℕ) (at : ℕ) (text after : List ℕ) : Type 0 where
  pub as_long : length after ≡ length page
  pub before : (k : ℕ) → k < at → slice_index after k ≡ slice_index page k
  pub there : (k : ℕ) → k < length text → slice_index after (at + k) ≡ slice_index text k
  pub behind : (k : ℕ) → at + length text ≤ k → slice_index after k ≡ slice_index page k

-- a text that fits is laid there, and only there
abbrev pub OnlyThere : Type 0
OnlyThere = (page : List ℕ) (at : ℕ) (text : List ℕ) → at + length text ≤ length page → ChangedOnlyThere page at text (written page at text)

-- and the page so laid is the only one of which that can be said
abbrev pub NoOther : Type 0
NoOther = (page : List ℕ) (at : ℕ) (text after : List ℕ) → at + length text ≤ length page → ChangedOnlyThere page at text after → after ≡ written page at text

-- lent bytes as a page where nothing is laid
abbrev pub blank : MutBor (List ℕ) → Page
blank bytes = record { bytes = bytes; end = 0 }

-- a text of n bytes fits behind what is laid
abbrev pub HasRoom : Page → ℕ → Type 0
HasRoom page n = page.end + n ≤ length page.bytes.now

-- the page with a text more: its bytes behind what was laid, and its end behind them; the page is still that lent to it
abbrev pub laid : Page → List ℕ → Page
laid page text = record page { bytes = record page.bytes { now = written page.bytes.now page.end text }; end = page.end + length text }
