-- What the run program and a study editor get: a run with the four plain rules, the clock standing at first.
use Rattle.std.specs.Prelude.{◌≡◌, ℕ, ◌⊎◌, List, length}
use Rattle.page.specs.Page.{written}
use Rattle.rules.specs.Program.{program_acts, program_start}
use Rattle.run.specs.Spelled.{Kept, page_of, spelled_in}

-- What a text writes on a page of this size.
abbrev pub program_page : ℕ → List ℕ → List ℕ
program_page size text = page_of program_acts program_start size text

-- A run wrote all of it at the front of the page and nothing else, or had no memory, and wrote nothing.
abbrev pub Ran : List ℕ → List ℕ → ℕ → List ℕ → Type 0
Ran text page r exit =
    ((r ≡ length (program_page (length page) text)) × (exit ≡ written page 0 (program_page (length page) text)))
    ⊎ ((r ≡ 0) × (exit ≡ page))

-- Of the calls that a text spells, all is promised.
abbrev pub ProgramKept : ℕ → List ℕ → Type 0
ProgramKept size text = Kept program_acts program_start (spelled_in program_acts program_start size text)
