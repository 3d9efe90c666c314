-- The laws of a text laid on a page.
use Rattle.std.proofs.Common.{◌≡◌, ℕ, ◌+◌, ◌-◌, ◌≤◌, List, [], ◌++◌, length, get_or, take, drop, sym, refl, ap, ◌∙◌, inl, inr, add-zero, add_assoc, arith, length-drop}
use Rattle.std.proofs.lemmas.List.{append_assoc, length-append, length-take-le, take_at, drop-drop, drop_at, take-append-drop, get_or_append_left, get_or-append_right, get_or-take, get_or-drop, ext_get_or}
use Rattle.std.proofs.lemmas.Bool.{cases_lt}
use Rattle.page.specs.Page.{written, ChangedOnlyThere, OnlyThere, NoOther, HasRoom, laid}
use Rattle.page.specs.declared.Page.{Page}

pub written_length : (page : List ℕ) (at : ℕ) (text : List ℕ) → at + length text ≤ length page → length (written page at text) ≡ length page
written_length page at text fits = simp (length-append, length-drop) (omega (arith, length-take-le at page (omega arith)))

pub written_nothing : (page : List ℕ) (at : ℕ) → written page at [] ≡ page
written_nothing page at = ap (λ n. take at page ++ drop n page) (add-zero at) ∙ take-append-drop at page

-- a text, and another behind it, are the two joined
pub written_more : (page : List ℕ) (at : ℕ) (a b : List ℕ) → at + length a ≤ length page → written (written page at a) (at + length a) b ≡ written page at (a ++ b)
written_more page at a b fits =
    let front = take at page ++ a in
    let rest = drop (at + length a) page in
    let long : length front ≡ at + length a = length-append (take at page) a ∙ ap (λ n. n + length a) (length-take-le at page (omega arith)) in
    let regroup : written page at a ≡ front ++ rest = sym (append_assoc (take at page) a rest) in
    let kept : take (at + length a) (written page at a) ≡ front = ap (take (at + length a)) regroup ∙ take_at front rest (at + length a) long in
    let left : drop (at + length a + length b) (written page at a) ≡ drop (at + length (a ++ b)) page =
    sym (drop-drop (length b) (at + length a) (written page at a))
    ∙ ap (λ l. drop (length b) (drop (at + length a) l)) regroup
    ∙ ap (drop (length b)) (drop_at front rest (at + length a) long)
    ∙ drop-drop (length b) (at + length a) page
    ∙ ap (λ n. drop n page) (add_assoc at (length a) (length b) ∙ ap (λ n. at + n) (sym (length-append a b))) in
    ap (λ l. l ++ (b ++ drop (at + length a + length b) (written page at a))) kept
    ∙ ap (λ l. front ++ (b ++ l)) left
    ∙ append_assoc (take at page) a (b ++ drop (at + length (a ++ b)) page)
    ∙ ap (λ l. take at page ++ l) (sym (append_assoc a b (drop (at + length (a ++ b)) page)))

-- the same of a page that has its end beside it, and the room that is left behind the first text
pub laid_more : (page : Page) (a b : List ℕ) → HasRoom page (length a) → laid (laid page a) b ≡ laid page (a ++ b)
laid_more page a b fits =
    let bytes = written_more page.bytes.now page.end a b fits in
    let end = add_assoc page.end (length a) (length b) ∙ ap (λ n. page.end + n) (sym (length-append a b)) in
    λ i. record page { bytes = record page.bytes { now = bytes i }; end = end i }

pub laid_nothing : (page : Page) → laid page [] ≡ page
laid_nothing page =
    let bytes = written_nothing page.bytes.now page.end in
    let end = add-zero page.end in
    λ i. record page { bytes = record page.bytes { now = bytes i }; end = end i }

pub room_behind : (page : Page) (a : List ℕ) (n : ℕ) → HasRoom page (length a + n) → HasRoom (laid page a) n
room_behind page a n room = omega (arith, written_length page.bytes.now page.end a (omega (arith, room)), room)

pub only_there : OnlyThere
only_there page at text fits =
    let rest = drop (at + length text) page in
    let front : length (take at page) ≡ at = length-take-le at page (omega arith) in
    record {
      as_long = written_length page at text fits;
      before = λ k early. get_or_append_left (take at page) (text ++ rest) 0 k (omega arith) ∙ get_or-take at page k 0 early;
      there = λ k inside.
          let back : at + k - at ≡ k = omega arith in
          get_or-append_right (take at page) (text ++ rest) at (at + k) 0 front (omega arith)
          ∙ ap (λ n. get_or (text ++ rest) n 0) back
          ∙ get_or_append_left text rest 0 k inside;
      behind = λ k late.
          let back : at + length text + (k - at - length text) ≡ k = omega arith in
          get_or-append_right (take at page) (text ++ rest) at k 0 front (omega arith)
          ∙ get_or-append_right text rest (length text) (k - at) 0 refl (omega arith)
          ∙ get_or-drop (at + length text) page (k - at - length text) 0
          ∙ ap (λ n. get_or page n 0) back;
    }

-- two pages of which the same is said have the same byte at k
same_byte : (page : List ℕ) (at : ℕ) (text a b : List ℕ) → ChangedOnlyThere page at text a → ChangedOnlyThere page at text b → (k : ℕ) → get_or a k 0 ≡ get_or b k 0
same_byte page at text a b p q k =
    elim (cases_lt k at) [
      | inl early ↦ p.before k early ∙ sym (q.before k early)
      | inr late ↦ elim (cases_lt k (at + length text)) [
        | inl inside ↦
            let from : at + (k - at) ≡ k = omega arith in
            ap (λ n. get_or a n 0) (sym from) ∙ p.there (k - at) (omega arith) ∙ sym (q.there (k - at) (omega arith)) ∙ ap (λ n. get_or b n 0) from
        | inr beyond ↦ p.behind k beyond ∙ sym (q.behind k beyond)
      ]
    ]

pub no_other : NoOther
no_other page at text after fits said =
    let own = only_there page at text fits in
    ext_get_or 0 after (written page at text) (said.as_long ∙ sym own.as_long) (λ k inside. same_byte page at text after (written page at text) said own k)
