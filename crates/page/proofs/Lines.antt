-- A line, of which some pieces are laid.
use Rattle.std.proofs.Common.{◌≡◌, ℕ, ℤ, ◌+◌, ◌<◌, List, [], length, get_or, take, sym, ap, ◌∙◌, subst, arith}
use Rattle.std.proofs.lemmas.List.{flat_map_more, take_more}
use Rattle.std.proofs.lemmas.List.Folds.{length-flat_map-take}
use Rattle.page.specs.Page.{HasRoom, laid}
use Rattle.page.specs.Pieces.{line_text, piece_text}
use Rattle.page.specs.declared.Page.{Page}
use Rattle.page.specs.declared.pieces.Piece.{Piece}
use Rattle.page.specs.declared.pieces.Piece.TheVariants.{Number}
use Rattle.page.proofs.Laid.{laid_more, room_behind}

-- the next piece has room
pub room_for_next : (page now : Page) (pieces : List Piece) (i : ℕ) (none : Piece) → HasRoom page (length (line_text pieces)) → i < length pieces → now ≡ laid page (line_text (take i pieces)) → HasRoom now (length (piece_text (get_or pieces i none)))
room_for_next page now pieces i none room inside so_far =
    let long = length-flat_map-take piece_text pieces i none inside in
    subst (λ p. HasRoom p (length (piece_text (get_or pieces i none)))) (sym so_far) (room_behind page (line_text (take i pieces)) (length (piece_text (get_or pieces i none))) (omega (arith, long, room)))

-- and laid behind them, it is one of them
pub next_laid : (page now : Page) (pieces : List Piece) (i : ℕ) (none : Piece) → HasRoom page (length (line_text pieces)) → i < length pieces → now ≡ laid page (line_text (take i pieces)) → laid now (piece_text (get_or pieces i none)) ≡ laid page (line_text (take (i + 1) pieces))
next_laid page now pieces i none room inside so_far =
    let long = length-flat_map-take piece_text pieces i none inside in
    ap (λ p. laid p (piece_text (get_or pieces i none))) so_far
    ∙ laid_more page (line_text (take i pieces)) (piece_text (get_or pieces i none)) (omega (arith, long, room))
    ∙ ap (laid page) (flat_map_more piece_text [] (take i pieces) (get_or pieces i none) ∙ ap line_text (sym (take_more pieces i none inside)))

-- a number as a piece, where its wide form is known
pub is_number : (piece : Piece) (number : ℤ) → (wide : ℤ) × (wide ≡ number) × (piece ≡ Number wide) → piece ≡ Number number
is_number piece number made = made.2 ∙ ap Number made.1
