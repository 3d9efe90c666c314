use Rattle.std.proofs.Common.{w64, rules}
use Rattle.std.proofs.lemmas.Int.{to_z-of_z}
use Rattle.page.proofs.Lines.{is_number}
use Rattle.answers.specs.Lines.{left_text}
use Rattle.answers.proofs.lines.put_left.Goals as goal

pub put_line-requires : goal.put_line-requires
unfolding left_text
put_line-requires c =
    let spare = to_z-of_z w64 c.args.left.spare (search rules) in
    rw (is_number _ _ c.number.ensures, is_number _ _ c.number-2.ensures, is_number _ _ c.number-3.ensures, is_number _ _ c.number-4.ensures, is_number _ _ c.number-5.ensures, is_number _ _ c.number-6.ensures, is_number _ _ c.number-7.ensures, spare) c.requires

pub returns : goal.returns
unfolding left_text
returns c =
    let spare = to_z-of_z w64 c.args.left.spare (search rules) in
    rw (is_number _ _ c.number.ensures, is_number _ _ c.number-2.ensures, is_number _ _ c.number-3.ensures, is_number _ _ c.number-4.ensures, is_number _ _ c.number-5.ensures, is_number _ _ c.number-6.ensures, is_number _ _ c.number-7.ensures, spare) at c.put_line.ensures
