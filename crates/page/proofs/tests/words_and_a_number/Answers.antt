-- The line fits the page: its number is written out, and its length computes.
use Rattle.std.proofs.Common.{length, ap, arith}
use Rattle.std.specs.Fmt.{digits}
use Rattle.page.proofs.tests.words_and_a_number.Goals as goal

pub put_line-requires : goal.put_line-requires
unfolding digits
put_line-requires g c = omega (arith, ap (λ p. p.end) c.new-page.ensures, ap (λ p. length p.bytes.now) c.new-page.ensures)
