use Rattle.std.proofs.Common.{length, set, sym, ap, ◌∙◌, arith}
use Rattle.std.proofs.lemmas.List.Edits.{map_over_more}
use Rattle.model.specs.Model.{rested}
use Rattle.line.proofs.book.Book.rest.Goals as goal

pub loop-s-preserved : goal.loop-s-preserved
loop-s-preserved c =
    let ss = c.loop-s.s-items in
    let i = c.loop-s.s-index in
    ap (set ss i) (c.rest.ensures ∙ ap rested (sym c.s-item.is))
    ∙ map_over_more rested c.deref_mut-s-items.result.now ss i c.s-item.result (omega (arith, c.self.invariant.kept.2.base.many, ap length c.deref_mut-s-items.ensures.value)) c.loop-s.invariant c.s-item.is
