use Rattle.std.proofs.Common.{ap, ◌∙◌}
use Rattle.std.proofs.lemmas.Iterator.Adapters.{YieldsList-from_rev_slice}
use Rattle.std.proofs.lemmas.Iterator.Consumers.{YieldsList-end}
use Rattle.model.specs.Model.{State}
use Rattle.line.specs.Waiting.{waiting_set}
use Rattle.line.proofs.Bits.{from_last_all, set_from_last}
use Rattle.line.proofs.book.Book.waiting_set.Goals as goal

pub returns : goal.returns
returns c =
    let ss = c.self.inside.sessions.value in
    let all = YieldsList-end (YieldsList-from_rev_slice ss cc) c.loop-s.yielded _ c.loop-s.yielded_by _ _ c.in-None.is c.next.ensures.steps in
    c.loop-s.invariant.2 ∙ ap set_from_last all.0 ∙ from_last_all ss ∙ ap (λ (st : State). waiting_set st.sessions) c.self.view_is
