-- What `search` leaves of free_slot.
use Rattle.std.proofs.Common.{sym, ap, ◌∙◌, rules}
use Rattle.runfile.proofs.Fills.{filtered, free_at, kind_free}
use Rattle.runfile.proofs.tokens.free_slot.Goals as goal

pub returns-clause-place : goal.returns-clause-place
returns-clause-place c =
    let slots = c.args.slots.now in
    filtered slots c.slot_of.result c.filter.result c.filter.ensures (λ i b p. search rules)
    ∙ ap (free_at slots) c.slot_of.ensures
    ∙ sym (kind_free c.args.kind slots c.args.word.now c.requires)
