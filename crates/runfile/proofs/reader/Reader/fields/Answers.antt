-- What `search` leaves of fields.
use Rattle.std.proofs.Common.{◌≡◌, suc, Some, ap, ◌∙◌, rules}
use Rattle.std.proofs.lemmas.Result.{err_from_is_err_and}
use Rattle.grammar.specs.Reader.{go, then, token}
use Rattle.grammar.specs.Slots.{frees, slot_fields}
use Rattle.grammar.specs.Tokens.{opening}
use Rattle.runfile.specs.Filling.{filled_field}
use Rattle.runfile.specs.Kinds.{row_of}
use Rattle.runfile.proofs.Fills.{one_more}
use Rattle.runfile.proofs.reader.Reader.fields.Goals as goal
use Rattle.runfile.proofs.reader.Reader.fields.Goals.{After-field}

-- One field more.
more : (c : After-field) → then (filled_field (row_of c.args.kind).names c.loop-token.slots c.token.new.self.place.column c.token.new.self.rest.now) (slot_fields (frees c.loop-token.slots) (row_of c.args.kind).names)
    ≡ slot_fields (suc (frees c.loop-token.slots)) (row_of c.args.kind).names c.loop-token.slots c.loop-token.self.place.column c.loop-token.self.rest.now
more c =
    let bracket : go (Some opening, c.in_ok-token.place.column) c.token.new.self.place.column c.token.new.self.rest.now ≡ token c.loop-token.self.place.column c.loop-token.self.rest.now = search rules in
    one_more (row_of c.args.kind).names c.loop-token.slots (frees c.loop-token.slots) c.loop-token.self.place.column c.loop-token.self.rest.now _ _ _ bracket

pub returns-in_err-field-in-Some-Open-clause-read : goal.returns-in_err-field-in-Some-Open-clause-read
returns-in_err-field-in-Some-Open-clause-read c =
    let p = err_from_is_err_and c.from_residual-in_err-field-in-Some-Open.result c.from_residual-in_err-field-in-Some-Open.ensures.1 in
    rw (p.1, p.2) (ap (λ r. then r (slot_fields (frees c.loop-token.slots) (row_of c.args.kind).names)) c.in_err-field-in-Some-Open.ensures.read ∙ more (goal.at.returns-in_err-field-in-Some-Open-clause-read c).After-field ∙ c.loop-token.invariant.read)

pub loop-token-preserved : goal.loop-token-preserved
loop-token-preserved c = record {
  read =
      ap (λ k. slot_fields k (row_of c.args.kind).names c.field.new.slots c.field.new.self.place.column c.field.new.self.rest.now) c.in_ok-field-in-Some-Open.ensures.fewer
      ∙ ap (λ r. then r (slot_fields (frees c.loop-token.slots) (row_of c.args.kind).names)) c.in_ok-field-in-Some-Open.ensures.read
      ∙ more (goal.at.loop-token-preserved c).After-field
      ∙ c.loop-token.invariant.read;
  behind = search rules;
}
