-- What `search` leaves of values.
use Rattle.std.proofs.Common.{◌≡◌, None, Err, ap, ◌∙◌, rules}
use Rattle.std.proofs.lemmas.Result.{err_from_is_err_and}
use Rattle.std.proofs.lemmas.List.{get_or_read}
use Rattle.std.specs.Prelude.{ok_or}
use Rattle.runfile.specs.declared.faults.Fault.TheVariants.{Field}
use Rattle.grammar.specs.Reader.{then}
use Rattle.grammar.specs.Slots.{closed}
use Rattle.runfile.specs.Kinds.{row_of}
use Rattle.runfile.proofs.Fills.{read_values, tried}
use Rattle.runfile.proofs.reader.Reader.values.Goals as goal

pub returns-in_err-end-clause-read : goal.returns-in_err-end-clause-read
returns-in_err-end-clause-read g c =
    let p = err_from_is_err_and c.from_residual.result c.from_residual.ensures.1 in
    rw (p.1, p.2) (ap (λ r. then r closed) c.in_err-end.ensures.read ∙ read_values g.row.N (row_of c.args.kind).names c.args.self.now.place.column c.args.self.now.rest.now c.requires)

pub returns : goal.returns
returns g c =
    let slots = c.fields.new.slots in
    let t = tried slots c.in_ok-end.end c.args.self.now c.fields.new.self c.try_map.result c.map_err.result
    c.try_map.ensures.ok (λ vs z. (search rules, λ k l. let at = z.at k None 0 (search rules) in search rules))
    c.try_map.ensures.err (λ e z. let ran = z.4 in let call : Err e ≡ ok_or z.0 Field = search rules in (z.1.0, z.1.1.0, call ∙ ap (λ o. ok_or o Field) (get_or_read slots z.1.0 z.0 z.1.1.0 z.1.1.1 None)))
    c.map_err.ensures.cases (λ e f k. search rules)
    c.in_ok-end.ensures.moves c.in_ok-end.ensures.closed in
    record {
      read = t.0 ∙ ap (λ r. then r closed) c.in_ok-end.ensures.read ∙ read_values g.row.N (row_of c.args.kind).names c.args.self.now.place.column c.args.self.now.rest.now c.requires;
      moves = t.1;
    }
