-- What `search` leaves of token.
use Rattle.std.proofs.Common.{length, rules, ◌∙◌, arith}
use Rattle.std.proofs.lemmas.Slice.{between_to_end}
use Rattle.runfile.proofs.Steps.{begun_behind}
use Rattle.runfile.proofs.reader.Reader.token.Goals as goal

pub returns-in_err-token-clause-read : goal.returns-in_err-token-clause-read
returns-in_err-token-clause-read c =
    let xs = c.args.self.now.rest.now in
    let rest = c.go_to.ensures.rest ∙ between_to_end xs c.blanks-n.result (length xs) (omega arith) in
    let behind = begun_behind c.blanks-n.result c.args.self.now.place.column c.go_to.new.self.place.column xs c.go_to.new.self.rest.now c.blanks-n.ensures.value rest (search rules) in
    search rules

pub returns-clause-read : goal.returns-clause-read
returns-clause-read c =
    let xs = c.args.self.now.rest.now in
    let rest = c.go_to.ensures.rest ∙ between_to_end xs c.blanks-n.result (length xs) (omega arith) in
    let behind = begun_behind c.blanks-n.result c.args.self.now.place.column c.go_to.new.self.place.column xs c.go_to.new.self.rest.now c.blanks-n.ensures.value rest (search rules) in
    search rules
