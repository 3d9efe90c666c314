-- What `search` leaves of value.
use Rattle.std.proofs.Common.{◌≡◌, ◌<◌, [], refl, subst, append-nil, rules}
use Rattle.std.proofs.lemmas.Fn.{fold_over, fronts, serves_by, slice_gives}
use Rattle.grammar.specs.Bytes.{number_from}
use Rattle.runfile.proofs.Digits.{next_digit, number_below, number_push, taken, taken_push}
use Rattle.runfile.proofs.numbers.Digits.value.Goals as goal

pub fold-requires-clause-callable : goal.fold-requires-clause-callable
fold-requires-clause-callable c =
    serves_by _ (λ xs q. q.1 ≡ number_from 0 (taken xs)) (λ xs q x v j k. let more = taken_push 0 xs x in search rules) fronts _ _ _ refl
    (λ xs t q x u y s j.
    let next = next_digit q.1 c.args.self.bytes.now xs x c.iter.result t u y s c.iter.ensures.rest c.args.self.few c.args.self.digits j in
    let few : q.1 < 1000000000000 = next.0 in
    search rules)

pub returns-clause-value : goal.returns-clause-value
returns-clause-value c =
    subst (λ ds. c.fold.result ≡ number_from 0 ds) c.iter.ensures.rest
    (fold_over fronts (λ y. y.now) _ (λ ds n. n ≡ number_from 0 ds) _ (λ ds a x b f' j k. let more = number_push 0 ds x.now in search rules)
    _ _ _ _ (slice_gives c.iter.result) refl c.fold.ensures.ran)

pub returns-clause-small : goal.returns-clause-small
returns-clause-small c =
    number_below c.fold.result c.args.self.bytes.now [] 13 (rw append-nil c.args.self.digits) c.args.self.few (returns-clause-value c)
