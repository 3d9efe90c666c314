use Rattle.std.proofs.Common.{sym, ap, ◌∙◌, subst, rules, tests}
use Rattle.std.specs.List.{AllByRecursion}
use Rattle.std.proofs.lemmas.Iterator.Adapters.{serves_from_places}
use Rattle.std.proofs.lemmas.Iterator.Consumers.{YieldsList-from_deque}
use Rattle.std.proofs.lemmas.Iterator.Search.{any_from_yields_List}
use Rattle.model.specs.Model.{Session, any}
use Rattle.line.proofs.Lengths.{Short, any_is, long, one_short}
use Rattle.line.proofs.session.Session.too_long.Goals as goal

pub returns : goal.returns
returns c =
    any_from_yields_List (long c.args.interval) _ _ _ c.any.ensures.ran (YieldsList-from_deque _ c.iter.ensures.rest) (λ x b q k. search (rules, tests))
    ∙ any_is (long c.args.interval) c.self.inside.waiting.items ∙ ap (λ (s : Session). any (long c.args.interval) s.waiting) c.self.view_is

pub any-requires-clause-callable : goal.any-requires-clause-callable
any-requires-clause-callable c =
    let all = subst (λ (s : Session). AllByRecursion Short s.waiting) (sym c.self.view_is) c.requires.short in
    serves_from_places (YieldsList-from_deque _ c.iter.ensures.rest) (λ x q k. search rules)
    (λ x k lt is. let low = one_short c.self.inside.waiting.items k c.args.interval x.now all c.requires.divisor lt is in search rules)
