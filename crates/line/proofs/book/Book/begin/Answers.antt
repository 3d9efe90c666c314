use Rattle.std.proofs.Common.{◌≡◌, ◌<◌, get_or, length, subst, ap, ◌∙◌, arith}
use Rattle.model.specs.declared.calls.Call.TheVariants.{Arrive}
use Rattle.line.specs.Records.{sending_of}
use Rattle.line.specs.Views.{state_of}
use Rattle.line.proofs.Changes.{begun, begun_light, joins, moved}
use Rattle.line.proofs.Steadies.{kept}
use Rattle.line.proofs.book.Book.begin.Goals as goal

pub send-requires-clause-light : goal.send-requires-clause-light
send-requires-clause-light c =
    let lt : c.in_ok-i.i < length c.self.inside.sessions.value = omega (arith, c.in_ok-i.ensures.is.1, c.self.invariant.kept.2.base.many) in
    begun_light (state_of c.self.inside) c.args.self.now c.args.c c.in_ok-i.i c.index-deref_mut-i.result c.join.new.self c.self.view_is c.requires c.in_ok-i.ensures.is.0 lt c.in_ok-i.ensures.told (subst (λ ss. c.join.new.self ≡ joins c.args.c (get_or ss c.in_ok-i.i c.index-deref_mut-i.result)) c.deref_mut.ensures.value c.join.ensures) c.self.invariant

pub returns-clause-after : goal.returns-clause-after
returns-clause-after c =
    let lt : c.in_ok-i.i < length c.self.inside.sessions.value = omega (arith, c.in_ok-i.ensures.is.1, c.self.invariant.kept.2.base.many) in
    ap (λ ss. moved (record (state_of c.self.inside) { sessions = ss }) c.in_ok-i.i c.args.c.time (sending_of c.send.result) c.send.new.self) c.deref_mut.ensures.value
    ∙ begun (state_of c.self.inside) c.args.self.now c.args.c c.in_ok-i.i c.index-deref_mut-i.result c.join.new.self c.self.view_is c.requires c.in_ok-i.ensures.is.0 lt c.in_ok-i.ensures.told (subst (λ ss. c.join.new.self ≡ joins c.args.c (get_or ss c.in_ok-i.i c.index-deref_mut-i.result)) c.deref_mut.ensures.value c.join.ensures) c.self.invariant _ _ c.send.ensures.told c.send.ensures.after

pub invariant_of-self : goal.invariant_of-self
invariant_of-self c = kept 0 _ c.args.self.now (Arrive c.args.c) c.self.view_is c.self.invariant _ (returns-clause-after c)
