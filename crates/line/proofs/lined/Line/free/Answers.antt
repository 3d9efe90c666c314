use Rattle.line.proofs.NextHead.{next_inside, next_sound, next_steady, rest_sound, rest_steady}
use Rattle.line.proofs.lined.Line.free.Goals as goal

pub rest-requires : goal.rest-requires
rest-requires g c = rw c.end.ensures (rest_steady g.R.Rule.acts (g.met.R.Rule.lawful _) c.self.view_is c.requires c.self.invariant c.in-None.ensures)

pub invariant_of-self : goal.invariant_of-self
invariant_of-self g c = rest_sound g.R.Rule.acts (g.met.R.Rule.lawful _) c.self.view_is c.requires c.self.invariant c.in-None.ensures _ (cc)

pub send-requires-clause-within : goal.send-requires-clause-within
send-requires-clause-within g c = next_inside g.R.Rule.acts (g.met.R.Rule.lawful _) c.self.view_is c.requires c.self.invariant c.in-Some.ensures

pub send-requires-clause-steady : goal.send-requires-clause-steady
send-requires-clause-steady g c = rw c.end-in-Some.ensures (next_steady g.R.Rule.acts (g.met.R.Rule.lawful _) c.self.view_is c.requires c.self.invariant c.in-Some.ensures _ (cc))

pub rekey-requires : goal.rekey-requires
rekey-requires g c = next_inside g.R.Rule.acts (g.met.R.Rule.lawful _) c.self.view_is c.requires c.self.invariant c.in-Some.ensures

pub invariant_of-self-in-Some : goal.invariant_of-self-in-Some
invariant_of-self-in-Some g c = next_sound g.R.Rule.acts (g.met.R.Rule.lawful _) c.self.view_is c.requires c.self.invariant c.in-Some.ensures (cc) c.rekey.ensures.finishes c.rekey.ensures.starts
