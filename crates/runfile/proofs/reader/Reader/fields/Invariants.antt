-- What each turn of the loop of fields keeps.
use Rattle.std.proofs.Common.{◌≡◌, suc}
use Rattle.grammar.specs.Slots.{frees, slot_fields}
use Rattle.runfile.specs.Kinds.{row_of}
use Rattle.runfile.specs.Reads.{Behind}
use Rattle.runfile.proofs.reader.Reader.fields.Given as goal

abbrev pub invariant-loop-token : goal.invariant-loop-token
invariant-loop-token l = record {
  read :
      slot_fields (suc (frees l.slots)) (row_of l.kind).names l.slots l.self.place.column l.self.rest.now
      ≡ slot_fields (suc (frees l.initial.slots)) (row_of l.kind).names l.initial.slots l.initial.self.place.column l.initial.self.rest.now;
  behind : Behind l.initial.self l.self;
}

abbrev pub decreases-loop-token : goal.decreases-loop-token
decreases-loop-token l = frees l.slots
