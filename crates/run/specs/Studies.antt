-- What a study of the code stands for.
use Rattle.std.specs.Prelude.{Some, None, Option}
use Rattle.run.specs.declared.study.Phase.{Phase}
use Rattle.run.specs.declared.study.Phase.TheVariants.{Unlinked, Linked}
use Rattle.run.specs.Stages.{Stage, unlinked, linked, apart}

module _ {X Q : Type 0} where
  -- no line yet, with the rule that it will have, or a line with its rule
  abbrev pub phase_stage : Option (Phase X Q) → Stage X
  phase_stage None = apart
  phase_stage (Some (Unlinked p)) = unlinked p.rule
  phase_stage (Some (Linked l)) = linked l.rule l.state

  -- it is one of the two
  abbrev pub IsThere : Option (Phase X Q) → Type 0
  IsThere None = ⊥
  IsThere (Some p) = Unit {0}
