use Rattle.std.proofs.Common.{ap, subst, arith}
use Rattle.page.specs.declared.Page.{Page}
use Rattle.answers.proofs.Lengths.{fault_short}
use Rattle.run.specs.Faults.{Short, told}
use Rattle.run.proofs.answering.put_outcome.Goals as goal

pub put_run_fault-requires : goal.put_run_fault-requires
put_run_fault-requires c =
    let t = told c.in-Err.fault in
    let s = subst Short c.in-Err.is c.requires.short in
    omega (arith, fault_short t.number t.word t.line t.column s.number s.word s.line s.column, c.requires.room)

pub returns-in-Err-clause-near : goal.returns-in-Err-clause-near
returns-in-Err-clause-near c =
    let t = told c.in-Err.fault in
    let s = subst Short c.in-Err.is c.requires.short in
    omega (arith, fault_short t.number t.word t.line t.column s.number s.word s.line s.column, ap (λ (p : Page). p.end) c.put_run_fault.ensures)
