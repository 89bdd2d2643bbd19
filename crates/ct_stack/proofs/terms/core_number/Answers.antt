use Rattle.std.proofs.Common.{Err, ap, arith}
use Rattle.ct_terms.specs.declared.error.TermError.{TermError}
use Rattle.ct_formulas.specs.TreeFormula.{formula_of}
use Rattle.ct_stack.specs.Stack.{core}
use Rattle.ct_stack.specs.Held.{context_in}
use Rattle.ct_stack.proofs.TableLemmas.{one_more_core, too_many}
use Rattle.ct_stack.proofs.terms.core_number.Goals as goal

pub returns-in-Ok-clause-made : goal.returns-in-Ok-clause-made
returns-in-Ok-clause-made c = λ roots of.
    one_more_core c.stack_theorems.ensures.hold c.args.scope.now.sig roots c.args.table.now of c.len.ensures.ordered c.len.ensures.single (core (context_in c.args.scope.now) (formula_of c.args.tree.now)) c.compile.new.table c.in-Ok.ensures.grown c.len-in-Ok.ensures.ordered c.in-Ok.ensures.sorted c.in-Ok.ensures.nothing_else
    (λ s h. let u = c.in-Ok.ensures.complete s h in (u.0, omega (arith, u.1, c.in-Ok.ensures.core.0), u.2))

pub returns-in-Ok-clause-few : goal.returns-in-Ok-clause-few
returns-in-Ok-clause-few c = omega (arith, c.len-in-Ok.ensures.count, c.len-in-Ok.ensures.few)

pub returns-in-Err-Full-clause-refused : goal.returns-in-Err-Full-clause-refused
returns-in-Err-Full-clause-refused c = λ n e. (
  cc,
  λ roots of.
      let unfit = c.in-Err-Full.ensures.full (ap (λ (f : TermError). Err f) c.in-Err-Full.field-0-is) in
      too_many c.stack_theorems.ensures.hold c.args.scope.now.sig roots c.args.table.now of c.len.ensures.ordered c.len.ensures.single (core (context_in c.args.scope.now) (formula_of c.args.tree.now)) unfit.0 unfit.1,
)
