use Rattle.std.proofs.Common.{[]}
use Rattle.std.proofs.lemmas.Result.{err_from_is_err_and}
use Rattle.ct_stack.proofs.ErrorLemmas.{same_refusal}
use Rattle.ct_stack.proofs.ModelLemmas.{with_more}
use Rattle.ct_stack.proofs.value.numbered.Goals as goal

pub returns-in-Ok-clause-valued : goal.returns-in-Ok-clause-valued
returns-in-Ok-clause-valued c =
    let valued = rw c.in-Some.is at c.requires.valued in
    with_more c.args.scope.now.sig c.args.interp.now c.in-Some.old c.core_numbers.new.table valued c.core_numbers.ensures.grown c.core_numbers.ensures.sorted

pub returns-in_err-numbers-clause-refused : goal.returns-in_err-numbers-clause-refused
returns-in_err-numbers-clause-refused c =
    let p = err_from_is_err_and c.from_residual-in_err-numbers.result c.from_residual-in_err-numbers.ensures.1 in
    rw (p.1, p.2)
    (λ n e. let refused = c.in_err-numbers.ensures.refused n (same_refusal _ n e) in (refused.0, refused.1 [] c.in_ok-new.ensures.none))

pub returns-clause-valued : goal.returns-clause-valued
returns-clause-valued c =
    with_more c.args.scope.now.sig c.args.interp.now c.in_ok-new.new c.core_numbers-2.new.table c.in_ok-new.ensures.values c.core_numbers-2.ensures.grown c.core_numbers-2.ensures.sorted
