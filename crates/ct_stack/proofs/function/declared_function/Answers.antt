use Rattle.std.proofs.lemmas.Result.{err_from_is_err_and}
use Rattle.ct_sexpr.specs.View.{expression_of}
use Rattle.ct_command.specs.Seen.{all_seen}
use Rattle.ct_stack.proofs.DefineLemmas.{no_args, no_sort, both_sorts}
use Rattle.ct_stack.proofs.ErrorLemmas.{same_refusal}
use Rattle.ct_stack.proofs.SortLemmas.{all_inside}
use Rattle.ct_stack.proofs.function.declared_function.Goals as goal

pub returns-in_err-args-clause-refused : goal.returns-in_err-args-clause-refused
returns-in_err-args-clause-refused c =
    let p = err_from_is_err_and c.from_residual.result c.from_residual.ensures.1 in
    rw (p.1, p.2)
    (λ name n e. no_args name (all_seen c.args.args.now) (expression_of c.args.sort.now) c.args.scope.now.sig c.sorts_named.new.scope.sig n (c.in_err-args.ensures.refused n (same_refusal _ n e)))

pub returns-in_err-sort-clause-refused : goal.returns-in_err-sort-clause-refused
returns-in_err-sort-clause-refused c =
    let p = err_from_is_err_and c.from_residual-in_err-sort.result c.from_residual-in_err-sort.ensures.1 in
    rw (p.1, p.2)
    (λ name n e. no_sort name (all_seen c.args.args.now) (expression_of c.args.sort.now) c.args.scope.now.sig c.sorts_named.new.scope.sig c.in_ok-args.args.items c.in_ok-args.ensures.ok c.in_ok-args.ensures.lasts c.sort_named.new.scope.sig n (c.in_err-sort.ensures.refused n (same_refusal _ n e)))

pub returns-in_err-sort-clause-grown : goal.returns-in_err-sort-clause-grown
returns-in_err-sort-clause-grown c = c.stack_theorems.ensures.hold.further c.sort_named.new.scope.sig c.sorts_named.new.scope.sig c.args.scope.now.sig c.sort_named.ensures.grown c.sorts_named.ensures.grown

pub returns-clause-ok : goal.returns-clause-ok
returns-clause-ok c = λ name.
    both_sorts name (all_seen c.args.args.now) (expression_of c.args.sort.now) c.args.scope.now.sig c.sorts_named.new.scope.sig c.in_ok-args.args.items c.in_ok-args.ensures.ok c.in_ok-args.ensures.lasts c.sort_named.new.scope.sig c.in_ok-sort.sort c.in_ok-sort.ensures.ok

pub returns-clause-args : goal.returns-clause-args
returns-clause-args c = all_inside c.sort_named.new.scope.sig c.sorts_named.new.scope.sig c.in_ok-args.args.items c.sort_named.ensures.grown c.in_ok-args.ensures.inside

pub returns-clause-grown : goal.returns-clause-grown
returns-clause-grown c = c.stack_theorems.ensures.hold.further c.sort_named.new.scope.sig c.sorts_named.new.scope.sig c.args.scope.now.sig c.sort_named.ensures.grown c.sorts_named.ensures.grown
