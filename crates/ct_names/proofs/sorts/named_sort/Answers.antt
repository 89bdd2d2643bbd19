use Rattle.std.proofs.Common.{sym, subst}
use Rattle.ct_sexpr.specs.View.{expression_of}
use Rattle.ct_names.specs.declared.needs.Needs.{Needs}
use Rattle.ct_names.specs.declared.needs.Needs.TheVariants.{Add}
use Rattle.ct_names.specs.Answer.{StopsAt, as_it_is}
use Rattle.ct_names.specs.Needs.{as_they_are}
use Rattle.ct_names.specs.Sorts.{sort_of}
use Rattle.ct_names.proofs.NamedLemmas.{named_value, named_reaches}
use Rattle.ct_names.proofs.sorts.named_sort.Goals as goal

pub returns-in-Some-clause-reaches : goal.returns-in-Some-clause-reaches
returns-in-Some-clause-reaches c = as_they_are c.args.sig.now

pub returns-in_err-written-clause-reaches : goal.returns-in_err-written-clause-reaches
returns-in_err-written-clause-reaches c = as_they_are c.args.sig.now

pub returns-in-Add-clause-value : goal.returns-in-Add-clause-value
returns-in-Add-clause-value c =
    let x = expression_of c.args.expr.now in
    let later = c.added_sort.new.sig in
    let written = c.in_ok-written.ensures.ok in
    subst (λ (needs : Needs). StopsAt needs later as_it_is (sort_of later x) c.added_sort.result) (sym c.in-Add.is)
    (named_value Add c.args.sig.now later x written.0 c.added_sort.result c.added_sort.ensures.declared written.1 (c.added_sort.ensures.value written.0 written.2))

pub returns-in-Add-clause-reaches : goal.returns-in-Add-clause-reaches
returns-in-Add-clause-reaches c =
    let written = c.in_ok-written.ensures.ok in
    named_reaches c.args.sig.now c.added_sort.new.sig (expression_of c.args.expr.now) written.0 written.1 (c.added_sort.ensures.reaches written.0 written.2)

pub returns-clause-reaches : goal.returns-clause-reaches
returns-clause-reaches c = as_they_are c.args.sig.now
