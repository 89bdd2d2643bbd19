use Rattle.ct_sexpr.specs.View.{expression_of}
use Rattle.ct_names.proofs.PlainLemmas.{named_some}
use Rattle.ct_names.proofs.sorts.plain_sort.Goals as goal

pub returns-clause-some : goal.returns-clause-some
returns-clause-some c =
    let d = c.args.sig.now in
    named_some d c.sorts.ensures.consistent (expression_of c.args.expr.now) c.in_ok-name.name.now (c.in_ok-name.ensures.name d) c.sort_named.result c.sort_named.ensures.value
