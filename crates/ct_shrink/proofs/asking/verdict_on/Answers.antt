use Rattle.std.proofs.Common.{◌∙◌, ◌<◌, List, length, All, Contains, ap, sym, subst}
use Rattle.std.proofs.lemmas.List.Elements.{All-contains, All-weaker}
use Rattle.std.proofs.lemmas.Option.{slice_get_within}
use Rattle.ct_sorts.specs.Declarations.{bool_sort}
use Rattle.ct_terms.specs.declared.ids.TermId.{TermId}
use Rattle.ct_terms.specs.Terms.{IsBoolean}
use Rattle.ct_closure.specs.Closed.{HasMoreThan, most_closure_terms}
use Rattle.ct_closure.specs.ClosedTable.{AreSubtermsOf, terms_at}
use Rattle.ct_engine.specs.Verdict.{IsVerdict}
use Rattle.ct_shrink.proofs.VerdictLemmas.{verdict_same, more_than_some}
use Rattle.ct_shrink.proofs.asking.verdict_on.Goals as goal

pub restrict-requires-clause-within : goal.restrict-requires-clause-within
restrict-requires-clause-within c =
    let table = c.args.table.now in
    All-weaker (Contains c.args.asserts.now) (λ (t : TermId). t.0 < length table)
    (λ t inside. slice_get_within table t.0 _ (All-contains (IsBoolean table) c.args.asserts.now t c.requires.asserts inside).1) c.args.chosen.now c.requires.chosen

pub verdict_over-requires-clause-asserts : goal.verdict_over-requires-clause-asserts
verdict_over-requires-clause-asserts c =
    let table = c.args.table.now in
    let booleans = All-weaker (Contains c.args.asserts.now) (IsBoolean table) (λ t inside. All-contains (IsBoolean table) c.args.asserts.now t c.requires.asserts inside) c.args.chosen.now c.requires.chosen in
    subst (All (IsBoolean c.in_ok-restricted.restricted)) (sym c.as_slice.ensures.value) (c.in_ok-restricted.ensures.of_sort bool_sort booleans)

pub verdict_over-requires-clause-exact : goal.verdict_over-requires-clause-exact
verdict_over-requires-clause-exact c = subst (AreSubtermsOf c.in_ok-restricted.restricted) (sym c.as_slice.ensures.value) c.in_ok-restricted.ensures.restricted.only

pub verdict_over-requires-clause-fits : goal.verdict_over-requires-clause-fits
verdict_over-requires-clause-fits c = λ more.
    let d = c.args.sig.now in
    let table = c.args.table.now in
    let same = ap (terms_at c.in_ok-restricted.restricted) c.as_slice.ensures.value ∙ c.in_ok-restricted.ensures.same in
    c.requires.fits (more_than_some d table c.args.asserts.now c.args.chosen.now most_closure_terms c.requires.chosen (subst (λ ts. HasMoreThan d ts most_closure_terms) same more))

pub returns-clause-verdict : goal.returns-clause-verdict
returns-clause-verdict c =
    verdict_same c.models.ensures.models c.args.sig.now c.in_ok-restricted.restricted c.args.table.now c.in_ok-restricted.roots.items c.args.chosen.now c.in_ok-restricted.ensures.same c.args.budget c.in_ok-verdict.verdict
    (subst (λ (ts : List TermId). IsVerdict c.args.sig.now c.in_ok-restricted.restricted ts c.args.budget c.in_ok-verdict.verdict) c.as_slice.ensures.value c.in_ok-verdict.ensures.verdict)
