use Rattle.std.proofs.Common.{List, All, Contains, sym, subst}
use Rattle.ct_terms.specs.declared.ids.TermId.{TermId}
use Rattle.ct_engine.specs.Verdict.{IsVerdict}
use Rattle.ct_shrink.proofs.PlaceLemmas.{at_among, at_unique}
use Rattle.ct_shrink.proofs.asking.verdict_at.Goals as goal

pub verdict_on-requires-clause-chosen : goal.verdict_on-requires-clause-chosen
verdict_on-requires-clause-chosen c =
    subst (All (Contains c.args.asserts.now)) (sym c.as_slice.ensures.value)
    (at_among c.args.asserts.now c.args.places.now c.in_ok-chosen.chosen.items c.in_ok-chosen.ensures.terms)

pub returns-clause-verdict : goal.returns-clause-verdict
returns-clause-verdict c = λ chosen stand.
    let same = at_unique c.args.asserts.now c.args.places.now c.in_ok-chosen.chosen.items chosen c.in_ok-chosen.ensures.terms stand in
    subst (λ (ts : List TermId). IsVerdict c.args.sig.now c.args.table.now ts c.args.budget c.in_ok-verdict.verdict) same
    (subst (λ (ts : List TermId). IsVerdict c.args.sig.now c.args.table.now ts c.args.budget c.in_ok-verdict.verdict) c.as_slice.ensures.value c.in_ok-verdict.ensures.verdict)
