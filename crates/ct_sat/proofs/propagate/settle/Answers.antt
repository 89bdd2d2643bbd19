use Rattle.std.proofs.Common.{get_or, refl, sym, subst}
use Rattle.std.proofs.lemmas.Option.{slice_get-get_or}
use Rattle.ct_terms.specs.Clause.{Clause}
use Rattle.ct_terms.specs.Propagation.{AreFalseIn}
use Rattle.ct_sat.specs.Assigned.{Assigned}
use Rattle.ct_sat.specs.Status.{Examined}
use Rattle.ct_sat.proofs.VisitLemmas.{literals-at}
use Rattle.ct_sat.proofs.PropagateLemmas.{Settles-more}
use Rattle.ct_sat.proofs.propagate.settle.Goals as goal

pub returns-then-examine-clause-outcome : goal.returns-then-examine-clause-outcome
returns-then-examine-clause-outcome c =
    let place = c.requires.short c.short.progress.settled (get_or c.args.short.now c.short.progress.settled 0) (slice_get-get_or c.args.short.now c.short.progress.settled 0 c.short-test.true) in
    (place.0, place.1, subst (λ (a : Assigned). AreFalseIn a.literals place.0.literals) (sym c.if-examine.ensures.examined.0) (subst (AreFalseIn c.short.trail.literals) (literals-at c.args.clauses.now (get_or c.args.short.now c.short.progress.settled 0) place.0 c.index-clauses-clause.result c.as_slice.result.now place.1 c.as_slice.ensures.value) c.if-examine.ensures.examined.1))

pub short-preserved : goal.short-preserved
short-preserved c =
    let place = c.requires.short c.short.progress.settled (get_or c.args.short.now c.short.progress.settled 0) (slice_get-get_or c.args.short.now c.short.progress.settled 0 c.short-test.true) in
    Settles-more c.args.clauses.now c.args.trail.now c.short.trail c.examine.new.trail c.args.short.now c.args.progress.now c.short.progress _ (get_or c.args.short.now c.short.progress.settled 0) place.0 (slice_get-get_or c.args.short.now c.short.progress.settled 0 c.short-test.true) place.1 place.2
    (subst (λ (xs : Clause). Examined c.short.trail c.examine.new.trail xs (get_or c.args.short.now c.short.progress.settled 0)) (literals-at c.args.clauses.now (get_or c.args.short.now c.short.progress.settled 0) place.0 c.index-clauses-clause.result c.as_slice.result.now place.1 c.as_slice.ensures.value) c.if-examine.ensures.examined) refl c.short.invariant
