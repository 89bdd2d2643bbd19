use Rattle.std.proofs.Common.{◌≡◌, sym, ap, subst, ◌∙◌}
use Rattle.ct_terms.specs.Terms.{Terms, BeginsWithTruths, AreOrdered, AreSingle}
use Rattle.ct_closure.specs.ClosedTable.{IsClosedTable}
use Rattle.ct_congr.specs.State.{State}
use Rattle.ct_engine.proofs.HeldLemmas.{HaveClassValues, Holds-in_class}
use Rattle.ct_engine.proofs.ModelLemmas.{Holds-same}
use Rattle.ct_engine.proofs.TruthLemmas.{GiveTruths-saturated, boolean_assertion, true_assertion}
use Rattle.ct_engine.proofs.model.model.Goals as goal

pub build-requires-clause-declarations : goal.build-requires-clause-declarations
build-requires-clause-declarations c = rw c.deref-classes.ensures c.requires.candidate.2.saturation.declarations

pub build-requires-clause-terms : goal.build-requires-clause-terms
build-requires-clause-terms c = sym c.table-table.ensures.value

pub build-requires-clause-quiet : goal.build-requires-clause-quiet
build-requires-clause-quiet c = rw c.deref-classes.ensures c.requires.candidate.2.saturation.quiet

pub build-requires-clause-ordered : goal.build-requires-clause-ordered
build-requires-clause-ordered c = rw c.deref-classes.ensures c.requires.candidate.2.saturation.ordered

pub build-requires-clause-extensional : goal.build-requires-clause-extensional
build-requires-clause-extensional c = rw c.deref-classes.ensures c.requires.candidate.2.saturation.extensional

pub build-requires-clause-closed : goal.build-requires-clause-closed
build-requires-clause-closed c =
    let same = c.table-table.ensures.value ∙ ap (λ (s : State). s.terms) c.deref-classes.ensures in
    subst (IsClosedTable c.args.sig.now) (sym same) c.requires.candidate.2.is_closed

pub build-requires-clause-decided : goal.build-requires-clause-decided
build-requires-clause-decided c =
    let candidate = c.args.candidate.now in
    let state = candidate.classes.value in
    let is = c.requires.candidate.2 in
    let same = c.table-table.ensures.value ∙ ap (λ (s : State). s.terms) c.deref-classes.ensures in
    let ordered = subst AreOrdered same c.len-terms.ensures.ordered in
    let single = subst AreSingle same c.len-terms.ensures.single in
    let begins = subst BeginsWithTruths same c.len-terms.ensures.begins in
    rw c.deref-classes.ensures
    (GiveTruths-saturated c.classes.ensures.classes c.closures.ensures.closures c.args.sig.now state.terms is.numbers candidate.literals state candidate.order.reps.items
    ordered single begins is.sorted is.is_closed is.saturated.decided is.saturation)

pub returns-clause-model : goal.returns-clause-model
returns-clause-model c = λ table asserts is.
    let d = c.args.sig.now in
    let candidate = c.args.candidate.now in
    let state = candidate.classes.value in
    let terms = state.terms in
    let interp = c.in_ok-interp.interp in
    let same = c.table-table.ensures.value ∙ ap (λ (s : State). s.terms) c.deref-classes.ensures in
    let ordered = subst AreOrdered same c.len-terms.ensures.ordered in
    let single = subst AreSingle same c.len-terms.ensures.single in
    let begins = subst BeginsWithTruths same c.len-terms.ensures.begins in
    let proper = c.in_ok-interp.ensures.proper in
    let values = subst (λ (ts : Terms). HaveClassValues d ts interp state) same
    (subst (HaveClassValues d c.table-table.result.now interp) c.deref-classes.ensures c.in_ok-interp.ensures.values) in
    let boolean = boolean_assertion c.classes.ensures.classes c.closures.ensures.closures d terms is.numbers candidate.literals state candidate.order.reps.items ordered single begins is.sorted is.is_closed is.saturated.decided is.saturation in
    let equal = true_assertion c.classes.ensures.classes c.closures.ensures.closures d terms is.numbers candidate.literals state candidate.order.reps.items ordered single begins is.sorted is.is_closed is.saturated.decided is.saturation in
    let closed = c.values.ensures.values.closed d interp.graph proper.graph.fits in
    record {
      proper = proper;
      holds = Holds-same c.models.ensures.models d interp terms table is.numbers asserts (sym is.saturated.asserted)
          (Holds-in_class c.values.ensures.values d terms ordered begins interp closed state values is.numbers boolean equal);
    }
