use Rattle.std.proofs.Common.{◌≡◌, ◌<◌, length, sym, subst, inr}
use Rattle.std.proofs.lemmas.Option.{slice_get_within}
use Rattle.ct_sorts.specs.declared.ids.SortId.{SortId}
use Rattle.ct_closure.proofs.GrowthLemmas.{step_none}
use Rattle.ct_closure.proofs.WayLemmas.{clash, marks_same}
use Rattle.ct_card.specs.declared.size.Size.TheVariants.{Finite}
use Rattle.ct_card.specs.Cardinality.{HasSize}
use Rattle.ct_closure.proofs.CaseLemmas.{one_sort_at}
use Rattle.ct_closure.proofs.steps.take_finite.Goals as goal

pub returns-then-not-is_open-clause-step : goal.returns-then-not-is_open-clause-step
returns-then-not-is_open-clause-step c = step_none c.args.sig.now c.args.table.now c.requires.sound

pub returns-then-not-is_open-clause-marks : goal.returns-then-not-is_open-clause-marks
returns-then-not-is_open-clause-marks c = marks_same c.args.sig.now c.args.table.now c.args.marks.now.items c.requires.marked

pub returns-then-not-is_open-clause-taken : goal.returns-then-not-is_open-clause-taken
returns-then-not-is_open-clause-taken c = λ sort unsettled finite.
    absurd (clash c.is_open.result (c.is_open.ensures.unsettled.1 (sort, unsettled)) c.if-not-is_open.true)

pub is_finite-requires-clause-inside : goal.is_finite-requires-clause-inside
is_finite-requires-clause-inside c =
    let unsettled = c.is_open.ensures.unsettled.0 c.if-not-is_open.false in
    let same : unsettled.0 ≡ c.sort.result = one_sort_at c.args.table.now c.args.t unsettled.0 c.sort.result (unsettled.1.core, unsettled.1.stands) c.sort.ensures.value in
    let found = unsettled.1.structured in
    subst (λ (s : SortId). s.0 < length c.args.sig.now.sorts) same (slice_get_within c.args.sig.now.sorts unsettled.0.0 found.0 found.1)

pub returns-then-not-is_finite-clause-step : goal.returns-then-not-is_finite-clause-step
returns-then-not-is_finite-clause-step c = step_none c.args.sig.now c.args.table.now c.requires.sound

pub returns-then-not-is_finite-clause-marks : goal.returns-then-not-is_finite-clause-marks
returns-then-not-is_finite-clause-marks c = marks_same c.args.sig.now c.args.table.now c.args.marks.now.items c.requires.marked

pub returns-then-not-is_finite-clause-taken : goal.returns-then-not-is_finite-clause-taken
returns-then-not-is_finite-clause-taken c = λ sort unsettled finite.
    let same : sort ≡ c.sort.result = one_sort_at c.args.table.now c.args.t sort c.sort.result (unsettled.core, unsettled.stands) c.sort.ensures.value in
    absurd (clash c.is_finite.result (c.is_finite.ensures.finite.1 (subst (λ (s : SortId). HasSize c.args.sig.now s.0 Finite) same finite)) c.if-not-is_finite.true)

pub mark-requires-clause-split : goal.mark-requires-clause-split
mark-requires-clause-split c =
    let unsettled = c.is_open.ensures.unsettled.0 c.if-not-is_open.false in
    let same : unsettled.0 ≡ c.sort.result = one_sort_at c.args.table.now c.args.t unsettled.0 c.sort.result (unsettled.1.core, unsettled.1.stands) c.sort.ensures.value in
    (unsettled.0, record { unsettled = unsettled.1; cause = inr (subst (λ (s : SortId). HasSize c.args.sig.now s.0 Finite) (sym same) (c.is_finite.ensures.finite.0 c.if-not-is_finite.false)) })
