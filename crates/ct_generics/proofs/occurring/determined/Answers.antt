use Rattle.std.proofs.Common.{◌≡◌, ◌↔◌, ℕ, Bool, List, take, Some, slice_get, IsTrue, sym, ap, subst, ◌∙◌, arith}
use Rattle.std.specs.List.{AllZip}
use Rattle.std.proofs.lemmas.Option.{same_Some, slice_get-get_or}
use Rattle.ct_lemmas.proofs.Lists.{slice_get-there}
use Rattle.ct_lemmas.proofs.Pairs.{AllZip-at_left, AllZip-one_length, AllZip-push}
use Rattle.ct_lemmas.proofs.Prefixes.{take-past, take-slice_get_next}
use Rattle.ct_generics.specs.Expression.{Expression}
use Rattle.ct_generics.specs.Nodes.{StandFor}
use Rattle.ct_generics.specs.Occurrence.{OccurAll}
use Rattle.ct_generics.proofs.OccurrenceLemmas.{StandFor-within, rows_stand}
use Rattle.ct_generics.proofs.occurring.determined.Goals as goal

pub occur_all-requires : goal.occur_all-requires
occur_all-requires c =
    let d = c.requires.within.0 in
    let head = slice_get-there d.heads c.args.h.0 c.requires.within.2 in
    let rows = c.rows-rows.result.now in
    let i = c.loop-row.row-index in
    let row = c.row-item.result in
    let stand = rows_stand c.args.g.now d c.args.h.0 head.0 c.template-template.result.now rows c.requires.within.1 head.1 c.template-template.ensures.value c.rows-rows.ensures.value in
    let at : slice_get rows i ≡ Some row = slice_get-get_or rows i row c.loop-row-test.true ∙ ap (λ (r : _). Some r) (sym c.row-item.is) in
    let sorts = AllZip-at_left (StandFor c.template-template.result.now) rows head.0.ctors i row stand at in
    record { within = rw c.as_slice.ensures.value (StandFor-within c.template-template.result.now row sorts.0 sorts.2) }

pub loop-row-preserved : goal.loop-row-preserved
loop-row-preserved c d head is at_head =
    let rows = c.rows-rows.result.now in
    let i = c.loop-row.row-index in
    let row = c.row-item.result in
    let stand = rows_stand c.args.g.now d c.args.h.0 head c.template-template.result.now rows is at_head c.template-template.ensures.value c.rows-rows.ensures.value in
    let at : slice_get rows i ≡ Some row = slice_get-get_or rows i row c.loop-row-test.true ∙ ap (λ (r : _). Some r) (sym c.row-item.is) in
    let sorts = AllZip-at_left (StandFor c.template-template.result.now) rows head.ctors i row stand at in
    let counted = c.head_params-params.ensures.params d is in
    let params : c.head_params-params.result ≡ head.params = counted.2 ∙ ap (λ (x : _). x.params) (same_Some counted.0 head (sym counted.1 ∙ at_head)) in
    rw (c.in_ok-push.ensures.items, take-slice_get_next head.ctors i sorts.0 sorts.1)
    (AllZip-push (λ (mark : Bool) (es : List Expression). IsTrue mark ↔ OccurAll head.params es) c.loop-row.marks.items (take i head.ctors) c.in_ok-mark.mark sorts.0 (c.loop-row.invariant d head is at_head) (subst (λ (n : ℕ). IsTrue c.in_ok-mark.mark ↔ OccurAll n sorts.0) params (c.in_ok-mark.ensures.mark sorts.0 (rw c.as_slice.ensures.value sorts.2))))

pub returns-clause-marks : goal.returns-clause-marks
returns-clause-marks c d head is at_head =
    let rows = c.rows-rows.result.now in
    let stand = rows_stand c.args.g.now d c.args.h.0 head c.template-template.result.now rows is at_head c.template-template.ensures.value c.rows-rows.ensures.value in
    let long = AllZip-one_length (StandFor c.template-template.result.now) rows head.ctors stand in
    subst (λ (all : List (List Expression)). AllZip (λ (mark : Bool) (es : List Expression). IsTrue mark ↔ OccurAll head.params es) c.loop-row.marks.items all) (take-past c.loop-row.row-index head.ctors (omega (arith, long, c.loop-row-test.false))) (c.loop-row.invariant d head is at_head)
