use Rattle.std.proofs.Common.{List, [], ◌∷◌, length, length-append, Option, Some, sym, ap, ◌∙◌, arith}
use Rattle.ct_sorts.specs.declared.ids.SortId.{SortId}
use Rattle.ct_sorts.specs.Declarations.{IsSort}
use Rattle.ct_instances.specs.Matching.{sorts_for}
use Rattle.ct_instances.specs.Pairs.{assigned}
use Rattle.ct_instances.proofs.MatchLemmas.{for_none, for_next, for_end, held_at, All-more}
use Rattle.ct_instances.proofs.matching.Matching.sorts.Goals as goal

pub returns-in-None-clause-sorts : goal.returns-in-None-clause-sorts
returns-in-None-clause-sorts c = λ d.
    let at = c.place_of.ensures.value ∙ ap (λ (o : Option SortId). Some o) c.in-None.is in
    ap (λ (items : List (Option SortId)). sorts_for (assigned d items)) (sym c.as_slice-sorts.ensures.value) ∙ for_none d (sorts_for (assigned d c.as_slice-sorts.result.now)) c.loop-place.all.items c.as_slice-sorts.result.now c.loop-place.place at (c.loop-place.invariant.found d)

pub loop-place-preserved : goal.loop-place-preserved
loop-place-preserved c =
    let sorts = c.as_slice-sorts.result.now in
    let at = c.place_of.ensures.value ∙ ap (λ (o : Option SortId). Some o) c.in-Some.is in
    record {
      within = omega (arith, c.loop-place-test.true);
      long = rw c.in_ok-push-in-Some.ensures.items (omega (arith, length-append c.loop-place.all.items (c.in-Some.sort ∷ []), c.loop-place.invariant.long));
      found = λ d. rw c.in_ok-push-in-Some.ensures.items (for_next d (sorts_for (assigned d sorts)) c.loop-place.all.items sorts c.loop-place.place c.in-Some.sort at (c.loop-place.invariant.found d));
      inside = λ d hold. rw c.in_ok-push-in-Some.ensures.items (All-more (IsSort d) c.loop-place.all.items c.in-Some.sort (c.loop-place.invariant.inside d hold) (held_at d sorts c.loop-place.place c.in-Some.sort hold at));
    }

pub returns-clause-sorts : goal.returns-clause-sorts
returns-clause-sorts c = λ d.
    ap (λ (items : List (Option SortId)). sorts_for (assigned d items)) (sym c.as_slice-sorts.ensures.value) ∙ for_end d (sorts_for (assigned d c.as_slice-sorts.result.now)) c.loop-place.all.items c.as_slice-sorts.result.now c.loop-place.place (omega (arith, c.loop-place-test.false)) (c.loop-place.invariant.found d)

pub returns-clause-long : goal.returns-clause-long
returns-clause-long c = omega (arith, c.loop-place.invariant.long, c.loop-place.invariant.within, c.loop-place-test.false, ap length c.as_slice-sorts.ensures.value)
