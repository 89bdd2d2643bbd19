use Rattle.std.proofs.Common.{List, sym, subst, inl, inr, arith}
use Rattle.ct_terms.specs.declared.ids.TermId.{TermId}
use Rattle.ct_congr.specs.declared.merge.Merge.{Merge}
use Rattle.ct_congr.specs.Needed.{AreNeeded}
use Rattle.ct_congr.specs.Partition.{InOneClass}
use Rattle.ct_congr.proofs.ClassLemmas.{InOneClass-refl, InOneClass-sym, InOneClass-trans}
use Rattle.ct_congr.proofs.SingleLemmas.{first_sorted, AreFirsts-more, AreSingled-more, IsSingular-all}
use Rattle.ct_congr.proofs.singles.singles.Goals as goal

pub loop-t-preserved : goal.loop-t-preserved
loop-t-preserved c =
    let terms = c.args.table.now in
    let reps = c.args.reps.now in
    let single = c.args.single.now in
    let t : TermId = record { 0 = c.loop-t.t } in
    let first = c.first_of_sort-first.result in
    let old = c.loop-t.firsts.items in
    let new = c.first_of_sort-first.new.firsts.items in
    let is = c.first_of_sort-first.ensures.first in
    let sorted = c.sort.ensures.value in
    record {
      long = c.first_of_sort-first.ensures.long;
      firsts = AreFirsts-more terms single old new c.sort.result t first sorted c.loop-t.invariant.firsts is;
      singled = λ none.
          let both = c.in_ok-need.ensures.none none in
          AreSingled-more terms single old new c.sort.result t first sorted (InOneClass reps) (c.loop-t.invariant.singled both.0) both.1 is;
      before = λ none. c.loop-t.invariant.before (c.in_ok-need.ensures.none none).0;
      needed = λ d hyps sorts had.
          let before = c.loop-t.invariant.needed d hyps sorts had in
          elim (first_sorted terms single old new c.sort.result t first sorted c.loop-t.invariant.firsts is) [
            | inl same ↦
                let here : InOneClass reps t first = subst (InOneClass reps t) (sym same) (InOneClass-refl reps t (omega (arith, c.requires.long, c.len-t-end.ensures.count, c.loop-t-test.true))) in
                subst (λ (list : List Merge). AreNeeded d terms hyps reps list) (sym (c.in_ok-need.ensures.same here)) before
            | inr h ↦ c.in_ok-need.ensures.needed d terms hyps (record { sort = c.sort.result; left = sorted; right = h.0; single = (sorts c.sort.result.0).0 h.1 }) tt before
          ];
    }

pub returns-clause-closed : goal.returns-clause-closed
returns-clause-closed c = λ none. (
  c.loop-t.invariant.before none,
  λ d sorts. IsSingular-all d c.args.table.now c.args.single.now (InOneClass c.args.reps.now) c.loop-t.firsts.items (InOneClass-sym c.args.reps.now) (InOneClass-trans c.args.reps.now) sorts (λ t s below. c.loop-t.invariant.singled none t s (omega (arith, below, c.len-t-end.ensures.count, c.loop-t-test.false))),
)
