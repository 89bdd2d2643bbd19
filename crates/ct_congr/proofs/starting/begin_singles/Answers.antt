use Rattle.std.proofs.Common.{sym, subst, inl, inr, arith}
use Rattle.ct_terms.specs.declared.ids.TermId.{TermId}
use Rattle.ct_congr.specs.Joined.{AreJoined, WaitsOn}
use Rattle.ct_congr.specs.Partition.{InOneClass}
use Rattle.ct_congr.proofs.ClassLemmas.{InOneClass-refl}
use Rattle.ct_congr.proofs.JoinedLemmas.{AreJoined-more, AreJoined-sym, AreJoined-trans, WaitsOn-same, WaitsOn-trans}
use Rattle.ct_congr.proofs.SingleLemmas.{first_sorted, AreFirsts-more, AreSingled-more, AreSingled-wider, IsSingular-all}
use Rattle.ct_congr.proofs.starting.begin_singles.Goals as goal

pub loop-t-preserved : goal.loop-t-preserved
loop-t-preserved c =
    let terms = c.args.table.now in
    let reps = c.args.reps.now in
    let single = c.args.single.now in
    let t : TermId = record { 0 = c.loop-t.t } in
    let first = c.first_of_sort-first.result in
    let old = c.loop-t.firsts.items in
    let new = c.first_of_sort-first.new.firsts.items in
    let is = c.first_of_sort-first.ensures.first in
    let sorted = c.sort.ensures.value in
    let before = c.loop-t.waiting.items in
    let after = c.let_wait.new.waiting.items in
    let wider = AreJoined-more reps before after c.in_ok-let_wait.ensures.still in
    record {
      long = c.first_of_sort-first.ensures.long;
      firsts = AreFirsts-more terms single old new c.sort.result t first sorted c.loop-t.invariant.firsts is;
      singled = AreSingled-more terms single old new c.sort.result t first sorted (AreJoined reps after) (AreSingled-wider terms single (AreJoined reps before) (AreJoined reps after) old t.0 wider c.loop-t.invariant.singled) c.in_ok-let_wait.ensures.joined is;
      waits = λ d sorts.
          let on : WaitsOn d terms reps before after = elim (first_sorted terms single old new c.sort.result t first sorted c.loop-t.invariant.firsts is) [
            | inl same ↦
                let here : InOneClass reps t first = subst (InOneClass reps t) (sym same) (InOneClass-refl reps t (omega (arith, c.requires.long, c.len-t-end.ensures.count, c.loop-t-test.true))) in
                subst (WaitsOn d terms reps before) (sym (c.in_ok-let_wait.ensures.same here)) (WaitsOn-same d terms reps before)
            | inr h ↦ c.in_ok-let_wait.ensures.waits d terms (record { sort = c.sort.result; left = sorted; right = h.0; single = (sorts c.sort.result.0).0 h.1 }) tt
          ] in
          WaitsOn-trans d terms reps c.args.waiting.now.items before after (c.loop-t.invariant.waits d sorts) on;
    }

pub returns-clause-joined : goal.returns-clause-joined
returns-clause-joined c = λ d sorts.
    let joined = AreJoined c.args.reps.now c.loop-t.waiting.items in
    IsSingular-all d c.args.table.now c.args.single.now joined c.loop-t.firsts.items (AreJoined-sym c.args.reps.now c.loop-t.waiting.items) (AreJoined-trans c.args.reps.now c.loop-t.waiting.items) sorts (λ t s below. c.loop-t.invariant.singled t s (omega (arith, below, c.len-t-end.ensures.count, c.loop-t-test.false)))
