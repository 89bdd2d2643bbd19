use Rattle.std.proofs.Common.{List, ◌+◌, get_or, sym, subst, arith, Contains, ◌<◌}
use Rattle.std.proofs.lemmas.List.{take_all}
use Rattle.std.proofs.lemmas.List.Elements.{Contains-get_or}
use Rattle.ct_sorts.specs.declared.ids.CtorId.{CtorId}
use Rattle.ct_listing.specs.Listable.{field_sorts}
use Rattle.ct_finite.specs.Counts.{count_at}
use Rattle.ct_finite.specs.Counting.{ways, AreReady}
use Rattle.ct_finite.proofs.CapLemmas.{capped_some, ways_some}
use Rattle.ct_finite.proofs.StepLemmas.{ctors_read, sum_step, ready_step, first_ctor}
use Rattle.ct_finite.proofs.count.count_of_sort.Goals as goal

pub returns-then-count-eq0-clause-none : goal.returns-then-count-eq0-clause-none
returns-then-count-eq0-clause-none c = λ ready some.
    let d = c.args.sig.now in
    let cs = c.ctors-c-items.result.now in
    let k = get_or cs c.loop-c.c-index first_ctor in
    let among = subst (λ (l : List CtorId). Contains l k) (sym (ctors_read d c.args.s cs c.ctors-c-items.ensures.value)) (Contains-get_or cs c.loop-c.c-index first_ctor c.loop-c-test.true) in
    let positive = capped_some (ways (count_at c.args.counts.now) (field_sorts d k)) (ways_some (count_at c.args.counts.now) (field_sorts d k) (λ field within. ready k field among within)) in
    omega (arith, positive, c.count_of_ctor-count.ensures.value, c.if-count-eq0.true)

pub loop-c-preserved : goal.loop-c-preserved
loop-c-preserved c =
    let d = c.args.sig.now in
    let counts = c.args.counts.now in
    let cs = c.ctors-c-items.result.now in
    let i = c.loop-c.c-index in
    let count = c.count_of_ctor-count.result in
    let some : 0 < count = omega (arith, c.if-count-eq0.false) in
    let positive = capped_some (c.loop-c.sum + count) (omega (arith, some)) in
    record {
      bound = c.capped-sum.ensures.bound;
      ready = ready_step d counts cs i count c.loop-c-test.true c.loop-c.invariant.ready c.count_of_ctor-count.ensures.value some;
      value = sum_step d counts cs i c.loop-c.sum count c.capped-sum.result c.loop-c-test.true c.loop-c.invariant.value c.count_of_ctor-count.ensures.value c.capped-sum.ensures.value;
      some = λ _. omega (arith, positive, c.capped-sum.ensures.value);
    }

pub returns-clause-ready : goal.returns-clause-ready
returns-clause-ready c = λ some.
    let d = c.args.sig.now in
    let cs = c.ctors-c-items.result.now in
    let ready = subst (λ (l : List CtorId). AreReady d c.args.counts.now l) (take_all c.loop-c.c-index cs c.loop-c-test.false) c.loop-c.invariant.ready in
    subst (λ (l : List CtorId). AreReady d c.args.counts.now l) (sym (ctors_read d c.args.s cs c.ctors-c-items.ensures.value)) ready
