use Rattle.std.proofs.Common.{List, get_or, Contains, sym, ◌∙◌, subst, arith}
use Rattle.std.proofs.lemmas.List.Elements.{Contains-get_or}
use Rattle.ct_sorts.specs.declared.ids.CtorId.{CtorId}
use Rattle.ct_finite.proofs.CountLemmas.{Theorems, counts_capped}
use Rattle.ct_finite.proofs.PartLemmas.{built_count, entry_here, entry_later}
use Rattle.ct_finite.proofs.StepLemmas.{ctors_read, first_ctor}
use Rattle.ct_finite.proofs.parts.counted_at.Goals as goal

pub count_of_ctor-count-requires-clause-capped : goal.count_of_ctor-count-requires-clause-capped
count_of_ctor-count-requires-clause-capped c = counts_capped c.args.sig.now c.args.counts.now c.requires.counts.counted

pub returns-then-left-count-clause-less : goal.returns-then-left-count-clause-less
returns-then-left-count-clause-less c =
    let d = c.args.sig.now in
    let t : Theorems d =
    record {
      consistent = c.sorts.ensures.consistent;
      built = c.listed_values.ensures.built d;
      parts = c.listed_values.ensures.parts d;
      unfolds = c.listed_values.ensures.unfolds d;
      some = λ s. c.listed_values.ensures.some d s c.sorts.ensures.consistent;
    } in
    let cs = c.ctors-c-items.result.now in
    let k = get_or cs c.loop-c.c-index first_ctor in
    let among = subst (λ (l : List CtorId). Contains l k) (sym (ctors_read d c.args.s cs c.ctors-c-items.ensures.value)) (Contains-get_or cs c.loop-c.c-index first_ctor c.loop-c-test.true) in
    let e = built_count d t c.args.counts.now c.requires.counts c.args.s c.requires.listable c.requires.few k among in
    omega (arith, e, c.count_of_ctor-count.ensures.value, c.if-left-count.true)

pub returns-then-left-count-clause-entry : goal.returns-then-left-count-clause-entry
unfolding returns-then-left-count-clause-less
returns-then-left-count-clause-entry c =
    let d = c.args.sig.now in
    let t : Theorems d =
    record {
      consistent = c.sorts.ensures.consistent;
      built = c.listed_values.ensures.built d;
      parts = c.listed_values.ensures.parts d;
      unfolds = c.listed_values.ensures.unfolds d;
      some = λ s. c.listed_values.ensures.some d s c.sorts.ensures.consistent;
    } in
    let cs = c.ctors-c-items.result.now in
    c.loop-c.invariant.entry ∙ entry_here d t cs c.loop-c.c-index c.loop-c.left c.loop-c-test.true (returns-then-left-count-clause-less c)

pub loop-c-preserved : goal.loop-c-preserved
loop-c-preserved c =
    let d = c.args.sig.now in
    let t : Theorems d =
    record {
      consistent = c.sorts.ensures.consistent;
      built = c.listed_values.ensures.built d;
      parts = c.listed_values.ensures.parts d;
      unfolds = c.listed_values.ensures.unfolds d;
      some = λ s. c.listed_values.ensures.some d s c.sorts.ensures.consistent;
    } in
    let cs = c.ctors-c-items.result.now in
    let k = get_or cs c.loop-c.c-index first_ctor in
    let among = subst (λ (l : List CtorId). Contains l k) (sym (ctors_read d c.args.s cs c.ctors-c-items.ensures.value)) (Contains-get_or cs c.loop-c.c-index first_ctor c.loop-c-test.true) in
    let e = built_count d t c.args.counts.now c.requires.counts c.args.s c.requires.listable c.requires.few k among in
    let later = entry_later d t cs c.loop-c.c-index c.loop-c.left c.count_of_ctor-count.result c.loop-c-test.true (c.count_of_ctor-count.ensures.value ∙ e) c.if-left-count.false c.loop-c.invariant.less in
    record { less = later.0; entry = c.loop-c.invariant.entry ∙ later.1 }
