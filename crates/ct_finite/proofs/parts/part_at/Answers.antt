use Rattle.std.proofs.Common.{arith}
use Rattle.ct_finite.proofs.CountLemmas.{Theorems, counts_capped}
use Rattle.ct_finite.proofs.FewLemmas.{few_built}
use Rattle.ct_finite.proofs.PartLemmas.{field_listable, field_few, ways_count, part_found}
use Rattle.ct_finite.proofs.parts.part_at.Goals as goal

pub digits_of-requires-clause-capped : goal.digits_of-requires-clause-capped
digits_of-requires-clause-capped c = counts_capped c.args.sig.now c.args.counts.now c.requires.counts.counted

pub digits_of-requires-clause-few : goal.digits_of-requires-clause-few
digits_of-requires-clause-few c =
    let d = c.args.sig.now in
    let t : Theorems d =
    record {
      consistent = c.sorts.ensures.consistent;
      built = c.listed_values.ensures.built d;
      parts = c.listed_values.ensures.parts d;
      unfolds = c.listed_values.ensures.unfolds d;
      some = λ s. c.listed_values.ensures.some d s c.sorts.ensures.consistent;
    } in
    let k = c.ctor_at-left.result.0 in
    let less = few_built d c.args.s (t.unfolds c.args.s c.requires.listable) k c.ctor_at-left.ensures.inside.0 in
    let e = ways_count d t c.args.counts.now c.requires.counts c.args.s c.requires.listable c.requires.few k c.ctor_at-left.ensures.inside.0 in
    omega (arith, less, e, c.requires.few)

pub digits_of-requires-clause-less : goal.digits_of-requires-clause-less
digits_of-requires-clause-less c =
    let d = c.args.sig.now in
    let t : Theorems d =
    record {
      consistent = c.sorts.ensures.consistent;
      built = c.listed_values.ensures.built d;
      parts = c.listed_values.ensures.parts d;
      unfolds = c.listed_values.ensures.unfolds d;
      some = λ s. c.listed_values.ensures.some d s c.sorts.ensures.consistent;
    } in
    let e = ways_count d t c.args.counts.now c.requires.counts c.args.s c.requires.listable c.requires.few c.ctor_at-left.result.0 c.ctor_at-left.ensures.inside.0 in
    omega (arith, c.ctor_at-left.ensures.less, e)

pub returns-clause-part : goal.returns-clause-part
returns-clause-part c =
    let d = c.args.sig.now in
    let t : Theorems d =
    record {
      consistent = c.sorts.ensures.consistent;
      built = c.listed_values.ensures.built d;
      parts = c.listed_values.ensures.parts d;
      unfolds = c.listed_values.ensures.unfolds d;
      some = λ s. c.listed_values.ensures.some d s c.sorts.ensures.consistent;
    } in
    let e = c.ctor_at-left.ensures in
    part_found d t c.args.counts.now c.requires.counts c.args.s c.requires.listable c.requires.few c.args.k c.ctor_at-left.result.0 c.ctor_at-left.result.1 c.in_ok-numbers.numbers.items e.inside.0 e.less e.entry c.in_ok-numbers.ensures.value

pub returns-clause-fields : goal.returns-clause-fields
returns-clause-fields c =
    let d = c.args.sig.now in
    let t : Theorems d =
    record {
      consistent = c.sorts.ensures.consistent;
      built = c.listed_values.ensures.built d;
      parts = c.listed_values.ensures.parts d;
      unfolds = c.listed_values.ensures.unfolds d;
      some = λ s. c.listed_values.ensures.some d s c.sorts.ensures.consistent;
    } in
    let among = c.ctor_at-left.ensures.inside.0 in
    λ f within. (
      field_listable d t c.args.s c.requires.listable c.ctor_at-left.result.0 f among within,
      field_few d t c.args.s c.requires.listable c.requires.few c.ctor_at-left.result.0 f among within,
    )
