use Rattle.std.proofs.Common.{length, take, ap, arith, length-append}
use Rattle.std.specs.List.{flat_map}
use Rattle.std.proofs.lemmas.List.Folds.{length-flat_map-take}
use Rattle.ct_sorts.specs.declared.spelling.Spelling.{Spelling}
use Rattle.ct_sorts.proofs.AdmitLemmas.{flat_map-take_more}
use Rattle.ct_sorts.proofs.limits.field_count.Goals as goal

pub overflow_add-count : goal.overflow_add-count
overflow_add-count c = omega (arith, c.loop-ctor.invariant, c.requires.few, length-flat_map-take (λ (t : Spelling). t.fields) c.args.ctors.now c.loop-ctor.ctor-index c.ctor-item.result c.loop-ctor-test.true, ap (λ (t : Spelling). length t.fields) c.ctor-item.is)

pub loop-ctor-preserved : goal.loop-ctor-preserved
loop-ctor-preserved c = omega (arith, c.loop-ctor.invariant, ap length (flat_map-take_more (λ (t : Spelling). t.fields) c.args.ctors.now c.loop-ctor.ctor-index c.ctor-item.result c.loop-ctor-test.true c.ctor-item.is), length-append (flat_map (λ (t : Spelling). t.fields) (take c.loop-ctor.ctor-index c.args.ctors.now)) c.ctor-item.result.fields)
