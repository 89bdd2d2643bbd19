use Rattle.std.proofs.Common.{◌<◌, refl, ap, arith}
use Rattle.ct_values.specs.Partition.{class_at}
use Rattle.ct_values.proofs.ClassLemmas.{class_read}
use Rattle.ct_values.proofs.QuotientLemmas.{CountsUp-few, AreNumberedTo-new, AreNumberedTo-old}
use Rattle.ct_values.proofs.minimising.numbered.Goals as goal
use Rattle.ct_values.proofs.minimising.numbered.Goals.{then-class-index+in_ok-push, else-class-index+in_ok-push-2}

pub overflow_add-count : goal.overflow_add-count
overflow_add-count c =
    let few = CountsUp-few 0 c.loop-index.count c.loop-index.numbers.items c.loop-index.invariant.in_order in
    omega (arith, few)

pub loop-index-preserved : goal.loop-index-preserved
loop-index-preserved c =
    let classes = c.args.classes.now in
    let numbers = c.loop-index.numbers.items in
    let index = c.loop-index.index in
    let count = c.loop-index.count in
    elim c.if-class-index.branch [
      | then-class-index+in_ok-push w ↦
          rw (ap (λ v. v.items) w.numbers-is, w.in_ok-push.ensures.items, w.count-is) (AreNumberedTo-new classes numbers index count c.requires.early w.if-class-index.true c.loop-index.invariant)
      | else-class-index+in_ok-push-2 w ↦
          let class = class_at classes index in
          let began : class < index = omega (arith, c.requires.early index, w.if-class-index.false) in
          let number = w.index-number.result.now in
          let read = class_read numbers class number (omega (arith, c.loop-index.invariant.long)) w.index-number.ensures in
          rw (ap (λ v. v.items) w.numbers-is, w.in_ok-push-2.ensures.items, w.count-is) (AreNumberedTo-old classes numbers index count class number began refl (c.requires.own index c.loop-index-test.true) read c.loop-index.invariant)
    ]
