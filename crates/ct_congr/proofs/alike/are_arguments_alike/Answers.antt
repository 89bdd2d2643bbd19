use Rattle.std.proofs.Common.{take}
use Rattle.ct_lemmas.proofs.Pairs.{AllZip-push}
use Rattle.ct_lemmas.proofs.Prefixes.{take-slice_get_next}
use Rattle.ct_terms.specs.Children.{core_children}
use Rattle.ct_congr.specs.Partition.{InOneClass}
use Rattle.ct_congr.proofs.alike.are_arguments_alike.Goals as goal

pub loop-place-preserved : goal.loop-place-preserved
loop-place-preserved c =
    let xs = core_children c.args.left.now in
    let ys = core_children c.args.right.now in
    let place = c.loop-place.place in
    let x = c.argument.result in
    let y = c.argument-in-loop-place.result in
    rw (take-slice_get_next xs place x c.argument.ensures.value, take-slice_get_next ys place y c.argument-in-loop-place.ensures.value)
    (AllZip-push (InOneClass c.args.reps.now) (take place xs) (take place ys) x y c.loop-place.invariant c.if-not-are_equal.ensures.value)
