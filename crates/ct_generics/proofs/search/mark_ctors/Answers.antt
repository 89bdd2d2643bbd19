use Rattle.std.proofs.Common.{take}
use Rattle.std.specs.List.{flat_map}
use Rattle.ct_generics.proofs.SearchLemmas.{IsMarking-then, arcs-more}
use Rattle.ct_generics.proofs.search.mark_ctors.Goals as goal

pub loop-fields-preserved : goal.loop-fields-preserved
loop-fields-preserved c =
    let i = c.loop-fields.fields-index in
    let ctors = c.args.ctors.now in
    let x = c.fields-item.result in
    rw (arcs-more ctors i x c.loop-fields-test.true c.fields-item.is)
    (IsMarking-then c.args.marks.now.items c.loop-fields.marks.items c.mark_fields.new.marks.items c.args.stack.now.items c.loop-fields.stack.items c.mark_fields.new.stack.items (flat_map (λ fields. fields) (take i ctors)) x c.loop-fields.invariant (rw c.as_slice.ensures.value at c.in_ok-mark_fields.ensures.marks))
