use Rattle.std.proofs.Common.{[], ◌∷◌, get_or, take}
use Rattle.std.proofs.lemmas.List.{take_more}
use Rattle.ct_generics.proofs.SearchLemmas.{IsMarking-then}
use Rattle.ct_generics.proofs.search.mark_fields.Goals as goal

pub loop-field-preserved : goal.loop-field-preserved
loop-field-preserved c =
    let i = c.loop-field.field-index in
    let fields = c.args.fields.now in
    rw (take_more fields i 0 c.loop-field-test.true)
    (IsMarking-then c.args.marks.now.items c.loop-field.marks.items c.mark.new.marks.items c.args.stack.now.items c.loop-field.stack.items c.mark.new.stack.items (take i fields) (get_or fields i 0 ∷ []) c.loop-field.invariant c.in_ok-mark.ensures.marks)
