use Rattle.std.proofs.Common.{◌≡◌, Bool, List, length, false, sym, ap, ◌∙◌, arith}
use Rattle.ct_generics.specs.Marks.{marked}
use Rattle.ct_generics.proofs.SearchLemmas.{IsMarking-new}
use Rattle.ct_generics.proofs.search.mark.Goals as goal

pub returns-in_ok-push-clause-marks : goal.returns-in_ok-push-clause-marks
returns-in_ok-push-clause-marks c =
    let unset : marked c.args.marks.now.items c.args.i ≡ false = ap (λ (ms : List Bool). marked ms c.args.i) (sym c.as_slice.ensures.value) ∙ sym c.is_marked.ensures.value ∙ c.if-not-is_marked.true in
    let long : length c.args.marks.now.items ≡ c.args.marks.now.len = ap length (sym c.as_slice.ensures.value) ∙ c.as_slice.ensures.len in
    rw c.in_ok-push.ensures.items (IsMarking-new c.args.marks.now.items c.args.stack.now.items c.args.i (omega (arith, c.if-i-len.true, c.len.ensures, long)) unset)
