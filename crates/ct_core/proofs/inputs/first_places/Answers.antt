use Rattle.std.proofs.lemmas.Option.{slice_get-get_or}
use Rattle.ct_core.proofs.InputLemmas.{chosen_next}
use Rattle.ct_core.proofs.inputs.first_places.Goals as goal

pub loop-place-preserved : goal.loop-place-preserved
loop-place-preserved c =
    let at = c.loop-place in
    let done = c.in_ok-choose.ensures in
    chosen_next c.args.asserts.now c.args.marks.items at.marks.items c.choose.new.marks.items at.place at.chosen.places.items at.chosen.terms.items _ at.invariant (slice_get-get_or c.args.asserts.now at.place _ c.loop-place-test.true)
    done.long done.marks c.choose.new.chosen.places.items c.choose.new.chosen.terms.items done.taken done.left
