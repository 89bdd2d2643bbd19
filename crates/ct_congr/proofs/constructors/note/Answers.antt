use Rattle.std.proofs.Common.{◌≡◌, ◌<◌, get_or, slice_get, length, Some, refl, arith}
use Rattle.std.proofs.lemmas.Option.{slice_get-get_or, slice_get_within, slice_get_read}
use Rattle.ct_terms.specs.declared.ids.TermId.{TermId}
use Rattle.ct_terms.specs.declared.term.Core.TheVariants.{Con}
use Rattle.ct_congr.proofs.TermLemmas.{Has-inside}
use Rattle.ct_congr.proofs.ConstructorLemmas.{AreShapes-more, AreShapes-skip}
use Rattle.ct_congr.proofs.constructors.note.Goals as goal
use Rattle.ct_congr.proofs.constructors.note.Goals.{In-Some, After-index}

abbrev zeroth : TermId
zeroth = record { 0 = 0 }

-- the representative of the term, which has a shape
at_term : (c : In-Some) → slice_get c.args.reps.now c.args.t.0 ≡ Some (get_or c.args.reps.now c.args.t.0 zeroth)
at_term c = slice_get-get_or c.args.reps.now c.args.t.0 zeroth (omega (arith, c.requires.inside, c.requires.long))

inside : (c : In-Some) → (get_or c.args.reps.now c.args.t.0 zeroth).0 < length c.args.shapes.now.items
inside c =
    let r = get_or c.args.reps.now c.args.t.0 zeroth in
    omega (arith, c.requires.shapes_long, slice_get_within c.args.reps.now r.0 r (c.requires.own c.args.t r (at_term c)))

pub index-requires : goal.index-requires
index-requires c = omega (arith, inside (goal.at.index-requires c).In-Some)

pub index_mut-requires : goal.index_mut-requires
index_mut-requires c = omega (arith, inside (goal.at.index_mut-requires c).In-Some)

-- the shape of its class
at_shape : (c : After-index) → (get_or c.args.reps.now c.args.t.0 zeroth).0 < length c.args.shapes.now.items → slice_get c.args.shapes.now.items (get_or c.args.reps.now c.args.t.0 zeroth).0 ≡ Some c.index.result.now
at_shape c within =
    let items = c.args.shapes.now.items in
    slice_get_read items (length items) (get_or c.args.reps.now c.args.t.0 zeroth).0 c.index.result.now refl within c.index.ensures

pub with_term-shape-requires : goal.with_term-shape-requires
with_term-shape-requires c =
    let at = (goal.at.with_term-shape-requires c).After-index in
    let some = (goal.at.with_term-shape-requires c).In-Some in
    let shape = c.requires.shapes (get_or c.args.reps.now c.args.t.0 zeroth) c.index.result.now (at_shape at (inside some)) in
    record { inside = λ f is. let h = shape.first f is in Has-inside c.args.table.now (Con h.0 h.1.0) f.0 h.1.1 }

pub returns-in-Some-clause-shapes : goal.returns-in-Some-clause-shapes
returns-in-Some-clause-shapes c =
    let at = (goal.at.returns-in-Some-clause-shapes c).After-index in
    let some = (goal.at.returns-in-Some-clause-shapes c).In-Some in
    let reps = c.args.reps.now in
    let r = get_or reps c.args.t.0 zeroth in
    let built = c.in-Some.ensures.built in
    AreShapes-more c.args.table.now reps c.args.t r c.args.shapes.now.items c.with_term-shape.result (at_term some)
    (c.with_term-shape.ensures.value reps r (c.requires.shapes r c.index.result.now (at_shape at (inside some))) (built.0, built.1, at_term some))
    c.requires.shapes

pub returns-in-None-clause-shapes : goal.returns-in-None-clause-shapes
returns-in-None-clause-shapes c = AreShapes-skip c.args.table.now c.args.reps.now c.args.t c.args.shapes.now.items c.in-None.ensures.other c.requires.shapes
