use Rattle.std.proofs.Common.{◌≡◌, ◌<◌, get_or, length, Some, None, refl, sym, ap, ◌∙◌, arith}
use Rattle.std.proofs.lemmas.Option.{same_Some, slice_get-get_or}
use Rattle.ct_terms.specs.declared.ids.TermId.{TermId}
use Rattle.ct_terms.specs.declared.term.Core.TheVariants.{Con, Test}
use Rattle.ct_congr.specs.declared.constructors.Shape.{Shape}
use Rattle.ct_congr.proofs.TermLemmas.{Has-inside}
use Rattle.ct_congr.proofs.RuleLemmas.{IsTesting-false, shape_at, shape_inside}
use Rattle.ct_congr.proofs.rules.test_false.Goals as goal

abbrev zeroth : TermId
zeroth = record { 0 = 0 }

abbrev empty : Shape
empty = record { first = None; other = None }

pub bounds-shapes-r : goal.bounds-shapes-r
bounds-shapes-r c = shape_inside c.args.reps.now c.args.u (length c.args.shapes.now) (omega (arith, c.requires.inside, c.requires.long)) c.requires.own c.requires.shapes_long

pub different-requires : goal.different-requires
different-requires c =
    let terms = c.args.table.now in
    let shape = shape_at terms c.args.reps.now c.args.u c.args.shapes.now (omega (arith, c.requires.inside, c.requires.long)) c.requires.own c.requires.shapes_long c.requires.shapes in
    record { inside = λ f is. let h = shape.first f is in Has-inside terms (Con h.0 h.1.0) f.0 h.1.1 }

pub need-requires-clause-left : goal.need-requires-clause-left
need-requires-clause-left c = rw c.requires.long (Has-inside c.args.table.now (Test c.args.c c.args.u) c.args.t.0 c.requires.stands)

pub returns-in_ok-need-in-Some-clause-needed : goal.returns-in_ok-need-in-Some-clause-needed
returns-in_ok-need-in-Some-clause-needed c = λ d hyps old.
    let terms = c.args.table.now in
    let reps = c.args.reps.now in
    let r = get_or reps c.args.u.0 zeroth in
    let within : c.args.u.0 < length reps = omega (arith, c.requires.inside, c.requires.long) in
    let shape = shape_at terms reps c.args.u c.args.shapes.now within c.requires.own c.requires.shapes_long c.requires.shapes in
    let h = c.in-Some.ensures.found reps (length terms) r shape in
    c.in_ok-need-in-Some.ensures.needed d terms hyps (refl, IsTesting-false terms reps c.args.t c.args.u c.in-Some.con c.args.c h.0 h.1.0 c.requires.stands (r, slice_get-get_or reps c.args.u.0 zeroth within, h.1.2) h.1.1 h.2, refl) tt old

pub returns-in-None-clause-closed : goal.returns-in-None-clause-closed
returns-in-None-clause-closed c = λ none con k args has equal apart.
    let terms = c.args.table.now in
    let reps = c.args.reps.now in
    let r = get_or reps c.args.u.0 zeroth in
    let within : c.args.u.0 < length reps = omega (arith, c.requires.inside, c.requires.long) in
    let shape = shape_at terms reps c.args.u c.args.shapes.now within c.requires.own c.requires.shapes_long c.requires.shapes in
    let class : equal.0 ≡ r = same_Some equal.0 r (sym equal.1 ∙ slice_get-get_or reps c.args.u.0 zeroth within) in
    absurd (apart (c.in-None.ensures.none reps (length terms) r k con shape (Has-inside terms (Con k args) con.0 has) (args, has, equal.2 ∙ ap Some class)))
