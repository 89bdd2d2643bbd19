use Rattle.std.proofs.Common.{◌≡◌, ◌⊎◌, get_or, slice_get, None, sym, ap, subst, ◌∙◌, inl, inr, arith}
use Rattle.std.proofs.lemmas.Option.{same_Some, slice_get-get_or, slice_get_within}
use Rattle.ct_lemmas.proofs.Numbers.{same_or_other}
use Rattle.ct_congr.specs.declared.constructors.Shape.{Shape}
use Rattle.ct_congr.proofs.ClosingLemmas.{IsClashOf-shape, no_clash}
use Rattle.ct_congr.proofs.closing.verdict.Goals as goal

abbrev zeroth : Shape
zeroth = record { first = None; other = None }

pub loop-shape-preserved : goal.loop-shape-preserved
loop-shape-preserved c = λ k shape below at.
    let shapes = c.args.shapes.now in
    let here = get_or shapes c.loop-shape.shape-index zeroth in
    elim (same_or_other k c.loop-shape.shape-index) [
      | inl e ↦
          let same : here ≡ shape = same_Some here shape (sym (slice_get-get_or shapes c.loop-shape.shape-index zeroth c.loop-shape-test.true) ∙ ap (slice_get shapes) (sym e) ∙ at) in
          subst (λ (s : Shape). (s.first ≡ None) ⊎ (s.other ≡ None)) same c.in_default.ensures.none
      | inr other ↦ c.loop-shape.invariant k shape (omega (arith, other, below)) at
    ]

pub returns-in-Some : goal.returns-in-Some
returns-in-Some c = record {
  verdict = λ terms reps long own are.
      let shapes = c.args.shapes.now in
      let here = get_or shapes c.loop-shape.shape-index zeroth in
      IsClashOf-shape terms reps shapes long own are c.loop-shape.shape-index here c.in-Some.first c.in-Some.other (slice_get-get_or shapes c.loop-shape.shape-index zeroth c.loop-shape-test.true) c.in-Some.ensures.found.0 c.in-Some.ensures.found.1;
}

pub returns : goal.returns
returns c = record {
  verdict = λ terms reps long own are.
      let shapes = c.args.shapes.now in
      no_clash terms reps shapes long own are (λ k shape at. c.loop-shape.invariant k shape (omega (arith, c.loop-shape-test.false, slice_get_within shapes k shape at)) at);
}
