use Rattle.ct_eval.proofs.StepSelect.{child_there, field_first}
use Rattle.ct_eval.proofs.selection.field.Goals as goal

pub child_at-requires : goal.child_at-requires
child_at-requires c = record {
  within = c.requires.within;
  there = child_there c.args.sig.now c.args.shared.now c.args.n c.args.s c.sel_place.result (c.structure.ensures.of_their_constructors c.args.sig.now c.sorts.ensures.consistent) c.requires.fits c.requires.within c.requires.built c.sel_place.ensures.value;
}

pub returns : goal.returns
returns c = record {
  value = λ selector h v declared first.
      field_first c.theorems.ensures.theorems c.args.sig.now c.args.shared.now h c.args.n c.args.s c.sel_place.result selector v c.child_at.result c.first.result (c.structure.ensures.of_their_constructors c.args.sig.now c.sorts.ensures.consistent) c.requires.fits c.requires.within c.requires.built c.sel_place.ensures.value c.child_at.ensures.value c.first.ensures.first
      declared first;
}
