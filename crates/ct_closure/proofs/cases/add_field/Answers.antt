use Rattle.ct_closure.proofs.CaseLemmas.{field_sorted, field_step}
use Rattle.ct_closure.proofs.cases.add_field.Goals as goal

pub add-requires-clause-well_sorted : goal.add-requires-clause-well_sorted
add-requires-clause-well_sorted c =
    field_sorted c.args.sig.now c.declared.ensures.own_constructors c.declared.ensures.own_selectors c.args.table.now c.args.t c.args.c c.requires.case c.args.s c.requires.of_ctor

pub returns-in_err-field-clause-step : goal.returns-in_err-field-clause-step
returns-in_err-field-clause-step c =
    field_step c.trees.ensures.trees c.args.sig.now c.args.table.now c.add.new.table c.args.t c.args.c c.requires.case c.add.ensures.sound c.args.s c.requires.of_ctor c.add.ensures.added

pub returns-clause-step : goal.returns-clause-step
returns-clause-step c =
    field_step c.trees.ensures.trees c.args.sig.now c.args.table.now c.add.new.table c.args.t c.args.c c.requires.case c.add.ensures.sound c.args.s c.requires.of_ctor c.add.ensures.added
