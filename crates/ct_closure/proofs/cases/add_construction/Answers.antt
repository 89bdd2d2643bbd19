use Rattle.ct_closure.proofs.CaseLemmas.{construction_sorted, construction_step}
use Rattle.ct_closure.proofs.cases.add_construction.Goals as goal

pub add-requires-clause-well_sorted : goal.add-requires-clause-well_sorted
add-requires-clause-well_sorted c =
    construction_sorted c.args.sig.now c.declared.ensures.own_constructors c.declared.ensures.own_selectors c.args.table.now c.args.t c.args.c c.requires.case c.requires.sound c.args.args c.requires.fields

pub returns-in_err-add-clause-step : goal.returns-in_err-add-clause-step
returns-in_err-add-clause-step c =
    construction_step c.trees.ensures.trees c.args.sig.now c.args.table.now c.add.new.table c.args.t c.args.c c.requires.case c.add.ensures.sound c.args.args c.requires.fields c.add.ensures.added

pub returns-clause-step : goal.returns-clause-step
returns-clause-step c =
    construction_step c.trees.ensures.trees c.args.sig.now c.args.table.now c.add.new.table c.args.t c.args.c c.requires.case c.add.ensures.sound c.args.args c.requires.fields c.add.ensures.added

pub returns-clause-present : goal.returns-clause-present
returns-clause-present c = (c.in_ok-add.field-0.0, c.in_ok-add.ensures.stands)
