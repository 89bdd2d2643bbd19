use Rattle.std.proofs.Common.{sym, subst, ◌∙◌}
use Rattle.ct_sexpr.specs.View.{expression_of, expressions_of}
use Rattle.ct_eval.specs.declared.interp.Table.{Table}
use Rattle.ct_readback.specs.declared.item.Part.{Part}
use Rattle.ct_readback.specs.ItemAt.{values_in, SaysTable}
use Rattle.ct_readback.specs.Said.{IsPart, IsTableOf}
use Rattle.ct_readback.proofs.DueLemmas.{due_by}
use Rattle.ct_readback.proofs.ReadLemmas.{text_by, read_no_item, read_no_parts, read_no_heading, read_misfit, read_cycle, read_fine}
use Rattle.ct_readback.proofs.item.read_item.Goals as goal

pub returns-in_default-clause-read : goal.returns-in_default-clause-read
returns-in_default-clause-read c =
    read_no_item c.args.sig.now c.args.graph.now (due_by c.args.off c.args.due_name.now c.args.args.now c.args.s) (expression_of c.args.item.now) c.in_default.ensures.value

pub returns-then-not-has_parts-clause-read : goal.returns-then-not-has_parts-clause-read
returns-then-not-has_parts-clause-read c =
    let due = due_by c.args.off c.args.due_name.now c.args.args.now c.args.s in
    let text = text_by (expression_of c.in-Some.name.now) (expressions_of c.in-Some.parameters.now) (expression_of c.in-Some.sort.now) (expression_of c.in-Some.body.now) in
    read_no_parts c.args.sig.now c.args.graph.now due (expression_of c.args.item.now) text c.in-Some.ensures.value (sym c.has_parts.ensures.value ∙ c.if-not-has_parts.true)

pub returns-then-not-is_heading-clause-read : goal.returns-then-not-is_heading-clause-read
returns-then-not-is_heading-clause-read c =
    let due = due_by c.args.off c.args.due_name.now c.args.args.now c.args.s in
    let text = text_by (expression_of c.in-Some.name.now) (expressions_of c.in-Some.parameters.now) (expression_of c.in-Some.sort.now) (expression_of c.in-Some.body.now) in
    read_no_heading c.args.sig.now c.args.graph.now due (expression_of c.args.item.now) text c.in-Some.ensures.value (sym c.has_parts.ensures.value ∙ c.if-not-has_parts.false)
    (sym c.is_heading.ensures.value ∙ c.if-not-is_heading.true)

pub returns-in-Misfit-clause-read : goal.returns-in-Misfit-clause-read
returns-in-Misfit-clause-read c =
    let d = c.args.sig.now in
    let g = c.read_body.new.graph in
    let due = due_by c.args.off c.args.due_name.now c.args.args.now c.args.s in
    let text = text_by (expression_of c.in-Some.name.now) (expressions_of c.in-Some.parameters.now) (expression_of c.in-Some.sort.now) (expression_of c.in-Some.body.now) in
    read_misfit d g due (expression_of c.args.item.now) text c.in-Some.ensures.value (sym c.has_parts.ensures.value ∙ c.if-not-has_parts.false) (sym c.is_heading.ensures.value ∙ c.if-not-is_heading.false)
    (subst (λ (x : Part Table). IsPart d (SaysTable d due.args due.result text.body) values_in (IsTableOf d g due.args due.result) x) c.in-Misfit.is c.in_ok-read_body.ensures.table)

pub returns-in-Cycle-clause-read : goal.returns-in-Cycle-clause-read
returns-in-Cycle-clause-read c =
    let d = c.args.sig.now in
    let g = c.read_body.new.graph in
    let due = due_by c.args.off c.args.due_name.now c.args.args.now c.args.s in
    let text = text_by (expression_of c.in-Some.name.now) (expressions_of c.in-Some.parameters.now) (expression_of c.in-Some.sort.now) (expression_of c.in-Some.body.now) in
    read_cycle d g due (expression_of c.args.item.now) text c.in-Some.ensures.value (sym c.has_parts.ensures.value ∙ c.if-not-has_parts.false) (sym c.is_heading.ensures.value ∙ c.if-not-is_heading.false)
    (subst (λ (x : Part Table). IsPart d (SaysTable d due.args due.result text.body) values_in (IsTableOf d g due.args due.result) x) c.in-Cycle.is c.in_ok-read_body.ensures.table)

pub returns-in-Fine-clause-read : goal.returns-in-Fine-clause-read
returns-in-Fine-clause-read c =
    let d = c.args.sig.now in
    let g = c.read_body.new.graph in
    let due = due_by c.args.off c.args.due_name.now c.args.args.now c.args.s in
    let text = text_by (expression_of c.in-Some.name.now) (expressions_of c.in-Some.parameters.now) (expression_of c.in-Some.sort.now) (expression_of c.in-Some.body.now) in
    read_fine d g due (expression_of c.args.item.now) text c.in-Some.ensures.value (sym c.has_parts.ensures.value ∙ c.if-not-has_parts.false) (sym c.is_heading.ensures.value ∙ c.if-not-is_heading.false) c.in-Fine.table
    (subst (λ (x : Part Table). IsPart d (SaysTable d due.args due.result text.body) values_in (IsTableOf d g due.args due.result) x) c.in-Fine.is c.in_ok-read_body.ensures.table)
