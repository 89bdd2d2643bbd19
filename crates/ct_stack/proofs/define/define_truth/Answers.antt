use Rattle.std.proofs.Common.{sym, ap, ◌∙◌}
use Rattle.std.proofs.lemmas.Result.{err_from_is_err_and}
use Rattle.ct_sorts.specs.Lengths.{Lengths}
use Rattle.ct_stack.proofs.ErrorLemmas.{same_refusal}
use Rattle.ct_stack.proofs.LabelLemmas.{label_sorted, own_refusal, lone_definition}
use Rattle.ct_stack.proofs.define.define_truth.Goals as goal

pub returns-in_err-add_definition-clause-refused : goal.returns-in_err-add_definition-clause-refused
returns-in_err-add_definition-clause-refused c =
    let p = err_from_is_err_and c.from_residual-in_err-add_definition.result c.from_residual-in_err-add_definition.ensures.1 in
    rw (p.1, p.2)
    (λ n e. own_refusal c.args.scope.now.sig c.args.name.now c.in_ok-name.name n c.in_ok-name.ensures.ok (c.in_err-add_definition.ensures.refused n (same_refusal _ n e)))

pub returns-clause-sorted : goal.returns-clause-sorted
returns-clause-sorted c =
    let number = c.defs.ensures.value ∙ ap (λ (l : Lengths). l.definitions) c.mark.ensures.lengths in
    label_sorted c.args.name.now c.in_ok-name.name c.new.result.items c.in_ok-name.ensures.ok c.new.ensures.items c.args.scope.now.sig c.add_definition.new.scope.sig c.defs.result _ c.in_ok-add_definition.ensures.ok.0 number (lone_definition (record { 0 = c.defs.result }) c.new-2.result c.new-2.ensures.items)

pub returns-clause-accepted : goal.returns-clause-accepted
returns-clause-accepted c = λ n h.
    c.in_ok-add_definition.ensures.accepted n (own_refusal c.args.scope.now.sig c.in_ok-name.name c.args.name.now n (sym c.in_ok-name.ensures.ok) h)
