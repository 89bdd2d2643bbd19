use Rattle.std.proofs.Common.{◌≡◌, List, [], map, Some, Ok, Err, sym, ap, subst, ◌∙◌}
use Rattle.std.proofs.lemmas.Result.{err_from_is_err_and}
use Rattle.indexmap.specs.IndexMap.{get}
use Rattle.ct_formulas.specs.Formula.{bind}
use Rattle.ct_formulas.specs.TreeFormula.{formula_of}
use Rattle.ct_scope.specs.declared.bound.Bound.{Bound}
use Rattle.ct_scope.specs.declared.known.Called.{Called}
use Rattle.ct_scope.specs.Calling.{same_call, call_of, IsRecalled}
use Rattle.ct_scope.specs.Deferral.{ended, Defers}
use Rattle.ct_occurrence.specs.Marks.{worked_in}
use Rattle.ct_scope.specs.Compilable.{Compiles}
use Rattle.ct_scope.proofs.CallingLemmas.{state_with}
use Rattle.ct_compile.proofs.AttemptLemmas.{call_effect, call_makes, call_known, call_defers, call_lost, row_known}
use Rattle.ct_compile.proofs.deferring.compile_call_first.Goals as goal

pub notes_at-requires : goal.notes_at-requires
notes_at-requires c = record { known = let is = c.requires.call.1 in row_known (worked_in c.args.level.now.definitions.now) c.args.call.now.definition is.row is.at_row }

pub returns-in_err-term-clause-effect : goal.returns-in_err-term-clause-effect
returns-in_err-term-clause-effect c =
    let d = c.args.level.now.scope.now.sig in
    let bodies = map formula_of c.args.level.now.scope.now.bodies in
    let rows = worked_in c.args.level.now.definitions.now in
    let call = c.args.call.now in
    let old = c.args.table.now in
    let new = c.compile_tree.new.table in
    let body = formula_of c.body_at-body.result.now in
    let at = c.body_at-body.ensures.value in
    let inner_is : c.of-inner.result ≡ bind call.bounds [] = c.of-inner.ensures.bound ∙ ap (λ (xs : List Bound). bind xs []) (c.in_ok-bounds.ensures.items ∙ c.as_slice-2.ensures.value) in
    let p = err_from_is_err_and c.from_residual-in_err-term.result c.from_residual-in_err-term.ensures.1 in
    let one = subst (λ (xs : List Bound). Compiles d bodies call.definition.0 old new xs body (ended (Err c.in_err-term.field-0.0))) inner_is c.in_err-term.ensures.outcome in
    λ trees allowed h w. rw (p.1, p.2) (call_effect d bodies rows old call body at new _ one trees allowed h w)

pub returns-in_err-term-clause-waits : goal.returns-in_err-term-clause-waits
returns-in_err-term-clause-waits c =
    let d = c.args.level.now.scope.now.sig in
    let bodies = map formula_of c.args.level.now.scope.now.bodies in
    let rows = worked_in c.args.level.now.definitions.now in
    let call = c.args.call.now in
    let old = c.args.table.now in
    let new = c.compile_tree.new.table in
    let body = formula_of c.body_at-body.result.now in
    let at = c.body_at-body.ensures.value in
    let inner_is : c.of-inner.result ≡ bind call.bounds [] = c.of-inner.ensures.bound ∙ ap (λ (xs : List Bound). bind xs []) (c.in_ok-bounds.ensures.items ∙ c.as_slice-2.ensures.value) in
    let p = err_from_is_err_and c.from_residual-in_err-term.result c.from_residual-in_err-term.ensures.1 in
    let defers = subst (λ (xs : List Bound). Defers d bodies rows call.definition.0 old new xs body (Err c.in_err-term.field-0.0)) inner_is c.in_err-term.ensures.waits in
    λ trees h. rw (p.1, p.2) (call_defers d bodies rows old call body at new (Err c.in_err-term.field-0.0) defers trees h)

pub returns-in_err-remember-clause-effect : goal.returns-in_err-remember-clause-effect
returns-in_err-remember-clause-effect c =
    let d = c.args.level.now.scope.now.sig in
    let bodies = map formula_of c.args.level.now.scope.now.bodies in
    let rows = worked_in c.args.level.now.definitions.now in
    let call = c.args.call.now in
    let old = c.args.table.now in
    let new = c.compile_tree.new.table in
    let body = formula_of c.body_at-body.result.now in
    let at = c.body_at-body.ensures.value in
    let inner_is : c.of-inner.result ≡ bind call.bounds [] = c.of-inner.ensures.bound ∙ ap (λ (xs : List Bound). bind xs []) (c.in_ok-bounds.ensures.items ∙ c.as_slice-2.ensures.value) in
    let p = err_from_is_err_and c.from_residual-in_err-remember.result c.from_residual-in_err-remember.ensures.1 in
    let one = subst (λ (xs : List Bound). Compiles d bodies call.definition.0 old new xs body (Ok c.in_ok-term.term)) inner_is c.in_ok-term.ensures.outcome in
    λ trees allowed h w. rw (p.1, p.2) (call_lost d bodies rows old call body at new c.in_ok-term.term c.in_err-remember.field-0.0 c.in_err-remember.ensures.err one trees allowed h w)

pub returns-clause-effect : goal.returns-clause-effect
returns-clause-effect c =
    let d = c.args.level.now.scope.now.sig in
    let bodies = map formula_of c.args.level.now.scope.now.bodies in
    let rows = worked_in c.args.level.now.definitions.now in
    let call = c.args.call.now in
    let old = c.args.table.now in
    let new = c.compile_tree.new.table in
    let body = formula_of c.body_at-body.result.now in
    let at = c.body_at-body.ensures.value in
    let inner_is : c.of-inner.result ≡ bind call.bounds [] = c.of-inner.ensures.bound ∙ ap (λ (xs : List Bound). bind xs []) (c.in_ok-bounds.ensures.items ∙ c.as_slice-2.ensures.value) in
    let one = subst (λ (xs : List Bound). Compiles d bodies call.definition.0 old new xs body (Ok c.in_ok-term.term)) inner_is c.in_ok-term.ensures.outcome in
    λ trees allowed h w. call_effect d bodies rows old call body at new (Ok c.in_ok-term.term) one trees allowed h w

pub returns-clause-makes : goal.returns-clause-makes
returns-clause-makes c =
    let d = c.args.level.now.scope.now.sig in
    let bodies = map formula_of c.args.level.now.scope.now.bodies in
    let rows = worked_in c.args.level.now.definitions.now in
    let call = c.args.call.now in
    let old = c.args.table.now in
    let new = c.compile_tree.new.table in
    let body = formula_of c.body_at-body.result.now in
    let at = c.body_at-body.ensures.value in
    let inner_is : c.of-inner.result ≡ bind call.bounds [] = c.of-inner.ensures.bound ∙ ap (λ (xs : List Bound). bind xs []) (c.in_ok-bounds.ensures.items ∙ c.as_slice-2.ensures.value) in
    let one = subst (λ (xs : List Bound). Compiles d bodies call.definition.0 old new xs body (Ok c.in_ok-term.term)) inner_is c.in_ok-term.ensures.outcome in
    λ trees h. call_makes d bodies rows old call body at new (Ok c.in_ok-term.term) one trees h

pub returns-clause-state : goal.returns-clause-state
returns-clause-state c =
    let d = c.args.level.now.scope.now.sig in
    let bodies = map formula_of c.args.level.now.scope.now.bodies in
    let rows = worked_in c.args.level.now.definitions.now in
    let call = c.args.call.now in
    let old = c.args.table.now in
    let new = c.compile_tree.new.table in
    let body = formula_of c.body_at-body.result.now in
    let at = c.body_at-body.ensures.value in
    let inner_is : c.of-inner.result ≡ bind call.bounds [] = c.of-inner.ensures.bound ∙ ap (λ (xs : List Bound). bind xs []) (c.in_ok-bounds.ensures.items ∙ c.as_slice-2.ensures.value) in
    let key_is : c.in_ok-key.key ≡ call_of call.definition call.bounds = c.in_ok-key.ensures.call ∙ ap (call_of call.definition) c.as_slice.ensures.value in
    let one = subst (λ (xs : List Bound). Compiles d bodies call.definition.0 old new xs body (Ok c.in_ok-term.term)) inner_is c.in_ok-term.ensures.outcome in
    state_with d bodies rows call.definition.0 new c.compile_tree.new.known c.remember.new.known c.in_ok-key.key c.in_ok-term.term c.in_ok-term.ensures.state
    (subst (λ (x : Called). IsRecalled d bodies rows new x c.in_ok-term.term) (sym key_is) (call_known d bodies rows old call body at new c.in_ok-term.term one c.requires.call.0 c.requires.call.1))
    c.in_ok-remember.ensures.only

pub returns-clause-recorded : goal.returns-clause-recorded
returns-clause-recorded c =
    let call = c.args.call.now in
    let key_is : c.in_ok-key.key ≡ call_of call.definition call.bounds = c.in_ok-key.ensures.call ∙ ap (call_of call.definition) c.as_slice.ensures.value in
    subst (λ (x : Called). get same_call c.remember.new.known x ≡ Some c.in_ok-term.term) key_is c.in_ok-remember.ensures.recorded
