use Rattle.std.proofs.Common.{◌-◌, suc, length, map, sym, arith}
use Rattle.ct_formulas.specs.TreeFormula.{formula_of}
use Rattle.ct_occurrence.specs.Marks.{worked_in}
use Rattle.ct_scope.specs.Compilable.{compiled_calls}
use Rattle.ct_scope.proofs.CallingLemmas.{state_below}
use Rattle.ct_operators.proofs.WithinLemmas.{within_subtrees}
use Rattle.ct_compile.proofs.AttemptLemmas.{called_makes, called_waits, closed_effect, closed_makes, closed_waits, closed_all, last_known, last_none}
use Rattle.ct_compile.proofs.deferring.attempt.Goals as goal

pub compile_call_first-requires-clause-state : goal.compile_call_first-requires-clause-state
compile_call_first-requires-clause-state c =
    let d = c.args.level.now.scope.now.sig in
    let bodies = map formula_of c.args.level.now.scope.now.bodies in
    let rows = worked_in c.args.level.now.definitions.now in
    let n = c.args.level.now.below in
    let t = formula_of c.args.tree.now in
    let old = c.args.table.now in
    let call = c.call-item.result in
    let w = c.requires.waiting call (length c.args.calls.now - 1, omega (arith, c.in-len1-up.len_at_least), sym c.call-item.is) in
    let below = w.below in
    state_below d bodies rows call.definition.0 n old c.args.known.now c.requires.ready.3.setting.sound (omega (arith, below)) c.requires.state

pub compile_call_first-requires-clause-call : goal.compile_call_first-requires-clause-call
compile_call_first-requires-clause-call c =
    let call = c.call-item.result in
    let w = c.requires.waiting call (length c.args.calls.now - 1, omega (arith, c.in-len1-up.len_at_least), sym c.call-item.is) in
    (w.trees, w.is_call)

pub returns-in-empty-clause-effect : goal.returns-in-empty-clause-effect
returns-in-empty-clause-effect c =
    let d = c.args.level.now.scope.now.sig in
    let bodies = map formula_of c.args.level.now.scope.now.bodies in
    let rows = worked_in c.args.level.now.definitions.now in
    let n = c.args.level.now.below in
    let t = formula_of c.args.tree.now in
    let old = c.args.table.now in
    closed_effect d bodies rows n t old c.compile_tree.new.table c.requires.ready c.compile_tree.result (rw c.new-outside.ensures.empty at c.compile_tree.ensures.outcome)

pub returns-in-empty-clause-makes : goal.returns-in-empty-clause-makes
returns-in-empty-clause-makes c =
    let d = c.args.level.now.scope.now.sig in
    let bodies = map formula_of c.args.level.now.scope.now.bodies in
    let rows = worked_in c.args.level.now.definitions.now in
    let n = c.args.level.now.below in
    let t = formula_of c.args.tree.now in
    let old = c.args.table.now in
    closed_makes d bodies rows n t old c.compile_tree.new.table c.requires.ready c.compile_tree.result (rw c.new-outside.ensures.empty at c.compile_tree.ensures.outcome) (rw c.new-outside.ensures.empty at c.compile_tree.ensures.waits)

pub returns-in-empty-clause-waits : goal.returns-in-empty-clause-waits
returns-in-empty-clause-waits c =
    let d = c.args.level.now.scope.now.sig in
    let bodies = map formula_of c.args.level.now.scope.now.bodies in
    let rows = worked_in c.args.level.now.definitions.now in
    let n = c.args.level.now.below in
    let t = formula_of c.args.tree.now in
    let old = c.args.table.now in
    closed_waits d bodies rows n t old c.compile_tree.new.table c.requires.ready c.compile_tree.result (rw c.new-outside.ensures.empty at c.compile_tree.ensures.outcome) (rw c.new-outside.ensures.empty at c.compile_tree.ensures.waits)

pub returns-in-empty-clause-all : goal.returns-in-empty-clause-all
returns-in-empty-clause-all c =
    let d = c.args.level.now.scope.now.sig in
    let bodies = map formula_of c.args.level.now.scope.now.bodies in
    let rows = worked_in c.args.level.now.definitions.now in
    let n = c.args.level.now.below in
    let t = formula_of c.args.tree.now in
    let old = c.args.table.now in
    λ e. closed_all d bodies rows n t old c.compile_tree.new.table c.requires.ready c.compile_tree.result (rw c.new-outside.ensures.empty at c.compile_tree.ensures.outcome)

pub returns-in-len1-up-clause-effect : goal.returns-in-len1-up-clause-effect
returns-in-len1-up-clause-effect c =
    let call = c.call-item.result in
    let w = c.requires.waiting call (length c.args.calls.now - 1, omega (arith, c.in-len1-up.len_at_least), sym c.call-item.is) in
    λ allowed a. c.compile_call_first.ensures.effect w.trees allowed w.is_call (w.within allowed a)

pub returns-in-len1-up-clause-makes : goal.returns-in-len1-up-clause-makes
returns-in-len1-up-clause-makes c =
    let d = c.args.level.now.scope.now.sig in
    let bodies = map formula_of c.args.level.now.scope.now.bodies in
    let rows = worked_in c.args.level.now.definitions.now in
    let n = c.args.level.now.below in
    let t = formula_of c.args.tree.now in
    let old = c.args.table.now in
    let call = c.call-item.result in
    let w = c.requires.waiting call (length c.args.calls.now - 1, omega (arith, c.in-len1-up.len_at_least), sym c.call-item.is) in
    called_makes d bodies rows n t old c.compile_call_first.new.table call w c.compile_call_first.result (c.compile_call_first.ensures.makes w.trees w.is_call) (c.compile_call_first.ensures.waits w.trees w.is_call)

pub returns-in-len1-up-clause-waits : goal.returns-in-len1-up-clause-waits
returns-in-len1-up-clause-waits c =
    let d = c.args.level.now.scope.now.sig in
    let bodies = map formula_of c.args.level.now.scope.now.bodies in
    let rows = worked_in c.args.level.now.definitions.now in
    let n = c.args.level.now.below in
    let t = formula_of c.args.tree.now in
    let old = c.args.table.now in
    let call = c.call-item.result in
    let w = c.requires.waiting call (length c.args.calls.now - 1, omega (arith, c.in-len1-up.len_at_least), sym c.call-item.is) in
    let effect = c.compile_call_first.ensures.effect w.trees _ w.is_call (within_subtrees (compiled_calls d bodies (suc call.definition.0) call.definition w.trees)) in
    called_waits d bodies rows n t old c.compile_call_first.new.table call w c.compile_call_first.result effect.kept (c.compile_call_first.ensures.waits w.trees w.is_call)

pub returns-in-empty-clause-recorded : goal.returns-in-empty-clause-recorded
returns-in-empty-clause-recorded c =
    last_none c.compile_tree.new.known c.args.calls.now c.in-empty.len_below c.compile_tree.result

pub returns-in-len1-up-clause-recorded : goal.returns-in-len1-up-clause-recorded
returns-in-len1-up-clause-recorded c =
    last_known c.compile_call_first.new.known c.args.calls.now c.call-item.result c.call-item.is c.compile_call_first.result c.compile_call_first.ensures.recorded
