use Rattle.std.proofs.Common.{◌≡◌, ◌≤◌, Vec, Global, List, ℕ, length, OnOk, refl, subst}
use Rattle.std.proofs.lemmas.Result.{err_from_is_err_and}
use Rattle.ct_sexpr.specs.View.{expression_of}
use Rattle.ct_sorts.specs.declared.ids.SortId.{SortId}
use Rattle.ct_sorts.specs.Declarations.{Declarations, Function, most_functions, with_function}
use Rattle.ct_command.specs.Seen.{all_seen}
use Rattle.ct_stack.specs.Elaborations.{declared_function}
use Rattle.ct_stack.specs.Sorts.{function_seen}
use Rattle.ct_stack.proofs.DefineLemmas.{step_refused, added_refused, added_accepted, added_ok, grown_after}
use Rattle.ct_stack.proofs.ErrorLemmas.{same_refusal}
use Rattle.ct_stack.proofs.function.declare_available.Goals as goal

pub returns-in_err-args-clause-refused : goal.returns-in_err-args-clause-refused
returns-in_err-args-clause-refused c =
    let d = c.args.scope.now.sig in
    let name = c.args.name.now in
    let p = err_from_is_err_and c.from_residual.result c.from_residual.ensures.1 in
    rw (p.1, p.2)
    (λ n e. step_refused c.stack_theorems.ensures.hold.add_same (λ d. declared_function d name (all_seen c.args.args.now) (expression_of c.args.sort.now)) d name name refl c.requires.available (λ later. most_functions ≤ length later.functions) c.declared_function.new.scope.sig n (c.in_err-args.ensures.refused name n (same_refusal _ n e)))

pub returns-clause-ok : goal.returns-clause-ok
returns-clause-ok c =
    let d = c.args.scope.now.sig in
    let name = c.args.name.now in
    let mid = c.declared_function.new.scope.sig in
    let new = c.add_function.new.sig in
    let f : Vec SortId Global × SortId = (c.in_ok-args.args, c.in_ok-args.sort) in
    let r = c.add_function.result in
    added_ok c.stack_theorems.ensures.hold.add_same (λ d. declared_function d name (all_seen c.args.args.now) (expression_of c.args.sort.now)) d name c.in_ok-name.name c.in_ok-name.ensures.ok c.requires.available (λ later. most_functions ≤ length later.functions) mid (function_seen name f) (c.in_ok-args.ensures.ok name) (λ later g. new ≡ with_function later g) r
    (subst (λ (m : List ℕ). OnOk r (new ≡ with_function mid (function_seen m f))) c.in_ok-name.ensures.ok c.add_function.ensures.ok)

pub returns-clause-accepted : goal.returns-clause-accepted
returns-clause-accepted c =
    let d = c.args.scope.now.sig in
    let name = c.args.name.now in
    added_accepted c.stack_theorems.ensures.hold.add_same (λ d. declared_function d name (all_seen c.args.args.now) (expression_of c.args.sort.now)) d name c.in_ok-name.name c.in_ok-name.ensures.ok c.requires.available (λ later. most_functions ≤ length later.functions) c.declared_function.new.scope.sig (function_seen name (c.in_ok-args.args, c.in_ok-args.sort)) (c.in_ok-args.ensures.ok name) c.add_function.result c.add_function.ensures.accepted

pub returns-clause-refused : goal.returns-clause-refused
returns-clause-refused c = λ n e.
    let d = c.args.scope.now.sig in
    let name = c.args.name.now in
    added_refused c.stack_theorems.ensures.hold.add_same (λ d. declared_function d name (all_seen c.args.args.now) (expression_of c.args.sort.now)) d name c.in_ok-name.name c.in_ok-name.ensures.ok c.requires.available (λ later. most_functions ≤ length later.functions) c.declared_function.new.scope.sig (function_seen name (c.in_ok-args.args, c.in_ok-args.sort)) (c.in_ok-args.ensures.ok name) n (c.add_function.ensures.refused n e)

pub returns-clause-grown : goal.returns-clause-grown
returns-clause-grown c =
    let mid = c.declared_function.new.scope.sig in
    let f : Function = record { name = c.in_ok-name.name; args = c.in_ok-args.args.items; result = c.in_ok-args.sort } in
    grown_after c.add_function.result c.stack_theorems.ensures.hold c.add_function.new.sig mid c.args.scope.now.sig (with_function mid f) c.add_function.ensures.ok c.add_function.ensures.unchanged (c.stack_theorems.ensures.hold.more_functions mid f) c.declared_function.ensures.grown
