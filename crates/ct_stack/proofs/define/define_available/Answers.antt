use Rattle.std.proofs.Common.{◌≡◌, ◌≤◌, ◌∙◌, List, [], ◌∷◌, ◌++◌, ℕ, length, map, Result, Ok, Err, OnOk, OnErr, refl, ap, subst}
use Rattle.std.proofs.lemmas.Result.{err_from_is_err_and}
use Rattle.ct_lemmas.proofs.Options.{OnOk-map}
use Rattle.ct_sexpr.specs.View.{expression_of}
use Rattle.ct_sorts.specs.Declarations.{Declarations, most_definitions, with_definition}
use Rattle.ct_formulas.specs.declared.tree.Tree.{Tree}
use Rattle.ct_formulas.specs.Formula.{Formula}
use Rattle.ct_formulas.specs.TreeFormula.{formula_of}
use Rattle.ct_command.specs.Seen.{named_seen}
use Rattle.ct_stack.specs.Elaborations.{defined_function}
use Rattle.ct_stack.specs.Held.{IsDefined}
use Rattle.ct_stack.specs.Sorts.{definition_seen}
use Rattle.ct_stack.proofs.DefineLemmas.{step_refused, added_refused, added_accepted, added_ok, grown_after}
use Rattle.ct_stack.proofs.ErrorLemmas.{same_refusal}
use Rattle.ct_stack.proofs.define.define_available.Goals as goal

pub returns-in_err-definition-clause-refused : goal.returns-in_err-definition-clause-refused
returns-in_err-definition-clause-refused c =
    let d = c.args.scope.now.sig in
    let name = c.args.name.now in
    let p = err_from_is_err_and c.from_residual.result c.from_residual.ensures.1 in
    rw (p.1, p.2)
    (λ n e. step_refused c.stack_theorems.ensures.hold.add_same (λ d. defined_function d name (map named_seen c.args.params.now) (expression_of c.args.sort.now) (expression_of c.args.term.now)) d name name refl c.requires.available (λ later. most_definitions ≤ length later.definitions) c.defined_function.new.scope.sig n (c.in_err-definition.ensures.refused name n (same_refusal _ n e)))

pub returns-clause-ok : goal.returns-clause-ok
returns-clause-ok c =
    let d = c.args.scope.now.sig in
    let name = c.args.name.now in
    let mid = c.defined_function.new.scope in
    let new = c.add_definition.new.scope in
    let definition = c.in_ok-definition.definition in
    let before = map formula_of c.args.scope.now.bodies in
    let now = map formula_of new.bodies in
    let r = c.add_definition.result in
    added_ok c.stack_theorems.ensures.hold.add_same (λ d. defined_function d name (map named_seen c.args.params.now) (expression_of c.args.sort.now) (expression_of c.args.term.now)) d name c.in_ok-name.name c.in_ok-name.ensures.ok c.requires.available (λ later. most_definitions ≤ length later.definitions) mid.sig (definition_seen name definition) (c.in_ok-definition.ensures.ok name) (λ later f. IsDefined later new.sig before now f) r
    (OnOk-map r _ _
    (λ h. record {
      declared = h.0;
      bodies_are = h.1 ∙ ap (λ (bs : List Tree). map formula_of bs ++ formula_of definition.body ∷ []) c.in_ok-definition.ensures.bodies;
      sorted = c.in_ok-definition.ensures.sorted;
      consistent = c.sorts.ensures.consistent;
    })
    (subst (λ (m : List ℕ). OnOk r ((new.sig ≡ with_definition mid.sig (definition_seen m definition).0) × (now ≡ map formula_of mid.bodies ++ (definition_seen m definition).1 ∷ []))) c.in_ok-name.ensures.ok c.add_definition.ensures.ok))

pub returns-clause-accepted : goal.returns-clause-accepted
returns-clause-accepted c =
    let d = c.args.scope.now.sig in
    let name = c.args.name.now in
    added_accepted c.stack_theorems.ensures.hold.add_same (λ d. defined_function d name (map named_seen c.args.params.now) (expression_of c.args.sort.now) (expression_of c.args.term.now)) d name c.in_ok-name.name c.in_ok-name.ensures.ok c.requires.available (λ later. most_definitions ≤ length later.definitions) c.defined_function.new.scope.sig (definition_seen name c.in_ok-definition.definition) (c.in_ok-definition.ensures.ok name) c.add_definition.result c.add_definition.ensures.accepted

pub returns-clause-refused : goal.returns-clause-refused
returns-clause-refused c = λ n e.
    let d = c.args.scope.now.sig in
    let name = c.args.name.now in
    added_refused c.stack_theorems.ensures.hold.add_same (λ d. defined_function d name (map named_seen c.args.params.now) (expression_of c.args.sort.now) (expression_of c.args.term.now)) d name c.in_ok-name.name c.in_ok-name.ensures.ok c.requires.available (λ later. most_definitions ≤ length later.definitions) c.defined_function.new.scope.sig (definition_seen name c.in_ok-definition.definition) (c.in_ok-definition.ensures.ok name) n (c.add_definition.ensures.refused n e)

sig_back : {T E : Type 0} (r : Result T E) (P Q : Type 0) → OnErr r (P × Q) → OnErr r P
sig_back (Ok x) P Q h = tt
sig_back (Err e) P Q h = h.0

sig_ok : {T E : Type 0} (r : Result T E) (P Q : Type 0) → OnOk r (P × Q) → OnOk r P
sig_ok (Ok x) P Q h = h.0
sig_ok (Err e) P Q h = tt

pub returns-clause-grown : goal.returns-clause-grown
returns-clause-grown c =
    let mid = c.defined_function.new.scope.sig in
    let new = c.add_definition.new.scope in
    let f = (definition_seen c.in_ok-name.name c.in_ok-definition.definition).0 in
    let r = c.add_definition.result in
    grown_after r c.stack_theorems.ensures.hold new.sig mid c.args.scope.now.sig (with_definition mid f) (sig_ok r _ _ c.add_definition.ensures.ok) (sig_back r _ _ c.add_definition.ensures.unchanged) (c.stack_theorems.ensures.hold.more_definitions mid f) c.defined_function.ensures.grown

bodies_back : {T E : Type 0} (r : Result T E) (P : Type 0) (now mid old : List Tree) → mid ≡ old → OnErr r (P × (now ≡ mid)) → OnErr r (now ≡ old)
bodies_back (Ok x) P now mid old same h = tt
bodies_back (Err e) P now mid old same h = h.1 ∙ same

pub returns-clause-bodies : goal.returns-clause-bodies
returns-clause-bodies c =
    bodies_back c.add_definition.result (c.add_definition.new.scope.sig ≡ c.defined_function.new.scope.sig) c.add_definition.new.scope.bodies c.defined_function.new.scope.bodies c.args.scope.now.bodies c.defined_function.ensures.bodies c.add_definition.ensures.unchanged
