use Rattle.std.proofs.Common.{◌≡◌, ℕ, List, map, reverse, ap, subst, Result, Ok, Err, OnOk, OnErr, IsErrOf}
use Rattle.ct_sexpr.specs.View.{expression_of}
use Rattle.ct_sorts.specs.Declarations.{Declarations}
use Rattle.ct_formulas.specs.TreeFormula.{formula_of}
use Rattle.ct_formulas.specs.declared.tree.Tree.{Tree}
use Rattle.ct_command.specs.Seen.{named_seen}
use Rattle.ct_command.specs.declared.error.CommandError.TheVariants.{Refused}
use Rattle.ct_stack.specs.Elaborations.{defined_function}
use Rattle.ct_stack.specs.Refusal.{IsDefinitionRefusal}
use Rattle.ct_stack.specs.Held.{level_in}
use Rattle.ct_stack.proofs.StackLemmas.{declared_in, held_after_definition, definition_ok, definition_err}
use Rattle.ct_stack.proofs.stack.AssertionStack.define_function.Goals as goal

formulas_stay : {T E : Type 0} (r : Result T E) (later earlier : Declarations) (now before : List Tree) → OnErr r ((later ≡ earlier) × (now ≡ before)) → OnErr r ((later ≡ earlier) × (map formula_of now ≡ map formula_of before))
formulas_stay (Ok x) later earlier now before h = tt
formulas_stay (Err e) later earlier now before h = (h.0, ap (λ (ts : List Tree). map formula_of ts) h.1)

pub invariant_of-self : goal.invariant_of-self
invariant_of-self c =
    let s = c.self.inside in
    let new = c.define_function-defined.new.scope in
    let r = c.define_function-defined.result in
    record {
      held = held_after_definition c.stack_theorems.ensures.hold new.sig s.scope.sig (map formula_of s.scope.bodies) (map formula_of s.asserts.items) s.table s.numbers.items (reverse s.levels.items) c.self.invariant.held c.sorts-2.ensures.consistent c.sorts.ensures.consistent r (λ d. defined_function d c.args.name.now (map named_seen c.args.params.now) (expression_of c.args.sort.now) (expression_of c.args.term.now)) (map formula_of new.bodies) c.define_function-defined.ensures.ok (formulas_stay r new.sig s.scope.sig new.bodies s.scope.bodies c.define_function-defined.ensures.unchanged) c.growth.ensures.definition;
      first_is = c.self.invariant.first_is;
      first_consistent = c.self.invariant.first_consistent;
      first_sorted = c.self.invariant.first_sorted;
    }

pub returns : goal.returns
returns c =
    let s = c.self.inside in
    let is : s.scope.sig ≡ c.args.self.now.top.context.declarations = declared_in (level_in s.scope s.asserts.items) (reverse s.levels.items) c.args.self.now c.self.view_is in
    let new = c.define_function-defined.new.scope in
    let r = c.define_function-defined.result in
    let name = c.args.name.now in
    let params = map named_seen c.args.params.now in
    let sort = expression_of c.args.sort.now in
    let term = expression_of c.args.term.now in
    record {
      ok = definition_ok c.stack_theorems.ensures.hold new.sig s.scope.sig (map formula_of s.scope.bodies) (map formula_of s.asserts.items) s.table s.numbers.items (reverse s.levels.items) c.self.invariant.held c.args.self.now c.self.view_is r (λ d. defined_function d name params sort term) (map formula_of new.bodies) c.define_function-defined.ensures.ok c.growth.ensures.definition;
      accepted = subst (λ (d : Declarations). OnOk r ((n : ℕ) → IsDefinitionRefusal d name params sort term n → ⊥)) is c.define_function-defined.ensures.accepted;
      refused = subst (λ (d : Declarations). (n : ℕ) → IsErrOf r (Refused n) → IsDefinitionRefusal d name params sort term n) is c.define_function-defined.ensures.refused;
      unchanged = definition_err c.stack_theorems.ensures.hold new.sig s.scope.sig (map formula_of s.scope.bodies) (map formula_of s.asserts.items) s.table s.numbers.items (reverse s.levels.items) c.self.invariant.held c.args.self.now c.self.view_is r (map formula_of new.bodies) (formulas_stay r new.sig s.scope.sig new.bodies s.scope.bodies c.define_function-defined.ensures.unchanged);
    }
