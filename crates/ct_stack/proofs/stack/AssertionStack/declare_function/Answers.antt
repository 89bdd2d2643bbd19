use Rattle.std.proofs.Common.{◌≡◌, ℕ, List, map, reverse, sym, subst, OnOk, OnErr, IsErrOf}
use Rattle.ct_sexpr.specs.View.{expression_of}
use Rattle.ct_sorts.specs.Declarations.{Declarations, with_function}
use Rattle.ct_formulas.specs.TreeFormula.{formula_of}
use Rattle.ct_formulas.specs.declared.tree.Tree.{Tree}
use Rattle.ct_command.specs.Seen.{all_seen}
use Rattle.ct_command.specs.declared.error.CommandError.TheVariants.{Refused}
use Rattle.ct_stack.specs.Stack.{declaring}
use Rattle.ct_stack.specs.Elaborations.{declared_function}
use Rattle.ct_stack.specs.Outcomes.{GivesNeeding}
use Rattle.ct_stack.specs.Refusal.{IsFunctionRefusal}
use Rattle.ct_stack.specs.Held.{level_in}
use Rattle.ct_stack.specs.Whole.{stack_of, AreHeld}
use Rattle.ct_stack.proofs.StackLemmas.{level, whole, declared_in, held_after_function, function_ok, declared_err}
use Rattle.ct_stack.proofs.stack.AssertionStack.declare_function.Goals as goal

pub invariant_of-self : goal.invariant_of-self
invariant_of-self c =
    let s = c.self.inside in
    let new = c.declare_function-declared.new.scope in
    record {
      held =
          subst (λ (bs : List Tree). AreHeld (whole new.sig (map formula_of bs) (map formula_of s.asserts.items) s.table s.numbers.items) (reverse s.levels.items)) (sym c.declare_function-declared.ensures.bodies)
          (held_after_function c.stack_theorems.ensures.hold new.sig s.scope.sig (map formula_of s.scope.bodies) (map formula_of s.asserts.items) s.table s.numbers.items (reverse s.levels.items) c.self.invariant.held c.sorts-2.ensures.consistent c.sorts.ensures.consistent c.declare_function-declared.result (λ d. declared_function d c.args.name.now (all_seen c.args.args.now) (expression_of c.args.sort.now)) c.declare_function-declared.ensures.ok c.declare_function-declared.ensures.unchanged c.growth.ensures.function);
      first_is = c.self.invariant.first_is;
      first_consistent = c.self.invariant.first_consistent;
      first_sorted = c.self.invariant.first_sorted;
    }

pub returns : goal.returns
returns c =
    let s = c.self.inside in
    let is : s.scope.sig ≡ c.args.self.now.top.context.declarations = declared_in (level_in s.scope s.asserts.items) (reverse s.levels.items) c.args.self.now c.self.view_is in
    let new = c.declare_function-declared.new.scope in
    let r = c.declare_function-declared.result in
    let name = c.args.name.now in
    let args = all_seen c.args.args.now in
    let sort = expression_of c.args.sort.now in
    record {
      ok = subst (λ (bs : List Tree). OnOk r (GivesNeeding (λ d. declared_function d name args sort) c.args.self.now.top.context.declarations (λ later f. stack_of (level new.sig (map formula_of bs) (map formula_of s.asserts.items)) (reverse s.levels.items) ≡ declaring c.args.self.now (with_function later f)))) (sym c.declare_function-declared.ensures.bodies)
          (function_ok c.stack_theorems.ensures.hold new.sig s.scope.sig (map formula_of s.scope.bodies) (map formula_of s.asserts.items) s.table s.numbers.items (reverse s.levels.items) c.self.invariant.held c.args.self.now c.self.view_is r (λ d. declared_function d name args sort) c.declare_function-declared.ensures.ok c.growth.ensures.function);
      accepted = subst (λ (d : Declarations). OnOk r ((n : ℕ) → IsFunctionRefusal d name args sort n → ⊥)) is c.declare_function-declared.ensures.accepted;
      refused = subst (λ (d : Declarations). (n : ℕ) → IsErrOf r (Refused n) → IsFunctionRefusal d name args sort n) is c.declare_function-declared.ensures.refused;
      unchanged = subst (λ (bs : List Tree). OnErr r (stack_of (level new.sig (map formula_of bs) (map formula_of s.asserts.items)) (reverse s.levels.items) ≡ c.args.self.now)) (sym c.declare_function-declared.ensures.bodies)
          (declared_err c.stack_theorems.ensures.hold new.sig s.scope.sig (map formula_of s.scope.bodies) (map formula_of s.asserts.items) s.table s.numbers.items (reverse s.levels.items) c.self.invariant.held c.args.self.now c.self.view_is r c.declare_function-declared.ensures.unchanged);
    }
