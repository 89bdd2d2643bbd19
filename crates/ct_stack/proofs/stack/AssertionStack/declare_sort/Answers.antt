use Rattle.std.proofs.Common.{◌≡◌, ℕ, map, reverse, subst, OnOk, IsErrOf}
use Rattle.ct_sorts.specs.Declarations.{Declarations}
use Rattle.ct_formulas.specs.TreeFormula.{formula_of}
use Rattle.ct_command.specs.declared.error.CommandError.TheVariants.{Refused}
use Rattle.ct_stack.specs.Elaborations.{with_free}
use Rattle.ct_stack.specs.Refusal.{IsSortRefusal}
use Rattle.ct_stack.specs.Held.{level_in}
use Rattle.ct_stack.proofs.SortLemmas.{free_extends, free_same}
use Rattle.ct_stack.proofs.StackLemmas.{declared_in, held_after, declared_ok, declared_err}
use Rattle.ct_stack.proofs.stack.AssertionStack.declare_sort.Goals as goal

pub invariant_of-self : goal.invariant_of-self
invariant_of-self c =
    let s = c.self.inside in
    let d = s.scope.sig in
    let name = c.args.name.now in
    let params = c.args.params in
    record {
      held = held_after c.stack_theorems.ensures.hold c.declare_sort-declared.new.sig d (map formula_of s.scope.bodies) (map formula_of s.asserts.items) s.table s.numbers.items (reverse s.levels.items) c.self.invariant.held c.sorts-2.ensures.consistent c.sorts.ensures.consistent c.declare_sort-declared.result (with_free d name params) c.declare_sort-declared.ensures.ok c.declare_sort-declared.ensures.unchanged (free_extends c.growth.ensures.sort c.growth.ensures.head d name params) (free_same d name params);
      first_is = c.self.invariant.first_is;
      first_consistent = c.self.invariant.first_consistent;
      first_sorted = c.self.invariant.first_sorted;
    }

pub returns : goal.returns
returns c =
    let s = c.self.inside in
    let is : s.scope.sig ≡ c.args.self.now.top.context.declarations = declared_in (level_in s.scope s.asserts.items) (reverse s.levels.items) c.args.self.now c.self.view_is in
    let r = c.declare_sort-declared.result in
    let name = c.args.name.now in
    let params = c.args.params in
    record {
      ok = declared_ok c.stack_theorems.ensures.hold c.declare_sort-declared.new.sig s.scope.sig (map formula_of s.scope.bodies) (map formula_of s.asserts.items) s.table s.numbers.items (reverse s.levels.items) c.self.invariant.held c.args.self.now c.self.view_is r (λ d. with_free d name params) c.declare_sort-declared.ensures.ok (free_extends c.growth.ensures.sort c.growth.ensures.head s.scope.sig name params);
      accepted = subst (λ (d : Declarations). OnOk r ((n : ℕ) → IsSortRefusal d name n → ⊥)) is c.declare_sort-declared.ensures.accepted;
      refused = subst (λ (d : Declarations). (n : ℕ) → IsErrOf r (Refused n) → IsSortRefusal d name n) is c.declare_sort-declared.ensures.refused;
      unchanged = declared_err c.stack_theorems.ensures.hold c.declare_sort-declared.new.sig s.scope.sig (map formula_of s.scope.bodies) (map formula_of s.asserts.items) s.table s.numbers.items (reverse s.levels.items) c.self.invariant.held c.args.self.now c.self.view_is r c.declare_sort-declared.ensures.unchanged;
    }
