use Rattle.std.proofs.Common.{◌≡◌, ℕ, map, reverse, subst, OnOk, IsErrOf}
use Rattle.ct_sorts.specs.Declarations.{Declarations}
use Rattle.ct_formulas.specs.TreeFormula.{formula_of}
use Rattle.ct_command.specs.Seen.{head_seen, body_seen}
use Rattle.ct_command.specs.declared.error.CommandError.TheVariants.{Refused}
use Rattle.ct_stack.specs.Elaborations.{IsWithTypes}
use Rattle.ct_stack.specs.Refusal.{IsTypesRefusal}
use Rattle.ct_stack.specs.Held.{level_in}
use Rattle.ct_stack.proofs.SortLemmas.{types_extends, types_same}
use Rattle.ct_stack.proofs.StackLemmas.{declared_in, held_after_change, change_ok, declared_err}
use Rattle.ct_stack.proofs.stack.AssertionStack.declare_block.Goals as goal

pub invariant_of-self : goal.invariant_of-self
invariant_of-self c =
    let s = c.self.inside in
    let d = s.scope.sig in
    let family = c.args.family in
    let heads = map head_seen c.args.heads.now in
    let bodies = map body_seen c.args.bodies.now in
    record {
      held = held_after_change c.stack_theorems.ensures.hold c.declare_block-declared.new.sig d (map formula_of s.scope.bodies) (map formula_of s.asserts.items) s.table s.numbers.items (reverse s.levels.items) c.self.invariant.held c.sorts-2.ensures.consistent c.sorts.ensures.consistent c.declare_block-declared.result (λ later. IsWithTypes d family heads bodies later) c.declare_block-declared.ensures.ok c.declare_block-declared.ensures.unchanged (λ later. types_extends c.growth.ensures.block d later family heads bodies) (λ later. types_same d later family heads bodies);
      first_is = c.self.invariant.first_is;
      first_consistent = c.self.invariant.first_consistent;
      first_sorted = c.self.invariant.first_sorted;
    }

pub returns : goal.returns
returns c =
    let s = c.self.inside in
    let is : s.scope.sig ≡ c.args.self.now.top.context.declarations = declared_in (level_in s.scope s.asserts.items) (reverse s.levels.items) c.args.self.now c.self.view_is in
    let r = c.declare_block-declared.result in
    let family = c.args.family in
    let heads = map head_seen c.args.heads.now in
    let bodies = map body_seen c.args.bodies.now in
    record {
      ok = change_ok c.stack_theorems.ensures.hold c.declare_block-declared.new.sig s.scope.sig (map formula_of s.scope.bodies) (map formula_of s.asserts.items) s.table s.numbers.items (reverse s.levels.items) c.self.invariant.held c.args.self.now c.self.view_is r (λ d later. IsWithTypes d family heads bodies later) c.declare_block-declared.ensures.ok (λ later. types_extends c.growth.ensures.block s.scope.sig later family heads bodies);
      accepted = subst (λ (d : Declarations). OnOk r ((n : ℕ) → IsTypesRefusal d family heads bodies n → ⊥)) is c.declare_block-declared.ensures.accepted;
      refused = subst (λ (d : Declarations). (n : ℕ) → IsErrOf r (Refused n) → IsTypesRefusal d family heads bodies n) is c.declare_block-declared.ensures.refused;
      unchanged = declared_err c.stack_theorems.ensures.hold c.declare_block-declared.new.sig s.scope.sig (map formula_of s.scope.bodies) (map formula_of s.asserts.items) s.table s.numbers.items (reverse s.levels.items) c.self.invariant.held c.args.self.now c.self.view_is r c.declare_block-declared.ensures.unchanged;
    }
