use Rattle.std.proofs.Common.{◌≡◌, ℕ, List, map, reverse, All, IfOk, OnOk, OnErr, IsErrOf, Err, refl, sym, subst}
use Rattle.ct_sorts.specs.Declarations.{Declarations}
use Rattle.ct_formulas.specs.TreeFormula.{formula_of}
use Rattle.ct_formulas.specs.declared.tree.Tree.{Tree}
use Rattle.ct_names.specs.Needs.{Grows, ComesTo}
use Rattle.ct_command.specs.Seen.{all_seen}
use Rattle.ct_command.specs.declared.error.CommandError.TheVariants.{Refused}
use Rattle.ct_stack.specs.Assuming.{assumptions, IsTruth}
use Rattle.ct_stack.specs.Held.{level_in}
use Rattle.ct_stack.specs.Stack.{Stack, declaring}
use Rattle.ct_stack.specs.Whole.{stack_of, AreHeld}
use Rattle.ct_stack.proofs.AssumingLemmas.{assumed_grows, assumes}
use Rattle.ct_stack.proofs.StackLemmas.{level, whole, declared_in, held_after_change, declared_after, declared_err}
use Rattle.ct_stack.proofs.stack.AssertionStack.assume_here.Goals as goal

pub invariant_of-self : goal.invariant_of-self
invariant_of-self c =
    let s = c.self.inside in
    let new = c.assumptions-assumed.new.scope in
    let r = c.assumptions-assumed.result in
    let grows = assumed_grows (all_seen c.args.terms.now) s.scope.sig new.sig r c.assumptions-assumed.ensures.ok in
    record {
      held =
          subst (λ (bs : List Tree). AreHeld (whole new.sig (map formula_of bs) (map formula_of s.asserts.items) s.table s.numbers.items) (reverse s.levels.items)) (sym c.assumptions-assumed.ensures.bodies)
          (held_after_change c.stack_theorems.ensures.hold new.sig s.scope.sig (map formula_of s.scope.bodies) (map formula_of s.asserts.items) s.table s.numbers.items (reverse s.levels.items) c.self.invariant.held c.sorts-2.ensures.consistent c.sorts.ensures.consistent r (λ d. Grows d s.scope.sig) grows c.assumptions-assumed.ensures.unchanged (λ d g. g.extends) (λ d g. g.definitions));
      first_is = c.self.invariant.first_is;
      first_consistent = c.self.invariant.first_consistent;
      first_sorted = c.self.invariant.first_sorted;
    }

pub returns : goal.returns
returns c =
    let s = c.self.inside in
    let stack = c.args.self.now in
    let is : s.scope.sig ≡ stack.top.context.declarations = declared_in (level_in s.scope s.asserts.items) (reverse s.levels.items) stack c.self.view_is in
    let new = c.assumptions-assumed.new.scope in
    let r = c.assumptions-assumed.result in
    let ts = all_seen c.args.terms.now in
    let grows = assumed_grows ts s.scope.sig new.sig r c.assumptions-assumed.ensures.ok in
    let last = stack_of (level_in new s.asserts.items) (reverse s.levels.items) in
    let declared = subst (λ (bs : List Tree). OnOk r (stack_of (level new.sig (map formula_of bs) (map formula_of s.asserts.items)) (reverse s.levels.items) ≡ declaring stack new.sig)) (sym c.assumptions-assumed.ensures.bodies)
    (declared_after c.stack_theorems.ensures.hold new.sig s.scope.sig (map formula_of s.scope.bodies) (map formula_of s.asserts.items) s.table s.numbers.items (reverse s.levels.items) c.self.invariant.held stack c.self.view_is r (λ d. Grows d s.scope.sig) grows (λ d g. g.extends))
    in
    let own : new.sig ≡ last.top.context.declarations = declared_in (level_in new s.asserts.items) (reverse s.levels.items) last refl in
    record {
      ok = assumes ts stack last s.scope.sig new.sig is r c.assumptions-assumed.ensures.ok declared;
      refused = subst (λ (d : Declarations). (n : ℕ) → IsErrOf r (Refused n) → (later : Declarations) × ComesTo (λ k. assumptions k ts) d later (Err n)) is c.assumptions-assumed.ensures.refused;
      sorted = subst (λ (d : Declarations). IfOk r (λ assumed. All (IsTruth d) assumed.items)) own c.assumptions-assumed.ensures.sorted;
      unchanged = subst (λ (bs : List Tree). OnErr r (stack_of (level new.sig (map formula_of bs) (map formula_of s.asserts.items)) (reverse s.levels.items) ≡ stack)) (sym c.assumptions-assumed.ensures.bodies)
          (declared_err c.stack_theorems.ensures.hold new.sig s.scope.sig (map formula_of s.scope.bodies) (map formula_of s.asserts.items) s.table s.numbers.items (reverse s.levels.items) c.self.invariant.held stack c.self.view_is r c.assumptions-assumed.ensures.unchanged);
    }
