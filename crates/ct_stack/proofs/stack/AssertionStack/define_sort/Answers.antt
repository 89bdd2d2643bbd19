use Rattle.std.proofs.Common.{◌≡◌, ℕ, List, map, reverse, Result, Ok, Err, OnOk, IsErrOf, refl, subst}
use Rattle.ct_generics.specs.Expression.{Expression}
use Rattle.ct_sexpr.specs.View.{expression_of}
use Rattle.ct_sorts.specs.Declarations.{Declarations}
use Rattle.ct_formulas.specs.TreeFormula.{formula_of}
use Rattle.ct_command.specs.declared.error.CommandError.TheVariants.{Refused}
use Rattle.ct_stack.specs.Elaborations.{synonym_body, with_synonym_of}
use Rattle.ct_stack.specs.Outcomes.{Gives}
use Rattle.ct_stack.specs.Refusal.{IsSynonymRefusal}
use Rattle.ct_stack.specs.Held.{level_in}
use Rattle.ct_stack.proofs.SynonymLemmas.{given_extends, given_same}
use Rattle.ct_stack.proofs.StackLemmas.{declared_in, held_after_change, change_ok, declared_err, given_declaring}
use Rattle.ct_stack.proofs.stack.AssertionStack.define_sort.Goals as goal

pub invariant_of-self : goal.invariant_of-self
invariant_of-self c =
    let s = c.self.inside in
    let d = s.scope.sig in
    let name = c.args.name.now in
    let params = map (λ p. p.now) c.args.params.now in
    let body = expression_of c.args.body.now in
    record {
      held = held_after_change c.stack_theorems.ensures.hold c.define_sort-defined.new.sig d (map formula_of s.scope.bodies) (map formula_of s.asserts.items) s.table s.numbers.items (reverse s.levels.items) c.self.invariant.held c.sorts-2.ensures.consistent c.sorts.ensures.consistent c.define_sort-defined.result (λ later. Gives (synonym_body d params body) (λ e. later ≡ with_synonym_of d name params e)) c.define_sort-defined.ensures.ok c.define_sort-defined.ensures.unchanged (λ later. given_extends d later name params (synonym_body d params body)) (λ later. given_same d later name params (synonym_body d params body));
      first_is = c.self.invariant.first_is;
      first_consistent = c.self.invariant.first_consistent;
      first_sorted = c.self.invariant.first_sorted;
    }

pub returns : goal.returns
returns c =
    let s = c.self.inside in
    let is : s.scope.sig ≡ c.args.self.now.top.context.declarations = declared_in (level_in s.scope s.asserts.items) (reverse s.levels.items) c.args.self.now c.self.view_is in
    let r = c.define_sort-defined.result in
    let name = c.args.name.now in
    let params = map (λ p. p.now) c.args.params.now in
    let body = expression_of c.args.body.now in
    record {
      ok = given_declaring r (λ d. synonym_body d params body) name params c.args.self.now _
          (change_ok c.stack_theorems.ensures.hold c.define_sort-defined.new.sig s.scope.sig (map formula_of s.scope.bodies) (map formula_of s.asserts.items) s.table s.numbers.items (reverse s.levels.items) c.self.invariant.held c.args.self.now c.self.view_is r (λ d later. Gives (synonym_body d params body) (λ e. later ≡ with_synonym_of d name params e)) c.define_sort-defined.ensures.ok (λ later. given_extends s.scope.sig later name params (synonym_body s.scope.sig params body)));
      accepted = subst (λ (d : Declarations). OnOk r ((n : ℕ) → IsSynonymRefusal d name params body n → ⊥)) is c.define_sort-defined.ensures.accepted;
      refused = subst (λ (d : Declarations). (n : ℕ) → IsErrOf r (Refused n) → IsSynonymRefusal d name params body n) is c.define_sort-defined.ensures.refused;
      unchanged = declared_err c.stack_theorems.ensures.hold c.define_sort-defined.new.sig s.scope.sig (map formula_of s.scope.bodies) (map formula_of s.asserts.items) s.table s.numbers.items (reverse s.levels.items) c.self.invariant.held c.args.self.now c.self.view_is r c.define_sort-defined.ensures.unchanged;
    }
