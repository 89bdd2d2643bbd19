use Rattle.std.proofs.Common.{ℕ, map, reverse, OnOk, IfOk, IfSome, subst, sym}
use Rattle.ct_lemmas.proofs.Options.{OnOk-map}
use Rattle.ct_terms.specs.Terms.{Terms}
use Rattle.ct_formulas.specs.TreeFormula.{formula_of}
use Rattle.ct_eval.specs.Interpretation.{IsProper}
use Rattle.ct_command.specs.Seen.{all_seen}
use Rattle.ct_scope.specs.declared.scope.Scope.{Scope}
use Rattle.ct_stack.specs.Stack.{Level, cores}
use Rattle.ct_stack.specs.Refusal.{IsTermsRefusal}
use Rattle.ct_stack.specs.Held.{level_in, context_in}
use Rattle.ct_stack.specs.Whole.{whole_in, AreHeld}
use Rattle.ct_stack.specs.Values.{AreValues}
use Rattle.ct_stack.specs.ModelValues.{AreModelValues}
use Rattle.ct_stack.proofs.LevelLemmas.{held_now}
use Rattle.ct_stack.proofs.StackLemmas.{one_level}
use Rattle.ct_stack.proofs.stack.AssertionStack.values.Goals as goal

pub values_text-requires-clause-sound : goal.values_text-requires-clause-sound
values_text-requires-clause-sound c =
    let s = c.self.inside in
    (held_now (whole_in s.scope s.asserts.items s.table s.numbers.items) (reverse s.levels.items) c.self.invariant.held).sound.bodies

pub values_text-requires-clause-table : goal.values_text-requires-clause-table
values_text-requires-clause-table c =
    let s = c.self.inside in
    (held_now (whole_in s.scope s.asserts.items s.table s.numbers.items) (reverse s.levels.items) c.self.invariant.held).in_table.exact.sorted

pub values_text-requires-clause-proper : goal.values_text-requires-clause-proper
values_text-requires-clause-proper c =
    let s = c.self.inside in
    subst (λ (l : Level). IsProper l.context.declarations c.args.interp.now) (one_level (level_in s.scope s.asserts.items) (reverse s.levels.items) c.args.self.now c.self.view_is) c.requires.proper

pub values_text-requires-clause-valued : goal.values_text-requires-clause-valued
values_text-requires-clause-valued c =
    let s = c.self.inside in
    subst (λ (l : Level). IfSome c.args.values.now (AreModelValues l.context.declarations c.args.interp.now)) (one_level (level_in s.scope s.asserts.items) (reverse s.levels.items) c.args.self.now c.self.view_is) c.requires.valued

pub invariant_of-self : goal.invariant_of-self
invariant_of-self c =
    let s = c.self.inside in
    record {
      held = subst (λ (scope : Scope). AreHeld (whole_in scope s.asserts.items c.values_text.new.table s.numbers.items) (reverse s.levels.items)) (sym c.values_text.ensures.kept)
          (subst (λ (table : Terms). AreHeld (whole_in s.scope s.asserts.items table s.numbers.items) (reverse s.levels.items)) (sym c.values_text.ensures.unchanged) c.self.invariant.held);
      first_is = c.self.invariant.first_is;
      first_consistent = c.self.invariant.first_consistent;
      first_sorted = c.self.invariant.first_sorted;
    }

pub returns-clause-values : goal.returns-clause-values
returns-clause-values c =
    let s = c.self.inside in
    subst (λ (l : Level). IfOk c.values_text.result (λ t. AreValues l.context c.args.interp.now (all_seen c.args.exprs.now) t.items)) (sym (one_level (level_in s.scope s.asserts.items) (reverse s.levels.items) c.args.self.now c.self.view_is)) c.values_text.ensures.values

pub returns-clause-accepted : goal.returns-clause-accepted
returns-clause-accepted c =
    let s = c.self.inside in
    let held = held_now (whole_in s.scope s.asserts.items s.table s.numbers.items) (reverse s.levels.items) c.self.invariant.held in
    subst (λ (l : Level). OnOk c.values_text.result ((n : ℕ) → IsTermsRefusal l.context (cores l.context l.assertions) (all_seen c.args.exprs.now) n → ⊥)) (sym (one_level (level_in s.scope s.asserts.items) (reverse s.levels.items) c.args.self.now c.self.view_is))
    (OnOk-map c.values_text.result _ _ (λ h. h (cores (context_in s.scope) (map formula_of s.asserts.items)) held.in_table.exact) c.values_text.ensures.accepted)

pub returns-clause-refused : goal.returns-clause-refused
returns-clause-refused c =
    let s = c.self.inside in
    let held = held_now (whole_in s.scope s.asserts.items s.table s.numbers.items) (reverse s.levels.items) c.self.invariant.held in
    λ n e.
    subst (λ (l : Level). IsTermsRefusal l.context (cores l.context l.assertions) (all_seen c.args.exprs.now) n) (sym (one_level (level_in s.scope s.asserts.items) (reverse s.levels.items) c.args.self.now c.self.view_is))
    (c.values_text.ensures.refused n e (cores (context_in s.scope) (map formula_of s.asserts.items)) held.in_table.exact)

pub returns-clause-valued : goal.returns-clause-valued
returns-clause-valued c =
    let s = c.self.inside in
    subst (λ (l : Level). IfSome c.values_text.new.values (AreModelValues l.context.declarations c.args.interp.now)) (sym (one_level (level_in s.scope s.asserts.items) (reverse s.levels.items) c.args.self.now c.self.view_is)) c.values_text.ensures.valued
