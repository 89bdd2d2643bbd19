use Rattle.std.proofs.Common.{List, ◌++◌, map, reverse, All, IfOk, OnOk, subst, sym}
use Rattle.std.proofs.lemmas.List.{map-append}
use Rattle.ct_terms.specs.declared.ids.TermId.{TermId}
use Rattle.ct_terms.specs.CoreTree.{CoreTree}
use Rattle.ct_formulas.specs.TreeFormula.{formula_of}
use Rattle.ct_stack.specs.Assuming.{assumed_formulas, assumptions_seen, with_assumed, IsTruth}
use Rattle.ct_stack.specs.Held.{IsHeld, level_in, context_in}
use Rattle.ct_stack.specs.Refusal.{HasManyTerms}
use Rattle.ct_stack.specs.Stack.{Level, core, cores}
use Rattle.ct_stack.specs.Whole.{whole_in}
use Rattle.ct_stack.proofs.LevelLemmas.{held_now}
use Rattle.ct_stack.proofs.StackLemmas.{one_level}
use Rattle.ct_stack.proofs.stack.AssertionStack.core_terms_with.Goals as goal

pub assumed_terms-requires : goal.assumed_terms-requires
assumed_terms-requires c =
    let s = c.self.inside in
    let held = held_now (whole_in s.scope s.asserts.items s.table s.numbers.items) (reverse s.levels.items) c.self.invariant.held in
    record {
      sound = held.sound.bodies;
      sorted = subst (λ (l : Level). All (IsTruth l.context.declarations) c.args.assumed.now) (one_level (level_in s.scope s.asserts.items) (reverse s.levels.items) c.args.self.now c.self.view_is) c.requires.sorted;
      table = held.in_table.exact.sorted;
    }

pub returns : goal.returns
returns c =
    let s = c.self.inside in
    let held = held_now (whole_in s.scope s.asserts.items s.table s.numbers.items) (reverse s.levels.items) c.self.invariant.held in
    let one = sym (one_level (level_in s.scope s.asserts.items) (reverse s.levels.items) c.args.self.now c.self.view_is) in
    let r = c.assumed_terms.result in
    let said = c.assumed_terms.ensures in
    let assumed = assumptions_seen c.args.assumed.now in
    let formulas = assumed_formulas assumed in
    let context = context_in s.scope in
    let own = map formula_of s.asserts.items in
    let all = sym (map-append (core context) own formulas) in
    record {
      held =
          subst (λ (l : Level). IfOk r (λ terms. IsHeld (with_assumed l assumed) terms.0.value terms.1.items)) one
          (said.held s.asserts.items (subst (λ (ns : List TermId). IsHeld (level_in s.scope s.asserts.items) s.table ns) (sym c.as_slice-numbers.ensures.value) held));
      accepted =
          subst (λ (l : Level). OnOk r (HasManyTerms (cores l.context (l.assertions ++ formulas)) → ⊥)) one
          (subst (λ (roots : List CoreTree). OnOk r (HasManyTerms roots → ⊥)) all (said.accepted (cores context own) held.in_table.exact));
      refused = λ n e.
          let why = said.refused n e in (
            why.0,
            subst (λ (l : Level). HasManyTerms (cores l.context (l.assertions ++ formulas))) one
                (subst HasManyTerms all (why.1 (cores context own) held.in_table.exact)),
          );
    }
