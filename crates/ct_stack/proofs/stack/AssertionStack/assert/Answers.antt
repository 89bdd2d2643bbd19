use Rattle.std.proofs.Common.{◌≡◌, ◌∙◌, ℕ, map, take, reverse, OnOk, IsErrOf, refl, sym, ap, subst}
use Rattle.ct_sexpr.specs.View.{expression_of}
use Rattle.ct_sorts.specs.Grown.{Begins, Extends}
use Rattle.ct_sorts.specs.Lengths.{Lengths}
use Rattle.ct_sorts.specs.Marks.{CanCut, cut}
use Rattle.ct_formulas.specs.TreeFormula.{formula_of}
use Rattle.ct_command.specs.declared.error.CommandError.TheVariants.{Refused}
use Rattle.ct_command.specs.Seen.{bytes_seen}
use Rattle.ct_stack.specs.Elaborations.{asserted_formula}
use Rattle.ct_stack.specs.Held.{IsHeld, IsAsserted}
use Rattle.ct_stack.specs.Outcomes.{GivesNeeding}
use Rattle.ct_stack.specs.Refusal.{IsAssertedRefusal}
use Rattle.ct_stack.specs.Stack.{Level}
use Rattle.ct_stack.specs.Whole.{whole_in}
use Rattle.ct_stack.proofs.AssertLemmas.{held_at_end, asserted_ok, asserted_err, same_level, kept_given, err_first, err_second, bodies_back}
use Rattle.ct_stack.proofs.BackLemmas.{in_any_error, back_accepted, back_refused, back_unchanged, back_error}
use Rattle.ct_stack.proofs.LevelLemmas.{held_now}
use Rattle.ct_stack.proofs.ModelLemmas.{in_any_case}
use Rattle.ct_stack.proofs.StackLemmas.{level}
use Rattle.ct_stack.proofs.stack.AssertionStack.assert.Goals as goal

pub assert_needing-asserted-requires : goal.assert_needing-asserted-requires
assert_needing-asserted-requires c =
    let s = c.self.inside in
    record { held = held_now (whole_in s.scope s.asserts.items s.table s.numbers.items) (reverse s.levels.items) c.self.invariant.held }

pub scope_or_back-done-requires : goal.scope_or_back-done-requires
scope_or_back-done-requires c =
    let mid = c.assert_needing-asserted.new.scope.sig in
    record { can_cut = in_any_error c.assert_needing-asserted.result (CanCut mid c.mark-before.result) (c.mark-before.ensures.lasting mid c.assert_needing-asserted.ensures.grown) }

pub invariant_of-self : goal.invariant_of-self
invariant_of-self c =
    let s = c.self.inside in
    let theorems = c.stack_theorems.ensures.hold in
    let e = expression_of c.args.expr.now in
    let label = bytes_seen c.args.label in
    let earlier = s.scope.sig in
    let bodies = map formula_of s.scope.bodies in
    let asserts = s.asserts.items in
    let marks = reverse s.levels.items in
    let new = c.assert_needing-asserted.new in
    let mid = new.scope.sig in
    let asserts_now = new.asserts.items in
    let r = c.assert_needing-asserted.result in
    let said = c.assert_needing-asserted.ensures in
    let last = c.scope_or_back-done.new.scope in
    let sig = last.sig in
    let bodies_now = map formula_of last.bodies in
    let kept = c.scope_or_back-done.ensures.ok in
    let m = c.mark-before.result in
    let cut_back = c.scope_or_back-done.ensures.back in
    let ok = kept_given r (λ n bs. GivesNeeding (λ d. asserted_formula d e) earlier (λ d f. IsAsserted (record { declarations = d; bodies = bodies }) (record { declarations = n; bodies = bs }) asserts asserts_now label f)) sig mid last.bodies new.scope.bodies kept said.ok in
    let extends = kept_given r (λ d bs. Extends d earlier) sig mid last.bodies new.scope.bodies kept (in_any_case r (Extends mid earlier) said.grown) in
    let more_bodies = kept_given r (λ d bs. Begins bodies bs) sig mid last.bodies new.scope.bodies kept (in_any_case r (Begins bodies (map formula_of new.scope.bodies)) said.bodies) in
    let back = back_unchanged r r refl theorems sig mid earlier m c.mark-before.ensures.lengths said.grown (err_first r (sig ≡ cut mid m) (last.bodies ≡ take m.definitions new.scope.bodies) cut_back) in
    let many = ap (λ (l : Lengths). l.definitions) c.mark-before.ensures.lengths ∙ sym (held_now (whole_in s.scope asserts s.table s.numbers.items) marks c.self.invariant.held).sound.bodies.one_each in
    let back_bodies = bodies_back r last.bodies new.scope.bodies s.scope.bodies m.definitions many said.bodies (err_second r (sig ≡ cut mid m) (last.bodies ≡ take m.definitions new.scope.bodies) cut_back) in
    let now = kept_given r (λ d bs. IsHeld (level d bs (map formula_of asserts_now)) new.table new.numbers.items) sig mid last.bodies new.scope.bodies kept said.held in
    record {
      held = held_at_end theorems r sig earlier bodies_now bodies asserts_now asserts new.table s.table new.numbers.items s.numbers.items marks c.self.invariant.held e label ok extends more_bodies said.longer_table said.longer back back_bodies said.unchanged said.table said.numbers now;
      first_is = c.self.invariant.first_is;
      first_consistent = c.self.invariant.first_consistent;
      first_sorted = c.self.invariant.first_sorted;
    }

pub returns : goal.returns
returns c =
    let s = c.self.inside in
    let theorems = c.stack_theorems.ensures.hold in
    let e = expression_of c.args.expr.now in
    let label = bytes_seen c.args.label in
    let earlier = s.scope.sig in
    let bodies = map formula_of s.scope.bodies in
    let asserts = s.asserts.items in
    let marks = reverse s.levels.items in
    let new = c.assert_needing-asserted.new in
    let mid = new.scope.sig in
    let asserts_now = new.asserts.items in
    let r = c.assert_needing-asserted.result in
    let said = c.assert_needing-asserted.ensures in
    let last = c.scope_or_back-done.new.scope in
    let sig = last.sig in
    let bodies_now = map formula_of last.bodies in
    let kept = c.scope_or_back-done.ensures.ok in
    let m = c.mark-before.result in
    let cut_back = c.scope_or_back-done.ensures.back in
    let ok = kept_given r (λ n bs. GivesNeeding (λ d. asserted_formula d e) earlier (λ d f. IsAsserted (record { declarations = d; bodies = bodies }) (record { declarations = n; bodies = bs }) asserts asserts_now label f)) sig mid last.bodies new.scope.bodies kept said.ok in
    let extends = kept_given r (λ d bs. Extends d earlier) sig mid last.bodies new.scope.bodies kept (in_any_case r (Extends mid earlier) said.grown) in
    let more_bodies = kept_given r (λ d bs. Begins bodies bs) sig mid last.bodies new.scope.bodies kept (in_any_case r (Begins bodies (map formula_of new.scope.bodies)) said.bodies) in
    let back = back_unchanged r r refl theorems sig mid earlier m c.mark-before.ensures.lengths said.grown (err_first r (sig ≡ cut mid m) (last.bodies ≡ take m.definitions new.scope.bodies) cut_back) in
    let many = ap (λ (l : Lengths). l.definitions) c.mark-before.ensures.lengths ∙ sym (held_now (whole_in s.scope asserts s.table s.numbers.items) marks c.self.invariant.held).sound.bodies.one_each in
    let back_bodies = bodies_back r last.bodies new.scope.bodies s.scope.bodies m.definitions many said.bodies (err_second r (sig ≡ cut mid m) (last.bodies ≡ take m.definitions new.scope.bodies) cut_back) in
    let q = c.scope_or_back-done.result in
    let same = c.scope_or_back-done.ensures.same in
    let stack = c.args.self.now in
    let one = same_level earlier bodies asserts marks stack c.self.view_is in
    record {
      ok = back_accepted q r same _ (asserted_ok theorems r sig earlier bodies_now bodies asserts_now asserts new.table s.table new.numbers.items s.numbers.items marks c.self.invariant.held e label ok extends more_bodies said.longer_table said.longer back back_bodies said.unchanged said.table said.numbers stack c.self.view_is);
      accepted = back_accepted q r same _ (subst (λ (l : Level). OnOk r ((n : ℕ) → IsAssertedRefusal l.context l.assertions label e n → ⊥)) one said.accepted);
      refused = back_refused q r same _ (subst (λ (l : Level). (n : ℕ) → IsErrOf r (Refused n) → IsAssertedRefusal l.context l.assertions label e n) one said.refused);
      unchanged = back_error q r same _ (asserted_err theorems r sig earlier bodies_now bodies asserts_now asserts new.table s.table new.numbers.items s.numbers.items marks c.self.invariant.held e label ok extends more_bodies said.longer_table said.longer back back_bodies said.unchanged said.table said.numbers stack c.self.view_is);
    }
