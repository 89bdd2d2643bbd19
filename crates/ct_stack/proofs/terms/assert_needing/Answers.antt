use Rattle.std.proofs.Common.{◌≡◌, ◌∙◌, List, [], map, Ok, sym, ap, subst}
use Rattle.std.proofs.lemmas.List.{append-nil}
use Rattle.std.proofs.lemmas.Result.{err_from_is_err_and}
use Rattle.ct_sexpr.specs.View.{expression_of}
use Rattle.ct_sorts.specs.Consistent.{IsConsistent}
use Rattle.ct_sorts.specs.Declarations.{Declarations}
use Rattle.ct_sorts.specs.Grown.{Begins, Extends}
use Rattle.ct_formulas.specs.declared.tree.Tree.{Tree}
use Rattle.ct_formulas.specs.TreeFormula.{formula_of}
use Rattle.ct_command.specs.Seen.{bytes_seen}
use Rattle.ct_stack.specs.Elaborations.{asserted_formula}
use Rattle.ct_stack.specs.Held.{IsHeld, context_in}
use Rattle.ct_stack.specs.Refusal.{over}
use Rattle.ct_stack.specs.Stack.{Context, context_with, asserted_as}
use Rattle.ct_stack.proofs.AssertLemmas.{no_formula, assert_refused, assert_accepted, assert_given, label_refused, terms_refused, accepted_labelled, fits_labelled, many_labelled, label_grows, label_bodies, label_held}
use Rattle.ct_stack.proofs.ErrorLemmas.{same_refusal}
use Rattle.ct_stack.proofs.HeldLemmas.{held_declared}
use Rattle.ct_stack.proofs.ModelLemmas.{in_any_case}
use Rattle.ct_stack.proofs.NeededLemmas.{comes_grows}
use Rattle.ct_stack.proofs.StackLemmas.{level}
use Rattle.ct_stack.proofs.terms.assert_needing.Goals as goal

-- the context over which the label is defined, as the bodies are the same
same_context : (bodies before : List Tree) (d : Declarations) → bodies ≡ before → ◌≡◌ {A = Context} (record { declarations = d; bodies = map formula_of bodies }) (record { declarations = d; bodies = map formula_of before })
same_context bodies before d same = ap (λ (bs : List Tree). record { declarations = d; bodies = map formula_of bs }) same

no_bodies : (now before : List Tree) → now ≡ before → Begins (map formula_of before) (map formula_of now)
no_bodies now before same = ([], ap (map formula_of) same ∙ sym (append-nil (map formula_of before)))

pub returns-in_err-formula-clause-refused : goal.returns-in_err-formula-clause-refused
returns-in_err-formula-clause-refused c =
    let p = err_from_is_err_and c.from_residual.result c.from_residual.ensures.1 in
    rw (p.1, p.2) (λ n e. no_formula (context_in c.args.scope.now) (map formula_of c.args.asserts.now.items) (bytes_seen c.args.label) (expression_of c.args.expr.now) c.boolean_formula.new.scope.sig n (c.in_err-formula.ensures.refused n (same_refusal _ n e)))

pub returns-in_err-formula-clause-bodies : goal.returns-in_err-formula-clause-bodies
returns-in_err-formula-clause-bodies c = no_bodies c.boolean_formula.new.scope.bodies c.args.scope.now.bodies c.in_err-formula.ensures.bodies

pub returns-in_err-formula-clause-longer_table : goal.returns-in_err-formula-clause-longer_table
returns-in_err-formula-clause-longer_table c = ([], sym (append-nil c.args.table.now))

pub returns-in_err-formula-clause-longer : goal.returns-in_err-formula-clause-longer
returns-in_err-formula-clause-longer c = ([], sym (append-nil c.args.numbers.now.items))

pub returns-in_err-tree-clause-refused : goal.returns-in_err-tree-clause-refused
returns-in_err-tree-clause-refused c =
    let old = context_in c.args.scope.now in
    let mid = c.boolean_formula.new.scope in
    let label = bytes_seen c.args.label in
    let before = map formula_of c.args.asserts.now.items in
    let f = formula_of c.in_ok-formula.formula in
    let p = err_from_is_err_and c.from_residual-in_err-tree.result c.from_residual-in_err-tree.ensures.1 in
    rw (p.1, p.2) (λ n e.
    assert_refused old before label (expression_of c.args.expr.now) mid.sig f c.in_ok-formula.ensures.ok n
    (label_refused before (over old mid.sig) label f n (c.in_err-tree.ensures.refused n (same_refusal _ n e))))

pub returns-in_err-tree-clause-grown : goal.returns-in_err-tree-clause-grown
returns-in_err-tree-clause-grown c = subst (λ (d : Declarations). Extends d c.args.scope.now.sig) (sym c.in_err-tree.ensures.unchanged.0) c.in_ok-formula.ensures.grown

pub returns-in_err-tree-clause-bodies : goal.returns-in_err-tree-clause-bodies
returns-in_err-tree-clause-bodies c = no_bodies c.define_label.new.scope.bodies c.args.scope.now.bodies (c.in_err-tree.ensures.unchanged.1 ∙ c.in_ok-formula.ensures.bodies)

pub returns-in_err-tree-clause-longer_table : goal.returns-in_err-tree-clause-longer_table
returns-in_err-tree-clause-longer_table c = ([], sym (append-nil c.args.table.now))

pub returns-in_err-tree-clause-longer : goal.returns-in_err-tree-clause-longer
returns-in_err-tree-clause-longer c = ([], sym (append-nil c.args.numbers.now.items))

pub add_assertion-requires : goal.add_assertion-requires
add_assertion-requires c =
    let old = c.args.scope.now in
    let mid = c.boolean_formula.new.scope in
    let new = c.define_label.new.scope in
    let label = bytes_seen c.args.label in
    let f = formula_of c.in_ok-formula.formula in
    let asserts = c.args.asserts.now.items in
    let grows = comes_grows (λ (d : Declarations). asserted_formula d (expression_of c.args.expr.now)) old.sig mid.sig (Ok f) c.in_ok-formula.ensures.ok in
    let held : IsHeld (record { context = context_in mid; assertions = map formula_of asserts }) c.args.table.now c.args.numbers.now.items =
    subst (λ (bs : List Tree). IsHeld (level mid.sig (map formula_of bs) (map formula_of asserts)) c.args.table.now c.args.numbers.now.items) (sym c.in_ok-formula.ensures.bodies)
    (held_declared c.stack_theorems.ensures.hold mid.sig old.sig (map formula_of old.bodies) (map formula_of asserts) c.args.table.now c.args.numbers.now.items c.sorts-2.ensures.consistent c.sorts.ensures.consistent c.in_ok-formula.ensures.grown grows.definitions c.requires.held)
    in
    record {
      sorted = c.in_ok-tree.ensures.sorted;
      held =
          subst (λ (k : Context). IsHeld (record { context = k; assertions = map formula_of asserts }) c.args.table.now c.args.numbers.now.items) (sym c.in_ok-tree.ensures.ok.0)
          (label_held c.stack_theorems.ensures.hold (context_in mid) label f (map formula_of asserts) c.args.table.now c.args.numbers.now.items
          (subst (λ (k : Context). IsConsistent k.declarations) c.in_ok-tree.ensures.ok.0 c.sorts-3.ensures.consistent) c.sorts-2.ensures.consistent c.in_ok-formula.ensures.sorted held);
    }

pub returns-clause-held : goal.returns-clause-held
returns-clause-held c = in_any_case c.add_assertion.result _ c.add_assertion.ensures.held

pub returns-clause-ok : goal.returns-clause-ok
returns-clause-ok c =
    let old = c.args.scope.now in
    let mid = c.boolean_formula.new.scope in
    let label = bytes_seen c.args.label in
    let f = formula_of c.in_ok-formula.formula in
    let same = same_context mid.bodies old.bodies mid.sig c.in_ok-formula.ensures.bodies in
    assert_given (context_in old) (map formula_of c.args.asserts.now.items) label (expression_of c.args.expr.now) mid.sig f c.in_ok-formula.ensures.ok c.add_assertion.result (context_in c.define_label.new.scope) c.args.asserts.now.items c.add_assertion.new.asserts.items c.in_ok-tree.tree
    (c.in_ok-tree.ensures.ok.0 ∙ ap (λ (k : Context). context_with k label f) same)
    (c.in_ok-tree.ensures.ok.1 ∙ ap (λ (k : Context). asserted_as k label f) same)
    c.add_assertion.ensures.ok

pub returns-clause-accepted : goal.returns-clause-accepted
returns-clause-accepted c =
    let old = c.args.scope.now in
    let mid = c.boolean_formula.new.scope in
    let label = bytes_seen c.args.label in
    let before = map formula_of c.args.asserts.now.items in
    let f = formula_of c.in_ok-formula.formula in
    let same = same_context mid.bodies old.bodies mid.sig c.in_ok-formula.ensures.bodies in
    let r = c.add_assertion.result in
    assert_accepted (context_in old) before label (expression_of c.args.expr.now) mid.sig f c.in_ok-formula.ensures.ok c.stack_theorems.ensures.hold.add_same r
    (accepted_labelled r before (over (context_in old) mid.sig) label f c.in_ok-tree.ensures.accepted
    (fits_labelled r before (context_in c.define_label.new.scope) (over (context_in old) mid.sig) label f (formula_of c.in_ok-tree.tree)
    (c.in_ok-tree.ensures.ok.0 ∙ ap (λ (k : Context). context_with k label f) same) (c.in_ok-tree.ensures.ok.1 ∙ ap (λ (k : Context). asserted_as k label f) same) c.add_assertion.ensures.fits))

pub returns-clause-refused : goal.returns-clause-refused
returns-clause-refused c = λ n e.
    let old = c.args.scope.now in
    let mid = c.boolean_formula.new.scope in
    let label = bytes_seen c.args.label in
    let before = map formula_of c.args.asserts.now.items in
    let f = formula_of c.in_ok-formula.formula in
    let same = same_context mid.bodies old.bodies mid.sig c.in_ok-formula.ensures.bodies in
    let h = c.add_assertion.ensures.refused n e in
    assert_refused (context_in old) before label (expression_of c.args.expr.now) mid.sig f c.in_ok-formula.ensures.ok n
    (terms_refused before (over (context_in old) mid.sig) label f c.in_ok-tree.ensures.accepted n (
      h.0,
      many_labelled before (context_in c.define_label.new.scope) (over (context_in old) mid.sig) label f (formula_of c.in_ok-tree.tree)
          (c.in_ok-tree.ensures.ok.0 ∙ ap (λ (k : Context). context_with k label f) same) (c.in_ok-tree.ensures.ok.1 ∙ ap (λ (k : Context). asserted_as k label f) same) h.1,
    ))

pub returns-clause-grown : goal.returns-clause-grown
returns-clause-grown c =
    let theorems = c.stack_theorems.ensures.hold in
    let old = c.args.scope.now in
    let mid = c.boolean_formula.new.scope in
    let new = c.define_label.new.scope in
    let label = bytes_seen c.args.label in
    let f = formula_of c.in_ok-formula.formula in
    theorems.further new.sig mid.sig old.sig
    (subst (λ (k : Context). Extends k.declarations mid.sig) (sym c.in_ok-tree.ensures.ok.0) (label_grows theorems (context_in mid) label f)) c.in_ok-formula.ensures.grown

pub returns-clause-bodies : goal.returns-clause-bodies
returns-clause-bodies c =
    let mid = c.boolean_formula.new.scope in
    let label = bytes_seen c.args.label in
    let f = formula_of c.in_ok-formula.formula in
    subst (λ (bs : List Tree). Begins (map formula_of bs) (map formula_of c.define_label.new.scope.bodies)) c.in_ok-formula.ensures.bodies
    (subst (λ (k : Context). Begins (map formula_of mid.bodies) k.bodies) (sym c.in_ok-tree.ensures.ok.0) (label_bodies (context_in mid) label f))
