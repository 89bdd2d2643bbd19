-- The rules of constructors are sound: injection, selection, testing and expansion.
use Rattle.std.proofs.Common.{◌≡◌, ℕ, suc, inl, inr, true, false, List, [], ◌∷◌, map, Some, slice_get, refl, sym, ap, subst, ◌∙◌}
use Rattle.std.specs.List.{AllZip}
use Rattle.std.proofs.lemmas.Option.{same_Some}
use Rattle.ct_lemmas.proofs.Booleans.{not_true}
use Rattle.ct_sorts.specs.declared.ids.CtorId.{CtorId}
use Rattle.ct_sorts.specs.declared.ids.SelId.{SelId}
use Rattle.ct_sorts.specs.Declarations.{Declarations, Constructor}
use Rattle.ct_values.specs.declared.node.Head.TheVariants as heads
use Rattle.ct_values.specs.Value.{Value}
use Rattle.ct_values.specs.Agreement.{point, children_of, AgreeAlways}
use Rattle.ct_values.specs.TruthValue.{is_built}
use Rattle.ct_values.specs.Inversion.{IsValueOfField}
use Rattle.ct_terms.specs.declared.ids.TermId.{TermId}
use Rattle.ct_terms.specs.declared.term.Core.TheVariants as core
use Rattle.ct_terms.specs.Terms.{Terms, Has, IsBoolean}
use Rattle.ct_eval.specs.declared.interp.Interp.{Interp}
use Rattle.ct_eval.specs.Evaluation.{value_of}
use Rattle.ct_eval.specs.Truth.{truth_value}
use Rattle.ct_rules.specs.Rules.{Equations, truth_term, IsInjection, IsSelection, IsTesting, IsSelected, IsExpansion}
use Rattle.ct_checker.proofs.Setting.{Setting, Equal, value_point}
use Rattle.ct_checker.proofs.ValueLemmas.{same_at, stated, read, equal_built, equal_children, argument_at}

-- one constructor stands in one head
pub one_ctor : (c k : CtorId) → Some (heads.Con c) ≡ Some (heads.Con k) → c ≡ k
one_ctor c k e = let h : heads.Con c ≡ heads.Con k = same_Some _ _ e in cc

module _ (d : Declarations) (i : Interp) (terms : Terms) (setting : Setting d i terms) where
  -- a term that is built by two constructors is built by one
  pub one_builder : (t : TermId) (c k : CtorId) (args : List TermId) → Has terms (core.Con k args) t.0 → is_built i.graph c (value_of d i terms t) ≡ true → c ≡ k
  one_builder t c k args stands built =
      one_ctor c k (sym ((setting.values.built (value_of d i terms t) c).0 built) ∙ setting.table.ctor_head t k args stands)

  -- a test is a Boolean term
  test_boolean : (t a : TermId) (c : CtorId) → Has terms (core.Test c a) t.0 → IsBoolean terms t
  test_boolean t a c stands =
      (core.Test c a, stands.1 ∙ ap (λ s. Some (core.Test c a, s)) (setting.table.sorts t.0 (core.Test c a) stands.0 stands.1).result)

  module _ (known : Equations) (sound : (x y : TermId) → known x y → Equal d i terms x y) where
    pub injection_sound : (x y : TermId) → IsInjection terms known x y → Equal d i terms x y
    injection_sound x y rule =
        same_at i.graph _ _ rule.place _ _ (equal_children d i terms setting rule.left rule.right (sound rule.left rule.right rule.equal))
        (argument_at d i terms setting rule.left rule.ctor rule.xs rule.place x rule.left_stands rule.left_at)
        (argument_at d i terms setting rule.right rule.ctor rule.ys rule.place y rule.right_stands rule.right_at)

    pub selection_sound : (x y : TermId) → IsSelection d terms known x y → Equal d i terms x y
    selection_sound x y rule =
        let equal = sound rule.argument rule.con rule.equal in
        let built = equal_built d i terms setting rule.argument rule.con rule.selector.ctor rule.args rule.con_stands equal in
        same_at i.graph _ _ rule.selector.place _ _ (equal_children d i terms setting rule.argument rule.con equal)
        (setting.table.selected x rule.argument rule.sel rule.selector rule.stands rule.declared built)
        (argument_at d i terms setting rule.con rule.selector.ctor rule.args rule.selector.place y rule.con_stands rule.at)

    pub testing_sound : (x y : TermId) → IsTesting terms known x y → Equal d i terms x y
    testing_sound x y rule =
        let equal = sound rule.argument rule.con rule.equal in
        let boolean = test_boolean x rule.argument rule.tested rule.stands in
        let asked = setting.truths.test x rule.argument rule.tested rule.stands in
        elim rule.answer [
          | inl same ↦
              let holds : truth_value d i terms x ≡ true =
              asked ∙ ap (λ (c : CtorId). is_built i.graph c (value_of d i terms rule.argument)) same.0 ∙ equal_built d i terms setting rule.argument rule.con rule.ctor rule.args rule.con_stands equal in
              subst (Equal d i terms x) (sym same.1) (stated d i terms setting x true boolean holds)
          | inr other ↦
              let fails : truth_value d i terms x ≡ false =
              not_true _ (λ e. other.0 (one_builder rule.con rule.tested rule.ctor rule.args rule.con_stands (sym (setting.table.one_answer rule.tested rule.argument rule.con equal) ∙ sym asked ∙ e))) in
              subst (Equal d i terms x) (sym other.1) (stated d i terms setting x false boolean fails)
        ]

    -- fields are the same as the selectors' terms, one for one
    fields_same : (x : TermId) (vs : List Value) (args : List TermId) (sels : List SelId) → AllZip (IsValueOfField d i.graph) vs sels → AllZip (IsSelected terms x) args sels → ((index : ℕ) (s : SelId) (t : TermId) → slice_get sels index ≡ Some s → IsSelected terms x t s → slice_get vs index ≡ Some (value_of d i terms t)) → AllZip AgreeAlways (map (point i.graph) vs) (map (point i.graph) (map (value_of d i terms) args))
    fields_same x [] [] sels fields selected at = tt
    fields_same x [] (t ∷ args) [] fields selected at = absurd selected
    fields_same x [] (t ∷ args) (s ∷ sels) fields selected at = absurd fields
    fields_same x (v ∷ vs) args [] fields selected at = absurd fields
    fields_same x (v ∷ vs) [] (s ∷ sels) fields selected at = absurd selected
    fields_same x (v ∷ vs) (t ∷ args) (s ∷ sels) fields selected at = (
      subst (λ (w : Value). AgreeAlways (point i.graph v) (point i.graph w)) (same_Some _ _ (at 0 s t refl selected.0)) (setting.same.itself (point i.graph v)),
      fields_same x vs args sels fields.1 selected.1 (λ index. at (suc index)),
    )

    -- a selector of a term that is built by its constructor is the child at its place
    selected_at : (x : TermId) (id : CtorId) (ctor : Constructor) → slice_get d.ctors id.0 ≡ Some ctor → is_built i.graph id (value_of d i terms x) ≡ true → (index : ℕ) (s : SelId) (t : TermId) → slice_get ctor.sels index ≡ Some s → IsSelected terms x t s → slice_get (children_of i.graph (value_of d i terms x)) index ≡ Some (value_of d i terms t)
    selected_at x id ctor declared built index s t at selected =
        let own = setting.values.own_selectors id.0 index ctor s declared at in
        let of_ctor : own.0.ctor ≡ id = ap (λ (n : ℕ). record { 0 = n }) own.2 in
        subst (λ (n : ℕ). slice_get (children_of i.graph (value_of d i terms x)) n ≡ Some (value_of d i terms t)) own.3
        (setting.table.selected t x s own.0 selected own.1 (ap (λ (c : CtorId). is_built i.graph c (value_of d i terms x)) of_ctor ∙ built))

    pub expansion_sound : (x y : TermId) → IsExpansion d terms known x y → Equal d i terms x y
    expansion_sound x y rule =
        let holds = read d i terms setting rule.test true (sound rule.test (truth_term true) rule.holds) in
        let built : is_built i.graph rule.id (value_of d i terms x) ≡ true = sym (setting.truths.test rule.test x rule.id rule.test_stands) ∙ holds in
        let headed = (setting.values.built (value_of d i terms x) rule.id).0 built in
        let sorted = setting.table.sorts rule.test.0 (core.Test rule.id x) rule.test_stands.0 rule.test_stands.1 in
        let is = setting.values.constructor (value_of d i terms x) sorted.ctor.sort rule.id (setting.table.sorted x sorted.ctor.sort sorted.sorted) headed in
        let fields = subst (λ (c : Constructor). AllZip (IsValueOfField d i.graph) (children_of i.graph (value_of d i terms x)) c.sels) (same_Some _ _ (sym is.declared ∙ rule.declared)) is.fields in
        let same = fields_same x (children_of i.graph (value_of d i terms x)) rule.args rule.ctor.sels fields rule.fields (selected_at x rule.id rule.ctor rule.declared built) in
        (setting.same.always (value_point d i terms x) (value_point d i terms y)).1 (
          headed ∙ sym (setting.table.ctor_head y rule.id rule.args rule.con_stands),
          subst (λ (vs : List Value). AllZip AgreeAlways (map (point i.graph) (children_of i.graph (value_of d i terms x))) (map (point i.graph) vs)) (sym (setting.table.ctor_children y rule.id rule.args rule.con_stands)) same,
        )
