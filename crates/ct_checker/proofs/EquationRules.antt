-- The rules of equations as terms, of negations and of sorts with one value are sound.
use Rattle.std.proofs.Common.{◌≡◌, inl, inr, true, false, not, Some, sym, ap, subst, ◌∙◌}
use Rattle.ct_sorts.specs.declared.ids.SortId.{SortId}
use Rattle.ct_sorts.specs.Declarations.{Declarations, bool_sort}
use Rattle.ct_terms.specs.declared.ids.TermId.{TermId}
use Rattle.ct_terms.specs.declared.term.Core.{Core}
use Rattle.ct_terms.specs.declared.term.Core.TheVariants as core
use Rattle.ct_terms.specs.Terms.{Terms, Has, IsBoolean}
use Rattle.ct_eval.specs.declared.interp.Interp.{Interp}
use Rattle.ct_eval.specs.Evaluation.{value_of}
use Rattle.ct_rules.specs.Rules.{Equations, truth_term, IsEquationIn, IsEquationOut, IsNegation, IsSingleton}
use Rattle.ct_checker.proofs.Setting.{Setting, Equal}
use Rattle.ct_checker.proofs.ValueLemmas.{stated, read}

-- a term that stands with the sort Bool is Boolean
boolean_by : (terms : Terms) (t : TermId) (term : Core) (stands : Has terms term t.0) → stands.0 ≡ bool_sort → IsBoolean terms t
boolean_by terms t term stands is = (term, stands.1 ∙ ap (λ (s : SortId). Some (term, s)) is)

module _ (d : Declarations) (i : Interp) (terms : Terms) (setting : Setting d i terms) (known : Equations) (sound : (x y : TermId) → known x y → Equal d i terms x y) where
  pub equation_in_sound : (x y : TermId) → IsEquationIn terms known x y → Equal d i terms x y
  equation_in_sound x y rule =
      let boolean = boolean_by terms x (core.Eq rule.left rule.right) rule.stands (setting.table.sorts x.0 (core.Eq rule.left rule.right) rule.stands.0 rule.stands.1).result in
      let holds = (setting.truths.equality x rule.left rule.right rule.stands).1 (sound rule.left rule.right rule.equal) in
      subst (Equal d i terms x) (sym rule.answer) (stated d i terms setting x true boolean holds)

  pub equation_out_sound : (x y : TermId) → IsEquationOut terms known x y → Equal d i terms x y
  equation_out_sound x y rule =
      (setting.truths.equality rule.term x y rule.stands).0 (read d i terms setting rule.term true (sound rule.term (truth_term true) rule.holds))

  pub negation_sound : (x y : TermId) → IsNegation terms known x y → Equal d i terms x y
  negation_sound x y rule =
      let boolean = boolean_by terms x (core.Not rule.argument) rule.stands (setting.table.sorts x.0 (core.Not rule.argument) rule.stands.0 rule.stands.1).1 in
      let turned = setting.truths.negation x rule.argument rule.stands in
      elim rule.answer [
        | inl of_true ↦ subst (Equal d i terms x) (sym of_true.1) (stated d i terms setting x false boolean (turned ∙ ap not (read d i terms setting rule.argument true (sound rule.argument (truth_term true) of_true.0))))
        | inr of_false ↦ subst (Equal d i terms x) (sym of_false.1) (stated d i terms setting x true boolean (turned ∙ ap not (read d i terms setting rule.argument false (sound rule.argument (truth_term false) of_false.0))))
      ]

  pub singleton_sound : (x y : TermId) → IsSingleton d terms x y → Equal d i terms x y
  singleton_sound x y rule =
      setting.values.single (value_of d i terms x) (value_of d i terms y) rule.sort rule.single (setting.table.sorted x rule.sort rule.left) (setting.table.sorted y rule.sort rule.right)
