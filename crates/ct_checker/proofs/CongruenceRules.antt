-- The rules of equality are sound: reflexivity, transitivity and congruence.
use Rattle.std.proofs.Common.{subst}
use Rattle.ct_lemmas.proofs.Pairs.{AllZip-weaker}
use Rattle.ct_sorts.specs.Declarations.{Declarations}
use Rattle.ct_terms.specs.declared.ids.TermId.{TermId}
use Rattle.ct_terms.specs.Children.{core_children}
use Rattle.ct_terms.specs.Terms.{Terms}
use Rattle.ct_eval.specs.declared.interp.Interp.{Interp}
use Rattle.ct_rules.specs.Rules.{Equations, IsReflexive, IsTransitive, IsCongruence}
use Rattle.ct_checker.proofs.Setting.{Setting, Equal, value_point}

module _ (d : Declarations) (i : Interp) (terms : Terms) (setting : Setting d i terms) (known : Equations) (sound : (x y : TermId) → known x y → Equal d i terms x y) where
  pub reflexive_sound : (x y : TermId) → IsReflexive terms x y → Equal d i terms x y
  reflexive_sound x y rule = subst (Equal d i terms x) rule.one (setting.same.itself (value_point d i terms x))

  pub transitive_sound : (x y : TermId) → IsTransitive known x y → Equal d i terms x y
  transitive_sound x y rule = setting.same.chained _ _ _ (sound x rule.middle rule.first) (sound rule.middle y rule.second)

  pub congruence_sound : (x y : TermId) → IsCongruence terms known x y → Equal d i terms x y
  congruence_sound x y rule =
      setting.table.congruent x y rule.left rule.right rule.left_stands rule.right_stands
      (rule.head, AllZip-weaker known (Equal d i terms) sound (core_children rule.left) (core_children rule.right) rule.arguments)
