-- Every rule on equations but uniqueness is sound: from terms that have one value it gives terms that have one.
use Rattle.ct_sorts.specs.Declarations.{Declarations}
use Rattle.ct_terms.specs.declared.ids.TermId.{TermId}
use Rattle.ct_terms.specs.Terms.{Terms}
use Rattle.ct_eval.specs.declared.interp.Interp.{Interp}
use Rattle.ct_rules.specs.Rules.{Equations, Follows, by_reflexivity, by_symmetry, by_transitivity, by_congruence, by_injection, by_selection, by_testing, by_expansion, by_equation_in, by_equation_out, by_negation, by_singleton}
use Rattle.ct_checker.proofs.Setting.{Setting, Equal}
use Rattle.ct_checker.proofs.CongruenceRules.{reflexive_sound, transitive_sound, congruence_sound}
use Rattle.ct_checker.proofs.ConstructorRules.{injection_sound, selection_sound, testing_sound, expansion_sound}
use Rattle.ct_checker.proofs.EquationRules.{equation_in_sound, equation_out_sound, negation_sound, singleton_sound}

module _ (d : Declarations) (i : Interp) (terms : Terms) (setting : Setting d i terms) (known : Equations) (sound : (x y : TermId) → known x y → Equal d i terms x y) where
  pub follows_sound : (x y : TermId) → Follows d terms known x y → Equal d i terms x y
  follows_sound x y (by_reflexivity rule) = reflexive_sound d i terms setting known sound x y rule
  follows_sound x y (by_symmetry turned) = setting.same.turned _ _ (sound y x turned)
  follows_sound x y (by_transitivity rule) = transitive_sound d i terms setting known sound x y rule
  follows_sound x y (by_congruence rule) = congruence_sound d i terms setting known sound x y rule
  follows_sound x y (by_injection rule) = injection_sound d i terms setting known sound x y rule
  follows_sound x y (by_selection rule) = selection_sound d i terms setting known sound x y rule
  follows_sound x y (by_testing rule) = testing_sound d i terms setting known sound x y rule
  follows_sound x y (by_expansion rule) = expansion_sound d i terms setting known sound x y rule
  follows_sound x y (by_equation_in rule) = equation_in_sound d i terms setting known sound x y rule
  follows_sound x y (by_equation_out rule) = equation_out_sound d i terms setting known sound x y rule
  follows_sound x y (by_negation rule) = negation_sound d i terms setting known sound x y rule
  follows_sound x y (by_singleton rule) = singleton_sound d i terms setting known sound x y rule
