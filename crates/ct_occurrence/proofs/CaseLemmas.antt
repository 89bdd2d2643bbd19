-- Cases of a tree, and the cases of the formula.
use Rattle.std.proofs.Common.{◌≡◌, ◌==◌, suc, Bool, true, false, List, [], ◌∷◌, length, refl, sym, ap, ap₂, ◌∙◌, arith}
use Rattle.std.proofs.lemmas.Bool.Decides.{Decides-eqb}
use Rattle.ct_formulas.specs.declared.tree.Pattern.{Pattern}
use Rattle.ct_formulas.specs.declared.tree.Case.{Case}
use Rattle.ct_formulas.specs.Formula.{Formula, with_case}
use Rattle.ct_formulas.specs.Compiled.{are_none}
use Rattle.ct_occurrence.specs.CaseFormula.{case_of, cases_of_trees}

pub cases_is : (cases rest : List Case) (case : Case) (p : Pattern) (body : Formula) → cases ≡ case ∷ rest → p ≡ (case_of case).0 → body ≡ (case_of case).1 → cases_of_trees cases ≡ with_case p body (cases_of_trees rest)
cases_is cases rest case p body is pattern formula =
    ap cases_of_trees is ∙ ap₂ (λ (q : Pattern) (f : Formula). with_case q f (cases_of_trees rest)) (sym pattern) (sym formula)

pub none_is : (cases : List Case) → (length cases == 0) ≡ are_none (cases_of_trees cases)
none_is [] = refl
none_is (c ∷ cases) = by (suc (length cases) == 0) refl
  where
    by : (b : Bool) → (suc (length cases) == 0) ≡ b → b ≡ false
    by true e = absurd (omega (arith, (Decides-eqb (suc (length cases)) 0).0 e))
    by false e = refl
