-- How a formula is kept as a tree of numbers, by which proofs tell formulas apart.
use Rattle.std.specs.Prelude.{◌≡◌, ℕ, zero, suc, ◌==◌, List, [], ◌∷◌, if◌then◌else◌, refl}
use mathlib.Core.Path.{ap, ◌∙◌}
use base.Stored.{Gv, gnil, gnum, gcons}
use denote.Struct.Codes.{itself}
use Rattle.std.specs.Coded.{Coded, code_by}
use Rattle.ct_formulas.specs.declared.tree.Pattern.{Pattern}
use Rattle.ct_formulas.specs.declared.tree.Pattern.TheVariants.{Ctor, Any}
use Rattle.ct_sorts.specs.declared.ids.SortId.{SortId}
use Rattle.ct_formulas.specs.declared.tree.Quantifier.{Quantifier}
use Rattle.ct_formulas.specs.declared.tree.Quantifier.TheVariants.{Forall, Exists}
use Rattle.ct_formulas.specs.Formula.{Formula, Formulas, Cases, Var, Con, Sel, Test, Apply, Def, Not, And, Or, Xor, Implies, Equal, Distinct, Ite, Let, Match, Quantified, no_formulas, with_formula, no_cases, with_case}

-- a form by its number, with a number and up to three parts
abbrev node : ℕ → ℕ → Gv → Gv → Gv → Gv
node form n a b c = gcons (gnum form) (gcons (gnum n) (gcons a (gcons b c)))

abbrev of_pattern : Pattern → Gv
of_pattern (Ctor c) = gnum c.0
of_pattern Any = gnil

abbrev of_quantifier : Quantifier → ℕ
of_quantifier Forall = 0
of_quantifier Exists = 1

abbrev of_sorts : List SortId → Gv
of_sorts [] = gnil
of_sorts (s ∷ sorts) = gcons (gnum s.0) (of_sorts sorts)

abbrev mutual
  of_formula : Formula → Gv
  of_formula (Var i) = node 0 i gnil gnil gnil
  of_formula (Con c ts) = node 1 c.0 (of_formulas ts) gnil gnil
  of_formula (Sel s t) = node 2 s.0 (of_formula t) gnil gnil
  of_formula (Test c t) = node 3 c.0 (of_formula t) gnil gnil
  of_formula (Apply f ts) = node 4 f.0 (of_formulas ts) gnil gnil
  of_formula (Def k ts) = node 5 k.0 (of_formulas ts) gnil gnil
  of_formula (Not t) = node 6 0 (of_formula t) gnil gnil
  of_formula (And ts) = node 7 0 (of_formulas ts) gnil gnil
  of_formula (Or ts) = node 8 0 (of_formulas ts) gnil gnil
  of_formula (Xor ts) = node 9 0 (of_formulas ts) gnil gnil
  of_formula (Implies ts) = node 10 0 (of_formulas ts) gnil gnil
  of_formula (Equal ts) = node 11 0 (of_formulas ts) gnil gnil
  of_formula (Distinct ts) = node 12 0 (of_formulas ts) gnil gnil
  of_formula (Ite c t u) = node 13 0 (of_formula c) (of_formula t) (of_formula u)
  of_formula (Let ts u) = node 14 0 (of_formulas ts) (of_formula u) gnil
  of_formula (Match t cs) = node 15 0 (of_formula t) (of_cases cs) gnil
  of_formula (Quantified q sorts t) = node 16 (of_quantifier q) (of_sorts sorts) (of_formula t) gnil

  of_formulas : Formulas → Gv
  of_formulas no_formulas = gnil
  of_formulas (with_formula t ts) = gcons (of_formula t) (of_formulas ts)

  of_cases : Cases → Gv
  of_cases no_cases = gnil
  of_cases (with_case p t cs) = gcons (gcons (of_pattern p) (of_formula t)) (of_cases cs)

abbrev to_pattern : Gv → Pattern
to_pattern gnil = Any
to_pattern (gnum n) = Ctor (record { 0 = n })
to_pattern (gcons a b) = Any

abbrev to_quantifier : ℕ → Quantifier
to_quantifier zero = Forall
to_quantifier (suc n) = Exists

abbrev to_sorts : Gv → List SortId
to_sorts gnil = []
to_sorts (gnum n) = []
to_sorts (gcons gnil b) = []
to_sorts (gcons (gnum n) b) = record { 0 = n } ∷ to_sorts b
to_sorts (gcons (gcons a c) b) = []

-- the form of this number, by its number and its parts, each of which is read as what the form has there
abbrev formed : ℕ → ℕ → Formulas → Formula → Formula → Formula → Cases → List SortId → Formula
formed form n ts t u v cs sorts =
    if form == 1 then Con (record { 0 = n }) ts else
    if form == 2 then Sel (record { 0 = n }) t else
    if form == 3 then Test (record { 0 = n }) t else
    if form == 4 then Apply (record { 0 = n }) ts else
    if form == 5 then Def (record { 0 = n }) ts else
    if form == 6 then Not t else
    if form == 7 then And ts else
    if form == 8 then Or ts else
    if form == 9 then Xor ts else
    if form == 10 then Implies ts else
    if form == 11 then Equal ts else
    if form == 12 then Distinct ts else
    if form == 13 then Ite t u v else
    if form == 14 then Let ts u else
    if form == 15 then Match t cs else
    if form == 16 then Quantified (to_quantifier n) sorts u else Var n

abbrev mutual
  to_formula : Gv → Formula
  to_formula (gcons (gnum form) (gcons (gnum n) (gcons a (gcons b c)))) = formed form n (to_formulas a) (to_formula a) (to_formula b) (to_formula c) (to_cases b) (to_sorts a)
  to_formula g = Var 0

  to_formulas : Gv → Formulas
  to_formulas (gcons a b) = with_formula (to_formula a) (to_formulas b)
  to_formulas g = no_formulas

  to_cases : Gv → Cases
  to_cases (gcons (gcons p a) b) = with_case (to_pattern p) (to_formula a) (to_cases b)
  to_cases g = no_cases

pattern_back : (p : Pattern) → to_pattern (of_pattern p) ≡ p
pattern_back (Ctor c) = refl
pattern_back Any = refl

quantifier_back : (q : Quantifier) → to_quantifier (of_quantifier q) ≡ q
quantifier_back Forall = refl
quantifier_back Exists = refl

sorts_back : (sorts : List SortId) → to_sorts (of_sorts sorts) ≡ sorts
sorts_back [] = refl
sorts_back (s ∷ sorts) = ap (λ (ss : List SortId). s ∷ ss) (sorts_back sorts)

mutual
  pub formula_back : (t : Formula) → to_formula (of_formula t) ≡ t
  formula_back (Var i) = refl
  formula_back (Con c ts) = ap (Con c) (formulas_back ts)
  formula_back (Sel s t) = ap (Sel s) (formula_back t)
  formula_back (Test c t) = ap (Test c) (formula_back t)
  formula_back (Apply f ts) = ap (Apply f) (formulas_back ts)
  formula_back (Def k ts) = ap (Def k) (formulas_back ts)
  formula_back (Not t) = ap Not (formula_back t)
  formula_back (And ts) = ap And (formulas_back ts)
  formula_back (Or ts) = ap Or (formulas_back ts)
  formula_back (Xor ts) = ap Xor (formulas_back ts)
  formula_back (Implies ts) = ap Implies (formulas_back ts)
  formula_back (Equal ts) = ap Equal (formulas_back ts)
  formula_back (Distinct ts) = ap Distinct (formulas_back ts)
  formula_back (Ite c t u) =
      ap (λ (x : Formula). Ite x (to_formula (of_formula t)) (to_formula (of_formula u))) (formula_back c)
      ∙ ap (λ (x : Formula). Ite c x (to_formula (of_formula u))) (formula_back t)
      ∙ ap (λ (x : Formula). Ite c t x) (formula_back u)
  formula_back (Let ts u) = ap (λ (x : Formulas). Let x (to_formula (of_formula u))) (formulas_back ts) ∙ ap (Let ts) (formula_back u)
  formula_back (Match t cs) = ap (λ (x : Formula). Match x (to_cases (of_cases cs))) (formula_back t) ∙ ap (Match t) (cases_back cs)
  formula_back (Quantified q sorts t) =
      ap (λ (x : Quantifier). Quantified x (to_sorts (of_sorts sorts)) (to_formula (of_formula t))) (quantifier_back q)
      ∙ ap (λ (x : List SortId). Quantified q x (to_formula (of_formula t))) (sorts_back sorts)
      ∙ ap (Quantified q sorts) (formula_back t)

  pub formulas_back : (ts : Formulas) → to_formulas (of_formulas ts) ≡ ts
  formulas_back no_formulas = refl
  formulas_back (with_formula t ts) = ap (λ (x : Formula). with_formula x (to_formulas (of_formulas ts))) (formula_back t) ∙ ap (with_formula t) (formulas_back ts)

  pub cases_back : (cs : Cases) → to_cases (of_cases cs) ≡ cs
  cases_back no_cases = refl
  cases_back (with_case p t cs) =
      ap (λ (x : Pattern). with_case x (to_formula (of_formula t)) (to_cases (of_cases cs))) (pattern_back p)
      ∙ ap (λ (x : Formula). with_case p x (to_cases (of_cases cs))) (formula_back t)
      ∙ ap (with_case p t) (cases_back cs)

-- the code of formulas
abbrev pub coded_formula : Coded Formula
coded_formula = code_by Gv itself of_formula to_formula formula_back
