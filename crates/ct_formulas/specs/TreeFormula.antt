-- The formula that a tree of the program stands for.
use Rattle.std.specs.Prelude.{List, [], ◌∷◌, map}
use Rattle.ct_formulas.specs.declared.tree.Pattern.{Pattern}
use Rattle.ct_formulas.specs.declared.tree.Tree.{Tree}
use Rattle.ct_formulas.specs.declared.tree.Tree.TheOpen.{Tree-F, Case-F}
use Rattle.ct_formulas.specs.declared.tree.Tree.TheFolds.{fold-Tree}
use Rattle.ct_formulas.specs.Formula.{Formula, Formulas, Cases, Var, Con, Sel, Test, Apply, Def, Not, And, Or, Xor, Implies, Equal, Distinct, Ite, Let, Match, Quantified, no_formulas, with_formula, no_cases, with_case}

-- formulas in a list as arguments
abbrev pub formulas_of : List Formula → Formulas
formulas_of [] = no_formulas
formulas_of (t ∷ ts) = with_formula t (formulas_of ts)

-- cases in a list as those of a `match`
abbrev pub cases_of : List (Pattern × Formula) → Cases
cases_of [] = no_cases
cases_of (c ∷ cs) = with_case c.0 c.1 (cases_of cs)

-- one layer of a case, whose body stands for a formula
abbrev pub case_layer : Case-F Formula (Pattern × Formula) → Pattern × Formula
case_layer c = (c.pattern, c.body)

-- one layer of a tree, over what the trees and cases right under it stand for
abbrev pub formula_layer : Tree-F Formula (Pattern × Formula) → Formula
formula_layer (Tree-F.Var i) = Var i
formula_layer (Tree-F.Con c ts) = Con c (formulas_of ts.items)
formula_layer (Tree-F.Sel s t) = Sel s t.value
formula_layer (Tree-F.Test c t) = Test c t.value
formula_layer (Tree-F.Apply f ts) = Apply f (formulas_of ts.items)
formula_layer (Tree-F.Def k ts) = Def k (formulas_of ts.items)
formula_layer (Tree-F.Not t) = Not t.value
formula_layer (Tree-F.And ts) = And (formulas_of ts.items)
formula_layer (Tree-F.Or ts) = Or (formulas_of ts.items)
formula_layer (Tree-F.Xor ts) = Xor (formulas_of ts.items)
formula_layer (Tree-F.Implies ts) = Implies (formulas_of ts.items)
formula_layer (Tree-F.Equal ts) = Equal (formulas_of ts.items)
formula_layer (Tree-F.Distinct ts) = Distinct (formulas_of ts.items)
formula_layer (Tree-F.Ite c t u) = Ite c.value t.value u.value
formula_layer (Tree-F.Let ts u) = Let (formulas_of ts.items) u.value
formula_layer (Tree-F.Match t cases) = Match t.value (cases_of cases.items)
formula_layer (Tree-F.Quantified q sorts t) = Quantified q sorts.items t.value

-- the formula of a tree
abbrev pub formula_of : Tree → Formula
formula_of = fold-Tree Formula (Pattern × Formula) formula_layer case_layer

-- the formulas of several trees
abbrev pub formulas_of_trees : List Tree → Formulas
formulas_of_trees ts = formulas_of (map formula_of ts)
