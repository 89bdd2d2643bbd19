-- How large a formula is: a bound for recursion over it.
use Rattle.std.specs.Prelude.{ℕ, ◌+◌}
use Rattle.ct_formulas.specs.Formula.{Formula, Formulas, Cases, Var, Con, Sel, Test, Apply, Def, Not, And, Or, Xor, Implies, Equal, Distinct, Ite, Let, Match, Quantified, no_formulas, with_formula, no_cases, with_case}

abbrev mutual
  -- the size of a formula
  pub size : Formula → ℕ
  size (Var i) = 1
  size (Con c ts) = sizes ts + 2
  size (Sel s t) = size t + 3
  size (Test c t) = size t + 3
  size (Apply f ts) = sizes ts + 2
  size (Def k ts) = sizes ts + 2
  size (Not t) = size t + 3
  size (And ts) = sizes ts + 2
  size (Or ts) = sizes ts + 2
  size (Xor ts) = sizes ts + 2
  size (Implies ts) = sizes ts + 2
  size (Equal ts) = sizes ts + 2
  size (Distinct ts) = sizes ts + 2
  size (Ite c t u) = size c + size t + size u + 2
  size (Let ts u) = sizes ts + size u + 2
  size (Match t cases) = size t + case_sizes cases + 3
  size (Quantified q sorts t) = size t + 3

  -- that of several
  pub sizes : Formulas → ℕ
  sizes no_formulas = 0
  sizes (with_formula t ts) = size t + sizes ts + 1

  -- that of the cases of a `match`
  pub case_sizes : Cases → ℕ
  case_sizes no_cases = 0
  case_sizes (with_case p body cases) = size body + case_sizes cases + 2
