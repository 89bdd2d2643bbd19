-- How much work a formula is with the definitions that it names: a bound for recursion over both.
use Rattle.std.specs.Prelude.{ℕ, zero, suc, ◌+◌, ◌==◌, List, Option, Some, None, slice_get, if◌then◌else◌}
use Rattle.ct_sorts.specs.declared.ids.DefId.{DefId}
use Rattle.ct_formulas.specs.Formula.{Formula, Formulas, Cases, Var, Con, Sel, Test, Apply, Def, Not, And, Or, Xor, Implies, Equal, Distinct, Ite, Let, Match, Quantified, no_formulas, with_formula, no_cases, with_case}

abbrev mutual
  -- the weight of a formula, where each definition has a weight
  pub weight : (DefId → ℕ) → Formula → ℕ
  weight w (Var i) = 1
  weight w (Con c ts) = weights w ts + 2
  weight w (Sel s t) = weight w t + 3
  weight w (Test c t) = weight w t + 3
  weight w (Apply f ts) = weights w ts + 2
  weight w (Def k ts) = w k + weights w ts + 2
  weight w (Not t) = weight w t + 3
  weight w (And ts) = weights w ts + 2
  weight w (Or ts) = weights w ts + 2
  weight w (Xor ts) = weights w ts + 2
  weight w (Implies ts) = weights w ts + 2
  weight w (Equal ts) = weights w ts + 2
  weight w (Distinct ts) = weights w ts + 2
  weight w (Ite c t u) = weight w c + weight w t + weight w u + 2
  weight w (Let ts u) = weights w ts + weight w u + 2
  weight w (Match t cases) = weight w t + case_weights w cases + 3
  weight w (Quantified q sorts t) = weight w t + 6

  -- that of several
  pub weights : (DefId → ℕ) → Formulas → ℕ
  weights w no_formulas = 0
  weights w (with_formula t ts) = weight w t + weights w ts + 1

  -- that of the cases of a `match`
  pub case_weights : (DefId → ℕ) → Cases → ℕ
  case_weights w no_cases = 0
  case_weights w (with_case p body cases) = weight w body + case_weights w cases + 2

-- the weight of a body
abbrev pub body_weight : (DefId → ℕ) → Option Formula → ℕ
body_weight w None = 0
body_weight w (Some body) = weight w body

-- the weights of the definitions below a number
unfoldable pub weights_below : List Formula → ℕ → DefId → ℕ
weights_below bodies zero k = 0
weights_below bodies (suc n) k = if k.0 == n then body_weight (weights_below bodies n) (slice_get bodies n) else weights_below bodies n k
