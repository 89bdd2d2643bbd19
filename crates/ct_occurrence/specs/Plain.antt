-- Operators: formulas that bind nothing, but for `ite`, and the formulas under them.
use Rattle.std.specs.Prelude.{Bool, true, false}
use Rattle.ct_formulas.specs.Formula.{Formula, Formulas, Con, Sel, Test, Apply, Not, And, Or, Xor, Implies, Equal, Distinct, no_formulas, with_formula}

-- the formula is an operator over formulas of one environment
abbrev pub is_plain : Formula → Bool
is_plain (Con c ts) = true
is_plain (Sel s t) = true
is_plain (Test c t) = true
is_plain (Apply f ts) = true
is_plain (Not t) = true
is_plain (And ts) = true
is_plain (Or ts) = true
is_plain (Xor ts) = true
is_plain (Implies ts) = true
is_plain (Equal ts) = true
is_plain (Distinct ts) = true
is_plain _ = false

-- the formulas under it
abbrev pub formulas_under : Formula → Formulas
formulas_under (Con c ts) = ts
formulas_under (Sel s t) = with_formula t no_formulas
formulas_under (Test c t) = with_formula t no_formulas
formulas_under (Apply f ts) = ts
formulas_under (Not t) = with_formula t no_formulas
formulas_under (And ts) = ts
formulas_under (Or ts) = ts
formulas_under (Xor ts) = ts
formulas_under (Implies ts) = ts
formulas_under (Equal ts) = ts
formulas_under (Distinct ts) = ts
formulas_under _ = no_formulas
