-- The sizes of the first of several formulas and of the others.
use Rattle.std.proofs.Common.{ℕ, ◌<◌, ◌≤◌, arith}
use Rattle.ct_formulas.specs.declared.tree.Pattern.{Pattern}
use Rattle.ct_formulas.specs.Formula.{Formula, Formulas, Cases, with_formula, with_case}
use Rattle.ct_occurrence.proofs.Size.{size, sizes, case_sizes}

pub first_size : (t : Formula) (ts : Formulas) (n : ℕ) → sizes (with_formula t ts) ≤ n → (size t < n) × (sizes ts ≤ n)
first_size t ts n h = (omega (arith, h), omega (arith, h))

pub first_case_size : (p : Pattern) (body : Formula) (cases : Cases) (n : ℕ) → case_sizes (with_case p body cases) ≤ n → (size body < n) × (case_sizes cases ≤ n)
first_case_size p body cases n h = (omega (arith, h), omega (arith, h))
