-- Parameters in written sort expressions.
use Rattle.std.specs.Prelude.{ℕ, List}
use Rattle.ct_generics.specs.declared.expr.SortExpr.{SortExpr}
use Rattle.ct_generics.specs.declared.decl.SortDecl.{SortDecl}
use Rattle.ct_generics.specs.WellFormed.{AreParametersBelow as BelowInExpression, AreBlockParametersBelow as BelowInBlock}

-- each parameter in the written expression is one of so many
abbrev pub AreParametersBelow : ℕ → SortExpr → Type 0
AreParametersBelow params expr = BelowInExpression params expr

-- so it is in each declaration of the block
abbrev pub AreBlockParametersBelow : List SortDecl → Type 0
AreBlockParametersBelow block = BelowInBlock block
