-- Declarations in which each field sort and each synonym is an expression over its parameters.
use Rattle.std.specs.Prelude.{◌≡◌, ℕ, Bool, true, nat_lt, List, All, Some, slice_get}
use Rattle.std.specs.List.{list_all}
use Rattle.ct_generics.specs.declared.decl.CtorDecl.{CtorDecl}
use Rattle.ct_generics.specs.declared.decl.Field.{Field}
use Rattle.ct_generics.specs.declared.decl.SortDecl.{SortDecl}
use Rattle.ct_generics.specs.declared.expr.SortExpr.{SortExpr}
use Rattle.ct_generics.specs.declared.expr.SortExpr.TheOpen.{SortExpr-F}
use Rattle.ct_generics.specs.declared.expr.SortExpr.TheFolds.{fold-SortExpr}
use Rattle.ct_generics.specs.Expression.{Expression}
use Rattle.ct_generics.specs.Declarations.{Declared, Head, Synonym, IsExpression}

-- one layer of a written expression, over whether the parameters right under it are below the bound
abbrev pub has_below : ℕ → SortExpr-F Bool → Bool
has_below params (SortExpr-F.Param i) = nat_lt i params
has_below params (SortExpr-F.App name args) = list_all (λ below. below) args.items

-- each parameter in the written expression is one of so many
abbrev pub AreParametersBelow : ℕ → SortExpr → Type 0
AreParametersBelow params expr = fold-SortExpr Bool (has_below params) expr ≡ true

-- so it is in each declaration of the block
abbrev pub AreBlockParametersBelow : List SortDecl → Type 0
AreBlockParametersBelow block = All (λ (s : SortDecl). All (λ (c : CtorDecl). All (λ (f : Field). AreParametersBelow s.params f.sort) c.fields) s.ctors) block

-- each of these is an expression over so many parameters
abbrev pub AreExpressions : List Head → ℕ → List Expression → Type 0
AreExpressions heads params es = (k : ℕ) (e : Expression) → slice_get es k ≡ Some e → IsExpression heads params e

-- the sorts of all fields are expressions over the parameters of the sort or generic
abbrev pub HasExpressions : List Head → Head → Type 0
HasExpressions heads head = (i : ℕ) (ctor : List Expression) → slice_get head.ctors i ≡ Some ctor → AreExpressions heads head.params ctor

-- so it is for each sort or generic
abbrev pub HaveExpressions : List Head → Type 0
HaveExpressions heads = (h : ℕ) (head : Head) → slice_get heads h ≡ Some head → HasExpressions heads head

-- and for each synonym
pub record IsWellFormed (d : Declared) : Type 0 where
  pub heads : HaveExpressions d.heads
  pub synonyms : (i : ℕ) (s : Synonym) → slice_get d.synonyms i ≡ Some s → IsExpression d.heads s.params s.body
