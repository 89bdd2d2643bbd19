-- What crates below say of sort expressions, of what is stored of them, and of texts, as one.
use Rattle.std.specs.Prelude.{◌≡◌, ◌↔◌, ℕ, List, ◌++◌, Option, Ok, Some, slice_get}
use Rattle.ct_sexpr.specs.Atom.{Atom}
use Rattle.ct_sexpr.specs.Expression.{Expression as Sexpr}
use Rattle.ct_sexpr.specs.Readable.{IsReadable, name_of_atom}
use Rattle.ct_sexpr.specs.Written.{written, canonical, canonical_atom}
use Rattle.ct_generics.specs.declared.decl.SortDecl.{SortDecl}
use Rattle.ct_generics.specs.declared.expr.SortExpr.{SortExpr}
use Rattle.ct_generics.specs.declared.generics.Generics.{Generics}
use Rattle.ct_generics.specs.declared.kind.Kind.{Kind}
use Rattle.ct_generics.specs.declared.sort_table.SortTable.{SortTable}
use Rattle.ct_generics.specs.Add.{Adds}
use Rattle.ct_generics.specs.Additions.{IsAddition}
use Rattle.ct_generics.specs.Block.{heads_in, with_heads}
use Rattle.ct_generics.specs.Declarations.{Declared, Head, Synonym, IsExpression}
use Rattle.ct_generics.specs.Denoted.{declared_of, sorts_of}
use Rattle.ct_generics.specs.Expression.{Expression, at_own_parameters}
use Rattle.ct_generics.specs.Founded.{IsFounded}
use Rattle.ct_generics.specs.Nodes.{Stay}
use Rattle.ct_generics.specs.Resolved.{resolved}
use Rattle.ct_generics.specs.SortTable.{AreSorts}
use Rattle.ct_generics.specs.Stored.{AreDeclared}
use Rattle.ct_generics.specs.Synonyms.{with_synonym}
use Rattle.ct_generics.specs.WellFormed.{AreBlockParametersBelow, AreExpressions, AreParametersBelow, HaveExpressions, IsWellFormed}

pub record Facts : Type 0 where
  -- what is stored stands for one value
  pub declared : (g : Generics) (d : Declared) → AreDeclared g d → declared_of g ≡ d
  pub sorts : (table : SortTable) (sorts : List Expression) → AreSorts table sorts → sorts_of table ≡ sorts
  pub stay : (old new : SortTable) (sorts : List Expression) → AreSorts old sorts → new.sorts ≡ old.sorts → Stay old.expressions new.expressions → AreSorts new sorts
  -- what adding sorts keeps, and which expressions are over their parameters
  pub keeps : (heads : List Head) (es before after : List Expression) → Adds heads es before after → IsAddition heads es before after
  pub added : (heads : List Head) (es before after : List Expression) → HaveExpressions heads → Adds heads es before after → AreExpressions heads 0 es → AreExpressions heads 0 before → AreExpressions heads 0 after
  pub resolved : (d : Declared) (params : ℕ) (expr : SortExpr) (e : Expression) → IsWellFormed d → AreParametersBelow params expr → resolved d expr ≡ Ok e → IsExpression d.heads params e
  pub block : (d : Declared) (kind : Kind) (decls : List SortDecl) (own : List Head) → IsWellFormed d → AreBlockParametersBelow decls → heads_in d kind decls ≡ Ok own → IsWellFormed (with_heads d own)
  pub synonym : (d : Declared) (s : Synonym) → IsWellFormed d → IsExpression d.heads s.params s.body → IsWellFormed (with_synonym d s)
  pub more : (heads rest : List Head) (params : ℕ) (e : Expression) → IsExpression heads params e → IsExpression (heads ++ rest) params e
  pub own : (heads : List Head) (h : ℕ) (head : Head) → slice_get heads h ≡ Some head → IsExpression heads head.params (at_own_parameters h head.params)
  -- what is well founded
  pub founded : (heads : List Head) → HaveExpressions heads → ((h : ℕ) (head : Head) → slice_get heads h ≡ Some head → IsFounded heads (at_own_parameters h head.params)) → (e : Expression) → IsExpression heads 0 e → IsFounded heads e
  pub founded_more : (heads rest : List Head) (params : ℕ) (e : Expression) → HaveExpressions heads → IsExpression heads params e → IsFounded heads e → IsFounded (heads ++ rest) e
  -- what texts tell
  pub same_text : (e f : Sexpr) → IsReadable e → IsReadable f → (written e ≡ written f) ↔ (canonical e ≡ canonical f)
  pub one_name : (a : Atom) → name_of_atom (canonical_atom a) ≡ name_of_atom a
