-- How the assertion stack holds what is declared, defined and asserted.
use Rattle.std.specs.Prelude.{◌≡◌, ◌<◌, ℕ, List, [], ◌∷◌, ◌++◌, map, length, All, Contains, Option}
use Rattle.ct_sorts.specs.Consistent.{IsConsistent}
use Rattle.ct_sorts.specs.Declarations.{Declarations, Function, bool_sort, with_definition}
use Rattle.ct_terms.specs.declared.ids.TermId.{TermId}
use Rattle.ct_formulas.specs.declared.tree.Tree.{Tree}
use Rattle.ct_terms.specs.Terms.{Terms, AreSorted, IsBoolean}
use Rattle.ct_formulas.specs.Formula.{Formula, bind}
use Rattle.ct_formulas.specs.FormulaSorts.{IsSorted, AreSound}
use Rattle.ct_formulas.specs.TreeFormula.{formula_of}
use Rattle.ct_terms.specs.CoreTree.{CoreTree, subtrees, term_at}
use Rattle.ct_closure.specs.Closed.{truth_trees}
use Rattle.ct_closure.specs.ClosedTable.{HasTree, terms_at}
use Rattle.ct_scope.specs.declared.scope.Scope.{Scope}
use Rattle.ct_stack.specs.Stack.{Context, Level, Stack, cores, in_force, context_with, asserted_as}

-- the context that a scope is
abbrev pub context_in : Scope → Context
context_in scope = record { declarations = scope.sig; bodies = map formula_of scope.bodies }

-- the level of these assertions
abbrev pub level_in : Scope → List Tree → Level
level_in scope asserts = record { context = context_in scope; assertions = map formula_of asserts }

-- the stack of one level
abbrev pub alone : Level → Stack
alone level = record { top = level; below = [] }

-- what can be named now, and all assertions in force, as one level
abbrev pub as_one : Stack → Level
as_one stack = record { context = stack.top.context; assertions = in_force stack }

-- each definition has a body of its sort, each assertion is Boolean
pub record IsSoundLevel (level : Level) : Type 0 where
  pub bodies : AreSound level.context.declarations level.context.bodies
  pub asserts : All (λ t. IsSorted level.context.declarations [] t bool_sort) level.assertions

-- the table holds exactly `true`, `false` and these core terms, with their subterms
pub record IsTableOf (d : Declarations) (roots : List CoreTree) (table : Terms) : Type 0 where
  pub sorted : AreSorted d table
  pub covered : (t : TermId) → t.0 < length table → (root : CoreTree) × Contains (truth_trees ++ roots) root × Contains (subtrees root) (term_at table t)
  pub complete : (root s : CoreTree) → Contains (truth_trees ++ roots) root → Contains (subtrees root) s → HasTree table s

-- the table holds exactly the core terms of the assertions, which have these numbers
pub record AreInTable (level : Level) (table : Terms) (numbers : List TermId) : Type 0 where
  pub exact : IsTableOf level.context.declarations (cores level.context level.assertions) table
  pub stand : terms_at table numbers ≡ cores level.context level.assertions
  pub booleans : All (IsBoolean table) numbers

-- what a stack of assertions always holds
pub record IsHeld (level : Level) (table : Terms) (numbers : List TermId) : Type 0 where
  pub sound : IsSoundLevel level
  pub in_table : AreInTable level table numbers

-- the definition was added with its body, over consistent declarations
pub record IsDefined (before later : Declarations) (bodies bodies_now : List Formula) (f : Function × Formula) : Type 0 where
  pub declared : later ≡ with_definition before f.0
  pub bodies_are : bodies_now ≡ bodies ++ f.1 ∷ []
  pub sorted : IsSorted before (bind f.0.args []) f.1 f.0.result
  pub consistent : IsConsistent before

-- the assertion of this formula was added
pub record IsWithOne (before now : List Tree) (formula : Formula) : Type 0 where
  pub tree : Tree
  pub added : now ≡ before ++ tree ∷ []
  pub formula_is : formula_of tree ≡ formula

-- the formula was asserted with this label: what can be named has its definition, and what is asserted of it is the last assertion
pub record IsAsserted (context later : Context) (before now : List Tree) (label : Option (List ℕ)) (formula : Formula) : Type 0 where
  pub context_is : later ≡ context_with context label formula
  pub with_one : IsWithOne before now (asserted_as context label formula)
