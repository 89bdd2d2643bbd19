-- Calls of definitions that are compiled already, each with its term.
use Rattle.std.specs.Prelude.{◌≡◌, ℕ, suc, Bool, List, [], ◌∷◌, Some, None}
use Rattle.std.specs.List.{AllZip}
use Rattle.indexmap.specs.IndexMap.{IndexMap, get}
use Rattle.ct_sorts.specs.declared.ids.DefId.{DefId}
use Rattle.ct_sorts.specs.Declarations.{Declarations}
use Rattle.ct_terms.specs.declared.ids.TermId.{TermId}
use Rattle.ct_terms.specs.Terms.{Terms}
use Rattle.ct_terms.specs.CoreTree.{CoreTree}
use Rattle.ct_formulas.specs.Formula.{Formula}
use Rattle.ct_formulas.specs.Occurrence.{uses_below}
use Rattle.ct_scope.specs.declared.bound.Bound.{Bound}
use Rattle.ct_scope.specs.declared.bound.Bound.TheVariants.{Term, Field, Absent}
use Rattle.ct_scope.specs.declared.known.Called.{Called}
use Rattle.ct_scope.specs.declared.stop.DeferredCall.{DeferredCall}
use Rattle.ct_scope.specs.contracts.known.CalledPartialEq.TheImpl as derived
use Rattle.ct_operators.specs.Effect.{Stands}
use Rattle.ct_operators.specs.Made.{HasTrees}
use Rattle.ct_scope.specs.Making.{makes_below}
use Rattle.ct_scope.specs.Compilable.{compiled_calls, IsBound}
use Rattle.ct_scope.specs.Binding.{IsBoundAs}
use Rattle.ct_occurrence.specs.Marks.{Rows, row_in, HaveRows}

-- the derived test of two calls
abbrev pub same_call : Called → Called → Bool
same_call = derived.eq-value.it

-- the terms that are there, in order
abbrev pub terms_bound : List Bound → List TermId
terms_bound [] = []
terms_bound (Term t ∷ bs) = t ∷ terms_bound bs
terms_bound (Field s t ∷ bs) = terms_bound bs
terms_bound (Absent ∷ bs) = terms_bound bs

-- the call of a definition with what its parameters stand for
abbrev pub call_of : DefId → List Bound → Called
call_of k bs = record { definition = k; args = terms_bound bs }

-- the term is what the definition gives for trees that stand at the arguments, and what is made for it is there
pub record IsRecalled (d : Declarations) (bodies : List Formula) (rows : Rows) (table : Terms) (call : Called) (t : TermId) : Type 0 where
  pub bounds : List Bound
  pub trees : List CoreTree
  pub row : List Bool
  pub args : call ≡ call_of call.definition bounds
  pub at : row_in rows call.definition ≡ Some row
  pub flags : AllZip IsBoundAs row bounds
  pub stand : AllZip (IsBound table) bounds trees
  pub stands : Stands table t (compiled_calls d bodies (suc call.definition.0) call.definition trees)
  pub made : HasTrees table (makes_below d bodies (suc call.definition.0) call.definition trees)

-- the rows say which parameters occur, and what is known of calls is true
pub record IsState {S : Type 0} (d : Declarations) (bodies : List Formula) (n : ℕ) (rows : Rows) (table : Terms) (known : IndexMap Called TermId S) : Type 0 where
  pub have : HaveRows d (uses_below d bodies n) n rows
  pub recalls : (call : Called) (t : TermId) → get same_call known call ≡ Some t → IsRecalled d bodies rows table call t

-- the term of a call that is put off is not known
abbrev pub IsUnknown : {S : Type 0} → IndexMap Called TermId S → DeferredCall → Type 0
IsUnknown known call = get same_call known (call_of call.definition call.bounds) ≡ None
