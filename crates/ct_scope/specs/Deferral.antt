-- Calls that are put off since they lie too deep under others: what was made before such a call, and what it is to make.
use Rattle.std.specs.Prelude.{◌≡◌, ℕ, suc, ◌<◌, Bool, List, [], ◌++◌, Some, slice_get, Result, Ok, Err}
use Rattle.std.specs.List.{AllZip}
use Rattle.ct_sorts.specs.declared.ids.CtorId.{CtorId}
use Rattle.ct_sorts.specs.declared.ids.SortId.{SortId}
use Rattle.ct_sorts.specs.Declarations.{Declarations}
use Rattle.ct_terms.specs.declared.ids.TermId.{TermId}
use Rattle.ct_terms.specs.declared.error.TermError.{TermError}
use Rattle.ct_terms.specs.declared.error.TermError.TheVariants.{NoMemory}
use Rattle.ct_terms.specs.Terms.{Terms}
use Rattle.ct_terms.specs.CoreTree.{CoreTree}
use Rattle.ct_formulas.specs.Formula.{Formula, Formulas, Cases, bind}
use Rattle.ct_formulas.specs.Compiled.{compiled, compiled_all, compiled_cases}
use Rattle.ct_scope.specs.declared.bound.Bound.{Bound}
use Rattle.ct_operators.specs.declared.operator.Operator.{Operator}
use Rattle.ct_scope.specs.declared.stop.DeferredCall.{DeferredCall}
use Rattle.ct_scope.specs.declared.stop.Stop.{Stop}
use Rattle.ct_scope.specs.declared.stop.Stop.TheVariants.{Failed, TooDeep}
use Rattle.ct_operators.specs.Effect.{Within}
use Rattle.ct_operators.specs.Forms.{combined}
use Rattle.ct_operators.specs.Made.{MakesInOrder, made_by}
use Rattle.ct_scope.specs.Making.{making, made_each, making_cases, makes_below, defined}
use Rattle.ct_occurrence.specs.Marks.{Rows, row_in}
use Rattle.ct_scope.specs.Compilable.{compiled_calls, IsBound, IsCompilable, AreUnder}
use Rattle.ct_scope.specs.Binding.{IsBoundAs, WithinWhere, making_where, AreBinding}
use Rattle.ct_scope.specs.Matching.{AreCases}

-- the answer for those who do not go on: a call that is put off ends the work as out of memory does
abbrev pub ended : {A : Type 0} → Result A Stop → Result A TermError
ended (Ok a) = Ok a
ended (Err (Failed e)) = Err e
ended (Err (TooDeep call)) = Err NoMemory

-- it is so unless compiling failed
abbrev pub UnlessFailed : {A : Type 0} → Result A Stop → Type 0 → Type 0
UnlessFailed (Ok a) P = P
UnlessFailed (Err (Failed e)) P = Unit {0}
UnlessFailed (Err (TooDeep call)) P = P

-- it is so of the call that is put off, where one is
abbrev pub WhenTooDeep : {A : Type 0} → Result A Stop → (DeferredCall → Type 0) → Type 0
WhenTooDeep (Ok a) P = Unit {0}
WhenTooDeep (Err (Failed e)) P = Unit {0}
WhenTooDeep (Err (TooDeep call)) P = P call

-- the call may be compiled over the table: its parameters stand for these trees
pub record IsCall (d : Declarations) (bodies : List Formula) (rows : Rows) (table : Terms) (call : DeferredCall) (trees : List CoreTree) : Type 0 where
  pub row : List Bool
  pub at_row : row_in rows call.definition ≡ Some row
  pub flags : AllZip IsBoundAs row call.bounds
  pub stand : AllZip (IsBound table) call.bounds trees
  pub body : Formula
  pub at : slice_get bodies call.definition.0 ≡ Some body
  pub sorts : List SortId
  pub sort : SortId
  pub ready : IsCompilable d bodies table call.definition.0 (bind call.bounds []) body (bind trees []) (bind sorts []) sort

-- of what is to be made (`made`), all was made that comes before the terms of this call, whose terms are allowed
pub record WaitsForCall (d : Declarations) (bodies : List Formula) (rows : Rows) (n : ℕ) (old new : Terms) (made : List CoreTree) (allows : List CoreTree → Type 0) (call : DeferredCall) : Type 0 where
  pub trees : List CoreTree
  pub below : call.definition.0 < n
  pub is_call : IsCall d bodies rows new call trees
  pub within : (allowed : List CoreTree) → allows allowed → Within allowed (compiled_calls d bodies (suc call.definition.0) call.definition trees)
  pub before : List CoreTree
  pub after : List CoreTree
  pub order : made ≡ before ++ (makes_below d bodies (suc call.definition.0) call.definition trees ++ after)
  pub makes : MakesInOrder old before new

-- where a call under a formula is put off, it waits
abbrev pub Defers : Declarations → List Formula → Rows → ℕ → Terms → Terms → List Bound → Formula → Result TermId Stop → Type 0
Defers d bodies rows n old new env t r = WhenTooDeep r (λ call. (trees : List CoreTree) (sorts : List SortId) (sort : SortId) → IsCompilable d bodies old n env t trees sorts sort → WaitsForCall d bodies rows n old new (making d (defined d bodies n) trees t) (λ allowed. Within allowed (compiled d (compiled_calls d bodies n) trees t)) call)

-- the same of a call under the formulas of an operator
abbrev pub DefersAll : Declarations → List Formula → Rows → ℕ → Terms → Terms → List Bound → Operator → Formulas → Result (List TermId) Stop → Type 0
DefersAll d bodies rows n old new env o ts r = WhenTooDeep r (λ call. (trees : List CoreTree) (sorts : List SortId) (each : List SortId) → AreUnder d bodies old n env o ts trees sorts each → WaitsForCall d bodies rows n old new (made_by d o (made_each d (defined d bodies n) trees ts)).making (λ allowed. Within allowed (combined d o (compiled_all d (compiled_calls d bodies n) trees ts))) call)

-- the same of a call under formulas that are bound
abbrev pub DefersBound : Declarations → List Formula → Rows → ℕ → Terms → Terms → List Bound → List Bool → Formulas → Result (List Bound) Stop → Type 0
DefersBound d bodies rows n old new env flags ts r = WhenTooDeep r (λ call. (trees : List CoreTree) (sorts : List SortId) (each : List SortId) → AreBinding d bodies old n env flags ts trees sorts each → WaitsForCall d bodies rows n old new (making_where d (defined d bodies n) trees flags ts) (λ allowed. WithinWhere allowed flags (compiled_all d (compiled_calls d bodies n) trees ts)) call)

-- the same of a call under the cases of a `match`
abbrev pub DefersCases : Declarations → List Formula → Rows → ℕ → Terms → Terms → List Bound → Bound → List CtorId → Cases → Result TermId Stop → Type 0
DefersCases d bodies rows n old new env matched earlier cases r = WhenTooDeep r (λ call. (tree : CoreTree) (side : SortId) (trees : List CoreTree) (sorts : List SortId) (sort : SortId) → AreCases d bodies old n env matched earlier cases tree side trees sorts sort → WaitsForCall d bodies rows n old new (making_cases d (defined d bodies n) trees tree earlier cases) (λ allowed. Within allowed (compiled_cases d (compiled_calls d bodies n) trees tree earlier cases)) call)
