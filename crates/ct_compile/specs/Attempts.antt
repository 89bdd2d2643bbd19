-- Attempts to compile a closed formula: each makes a first part of what is to be made.
use Rattle.std.specs.Prelude.{◌≡◌, ℕ, List, [], ◌∷◌, ◌++◌, Some, Contains}
use Rattle.indexmap.specs.IndexMap.{IndexMap, get}
use Rattle.ct_sorts.specs.Declarations.{Declarations}
use Rattle.ct_terms.specs.declared.ids.TermId.{TermId}
use Rattle.ct_terms.specs.Terms.{Terms}
use Rattle.ct_terms.specs.CoreTree.{CoreTree}
use Rattle.ct_formulas.specs.Formula.{Formula}
use Rattle.ct_formulas.specs.Compiled.{compiled}
use Rattle.ct_scope.specs.declared.known.Called.{Called}
use Rattle.ct_scope.specs.declared.stop.DeferredCall.{DeferredCall}
use Rattle.ct_scope.specs.Calling.{same_call, call_of}
use Rattle.ct_scope.specs.Deferral.{WaitsForCall}
use Rattle.ct_operators.specs.Effect.{Within}
use Rattle.ct_operators.specs.Made.{MakesInOrder}
use Rattle.ct_scope.specs.Making.{making, defined}
use Rattle.ct_occurrence.specs.Marks.{Rows}
use Rattle.ct_scope.specs.Compilable.{compiled_calls}

-- the table has grown, in order, by a first part of these trees
abbrev pub MakesFirst : Terms → List CoreTree → Terms → Type 0
MakesFirst old ts new = (prefix : List CoreTree) × (rest : List CoreTree) × (ts ≡ prefix ++ rest) × MakesInOrder old prefix new

-- the core term of a closed formula, and what is made for it
abbrev pub closed_core : Declarations → List Formula → ℕ → Formula → CoreTree
closed_core d bodies n t = compiled d (compiled_calls d bodies n) [] t

abbrev pub closed_making : Declarations → List Formula → ℕ → Formula → List CoreTree
closed_making d bodies n t = making d (defined d bodies n) [] t

-- a call under a closed formula may be compiled now: the table has all that is made before its terms
abbrev pub IsWaiting : Declarations → List Formula → Rows → ℕ → Formula → Terms → DeferredCall → Type 0
IsWaiting d bodies rows n t table call = WaitsForCall d bodies rows n table table (closed_making d bodies n t) (λ allowed. Within allowed (closed_core d bodies n t)) call

-- each of these calls may
abbrev pub AreWaiting : Declarations → List Formula → Rows → ℕ → Formula → Terms → List DeferredCall → Type 0
AreWaiting d bodies rows n t table calls = (call : DeferredCall) → Contains calls call → IsWaiting d bodies rows n t table call

-- the last of these calls, where there is one, is known, with this term
abbrev pub IsLastKnown : {S : Type 0} → IndexMap Called TermId S → List DeferredCall → TermId → Type 0
IsLastKnown known calls term = (earlier : List DeferredCall) (call : DeferredCall) → calls ≡ earlier ++ call ∷ [] → get same_call known (call_of call.definition call.bounds) ≡ Some term
