-- What compiling begins with: an environment of terms for the variables that occur, over a sound scope and a well-sorted table.
use Rattle.std.specs.Prelude.{◌≡◌, ℕ, ◌<◌, Bool, true, List, [], length, Some, slice_get, Result, IfOk, IsErrOf}
use Rattle.std.specs.List.{AllZip}
use Rattle.ct_sorts.specs.declared.ids.DefId.{DefId}
use Rattle.ct_sorts.specs.declared.ids.SortId.{SortId}
use Rattle.ct_sorts.specs.Declarations.{Declarations}
use Rattle.ct_sorts.specs.Consistent.{IsConsistent}
use Rattle.ct_terms.specs.declared.ids.TermId.{TermId}
use Rattle.ct_terms.specs.declared.error.TermError.{TermError}
use Rattle.ct_terms.specs.declared.error.TermError.TheVariants.{Full}
use Rattle.ct_terms.specs.Terms.{Terms}
use Rattle.ct_terms.specs.CoreTree.{CoreTree, sel, no_term, term_at}
use Rattle.ct_terms.specs.CoreSorts.{HasTreeSort}
use Rattle.ct_formulas.specs.Formula.{Formula, Formulas, MentionsBelow, AllMentionBelow}
use Rattle.ct_formulas.specs.FormulaSorts.{IsSorted, AllSorted, AreSound}
use Rattle.ct_formulas.specs.Calls.{calls_below}
use Rattle.ct_formulas.specs.Compiled.{compiled, compiled_all}
use Rattle.ct_formulas.specs.Occurrence.{occurs, occurs_in_some, uses_below}
use Rattle.ct_scope.specs.declared.bound.Bound.{Bound}
use Rattle.ct_scope.specs.declared.bound.Bound.TheVariants.{Term, Field, Absent}
use Rattle.ct_operators.specs.declared.operator.Operator.{Operator}
use Rattle.ct_operators.specs.Effect.{Stands, AllStand, IsSoundTable, Within, Effect}
use Rattle.ct_operators.specs.Forms.{combined, AreOperands}
use Rattle.ct_operators.specs.Made.{MakesInOrder}
use Rattle.ct_scope.specs.Making.{making, made_each, defined}
use Rattle.ct_operators.specs.Following.{woven}

-- what the definitions below a number give, and the variables that occur in them
abbrev pub compiled_calls : Declarations → List Formula → ℕ → DefId → List CoreTree → CoreTree
compiled_calls d bodies n = calls_below (compiled d) no_term bodies n

-- the variable stands for this tree, where it stands for any
abbrev pub IsBound : Terms → Bound → CoreTree → Type 0
IsBound table (Term t) tree = Stands table t tree
IsBound table (Field s t) tree = (t.0 < length table) × (sel s (term_at table t) ≡ tree)
IsBound table Absent tree = Unit {0}

-- something is bound
abbrev pub IsThere : Bound → Type 0
IsThere (Term t) = Unit {0}
IsThere (Field s t) = Unit {0}
IsThere Absent = ⊥

-- each variable of the test stands for something
abbrev pub ArePresent : (ℕ → Bool) → List Bound → Type 0
ArePresent p env = (i : ℕ) (b : Bound) → p i ≡ true → slice_get env i ≡ Some b → IsThere b

-- a sound scope, a well-sorted table, and an environment
pub record IsSetting (d : Declarations) (bodies : List Formula) (table : Terms) (env : List Bound) (trees : List CoreTree) (sorts : List SortId) : Type 0 where
  pub consistent : IsConsistent d
  pub sound : AreSound d bodies
  pub kept : IsSoundTable d table
  pub bound : AllZip (IsBound table) env trees
  pub fitting : AllZip (HasTreeSort d) trees sorts

-- a formula may be compiled
pub record IsCompilable (d : Declarations) (bodies : List Formula) (table : Terms) (n : ℕ) (env : List Bound) (t : Formula) (trees : List CoreTree) (sorts : List SortId) (sort : SortId) : Type 0 where
  pub setting : IsSetting d bodies table env trees sorts
  pub mentions : MentionsBelow n t
  pub sorted : IsSorted d sorts t sort
  pub present : ArePresent (occurs d (uses_below d bodies n) t) env

-- several formulas may
pub record AreCompilable (d : Declarations) (bodies : List Formula) (table : Terms) (n : ℕ) (env : List Bound) (ts : Formulas) (trees : List CoreTree) (sorts : List SortId) (each : List SortId) : Type 0 where
  pub setting : IsSetting d bodies table env trees sorts
  pub mentions : AllMentionBelow n ts
  pub sorted : AllSorted d sorts ts each
  pub present : ArePresent (occurs_in_some d (uses_below d bodies n) ts) env

-- a formula may be compiled, for some terms of the variables
abbrev pub MayCompile : Declarations → List Formula → Terms → ℕ → List Bound → Formula → Type 0
MayCompile d bodies table n env t = (trees : List CoreTree) × (sorts : List SortId) × (sort : SortId) × IsCompilable d bodies table n env t trees sorts sort

-- several formulas may, as those under an operator
pub record AreUnder (d : Declarations) (bodies : List Formula) (table : Terms) (n : ℕ) (env : List Bound) (o : Operator) (ts : Formulas) (trees : List CoreTree) (sorts : List SortId) (each : List SortId) : Type 0 where
  pub ready : AreCompilable d bodies table n env ts trees sorts each
  pub operands : AreOperands d o (compiled_all d (compiled_calls d bodies n) trees ts)

abbrev pub MayCompileAll : Declarations → List Formula → Terms → ℕ → List Bound → Operator → Formulas → Type 0
MayCompileAll d bodies table n env o ts = (trees : List CoreTree) × (sorts : List SortId) × (each : List SortId) × AreUnder d bodies table n env o ts trees sorts each

-- what compiling a formula gives: its core term, and no other terms than the subterms of that, in order
pub record Compiles (d : Declarations) (bodies : List Formula) (n : ℕ) (old new : Terms) (env : List Bound) (t : Formula) (r : Result TermId TermError) : Type 0 where
  pub core : (trees : List CoreTree) (sorts : List SortId) (sort : SortId) → IsCompilable d bodies old n env t trees sorts sort → IfOk r (λ u. Stands new u (compiled d (compiled_calls d bodies n) trees t))
  pub effect : (trees : List CoreTree) (sorts : List SortId) (sort : SortId) (allowed : List CoreTree) → IsCompilable d bodies old n env t trees sorts sort → Within allowed (compiled d (compiled_calls d bodies n) trees t) → Effect d allowed old new (IsErrOf r Full)
  pub order : (trees : List CoreTree) (sorts : List SortId) (sort : SortId) → IsCompilable d bodies old n env t trees sorts sort → IfOk r (λ u. MakesInOrder old (making d (defined d bodies n) trees t) new)

-- what compiling those under an operator gives: no other terms than the subterms of the operator's core term
pub record CompilesAll (d : Declarations) (bodies : List Formula) (n : ℕ) (old new : Terms) (env : List Bound) (o : Operator) (ts : Formulas) (r : Result (List TermId) TermError) : Type 0 where
  pub core : (trees : List CoreTree) (sorts : List SortId) (each : List SortId) → AreUnder d bodies old n env o ts trees sorts each → IfOk r (λ us. AllStand new us (compiled_all d (compiled_calls d bodies n) trees ts))
  pub effect : (trees : List CoreTree) (sorts : List SortId) (each : List SortId) (allowed : List CoreTree) → AreUnder d bodies old n env o ts trees sorts each → Within allowed (combined d o (compiled_all d (compiled_calls d bodies n) trees ts)) → Effect d allowed old new (IsErrOf r Full)
  pub order : (trees : List CoreTree) (sorts : List SortId) (each : List SortId) → AreUnder d bodies old n env o ts trees sorts each → IfOk r (λ us. MakesInOrder old (woven d o [] (made_each d (defined d bodies n) trees ts)) new)
