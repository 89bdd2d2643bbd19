-- The cases of a `match`, one after the other.
use Rattle.std.specs.Prelude.{◌≡◌, ℕ, true, List, [], ◌∷◌, map, option_map, unwrap_or, slice_get, Result, IfOk, IsErrOf}
use Rattle.ct_sorts.specs.declared.ids.CtorId.{CtorId}
use Rattle.ct_sorts.specs.declared.ids.SelId.{SelId}
use Rattle.ct_sorts.specs.declared.ids.SortId.{SortId}
use Rattle.ct_sorts.specs.Declarations.{Declarations, Constructor}
use Rattle.ct_terms.specs.declared.ids.TermId.{TermId}
use Rattle.ct_terms.specs.declared.error.TermError.{TermError}
use Rattle.ct_terms.specs.declared.error.TermError.TheVariants.{Full}
use Rattle.ct_formulas.specs.declared.tree.Pattern.{Pattern}
use Rattle.ct_formulas.specs.declared.tree.Pattern.TheVariants.{Ctor, Any}
use Rattle.ct_terms.specs.Terms.{Terms}
use Rattle.ct_terms.specs.CoreTree.{CoreTree}
use Rattle.ct_terms.specs.CoreSorts.{HasTreeSort}
use Rattle.ct_formulas.specs.Formula.{Formula, Cases, CasesMentionBelow}
use Rattle.ct_formulas.specs.FormulaSorts.{AreSortedCases, HasSomeCase}
use Rattle.ct_terms.specs.Fields.{fields_of}
use Rattle.ct_formulas.specs.Compiled.{compiled_cases}
use Rattle.ct_formulas.specs.Occurrence.{matched_occurs, occurs_in_cases, uses_below}
use Rattle.ct_scope.specs.declared.bound.Bound.{Bound}
use Rattle.ct_scope.specs.declared.bound.Bound.TheVariants.{Term, Field, Absent}
use Rattle.ct_operators.specs.Made.{MakesInOrder}
use Rattle.ct_scope.specs.Making.{making_cases, defined}
use Rattle.ct_operators.specs.Effect.{Stands, Within, Effect}
use Rattle.ct_scope.specs.Compilable.{compiled_calls, IsBound, ArePresent, IsSetting}

-- a term is bound
abbrev pub IsTerm : Bound → Type 0
IsTerm (Term t) = Unit {0}
IsTerm (Field s t) = ⊥
IsTerm Absent = ⊥

-- a field of what is matched
abbrev pub bound_field : Bound → SelId → Bound
bound_field (Term t) s = Field s t
bound_field (Field r t) s = Absent
bound_field Absent s = Absent

-- the selectors of a constructor
abbrev pub sels_of : Declarations → CtorId → List SelId
sels_of d c = unwrap_or (option_map (λ (ctor : Constructor). ctor.sels) (slice_get d.ctors c.0)) []

-- what the variables of a pattern stand for, in order
abbrev pub bound_by : Declarations → Pattern → Bound → List Bound
bound_by d Any b = b ∷ []
bound_by d (Ctor c) b = map (bound_field b) (sels_of d c)

-- their trees
abbrev pub trees_by : Declarations → Pattern → CoreTree → List CoreTree
trees_by d Any t = t ∷ []
trees_by d (Ctor c) t = fields_of d c t

-- cases of a `match` may be compiled, after cases of these constructors
pub record AreCases (d : Declarations) (bodies : List Formula) (table : Terms) (n : ℕ) (env : List Bound) (matched : Bound) (earlier : List CtorId) (cases : Cases) (tree : CoreTree) (side : SortId) (trees : List CoreTree) (sorts : List SortId) (sort : SortId) : Type 0 where
  pub setting : IsSetting d bodies table env trees sorts
  pub mentions : CasesMentionBelow n cases
  pub sorted : AreSortedCases d sorts side cases sort
  pub some : HasSomeCase cases
  pub bound : IsBound table matched tree
  pub fits : HasTreeSort d tree side
  pub there : matched_occurs d (uses_below d bodies n) earlier cases ≡ true → IsTerm matched
  pub present : ArePresent (occurs_in_cases d (uses_below d bodies n) earlier cases) env

abbrev pub MayCases : Declarations → List Formula → Terms → ℕ → List Bound → Bound → List CtorId → Cases → Type 0
MayCases d bodies table n env matched earlier cases = (tree : CoreTree) × (side : SortId) × (trees : List CoreTree) × (sorts : List SortId) × (sort : SortId) × AreCases d bodies table n env matched earlier cases tree side trees sorts sort

-- what compiling the cases gives
pub record CompilesCases (d : Declarations) (bodies : List Formula) (n : ℕ) (old new : Terms) (env : List Bound) (matched : Bound) (earlier : List CtorId) (cases : Cases) (r : Result TermId TermError) : Type 0 where
  pub core : (tree : CoreTree) (side : SortId) (trees : List CoreTree) (sorts : List SortId) (sort : SortId) → AreCases d bodies old n env matched earlier cases tree side trees sorts sort → IfOk r (λ u. Stands new u (compiled_cases d (compiled_calls d bodies n) trees tree earlier cases))
  pub effect : (tree : CoreTree) (side : SortId) (trees : List CoreTree) (sorts : List SortId) (sort : SortId) (allowed : List CoreTree) → AreCases d bodies old n env matched earlier cases tree side trees sorts sort → Within allowed (compiled_cases d (compiled_calls d bodies n) trees tree earlier cases) → Effect d allowed old new (IsErrOf r Full)
  pub order : (tree : CoreTree) (side : SortId) (trees : List CoreTree) (sorts : List SortId) (sort : SortId) → AreCases d bodies old n env matched earlier cases tree side trees sorts sort → IfOk r (λ u. MakesInOrder old (making_cases d (defined d bodies n) trees tree earlier cases) new)
