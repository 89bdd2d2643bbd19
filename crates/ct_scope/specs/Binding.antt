-- What formulas are bound to variables: the term of each variable that occurs, and nothing for the others.
use Rattle.std.specs.Prelude.{◌≡◌, ℕ, Bool, true, false, ◌&&◌, ◌||◌, List, [], ◌∷◌, ◌++◌, length, if◌then◌else◌, Result, IfOk, IsErrOf}
use Rattle.std.specs.List.{AllZip}
use Rattle.ct_sorts.specs.declared.ids.DefId.{DefId}
use Rattle.ct_sorts.specs.declared.ids.SortId.{SortId}
use Rattle.ct_sorts.specs.Declarations.{Declarations}
use Rattle.ct_terms.specs.declared.error.TermError.{TermError}
use Rattle.ct_terms.specs.declared.error.TermError.TheVariants.{Full}
use Rattle.ct_terms.specs.Terms.{Terms}
use Rattle.ct_terms.specs.CoreTree.{CoreTree}
use Rattle.ct_formulas.specs.Formula.{Formula, Formulas, no_formulas, with_formula, AllMentionBelow}
use Rattle.ct_formulas.specs.FormulaSorts.{AllSorted}
use Rattle.ct_formulas.specs.Compiled.{compiled_all}
use Rattle.ct_formulas.specs.Occurrence.{count_of, occurs, uses_below}
use Rattle.ct_scope.specs.declared.bound.Bound.{Bound}
use Rattle.ct_scope.specs.declared.bound.Bound.TheVariants.{Term, Field, Absent}
use Rattle.ct_operators.specs.Made.{MakesInOrder}
use Rattle.ct_scope.specs.Making.{Defined, making, defined}
use Rattle.ct_operators.specs.Effect.{IsSoundTable, IsPrefix, Within, Effect}
use Rattle.ct_scope.specs.Compilable.{compiled_calls, IsBound, ArePresent, IsSetting}

-- a variable that occurs has a term, another one has nothing
abbrev pub IsBoundAs : Bool → Bound → Type 0
IsBoundAs true (Term t) = Unit {0}
IsBoundAs true (Field s t) = ⊥
IsBoundAs true Absent = ⊥
IsBoundAs false (Term t) = ⊥
IsBoundAs false (Field s t) = ⊥
IsBoundAs false Absent = Unit {0}

-- the variable occurs in one of these whose flag is set
abbrev pub occurs_where : Declarations → (DefId → ℕ → Bool) → List Bool → Formulas → ℕ → Bool
occurs_where d uses [] ts i = false
occurs_where d uses (b ∷ bs) no_formulas i = false
occurs_where d uses (b ∷ bs) (with_formula t ts) i = (b && occurs d uses t i) || occurs_where d uses bs ts i

-- the subterms of each of these whose flag is set are in the list
abbrev pub WithinWhere : List CoreTree → List Bool → List CoreTree → Type 0
WithinWhere allowed bs us = AllZip (λ b u. b ≡ true → Within allowed u) bs us

-- what is made for those of these whose flag is set
abbrev pub making_where : Declarations → Defined → List CoreTree → List Bool → Formulas → List CoreTree
making_where d defs env [] ts = []
making_where d defs env (b ∷ bs) no_formulas = []
making_where d defs env (b ∷ bs) (with_formula t ts) = (if b then making d defs env t else []) ++ making_where d defs env bs ts

-- formulas may be bound, as far as their flags are set
pub record AreBinding (d : Declarations) (bodies : List Formula) (table : Terms) (n : ℕ) (env : List Bound) (flags : List Bool) (ts : Formulas) (trees : List CoreTree) (sorts : List SortId) (each : List SortId) : Type 0 where
  pub setting : IsSetting d bodies table env trees sorts
  pub mentions : AllMentionBelow n ts
  pub sorted : AllSorted d sorts ts each
  pub present : ArePresent (occurs_where d (uses_below d bodies n) flags ts) env
  pub long : length flags ≡ count_of ts

abbrev pub MayBind : Declarations → List Formula → Terms → ℕ → List Bound → List Bool → Formulas → Type 0
MayBind d bodies table n env flags ts = (trees : List CoreTree) × (sorts : List SortId) × (each : List SortId) × AreBinding d bodies table n env flags ts trees sorts each

-- what compiling them gives: a term for each whose flag is set, and no other terms than subterms of these
pub record Binds (d : Declarations) (bodies : List Formula) (n : ℕ) (old new : Terms) (env : List Bound) (flags : List Bool) (ts : Formulas) (r : Result (List Bound) TermError) : Type 0 where
  pub core : (trees : List CoreTree) (sorts : List SortId) (each : List SortId) → AreBinding d bodies old n env flags ts trees sorts each → IfOk r (λ bs. AllZip (IsBound new) bs (compiled_all d (compiled_calls d bodies n) trees ts))
  pub flagged : IfOk r (λ bs. AllZip IsBoundAs flags bs)
  pub grown : (trees : List CoreTree) (sorts : List SortId) (each : List SortId) → AreBinding d bodies old n env flags ts trees sorts each → IsPrefix old new × IsSoundTable d new
  pub effect : (trees : List CoreTree) (sorts : List SortId) (each : List SortId) (allowed : List CoreTree) → AreBinding d bodies old n env flags ts trees sorts each → WithinWhere allowed flags (compiled_all d (compiled_calls d bodies n) trees ts) → Effect d allowed old new (IsErrOf r Full)
  pub order : (trees : List CoreTree) (sorts : List SortId) (each : List SortId) → AreBinding d bodies old n env flags ts trees sorts each → IfOk r (λ bs. MakesInOrder old (making_where d (defined d bodies n) trees flags ts) new)
