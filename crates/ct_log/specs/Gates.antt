-- The clauses that say what a Boolean term means (Tseitin 1968), what a choice is, and by which constructors a term is built.
use Rattle.std.specs.Prelude.{◌≡◌, ℕ, ◌⊎◌, true, false, List, [], ◌∷◌, map, Some, slice_get}
use Rattle.std.specs.List.{AllZip}
use Rattle.ct_sorts.specs.declared.ids.CtorId.{CtorId}
use Rattle.ct_sorts.specs.declared.ids.SortId.{SortId}
use Rattle.ct_sorts.specs.declared.ids.Kind.TheVariants.{Data, Codata}
use Rattle.ct_sorts.specs.Declarations.{Declarations, Sort}
use Rattle.ct_terms.specs.declared.ids.TermId.{TermId}
use Rattle.ct_terms.specs.declared.ids.Lit.{Lit}
use Rattle.ct_terms.specs.declared.term.Core.TheVariants as core
use Rattle.ct_terms.specs.Literal.{opposite, literal_of}
use Rattle.ct_terms.specs.Clause.{Clause, opposites}
use Rattle.ct_terms.specs.Terms.{Terms, IsOfSort, IsBoolean, Has}
use Rattle.ct_rules.specs.Rules.{truth_term}
use Rattle.ct_log.specs.declared.rules.Gate.{Gate}
use Rattle.ct_log.specs.declared.rules.Gate.TheVariants.{True, False, AndPos, AndNeg, OrPos, OrNeg, Iff1, Iff2, Iff3, Iff4, Ite1, Ite2, Ite3, Ite4, Then, Else}

-- the two literals of a term
abbrev pub positive : TermId → Lit
positive t = record { term = t; positive = true }

abbrev pub negative : TermId → Lit
negative t = record { term = t; positive = false }

-- the literals of the arguments, in order
abbrev pub literals_of : Terms → List TermId → Clause
literals_of terms args = map (literal_of terms) args

-- the term is a conjunction, a disjunction, an equivalence, a Boolean choice or another choice with these parts
abbrev pub IsConjunction : Terms → TermId → List TermId → Type 0
IsConjunction terms t args = Has terms (core.And args) t.0

abbrev pub IsDisjunction : Terms → TermId → List TermId → Type 0
IsDisjunction terms t args = Has terms (core.Or args) t.0

abbrev pub IsEquivalence : Terms → TermId → TermId → TermId → Type 0
IsEquivalence terms t a b = Has terms (core.Iff a b) t.0

abbrev pub IsBooleanChoice : Terms → TermId → TermId → TermId → TermId → Type 0
IsBooleanChoice terms t c a b = Has terms (core.Ite c a b) t.0 × IsBoolean terms t

abbrev pub IsOtherChoice : Terms → TermId → TermId → TermId → TermId → Type 0
IsOtherChoice terms t c a b = Has terms (core.Ite c a b) t.0 × (IsBoolean terms t → ⊥)

-- the term is an equivalence, or a Boolean choice, whose parts make the clause
abbrev pub OfEquivalence : Terms → TermId → (Lit → Lit → Clause) → Clause → Type 0
OfEquivalence terms t clause_of clause =
    (a b : TermId) × IsEquivalence terms t a b × (clause ≡ clause_of (literal_of terms a) (literal_of terms b))

abbrev pub OfChoice : Terms → TermId → (Lit → Lit → Lit → Clause) → Clause → Type 0
OfChoice terms t clause_of clause =
    (c a b : TermId) × IsBooleanChoice terms t c a b × (clause ≡ clause_of (literal_of terms c) (literal_of terms a) (literal_of terms b))

-- the clause is that of the gate for this term, with this place: one line a gate
abbrev pub IsGateClause : Terms → Gate → TermId → ℕ → Clause → Type 0
IsGateClause terms True t k clause = (t ≡ truth_term true) × (k ≡ 0) × (clause ≡ positive (truth_term true) ∷ [])
IsGateClause terms False t k clause = (t ≡ truth_term true) × (k ≡ 0) × (clause ≡ negative (truth_term false) ∷ [])
IsGateClause terms AndPos t k clause = (args : List TermId) × (a : TermId) × IsConjunction terms t args × (slice_get args k ≡ Some a) × (clause ≡ negative t ∷ (literal_of terms a ∷ []))
IsGateClause terms AndNeg t k clause = (args : List TermId) × IsConjunction terms t args × (k ≡ 0) × (clause ≡ positive t ∷ opposites (literals_of terms args))
IsGateClause terms OrPos t k clause = (args : List TermId) × IsDisjunction terms t args × (k ≡ 0) × (clause ≡ negative t ∷ literals_of terms args)
IsGateClause terms OrNeg t k clause = (args : List TermId) × (a : TermId) × IsDisjunction terms t args × (slice_get args k ≡ Some a) × (clause ≡ positive t ∷ (opposite (literal_of terms a) ∷ []))
IsGateClause terms Iff1 t k clause = (k ≡ 0) × OfEquivalence terms t (λ a b. negative t ∷ (opposite a ∷ (b ∷ []))) clause
IsGateClause terms Iff2 t k clause = (k ≡ 0) × OfEquivalence terms t (λ a b. negative t ∷ (a ∷ (opposite b ∷ []))) clause
IsGateClause terms Iff3 t k clause = (k ≡ 0) × OfEquivalence terms t (λ a b. positive t ∷ (a ∷ (b ∷ []))) clause
IsGateClause terms Iff4 t k clause = (k ≡ 0) × OfEquivalence terms t (λ a b. positive t ∷ (opposite a ∷ (opposite b ∷ []))) clause
IsGateClause terms Ite1 t k clause = (k ≡ 0) × OfChoice terms t (λ c a b. negative t ∷ (opposite c ∷ (a ∷ []))) clause
IsGateClause terms Ite2 t k clause = (k ≡ 0) × OfChoice terms t (λ c a b. negative t ∷ (c ∷ (b ∷ []))) clause
IsGateClause terms Ite3 t k clause = (k ≡ 0) × OfChoice terms t (λ c a b. positive t ∷ (opposite c ∷ (opposite a ∷ []))) clause
IsGateClause terms Ite4 t k clause = (k ≡ 0) × OfChoice terms t (λ c a b. positive t ∷ (c ∷ (opposite b ∷ []))) clause
IsGateClause terms Then t k clause = (c a b e : TermId) × IsOtherChoice terms t c a b × Has terms (core.Eq t a) e.0 × (k ≡ 0) × (clause ≡ opposite (literal_of terms c) ∷ (positive e ∷ []))
IsGateClause terms Else t k clause = (c a b e : TermId) × IsOtherChoice terms t c a b × Has terms (core.Eq t b) e.0 × (k ≡ 0) × (clause ≡ literal_of terms c ∷ (positive e ∷ []))

-- the literal says that the term is built by the constructor
abbrev pub IsTestOf : Terms → TermId → Lit → CtorId → Type 0
IsTestOf terms t l c = (l.positive ≡ true) × Has terms (core.Test c t) l.term.0

-- the clause says that the term, of a datatype or codatatype, is built by one of the constructors of its sort, in order
pub record IsExhaustion (d : Declarations) (terms : Terms) (t : TermId) (clause : Clause) : Type 0 where
  pub id : SortId
  pub sort : Sort
  pub sorted : IsOfSort terms t id
  pub declared : slice_get d.sorts id.0 ≡ Some sort
  pub kind : (sort.kind ≡ Data) ⊎ (sort.kind ≡ Codata)
  pub tests : AllZip (IsTestOf terms t) clause sort.ctors
