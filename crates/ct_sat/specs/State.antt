-- What contracts see of a search, and what always holds of it.
use Rattle.std.specs.Prelude.{◌≡◌, ℕ, ◌<◌, ◌≤◌, ◌⊎◌, Bool, false, List, [], ◌++◌, map, take, Some, slice_get, All, Contains}
use Rattle.ct_terms.specs.declared.ids.TermId.{TermId}
use Rattle.ct_terms.specs.declared.ids.Lit.{Lit}
use Rattle.ct_terms.specs.Terms.{Terms}
use Rattle.ct_terms.specs.Literal.{IsStripped}
use Rattle.ct_terms.specs.Clause.{Clause}
use Rattle.ct_terms.specs.Propagation.{AreFalseIn}
use Rattle.ct_sat.specs.declared.clause.StepClause.{StepClause}
use Rattle.ct_sat.specs.declared.decided.Decided.{Decided}
use Rattle.ct_sat.specs.Up.{IsForced, Up, IsAssigned}

-- the variables, the clauses with the numbers of their steps, the literals made true in order, those of them that
-- were decided with the index at which each stands, the decisions made so far, how many may be made, and whether the last
-- propagation gave no conflict and nothing was added or decided since
pub record SearchState : Type 0 where
  pub variables : List TermId
  pub clauses : List StepClause
  pub trail : List Lit
  pub decided : List Decided
  pub count : ℕ
  pub budget : ℕ
  pub propagated : Bool

-- the clauses without their numbers
abbrev pub clauses_of : List StepClause → List Clause
clauses_of clauses = map (λ c. c.literals) clauses

-- the decided literals without their indices
abbrev pub literals_of : List Decided → List Lit
literals_of decided = map (λ d. d.literal) decided

-- what follows by units from the clauses and the decided literals of a search
abbrev pub FollowsByUnits : SearchState → Lit → Type 0
FollowsByUnits search = Up (clauses_of search.clauses) (literals_of search.decided)

-- a search over these variables that has done nothing
abbrev pub begun : List TermId → ℕ → SearchState
begun variables budget = record { variables = variables; clauses = []; trail = []; decided = []; count = 0; budget = budget; propagated = false }

-- the numbers of the terms increase
abbrev pub AreIncreasing : List TermId → Type 0
AreIncreasing terms = (i j : ℕ) (t u : TermId) → i < j → slice_get terms i ≡ Some t → slice_get terms j ≡ Some u → t.0 < u.0

-- the Boolean terms of the table that are no negations, in the order of their numbers
pub record AreVariables (table : Terms) (variables : List TermId) : Type 0 where
  pub boolean : All (IsStripped table) variables
  pub each : (t : TermId) → IsStripped table t → Contains variables t
  pub increasing : AreIncreasing variables

-- the literals are over the variables
abbrev pub AreOver : List TermId → List Lit → Type 0
AreOver variables literals = All (λ l. Contains variables l.term) literals

-- no clause has this number
abbrev pub IsFresh : List StepClause → ℕ → Type 0
IsFresh clauses step = (c : StepClause) → Contains clauses c → c.step ≡ step → ⊥

-- clauses with one number are one clause
abbrev pub HaveOneNumber : List StepClause → Type 0
HaveOneNumber clauses = (c d : StepClause) → Contains clauses c → Contains clauses d → c.step ≡ d.step → c ≡ d

-- no term stands twice, so no literal stands beside its opposite
abbrev pub IsConsistent : List Lit → Type 0
IsConsistent trail = (i j : ℕ) (l k : Lit) → slice_get trail i ≡ Some l → slice_get trail j ≡ Some k → l.term.0 ≡ k.term.0 → i ≡ j

-- each literal is decided where it stands, or a clause forces it by the literals before it
abbrev pub IsJustified : List StepClause → List Decided → List Lit → Type 0
IsJustified clauses decided trail = (i : ℕ) (l : Lit) → slice_get trail i ≡ Some l
    → Contains decided (record { literal = l; index = i }) ⊎ ((c : StepClause) × Contains clauses c × IsForced (take i trail) c.literals l)

-- the decided literals stand in the trail, in their order
pub record StandIn (decided : List Decided) (trail : List Lit) : Type 0 where
  pub stand : All (λ d. slice_get trail d.index ≡ Some d.literal) decided
  pub in_order : (i j : ℕ) (d e : Decided) → i < j → slice_get decided i ≡ Some d → slice_get decided j ≡ Some e → d.index < e.index

-- what always holds of a search
pub record IsSound (search : SearchState) : Type 0 where
  pub justified : IsJustified search.clauses search.decided search.trail
  pub consistent : IsConsistent search.trail
  pub decisions : StandIn search.decided search.trail
  pub one_number : HaveOneNumber search.clauses
  pub clauses_over : All (λ c. AreOver search.variables c.literals) search.clauses
  pub trail_over : AreOver search.variables search.trail
  pub increasing : AreIncreasing search.variables
  pub within : search.count ≤ search.budget

-- the clause of this step is false in the trail
abbrev pub IsConflict : SearchState → ℕ → Type 0
IsConflict search step = (c : StepClause) × (c.step ≡ step) × Contains search.clauses c × AreFalseIn search.trail c.literals

-- nothing more follows and no clause is false: the trail is exactly what follows by units
pub record IsQuiet (search : SearchState) : Type 0 where
  pub follows : (l : Lit) → Contains search.trail l → FollowsByUnits search l
  pub complete : (l : Lit) → FollowsByUnits search l → Contains search.trail l
  pub consistent : IsConsistent search.trail
  pub none_false : (c : StepClause) → Contains search.clauses c → AreFalseIn search.trail c.literals → ⊥

-- every variable has a value
abbrev pub HaveValues : SearchState → Type 0
HaveValues search = (t : TermId) → Contains search.variables t → IsAssigned (Contains search.trail) t

-- some variable has none
abbrev pub LacksValue : SearchState → Type 0
LacksValue search = (t : TermId) × Contains search.variables t × (IsAssigned (Contains search.trail) t → ⊥)

-- literals were put at the end of the trail, and nothing else changed but whether it is propagated
abbrev pub AppendsTo : SearchState → SearchState → Type 0
AppendsTo old new = (more : List Lit) × (new ≡ record old { trail = old.trail ++ more; propagated = new.propagated })
