-- What contracts see of congruence classes, and what closing them under the rules comes to.
use Rattle.std.specs.Prelude.{◌≡◌, ℕ, ◌<◌, ◌≤◌, ◌↔◌, List, ◌++◌, take, length, Option, Some, slice_get}
use Rattle.ct_sorts.specs.declared.ids.CtorId.{CtorId}
use Rattle.ct_sorts.specs.Declarations.{Declarations}
use Rattle.ct_terms.specs.declared.ids.TermId.{TermId}
use Rattle.ct_terms.specs.declared.ids.Lit.{Lit}
use Rattle.ct_terms.specs.declared.term.Core.TheVariants.{Con}
use Rattle.ct_terms.specs.Terms.{Terms, Has}
use Rattle.ct_rules.specs.declared.equation.Equation.{Equation}
use Rattle.ct_rules.specs.Rules.{Follows}
use Rattle.ct_rules.specs.Derivation.{Derives}
use Rattle.ct_congr.specs.declared.merge.Merge.{Merge}
use Rattle.ct_congr.specs.declared.merge.Closed.{Closed}
use Rattle.ct_congr.specs.declared.merge.Closed.TheVariants.{Quiet, Clash}
use Rattle.ct_congr.specs.Partition.{InOneClass}

-- what stood when a mark was set
pub record Marked : Type 0 where
  pub hypotheses : List Lit
  pub given : List Equation
  pub merges : List Merge
  pub reps : List TermId
  pub cons : List (Option TermId)

-- congruence classes: the declarations, the terms and the hypotheses that they are of, the equations that were given from
-- outside and all merges, both in order, for each term its representative and a constructor term of its class, and what stood
-- at each mark that is kept, the first one first
pub record State : Type 0 where
  pub declarations : Declarations
  pub terms : Terms
  pub hypotheses : List Lit
  pub given : List Equation
  pub merges : List Merge
  pub reps : List TermId
  pub cons : List (Option TermId)
  pub marks : List Marked

-- what stands now
abbrev pub marked_now : State → Marked
marked_now state = record { hypotheses = state.hypotheses; given = state.given; merges = state.merges; reps = state.reps; cons = state.cons }

-- the classes as they were at a mark, with these marks
abbrev pub state_at : State → Marked → List Marked → State
state_at state at marks = record { declarations = state.declarations; terms = state.terms; hypotheses = at.hypotheses; given = at.given; merges = at.merges; reps = at.reps; cons = at.cons; marks = marks }

-- the mark is the first of those that are kept after so many merges, with this number
pub record IsFirstMark (marks : List Marked) (merges : ℕ) (k : ℕ) (at : Marked) : Type 0 where
  pub stands : slice_get marks k ≡ Some at
  pub long : length at.merges ≡ merges
  pub first : (j : ℕ) (other : Marked) → slice_get marks j ≡ Some other → length other.merges ≡ merges → k ≤ j

-- what stood at the mark are the first of the hypotheses, the given equations and the merges that stand
pub record IsFirstPart (state : State) (at : Marked) : Type 0 where
  pub hypotheses : at.hypotheses ≡ take (length at.hypotheses) state.hypotheses
  pub given : at.given ≡ take (length at.given) state.given
  pub merges : at.merges ≡ take (length at.merges) state.merges

-- the two terms are of one class
abbrev pub AreEqual : State → TermId → TermId → Type 0
AreEqual state x y = InOneClass state.reps x y

-- the two hold terms of the same table over the same declarations and hypotheses with the same marks, and the later has at
-- least the merges
pub record Continues (later earlier : State) : Type 0 where
  pub declarations : later.declarations ≡ earlier.declarations
  pub terms : later.terms ≡ earlier.terms
  pub hypotheses : later.hypotheses ≡ earlier.hypotheses
  pub marks : later.marks ≡ earlier.marks
  pub more : List Merge
  pub merges : later.merges ≡ earlier.merges ++ more

-- the term is a constructor term
abbrev pub IsConstructorTerm : Terms → TermId → Type 0
IsConstructorTerm terms t = (c : CtorId) × (args : List TermId) × Has terms (Con c args) t.0

-- two terms of one class have different constructors
pub record IsClashOf (terms : Terms) (reps : List TermId) (a b : TermId) : Type 0 where
  pub first : CtorId
  pub second : CtorId
  pub xs : List TermId
  pub ys : List TermId
  pub left : Has terms (Con first xs) a.0
  pub right : Has terms (Con second ys) b.0
  pub apart : first ≡ second → ⊥
  pub equal : InOneClass reps a b

abbrev pub IsClash : State → TermId → TermId → Type 0
IsClash state a b = IsClashOf state.terms state.reps a b

-- the answer is such two terms, or that there are none
abbrev pub IsVerdict : Terms → List TermId → Closed → Type 0
IsVerdict terms reps Quiet = (a b : TermId) → IsClashOf terms reps a b → ⊥
IsVerdict terms reps (Clash a b) = IsClashOf terms reps a b

-- the classes are exactly the equations that derive, and no rule gives another
pub record IsClosed (state : State) : Type 0 where
  pub exact : (t u : TermId) → t.0 < length state.terms → u.0 < length state.terms → AreEqual state t u ↔ Derives state.declarations state.terms state.hypotheses state.given t u
  pub closed : (x y : TermId) → Follows state.declarations state.terms (AreEqual state) x y → AreEqual state x y

-- closed, and no class has two terms of different constructors
pub record IsQuiet (state : State) : Type 0 where
  pub closed : IsClosed state
  pub one : (a b : TermId) → IsClash state a b → ⊥

-- what the answer says of closed classes
abbrev pub IsAnswer : State → Closed → Type 0
IsAnswer state Quiet = IsQuiet state
IsAnswer state (Clash a b) = IsClash state a b
