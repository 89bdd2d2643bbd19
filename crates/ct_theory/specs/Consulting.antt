-- The answers of the theory, and the turns to them.
use Rattle.std.specs.Prelude.{◌≡◌, ℕ, ◌<◌, ◌≤◌, Bool, false, List, length, take, Option, Some, None, slice_get, nat_eq, Contains}
use Rattle.ct_sorts.specs.Declarations.{Declarations}
use Rattle.ct_terms.specs.declared.ids.TermId.{TermId}
use Rattle.ct_terms.specs.declared.ids.Lit.{Lit}
use Rattle.ct_terms.specs.Terms.{Terms}
use Rattle.ct_rules.specs.declared.equation.Equation.{Equation}
use Rattle.ct_congr.specs.State.{State, Marked}
use Rattle.ct_unique.specs.Found.{missing_pairs}
use Rattle.ct_explain.specs.Trees.{Planted, IsForestOfFirst}
use Rattle.ct_theory.specs.declared.shorter.Spare.{Spare}
use Rattle.ct_theory.specs.declared.aside.Aside.{Aside}
use Rattle.ct_theory.specs.declared.asking.Consulted.{Consulted}
use Rattle.ct_theory.specs.declared.asking.Consulted.TheVariants as consulted
use Rattle.ct_theory.specs.declared.turn.Turn.{Turn}
use Rattle.ct_theory.specs.declared.turn.Turn.TheVariants as turn
use Rattle.ct_theory.specs.Entailment.{Entails, IsSaturation, IsConflictOf}

-- the answer is a conflict of the literals, or that no rule adds to the classes under them
abbrev pub IsConsulted : Declarations → Terms → List Lit → State → Consulted → Type 0
IsConsulted d terms literals state (consulted.Conflict c) = IsConflictOf d terms literals c.clause c.steps c.close
IsConsulted d terms literals state (consulted.Saturated order) = IsSaturation d terms literals state order.reps.items

-- the literals entail each of these equations
abbrev pub AreAllEntailed : Declarations → Terms → List Lit → List Equation → Type 0
AreAllEntailed d terms literals equations = (e : Equation) → Contains equations e → Entails d terms literals e.left e.right

-- so many first literals of the two are the same
pub record HaveInCommon (count : ℕ) (xs ys : List Lit) : Type 0 where
  pub left : count ≤ length xs
  pub right : count ≤ length ys
  pub same : take count xs ≡ take count ys

-- classes that can be asked about literals: now and at each of their marks, the hypotheses entail what was given
pub record IsReady (state : State) : Type 0 where
  pub now : AreAllEntailed state.declarations state.terms state.hypotheses state.given
  pub marked : (k : ℕ) (at : Marked) → slice_get state.marks k ≡ Some at → AreAllEntailed state.declarations state.terms at.hypotheses at.given

-- each forest of the first merges of the one is one of the first merges of the other
abbrev pub KeepsForests : State → State → Type 0
KeepsForests old new = (planted : Planted) → IsForestOfFirst old planted → IsForestOfFirst new planted

-- spare classes are of the same terms, can be asked, and have a forest of their first merges
pub record IsSpareOf (state : State) (spare : Spare) : Type 0 where
  pub declarations : spare.classes.value.declarations ≡ state.declarations
  pub terms : spare.classes.value.terms ≡ state.terms
  pub ready : IsReady spare.classes.value
  pub forest : IsForestOfFirst spare.classes.value spare.forest

-- spare classes, if there are any, are of this kind
abbrev pub MayBeSpareOf : State → Option Spare → Type 0
MayBeSpareOf state None = Unit {0}
MayBeSpareOf state (Some spare) = IsSpareOf state spare

-- what is kept beside the classes
pub record IsAsideOf (state : State) (aside : Aside) : Type 0 where
  pub forest : IsForestOfFirst state aside.forest
  pub spare : MayBeSpareOf state aside.spare

-- what is kept beside the classes, if anything is
abbrev pub MayBeAsideOf : State → Option Aside → Type 0
MayBeAsideOf state None = Unit {0}
MayBeAsideOf state (Some aside) = IsAsideOf state aside

-- classes of these terms under these literals, to which nothing was given that the literals do not entail
pub record IsUnderWay (d : Declarations) (terms : Terms) (literals : List Lit) (state : State) : Type 0 where
  pub declarations : state.declarations ≡ d
  pub terms_are : state.terms ≡ terms
  pub hypotheses : state.hypotheses ≡ literals
  pub given : AreAllEntailed d terms literals state.given

-- both are representatives, and one
abbrev pub are_one : Option TermId → Option TermId → Bool
are_one (Some r) (Some s) = nat_eq r.0 s.0
are_one _ _ = false

-- the terms with these numbers are of one class
abbrev pub in_one_class : List TermId → ℕ → ℕ → Bool
in_one_class reps x y = are_one (slice_get reps x) (slice_get reps y)

-- how many pairs of terms are of two classes
unfoldable pub unequal : State → ℕ
unequal state = missing_pairs (in_one_class state.reps) (length state.terms) (length state.terms)

-- a turn came to an answer, or made two classes one
abbrev pub IsTurn : Declarations → Terms → List Lit → State → State → Turn → Type 0
IsTurn d terms literals old new (turn.Conflict c) = IsConflictOf d terms literals c.clause c.steps c.close
IsTurn d terms literals old new (turn.Saturated order) = IsSaturation d terms literals new order.reps.items
IsTurn d terms literals old new turn.Merged = unequal new < unequal old
