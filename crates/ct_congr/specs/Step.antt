-- What one union of two classes sets off.
use Rattle.std.specs.Prelude.{◌≡◌, ℕ, ◌⊎◌, true, List, Option, Some, None, slice_get, Contains}
use Rattle.ct_sorts.specs.declared.ids.CtorId.{CtorId}
use Rattle.ct_sorts.specs.Declarations.{Declarations}
use Rattle.ct_terms.specs.declared.ids.TermId.{TermId}
use Rattle.ct_terms.specs.declared.term.Core.{Core}
use Rattle.ct_terms.specs.declared.term.Core.TheVariants.{Con}
use Rattle.ct_terms.specs.Children.{core_children}
use Rattle.ct_terms.specs.Terms.{Terms, Has}
use Rattle.ct_rules.specs.Rules.{Equations, truth_term}
use Rattle.ct_congr.specs.declared.merge.Closed.{Closed}
use Rattle.ct_congr.specs.declared.merge.Closed.TheVariants.{Quiet, Clash}
use Rattle.ct_congr.specs.Partition.{InOneClass}
use Rattle.ct_congr.specs.State.{IsClashOf}
use Rattle.ct_equivalence.specs.declared.union.Union.{Union}
use Rattle.ct_equivalence.specs.Grouping.{Grouping}
use Rattle.ct_equivalence.specs.Union.{IsJoin}
use Rattle.ct_congr.specs.Covered.{HasCon, IsCoveredAt, Keys, IsMet, IsCovered}

-- the constructor term is stored for the term's class since the union: the term's class came to one that had it, or got it
abbrev pub IsFresh : Grouping → TermId → TermId → TermId → TermId → Type 0
IsFresh old winner loser u c =
    ((slice_get old.reps u.0 ≡ Some loser) × (slice_get old.cons winner.0 ≡ Some (Some c)))
    ⊎ ((slice_get old.reps u.0 ≡ Some winner) × (slice_get old.cons winner.0 ≡ Some None) × (slice_get old.cons loser.0 ≡ Some (Some c)))

-- the two terms have one constructor, and their arguments are joined place by place
abbrev pub ArePaired : Terms → Equations → TermId → TermId → Type 0
ArePaired terms joined t u =
    (c k : CtorId) (xs ys : List TermId) → Has terms (Con c xs) t.0 → Has terms (Con k ys) u.0
    → (c ≡ k) × ((place : ℕ) (x y : TermId) → slice_get xs place ≡ Some x → slice_get ys place ≡ Some y → joined x y)

-- the answer for two constructor terms of one class: they are paired, or they are a clash
abbrev pub IsPairing : Terms → List TermId → Equations → TermId → TermId → Closed → Type 0
IsPairing terms reps joined t u Quiet = ArePaired terms joined t u
IsPairing terms reps joined t u (Clash a b) = IsClashOf terms reps a b

-- what the union asks for is joined: at the terms right above what moved and at those right above what has a new
-- constructor term, at what is `true` now, and for two constructor terms that met
pub record IsSpread (d : Declarations) (terms : Terms) (old new : Grouping) (winner loser : TermId) (keys : Keys) (joined : Equations) : Type 0 where
  pub moved : (p u : TermId) (core : Core) → Has terms core p.0 → Contains (core_children core) u → slice_get old.reps u.0 ≡ Some loser → IsCoveredAt d terms (InOneClass new.reps) (HasCon new.reps new.cons) joined p
  pub met : (p u : TermId) (core : Core) → Has terms core p.0 → Contains (core_children core) u → slice_get old.reps u.0 ≡ Some loser → IsMet terms new.reps keys joined p core
  pub fresh : (p u c : TermId) (core : Core) → IsFresh old winner loser u c → Has terms core p.0 → Contains (core_children core) u → IsCoveredAt d terms (InOneClass new.reps) (HasCon new.reps new.cons) joined p
  pub truths : (t : TermId) → IsFresh old winner loser t (truth_term true) → IsCoveredAt d terms (InOneClass new.reps) (HasCon new.reps new.cons) joined t
  pub paired : (t u : TermId) → slice_get old.cons winner.0 ≡ Some (Some t) → slice_get old.cons loser.0 ≡ Some (Some u) → ArePaired terms joined t u

-- the rules that begin at the term are covered
abbrev pub IsDone : Declarations → Terms → Grouping → Equations → TermId → Type 0
IsDone d terms now joined t = IsCoveredAt d terms (InOneClass now.reps) (HasCon now.reps now.cons) joined t

-- what is done at the terms right above the class that moved
pub record IsMovedDone (d : Declarations) (terms : Terms) (was now : Grouping) (loser : TermId) (keys : Keys) (joined : Equations) : Type 0 where
  pub covered : (p u : TermId) (core : Core) → Has terms core p.0 → Contains (core_children core) u → slice_get was.reps u.0 ≡ Some loser → IsDone d terms now joined p
  pub met : (p u : TermId) (core : Core) → Has terms core p.0 → Contains (core_children core) u → slice_get was.reps u.0 ≡ Some loser → IsMet terms now.reps keys joined p core

-- the answer to a union: what it asks for is joined, or two terms of one class are a clash
abbrev pub IsSpreading : Declarations → Terms → Grouping → Grouping → TermId → TermId → Keys → Equations → Closed → Type 0
IsSpreading d terms old new winner loser keys joined Quiet = IsSpread d terms old new winner loser keys joined
IsSpreading d terms old new winner loser keys joined (Clash a b) = IsClashOf terms new.reps a b

-- what the last union was, if it put one class to another
abbrev pub IsLast : Grouping → Grouping → Option Union → Type 0
IsLast old new None = Unit {0}
IsLast old new (Some union) = IsJoin old new union.winner union.loser

-- the answer to it
abbrev pub IsFollowed : Declarations → Terms → Grouping → Grouping → Keys → Equations → Option Union → Closed → Type 0
IsFollowed d terms old new keys joined None answer = answer ≡ Quiet
IsFollowed d terms old new keys joined (Some union) answer = IsSpreading d terms old new union.winner union.loser keys joined answer

-- the answer to a merge that is added: what was covered still is, or two terms of one class are a clash
abbrev pub IsAdding : Declarations → Terms → Grouping → Grouping → Keys → Keys → Equations → Equations → Closed → Type 0
IsAdding d terms old new keys more known joined Quiet = IsCovered d terms old.reps old.cons keys known → IsCovered d terms new.reps new.cons more joined
IsAdding d terms old new keys more known joined (Clash a b) = IsClashOf terms new.reps a b
