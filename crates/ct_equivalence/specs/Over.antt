-- When classes are classes of the terms of a table.
use Rattle.std.specs.Prelude.{◌≡◌, Bool, true, List, length, Option, Some, None, slice_get, Contains}
use Rattle.std.specs.List.{AllByRecursion}
use Rattle.ct_sorts.specs.declared.ids.CtorId.{CtorId}
use Rattle.ct_terms.specs.declared.ids.TermId.{TermId}
use Rattle.ct_terms.specs.declared.term.Core.{Core}
use Rattle.ct_terms.specs.declared.term.Core.TheVariants.{Con}
use Rattle.ct_terms.specs.Children.{core_head, core_children}
use Rattle.ct_terms.specs.Terms.{Terms, Has}
use Rattle.ct_equivalence.specs.Digests.{AreDigests, ArePlaces}
use Rattle.ct_equivalence.specs.Grouping.{Grouping, Groupings}

-- the term is a constructor term
abbrev pub IsConstructorTerm : Terms → TermId → Type 0
IsConstructorTerm terms t = (c : CtorId) × (args : List TermId) × Has terms (Con c args) t.0

-- the constructor term that is stored for a class, or that there is none
abbrev pub IsConOf : Terms → List TermId → TermId → Option TermId → Type 0
IsConOf terms reps r None = (t : TermId) → slice_get reps t.0 ≡ Some r → IsConstructorTerm terms t → ⊥
IsConOf terms reps r (Some c) = (slice_get reps c.0 ≡ Some r) × IsConstructorTerm terms c

-- at each representative stands a constructor term of its class, if there is any
abbrev pub AreCons : Terms → List TermId → List (Option TermId) → Type 0
AreCons terms reps cons = (r : TermId) (c : Option TermId) → slice_get reps r.0 ≡ Some r → slice_get cons r.0 ≡ Some c → IsConOf terms reps r c

-- the term stands right above one with this representative
abbrev pub IsAbove : Terms → List TermId → TermId → TermId → Type 0
IsAbove terms reps r p = (core : Core) × (t : TermId) × Has terms core p.0 × Contains (core_children core) t × (slice_get reps t.0 ≡ Some r)

-- the list has exactly the terms that stand right above a term with this representative, maybe several times
pub record AreUsesOf (terms : Terms) (reps : List TermId) (r : TermId) (row : List TermId) : Type 0 where
  pub all : (p t : TermId) (core : Core) → Has terms core p.0 → Contains (core_children core) t → slice_get reps t.0 ≡ Some r → Contains row p
  pub only : (p : TermId) → Contains row p → IsAbove terms reps r p

-- at each representative stand the terms right above its class
abbrev pub AreUses : Terms → List TermId → List (List TermId) → Type 0
AreUses terms reps uses = (r : TermId) (row : List TermId) → slice_get reps r.0 ≡ Some r → slice_get uses r.0 ≡ Some row → AreUsesOf terms reps r row

-- classes of the terms of the table
pub record IsGroupingOf (terms : Terms) (g : Grouping) : Type 0 where
  pub long : length g.reps ≡ length terms
  pub cons : AreCons terms g.reps g.cons
  pub uses : AreUses terms g.reps g.uses

-- no other term has the head of this one and as many arguments, so that it is congruent to itself alone
abbrev pub IsLone : Terms → TermId → Type 0
IsLone terms t = (u : TermId) (core other : Core) → Has terms core t.0 → Has terms other u.0 → core_head core ≡ core_head other → length (core_children core) ≡ length (core_children other) → t ≡ u

-- the terms that are marked are lone
abbrev pub AreLone : Terms → List Bool → Type 0
AreLone terms lone = (t : TermId) → slice_get lone t.0 ≡ Some true → IsLone terms t

-- the classes now and those before each union are of the terms of the table, and so are the marks, the digests and the places
pub record AreGroupingsOf (terms : Terms) (gs : Groupings) : Type 0 where
  pub now : IsGroupingOf terms gs.now
  pub past : AllByRecursion (IsGroupingOf terms) gs.past
  pub lone : AreLone terms gs.lone
  pub digests : AreDigests terms gs.now.reps gs.digests
  pub places : ArePlaces terms gs.places
