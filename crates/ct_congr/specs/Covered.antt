-- When the merges that wait cover the rules: what a rule gives is of one class, or will be by merges that wait.
use Rattle.std.specs.Prelude.{◌≡◌, ℕ, ◌⊎◌, List, length, Option, Some, slice_get, Contains}
use Rattle.std.specs.List.{AllZip}
use Rattle.ct_sorts.specs.declared.ids.CtorId.{CtorId}
use Rattle.ct_sorts.specs.Declarations.{Declarations}
use Rattle.ct_terms.specs.declared.ids.TermId.{TermId}
use Rattle.ct_terms.specs.declared.term.Core.{Core}
use Rattle.ct_terms.specs.declared.term.Core.TheVariants.{Con}
use Rattle.ct_terms.specs.Children.{core_head, core_children}
use Rattle.ct_terms.specs.Terms.{Terms, Has}
use Rattle.ct_rules.specs.Rules.{Equations, IsInjection, IsSelection, IsTesting, IsExpansion, IsEquationIn, IsEquationOut, IsNegation, IsSingleton}
use Rattle.ct_equivalence.specs.Over.{IsLone}
use Rattle.ct_equivalence.specs.Digests.{digest}
use Rattle.ct_equivalence.specs.Chains.{SignatureRows}
use Rattle.ct_congr.specs.Partition.{InOneClass}
use Rattle.ct_congr.specs.Sound.{AreCons}

-- the second is the constructor term that is stored for the class of the first
abbrev pub HasCon : List TermId → List (Option TermId) → Equations
HasCon reps cons u c = (r : TermId) × (slice_get reps u.0 ≡ Some r) × (slice_get cons r.0 ≡ Some (Some c))

-- the argument of a constructor term at a place
abbrev pub IsArgument : Terms → TermId → ℕ → TermId → Type 0
IsArgument terms con place y = (c : CtorId) × (args : List TermId) × Has terms (Con c args) con.0 × (slice_get args place ≡ Some y)

-- classes of the terms of the table, each with a constructor term, if it has any
pub record IsGrouped (terms : Terms) (reps : List TermId) (cons : List (Option TermId)) : Type 0 where
  pub long : length reps ≡ length terms
  pub cons_long : length cons ≡ length reps
  pub own : (x r : TermId) → slice_get reps x.0 ≡ Some r → slice_get reps r.0 ≡ Some r
  pub stored : AreCons terms reps cons

-- the rules that begin at this term give nothing but joined terms; of the constructor terms of a class the stored one counts
pub record IsCoveredAt (d : Declarations) (terms : Terms) (known cons joined : Equations) (t : TermId) : Type 0 where
  pub selection : (y : TermId) → IsSelection d terms cons t y → joined t y
  pub testing : (y : TermId) → IsTesting terms cons t y → joined t y
  pub negation : (y : TermId) → IsNegation terms cons t y → joined t y
  pub equation_in : (y : TermId) → IsEquationIn terms known t y → joined t y
  pub expansion : (x y : TermId) (rule : IsExpansion d terms cons x y) → rule.test ≡ t → joined x y
  pub equation_out : (x y : TermId) (rule : IsEquationOut terms cons x y) → rule.term ≡ t → joined x y

-- terms that were met, each with the digest that it had over the representatives of that time
abbrev pub Keys : Type 0
Keys = SignatureRows

-- the term stands beside the digest
abbrev pub IsKeyed : Keys → ℕ → TermId → Type 0
IsKeyed keys key t = Contains keys (key, t)

-- terms that were met are terms of the classes
abbrev pub AreKeys : List TermId → Keys → Type 0
AreKeys reps keys = (key : ℕ) (t : TermId) → IsKeyed keys key t → InOneClass reps t t

-- the two have one head and arguments of the same classes, one for one
pub record IsAlike (reps : List TermId) (core other : Core) : Type 0 where
  pub head : core_head core ≡ core_head other
  pub arguments : AllZip (InOneClass reps) (core_children core) (core_children other)

-- the term is like this one, and was met when it had the digest that this one has now
pub record IsRowOf (terms : Terms) (reps : List TermId) (keys : Keys) (core : Core) (u : TermId) : Type 0 where
  pub other : Core
  pub has : Has terms other u.0
  pub keyed : IsKeyed keys (digest reps core) u
  pub alike : IsAlike reps core other

-- a term like this one was met at its digest, and each such one is joined with it
pub record IsMatched (terms : Terms) (reps : List TermId) (keys : Keys) (joined : Equations) (t : TermId) (core : Core) : Type 0 where
  pub first : TermId
  pub row : IsRowOf terms reps keys core first
  pub each : (u : TermId) → IsRowOf terms reps keys core u → joined t u

-- congruence asks for nothing more at the term: it is congruent to itself alone, or it was met
abbrev pub IsMet : Terms → List TermId → Keys → Equations → TermId → Core → Type 0
IsMet terms reps keys joined t core = IsLone terms t ⊎ IsMatched terms reps keys joined t core

-- no two constructors in one class, and what a rule gives is joined
pub record IsCovered (d : Declarations) (terms : Terms) (reps : List TermId) (cons : List (Option TermId)) (keys : Keys) (joined : Equations) : Type 0 where
  pub one : (t con : TermId) (c k : CtorId) (xs ys : List TermId) → HasCon reps cons t con → Has terms (Con c xs) t.0 → Has terms (Con k ys) con.0 → c ≡ k
  pub injection : (x y : TermId) → IsInjection terms (HasCon reps cons) x y → joined x y
  pub each : (t : TermId) → IsCoveredAt d terms (InOneClass reps) (HasCon reps cons) joined t
  pub congruence : (t : TermId) (core : Core) → Has terms core t.0 → IsMet terms reps keys joined t core
  pub singleton : (x y : TermId) → IsSingleton d terms x y → joined x y
