-- Pairs of constructor terms, and the steps that say why their arguments are equal.
use Rattle.std.specs.Prelude.{◌≡◌, List, [], ◌∷◌, Some, slice_get}
use Rattle.ct_sorts.specs.declared.ids.CtorId.{CtorId}
use Rattle.ct_terms.specs.declared.ids.TermId.{TermId}
use Rattle.ct_terms.specs.declared.term.Core.TheVariants.{Con}
use Rattle.ct_terms.specs.Terms.{Terms, Has}
use Rattle.ct_rules.specs.declared.equation.Equation.{Equation}
use Rattle.ct_rules.specs.Uniqueness.{IsPairMatched}
use Rattle.ct_log.specs.declared.rules.Entry.{Entry}
use Rattle.ct_log.specs.declared.rules.Entry.TheVariants as entry
use Rattle.ct_log.specs.declared.rules.Pair.{Pair}
use Rattle.ct_congr.specs.declared.merge.Merge.{Merge}
use Rattle.ct_congr.specs.Merges.{AreConnected}
use Rattle.ct_explain.specs.Writing.{Written, Told}

-- the equation is of two constructor terms whose arguments are equal by some merges, or by the equations
abbrev pub IsMatched : Terms → List Equation → TermId → TermId → Type 0
IsMatched terms equations x y = (before : List Merge) × IsPairMatched terms (AreConnected before) equations x y

-- the entry says why x and y are equal: by a step, or by one of the equations and two steps
abbrev pub ToldEntry : Written → List Equation → Entry → TermId → TermId → Type 0
ToldEntry w equations (entry.Step i) x y = Told w i x y
ToldEntry w equations (entry.Pair k i j) x y = (e : Equation) × (slice_get equations k ≡ Some e) × Told w i x e.left × Told w j e.right y

-- one entry for the terms at each place
abbrev pub ToldEntries : Written → List Equation → List Entry → List TermId → List TermId → Type 0
ToldEntries w equations [] [] [] = Unit {0}
ToldEntries w equations (e ∷ es) (x ∷ xs) (y ∷ ys) = ToldEntry w equations e x y × ToldEntries w equations es xs ys
ToldEntries w equations es xs ys = ⊥

-- the pair is of the sides of the equation, which are of one constructor, with an entry for the arguments at each place
pub record IsPairTold (terms : Terms) (w : Written) (equations : List Equation) (e : Equation) (pair : Pair) : Type 0 where
  pub left : pair.left ≡ e.left
  pub right : pair.right ≡ e.right
  pub ctor : CtorId
  pub xs : List TermId
  pub ys : List TermId
  pub left_stands : Has terms (Con ctor xs) pair.left.0
  pub right_stands : Has terms (Con ctor ys) pair.right.0
  pub entries : ToldEntries w equations pair.entries xs ys

-- such a pair for each of these equations, in order
abbrev pub ArePairsTold : Terms → Written → List Equation → List Equation → List Pair → Type 0
ArePairsTold terms w equations [] [] = Unit {0}
ArePairsTold terms w equations (e ∷ es) (p ∷ ps) = IsPairTold terms w equations e p × ArePairsTold terms w equations es ps
ArePairsTold terms w equations es ps = ⊥
