-- Uniqueness, the rule that codatatypes need: bisimilar terms are equal, whatever their sort (Reynolds and Blanchette 2015,
-- section 4). And bisimulations on classes.
use Rattle.std.specs.Prelude.{◌≡◌, ◌⊎◌, Bool, true, List, Contains}
use Rattle.std.specs.List.{AllZip}
use Rattle.ct_sorts.specs.declared.ids.CtorId.{CtorId}
use Rattle.ct_terms.specs.declared.ids.TermId.{TermId}
use Rattle.ct_terms.specs.declared.term.Core.TheVariants.{Con}
use Rattle.ct_terms.specs.Terms.{Terms, Has}
use Rattle.ct_rules.specs.declared.equation.Equation.{Equation}
use Rattle.ct_rules.specs.Rules.{Equations}

-- the two are known to be equal, or each is known to equal its side of one of the pairs
abbrev pub AreMatched : Equations → List Equation → TermId → TermId → Type 0
AreMatched known pairs x y = known x y ⊎ ((pair : Equation) × Contains pairs pair × known x pair.left × known pair.right y)

-- two constructor terms with one constructor, whose arguments are matched at each place
pub record IsPairMatched (terms : Terms) (known : Equations) (pairs : List Equation) (x y : TermId) : Type 0 where
  pub ctor : CtorId
  pub xs : List TermId
  pub ys : List TermId
  pub left_stands : Has terms (Con ctor xs) x.0
  pub right_stands : Has terms (Con ctor ys) y.0
  pub arguments : AllZip (AreMatched known pairs) xs ys

-- every pair is matched
abbrev pub AreAllMatched : Terms → Equations → List Equation → Type 0
AreAllMatched terms known pairs = (pair : Equation) → Contains pairs pair → IsPairMatched terms known pairs pair.left pair.right

-- the sides of a pair of such a list are equal
pub record IsUniqueness (terms : Terms) (known : Equations) (x y : TermId) : Type 0 where
  pub pairs : List Equation
  pub listed : Contains pairs (record { left = x; right = y })
  pub matched : AreAllMatched terms known pairs

-- the classes of the two terms have constructor terms with one constructor and related arguments
pub record HaveRelatedTerms (terms : Terms) (equal : Equations) (related : TermId → TermId → Bool) (x y : TermId) : Type 0 where
  pub left : TermId
  pub right : TermId
  pub ctor : CtorId
  pub xs : List TermId
  pub ys : List TermId
  pub left_equal : equal x left
  pub right_equal : equal y right
  pub left_stands : Has terms (Con ctor xs) left.0
  pub right_stands : Has terms (Con ctor ys) right.0
  pub arguments : AllZip (λ a b. related a b ≡ true) xs ys

-- a bisimulation on the classes of equal terms: it relates classes and not only terms, and two related classes are one
-- class, or have constructor terms with one constructor and related arguments
pub record IsBisimulation (terms : Terms) (equal : Equations) (related : TermId → TermId → Bool) : Type 0 where
  pub of_classes : (x y u v : TermId) → equal x u → equal y v → related x y ≡ true → related u v ≡ true
  pub matched : (x y : TermId) → related x y ≡ true → equal x y ⊎ HaveRelatedTerms terms equal related x y
