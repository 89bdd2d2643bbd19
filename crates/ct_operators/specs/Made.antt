-- Terms that are made in order, each after the terms under it, from left to right.
use Rattle.std.specs.Prelude.{◌≡◌, ◌⊎◌, List, [], ◌∷◌, ◌++◌, length, map}
use Rattle.std.specs.List.{AllByRecursion, fold}
use Rattle.ct_sorts.specs.declared.ids.SortId.{SortId}
use Rattle.ct_sorts.specs.Declarations.{Declarations}
use Rattle.ct_terms.specs.declared.ids.TermId.{TermId}
use Rattle.ct_terms.specs.declared.term.Core.{Core}
use Rattle.ct_terms.specs.Terms.{Terms}
use Rattle.ct_terms.specs.CoreTree.{CoreTree, negation, conjunction, disjunction, equivalence, trees_of, no_term}
use Rattle.ct_formulas.specs.Pairs.{neighbours, pairs}
use Rattle.ct_formulas.specs.Compiled.{equality}
use Rattle.ct_operators.specs.declared.operator.Operator.{Operator}
use Rattle.ct_operators.specs.declared.operator.Operator.TheVariants.{Construct, Select, Inspect, Call, Negation, Conjunction, Disjunction, Exclusion, Implication, Equality, Inequality}
use Rattle.ct_operators.specs.Effect.{Stands, IsMissing}
use Rattle.ct_operators.specs.Forms.{combined}

-- ---- tables

-- the tree is one of the table
abbrev pub HasTree : Terms → CoreTree → Type 0
HasTree table t = (u : TermId) × Stands table u t

abbrev pub HasTrees : Terms → List CoreTree → Type 0
HasTrees table ts = AllByRecursion (HasTree table) ts

-- the table has grown, in order, by those of the trees that it did not have
abbrev pub MakesInOrder : Terms → List CoreTree → Terms → Type 0
MakesInOrder old [] new = new ≡ old
MakesInOrder old (t ∷ ts) new = (HasTree old t × MakesInOrder old ts new) ⊎ (IsMissing old t × ((entry : Core × SortId) × Stands (old ++ entry ∷ []) (record { 0 = length old }) t × MakesInOrder (old ++ entry ∷ []) ts new))

-- ---- terms over terms

-- a core term, and what is made for it, in order
pub record Made : Type 0 where
  pub making : List CoreTree
  pub term : CoreTree

-- a term that is there
abbrev pub leaf : CoreTree → Made
leaf t = record { making = []; term = t }

abbrev pub terms : List Made → List CoreTree
terms ps = map (λ p. p.term) ps

-- what is made for several, from left to right
abbrev pub made_for : List Made → List CoreTree
made_for [] = []
made_for (p ∷ ps) = p.making ++ made_for ps

-- a term after those under it
abbrev pub over : List Made → CoreTree → Made
over ps t = record { making = made_for ps ++ t ∷ []; term = t }

abbrev pub made_negation : Made → Made
made_negation p = over (p ∷ []) (negation p.term)

abbrev pub made_equality : Declarations → Made → Made → Made
made_equality d p q = over (p ∷ (q ∷ [])) (equality d p.term q.term)

abbrev pub made_inequality : Declarations → Made → Made → Made
made_inequality d p q = made_negation (made_equality d p q)

abbrev pub made_exclusive : Made → Made → Made
made_exclusive p q = made_negation (over (p ∷ (q ∷ [])) (equivalence p.term q.term))

abbrev pub made_implied : Made → List Made → Made
made_implied p [] = p
made_implied p (q ∷ qs) = over (made_negation p ∷ (made_implied q qs ∷ [])) (disjunction (trees_of (negation p.term ∷ ((made_implied q qs).term ∷ []))))

-- one term alone is itself
abbrev pub made_all : List Made → Made
made_all (p ∷ []) = p
made_all ps = over ps (conjunction (trees_of (terms ps)))

abbrev pub made_any : List Made → Made
made_any (p ∷ []) = p
made_any ps = over ps (disjunction (trees_of (terms ps)))

abbrev pub made_exclusive_of : List Made → Made
made_exclusive_of [] = over [] no_term
made_exclusive_of (p ∷ ps) = fold made_exclusive p ps

abbrev pub made_implication_of : List Made → Made
made_implication_of [] = over [] no_term
made_implication_of (p ∷ ps) = made_implied p ps

-- the core term of an operator, after those of the formulas under it
abbrev pub made_by : Declarations → Operator → List Made → Made
made_by d Conjunction ps = made_all ps
made_by d Disjunction ps = made_any ps
made_by d Exclusion ps = made_exclusive_of ps
made_by d Implication ps = made_implication_of ps
made_by d Equality ps = made_all (neighbours (made_equality d) ps)
made_by d Inequality ps = made_all (pairs (made_inequality d) ps)
made_by d (Construct c) ps = over ps (combined d (Construct c) (terms ps))
made_by d (Select s) ps = over ps (combined d (Select s) (terms ps))
made_by d (Inspect c) ps = over ps (combined d (Inspect c) (terms ps))
made_by d (Call f) ps = over ps (combined d (Call f) (terms ps))
made_by d Negation ps = over ps (combined d Negation (terms ps))
