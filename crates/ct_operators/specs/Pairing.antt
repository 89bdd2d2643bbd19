-- Terms that are compared two by two.
use Rattle.std.specs.Prelude.{◌<◌, Bool, true, false, List, length, map}
use Rattle.ct_sorts.specs.declared.ids.SortId.{SortId}
use Rattle.ct_sorts.specs.Declarations.{Declarations}
use Rattle.ct_terms.specs.declared.ids.TermId.{TermId}
use Rattle.ct_terms.specs.Terms.{Terms}
use Rattle.ct_terms.specs.CoreTree.{CoreTree, term_at}
use Rattle.ct_terms.specs.CoreSorts.{HasTreeSort}
use Rattle.ct_formulas.specs.Compiled.{equality, inequality}
use Rattle.ct_operators.specs.Made.{Made, leaf, made_equality, made_inequality}

-- two terms
abbrev pub both : TermId → TermId → TermId × TermId
both a b = (a, b)

-- that two terms are different, or that they are equal
abbrev pub compared_as : Declarations → Bool → CoreTree → CoreTree → CoreTree
compared_as d true a b = inequality d a b
compared_as d false a b = equality d a b

-- the same of several
abbrev pub compared_all : Declarations → Bool → (TermId → CoreTree) → List (TermId × TermId) → List CoreTree
compared_all d different f ps = map (λ p. compared_as d different (f p.0) (f p.1)) ps

-- the same, after what is made for them
abbrev pub made_compared : Declarations → Bool → Made → Made → Made
made_compared d true p q = made_inequality d p q
made_compared d false p q = made_equality d p q

abbrev pub made_compared_all : Declarations → Bool → (TermId → CoreTree) → List (TermId × TermId) → List Made
made_compared_all d different f ps = map (λ p. made_compared d different (leaf (f p.0)) (leaf (f p.1))) ps

-- the two terms are in the table, and have this sort
abbrev pub IsPair : Declarations → Terms → SortId → TermId × TermId → Type 0
IsPair d table side p = (p.0.0 < length table) × (p.1.0 < length table) × HasTreeSort d (term_at table p.0) side × HasTreeSort d (term_at table p.1) side
