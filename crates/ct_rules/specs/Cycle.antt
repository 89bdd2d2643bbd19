-- Cycles through constructor terms of datatypes, whose values are finite: there are none in any model (Reynolds and Blanchette
-- 2015, section 4, on acyclicity).
use Rattle.std.specs.Prelude.{◌≡◌, ℕ, List, [], ◌∷◌, Some, slice_get}
use Rattle.ct_sorts.specs.declared.ids.CtorId.{CtorId}
use Rattle.ct_sorts.specs.declared.ids.SortId.{SortId}
use Rattle.ct_sorts.specs.declared.ids.Kind.TheVariants.{Data}
use Rattle.ct_sorts.specs.Declarations.{Declarations, Sort}
use Rattle.ct_terms.specs.declared.ids.TermId.{TermId}
use Rattle.ct_terms.specs.declared.term.Core.TheVariants.{Con}
use Rattle.ct_terms.specs.Terms.{Terms, IsOfSort, Has}
use Rattle.ct_rules.specs.Rules.{Equations}

-- the term is of a datatype
pub record IsOfDatatype (d : Declarations) (terms : Terms) (t : TermId) : Type 0 where
  pub id : SortId
  pub sort : Sort
  pub sorted : IsOfSort terms t id
  pub declared : slice_get d.sorts id.0 ≡ Some sort
  pub kind : sort.kind ≡ Data

-- the argument of a constructor term of a datatype at this place is known to equal the next term
pub record LeadsTo (d : Declarations) (terms : Terms) (known : Equations) (con : TermId) (place : ℕ) (next : TermId) : Type 0 where
  pub ctor : CtorId
  pub args : List TermId
  pub argument : TermId
  pub stands : Has terms (Con ctor args) con.0
  pub datatype : IsOfDatatype d terms con
  pub at : slice_get args place ≡ Some argument
  pub equal : known argument next

-- each constructor term leads, at its place, to the next one, and the last to the end
abbrev pub LeadBack : Declarations → Terms → Equations → List (TermId × ℕ) → TermId → Type 0
LeadBack d terms known [] end = ⊥
LeadBack d terms known (hop ∷ []) end = LeadsTo d terms known hop.0 hop.1 end
LeadBack d terms known (hop ∷ (next ∷ hops)) end = LeadsTo d terms known hop.0 hop.1 next.0 × LeadBack d terms known (next ∷ hops) end

-- at least one constructor term; each leads to the next, and the last to the first
abbrev pub IsCycle : Declarations → Terms → Equations → List (TermId × ℕ) → Type 0
IsCycle d terms known [] = ⊥
IsCycle d terms known (hop ∷ hops) = LeadBack d terms known (hop ∷ hops) hop.0
