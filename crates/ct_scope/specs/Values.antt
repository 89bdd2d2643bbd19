-- Terms of closed values while a quantifier is compiled.
use Rattle.std.specs.Prelude.{◌≡◌, ℕ, Bool, true, List, map, Contains, Some, slice_get, if◌then◌else◌, [], Result, IfOk, IsErrOf}
use Rattle.std.specs.List.{AllZip}
use Rattle.indexmap.specs.IndexMap.{IndexMap, get}
use Rattle.ct_sorts.specs.declared.ids.SortId.{SortId}
use Rattle.ct_sorts.specs.Declarations.{Declarations}
use Rattle.ct_terms.specs.declared.ids.TermId.{TermId}
use Rattle.ct_terms.specs.declared.error.TermError.{TermError}
use Rattle.ct_terms.specs.declared.error.TermError.TheVariants.{Full}
use Rattle.ct_terms.specs.Terms.{Terms}
use Rattle.ct_terms.specs.CoreTree.{CoreTree}
use Rattle.ct_listing.specs.Closed.{ClosedValue, term_of, closed_of}
use Rattle.ct_listing.specs.Listing.{listed}
use Rattle.ct_operators.specs.Effect.{Stands, AllStand, IsSoundTable, IsPrefix, Within, Effect}
use Rattle.ct_operators.specs.Made.{MakesInOrder}
use Rattle.ct_scope.specs.declared.bound.Bound.{Bound}
use Rattle.ct_scope.specs.declared.values.ListedValue.{ListedValue}
use Rattle.ct_scope.specs.contracts.values.ListedValuePartialEq.TheImpl as derived
use Rattle.ct_scope.specs.Making.{making_value, making_under, making_values}
use Rattle.ct_scope.specs.Binding.{IsBoundAs}
use Rattle.ct_scope.specs.Compilable.{IsBound}

-- the derived test of two values
abbrev pub same_value : ListedValue → ListedValue → Bool
same_value = derived.eq-value.it

-- each term is that of its value
abbrev pub AreValueTerms : {S : Type 0} → Declarations → Terms → IndexMap ListedValue TermId S → Type 0
AreValueTerms d table terms = (value : ListedValue) (t : TermId) → get same_value terms value ≡ Some t → (v : ClosedValue) × (slice_get (listed d value.sort) value.number ≡ Some v) × Stands table t (term_of v)

-- the subterms of the terms of these are in the list
abbrev pub AreWithin : List CoreTree → List ClosedValue → Type 0
AreWithin allowed vs = (v : ClosedValue) → Contains vs v → Within allowed (term_of v)

-- so are those of the values whose flags are set
abbrev pub AreWithinWhere : List CoreTree → List Bool → List ClosedValue → Type 0
AreWithinWhere allowed flags vs = AllZip (λ b v. b ≡ true → Within allowed (term_of v)) flags vs

-- what making the term of a value gives: its term, and no other terms than subterms of it, in order
pub record MakesValue (d : Declarations) (old new : Terms) (v : ClosedValue) (r : Result TermId TermError) : Type 0 where
  pub core : IfOk r (λ u. Stands new u (term_of v))
  pub grown : IsPrefix old new × IsSoundTable d new
  pub effect : (allowed : List CoreTree) → Within allowed (term_of v) → Effect d allowed old new (IsErrOf r Full)
  pub order : IfOk r (λ u. MakesInOrder old (making_value v) new)

-- the same of several values
pub record MakesFields (d : Declarations) (old new : Terms) (vs : List ClosedValue) (r : Result (List TermId) TermError) : Type 0 where
  pub core : IfOk r (λ us. AllStand new us (map term_of vs))
  pub grown : IsPrefix old new × IsSoundTable d new
  pub effect : (allowed : List CoreTree) → AreWithin allowed vs → Effect d allowed old new (IsErrOf r Full)
  pub order : IfOk r (λ us. MakesInOrder old (making_under (closed_of vs)) new)

-- what binding a variable to a value gives: its term, where it occurs
pub record BindsValue (d : Declarations) (old new : Terms) (flag : Bool) (v : ClosedValue) (r : Result Bound TermError) : Type 0 where
  pub core : IfOk r (λ b. IsBound new b (term_of v))
  pub flagged : IfOk r (λ b. IsBoundAs flag b)
  pub grown : IsPrefix old new × IsSoundTable d new
  pub effect : (allowed : List CoreTree) → (flag ≡ true → Within allowed (term_of v)) → Effect d allowed old new (IsErrOf r Full)
  pub order : IfOk r (λ b. MakesInOrder old (if flag then making_value v else []) new)

-- the same of several variables
pub record BindsValues (d : Declarations) (old new : Terms) (flags : List Bool) (vs : List ClosedValue) (r : Result (List Bound) TermError) : Type 0 where
  pub core : IfOk r (λ bs. AllZip (IsBound new) bs (map term_of vs))
  pub flagged : IfOk r (λ bs. AllZip IsBoundAs flags bs)
  pub grown : IsPrefix old new × IsSoundTable d new
  pub effect : (allowed : List CoreTree) → AreWithinWhere allowed flags vs → Effect d allowed old new (IsErrOf r Full)
  pub order : IfOk r (λ bs. MakesInOrder old (making_values flags vs) new)
