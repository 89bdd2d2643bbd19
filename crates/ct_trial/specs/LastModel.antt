-- The model of an earlier check, with the table of that check.
use Rattle.std.specs.Prelude.{◌≡◌, ℕ, ◌<◌, ◌≤◌, List}
use Rattle.ct_sorts.specs.Declarations.{Declarations}
use Rattle.ct_sorts.specs.Consistent.{IsConsistent}
use Rattle.ct_sorts.specs.Grown.{Extends}
use Rattle.ct_sorts.specs.Lengths.{Lengths}
use Rattle.ct_sorts.specs.Marks.{lengths}
use Rattle.ct_sorts.specs.declared.ids.FunId.{FunId}
use Rattle.ct_sorts.specs.declared.ids.SortId.{SortId}
use Rattle.ct_terms.specs.declared.ids.TermId.{TermId}
use Rattle.ct_terms.specs.declared.term.Core.{Core}
use Rattle.ct_terms.specs.declared.term.Core.TheVariants.{Apply}
use Rattle.ct_terms.specs.Terms.{AreSorted}
use Rattle.ct_trial.specs.declared.last_model.LastModel.{LastModel}
use Rattle.ct_trial.specs.Trial.{IsTrial}

-- the term applies no other functions than the first ones, so many
abbrev pub AppliesBelow : ℕ → Core × SortId → Type 0
AppliesBelow count term = (f : FunId) (args : List TermId) → term.0 ≡ Apply f args → f.0 < count

-- no more is declared at the one mark than at the other
pub record IsNoMore (one other : Lengths) : Type 0 where
  pub sorts : one.sorts ≤ other.sorts
  pub ctors : one.ctors ≤ other.ctors
  pub sels : one.sels ≤ other.sels
  pub functions : one.functions ≤ other.functions
  pub definitions : one.definitions ≤ other.definitions
  pub heads : one.heads ≤ other.heads
  pub synonyms : one.synonyms ≤ other.synonyms

-- as many sorts, constructors and selectors are declared at the one mark as at the other, and no more functions
pub record HasNoMoreFunctions (one other : Lengths) : Type 0 where
  pub sorts : one.sorts ≡ other.sorts
  pub ctors : one.ctors ≡ other.ctors
  pub sels : one.sels ≡ other.sels
  pub functions : one.functions ≤ other.functions

-- it is of these declarations or of an earlier state of them: the interpretation is one of that state, with the values of the first of
-- the terms that are stored
pub record IsLastModel (d : Declarations) (m : LastModel) : Type 0 where
  pub earlier : Declarations
  pub consistent : IsConsistent earlier
  pub extends : Extends d earlier
  pub declared : m.declared ≡ lengths earlier
  pub sorted : AreSorted earlier m.terms.items
  pub trial : IsTrial earlier m.terms.items m.interp m.trial
