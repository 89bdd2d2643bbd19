-- When an interpretation makes terms and clauses true (SMT-LIB 2.7, section 5.3).
use Rattle.std.specs.Prelude.{◌≡◌, ℕ, true, Bool, List, All, take, Some, slice_get}
use Rattle.ct_sorts.specs.Declarations.{Declarations}
use Rattle.ct_terms.specs.declared.ids.TermId.{TermId}
use Rattle.ct_terms.specs.Terms.{Terms}
use Rattle.ct_terms.specs.Clause.{Clause, HoldsUnder}
use Rattle.ct_eval.specs.declared.interp.Interp.{Interp}
use Rattle.ct_values.specs.TruthValue.{is_true}
use Rattle.ct_eval.specs.Evaluation.{value_of}

-- the truth value of a term
abbrev pub truth_value : Declarations → Interp → Terms → TermId → Bool
truth_value d i terms t = is_true i.graph (value_of d i terms t)

-- the interpretation makes every assertion true
abbrev pub Holds : Declarations → Interp → Terms → List TermId → Type 0
Holds d i terms asserts = All (λ t. truth_value d i terms t ≡ true) asserts

-- the interpretation makes the clause true: some literal of it is true
abbrev pub TrueIn : Declarations → Interp → Terms → Clause → Type 0
TrueIn d i terms clause = HoldsUnder (λ t. truth_value d i terms (record { 0 = t })) clause

-- the assertion at this index is the first that is not true
pub record IsFirstUntrue (d : Declarations) (i : Interp) (terms : Terms) (asserts : List TermId) (position : ℕ) : Type 0 where
  pub assert : TermId
  pub stands : slice_get asserts position ≡ Some assert
  pub untrue : truth_value d i terms assert ≡ true → ⊥
  pub before : Holds d i terms (take position asserts)
