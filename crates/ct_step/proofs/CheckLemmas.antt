-- What a check of the core terms in a table says of the stack that holds them.
use Rattle.std.proofs.Common.{◌≡◌, ℕ, suc, ◌≤◌, ◌^◌, List, ◌++◌, Contains, Result, Ok, Err, OnOk, IsErrOf, refl, sym, subst, inl, inr}
use Rattle.ct_sorts.specs.Declarations.{Declarations}
use Rattle.ct_sorts.specs.Consistent.{IsConsistent}
use Rattle.ct_terms.specs.declared.ids.TermId.{TermId}
use Rattle.ct_terms.specs.Terms.{Terms, AreSorted}
use Rattle.ct_terms.specs.CoreTree.{CoreTree, subtrees, term_at}
use Rattle.ct_closure.specs.Closed.{HasMoreThan, HasVariables, most_closure_terms, truth_trees}
use Rattle.ct_closure.specs.ClosedTable.{AreSubtermsOf, terms_at}
use Rattle.ct_command.specs.declared.error.CommandError.{CommandError}
use Rattle.ct_command.specs.declared.error.CommandError.TheVariants.{Refused}
use Rattle.ct_engine.specs.declared.verdict.Verdict.{Verdict}
use Rattle.ct_engine.specs.Verdict.{IsVerdict, IsDecisive}
use Rattle.ct_stack.specs.Stack.{Stack, in_force, cores}
use Rattle.ct_stack.specs.Assuming.{Assumption, assuming, with_assumed}
use Rattle.ct_stack.specs.Held.{IsHeld, as_one}
use Rattle.ct_step.specs.Numbers.{closure_too_large}
use Rattle.ct_stack.specs.Refusal.{HasManyTerms}
use Rattle.ct_step.specs.Refusal.{IsCheckRefusal, IsTooLarge}
use Rattle.ct_step.specs.Verdict.{ComesTo}
use Rattle.ct_step.proofs.CauseLemmas.{no_last, last_cause}
use Rattle.ct_step.proofs.VerdictLemmas.{Assertions, right}

module _ (s : Stack) (d : Declarations) (table : Terms) (numbers : List TermId) (is : d ≡ s.top.context.declarations) (held : IsHeld (as_one s) table numbers) where
  pub sorted : AreSorted d table
  sorted = subst (λ (x : Declarations). AreSorted x table) (sym is) held.in_table.exact.sorted

  pub exact : AreSubtermsOf table numbers
  exact = λ t within. subst (λ (rs : List CoreTree). (root : CoreTree) × Contains (truth_trees ++ rs) root × Contains (subtrees root) (term_at table t)) (sym held.in_table.stand) (held.in_table.exact.covered t within)

  -- too many terms of the roots are too many of the core terms of the assertions
  more : HasMoreThan d (terms_at table numbers) most_closure_terms → HasMoreThan s.top.context.declarations (cores s.top.context (in_force s)) most_closure_terms
  more h =
      subst (λ (rs : List CoreTree). HasMoreThan s.top.context.declarations rs most_closure_terms) held.in_table.stand
      (subst (λ (x : Declarations). HasMoreThan x (terms_at table numbers) most_closure_terms) is h)

  no_more : HasMoreThan s.top.context.declarations (cores s.top.context (in_force s)) most_closure_terms → HasMoreThan d (terms_at table numbers) most_closure_terms
  no_more h =
      subst (λ (x : Declarations). HasMoreThan x (terms_at table numbers) most_closure_terms) (sym is)
      (subst (λ (rs : List CoreTree). HasMoreThan s.top.context.declarations rs most_closure_terms) (sym held.in_table.stand) h)

  pub check_fits : (HasMoreThan d (terms_at table numbers) most_closure_terms → ⊥) → (n : ℕ) → IsCheckRefusal s n → ⊥
  check_fits fits = no_last closure_too_large (HasMoreThan s.top.context.declarations (cores s.top.context (in_force s)) most_closure_terms) (λ h. fits (no_more h))

  pub check_too_large : HasMoreThan d (terms_at table numbers) most_closure_terms → IsCheckRefusal s closure_too_large
  check_too_large many = last_cause closure_too_large (HasMoreThan s.top.context.declarations (cores s.top.context (in_force s)) most_closure_terms) closure_too_large refl (more many)

  pub check_comes_to : Assertions → IsConsistent d → (budget : ℕ) (v : Verdict) → IsVerdict d table numbers budget v
      → ((variables : ℕ) → HasVariables d (terms_at table numbers) variables → 2 ^ variables ≤ suc budget → IsDecisive v)
      → ComesTo s.top.context (in_force s) budget v
  check_comes_to assertions consistent budget v verdict decisive =
      record {
        right =
            right assertions s.top.context (in_force s) table numbers (subst IsConsistent is consistent) held.sound.bodies held.sound.asserts held.in_table.stand budget v
            (subst (λ (x : Declarations). IsVerdict x table numbers budget v) is verdict);
        decisive = λ variables has enough.
            decisive variables
            (subst (λ (x : Declarations). HasVariables x (terms_at table numbers) variables) (sym is)
            (subst (λ (rs : List CoreTree). HasVariables s.top.context.declarations rs variables) (sym held.in_table.stand) has))
            enough;
      }

-- the same with assumptions
module _ (s : Stack) (assumed : List Assumption) (d : Declarations) (table : Terms) (numbers : List TermId) (is : d ≡ s.top.context.declarations) (held : IsHeld (with_assumed (as_one s) assumed) table numbers) where
  pub assumed_sorted : AreSorted d table
  assumed_sorted = subst (λ (x : Declarations). AreSorted x table) (sym is) held.in_table.exact.sorted

  pub assumed_exact : AreSubtermsOf table numbers
  assumed_exact = λ t within. subst (λ (rs : List CoreTree). (root : CoreTree) × Contains (truth_trees ++ rs) root × Contains (subtrees root) (term_at table t)) (sym held.in_table.stand) (held.in_table.exact.covered t within)

  pub assumed_more : HasMoreThan d (terms_at table numbers) most_closure_terms → HasMoreThan s.top.context.declarations (cores s.top.context (assuming s assumed)) most_closure_terms
  assumed_more h =
      subst (λ (rs : List CoreTree). HasMoreThan s.top.context.declarations rs most_closure_terms) held.in_table.stand
      (subst (λ (x : Declarations). HasMoreThan x (terms_at table numbers) most_closure_terms) is h)

  pub assumed_no_more : HasMoreThan s.top.context.declarations (cores s.top.context (assuming s assumed)) most_closure_terms → HasMoreThan d (terms_at table numbers) most_closure_terms
  assumed_no_more h =
      subst (λ (x : Declarations). HasMoreThan x (terms_at table numbers) most_closure_terms) (sym is)
      (subst (λ (rs : List CoreTree). HasMoreThan s.top.context.declarations rs most_closure_terms) (sym held.in_table.stand) h)

  pub assumed_fits : (HasManyTerms (cores s.top.context (assuming s assumed)) → ⊥) → (HasMoreThan d (terms_at table numbers) most_closure_terms → ⊥) → (n : ℕ) → IsTooLarge s assumed n → ⊥
  assumed_fits few fits n (inl many) = few many.1
  assumed_fits few fits n (inr others) = no_last closure_too_large (HasMoreThan s.top.context.declarations (cores s.top.context (assuming s assumed)) most_closure_terms) (λ h. fits (assumed_no_more h)) n others.1

  pub assumed_too_large : (HasManyTerms (cores s.top.context (assuming s assumed)) → ⊥) → HasMoreThan d (terms_at table numbers) most_closure_terms → IsTooLarge s assumed closure_too_large
  assumed_too_large few many = inr (few, inl (refl, assumed_more many))

  pub assumed_comes_to : Assertions → IsConsistent d → (budget : ℕ) (v : Verdict) → IsVerdict d table numbers budget v
      → ((variables : ℕ) → HasVariables d (terms_at table numbers) variables → 2 ^ variables ≤ suc budget → IsDecisive v)
      → ComesTo s.top.context (assuming s assumed) budget v
  assumed_comes_to assertions consistent budget v verdict decisive =
      record {
        right =
            right assertions s.top.context (assuming s assumed) table numbers (subst IsConsistent is consistent) held.sound.bodies held.sound.asserts held.in_table.stand budget v
            (subst (λ (x : Declarations). IsVerdict x table numbers budget v) is verdict);
        decisive = λ variables has enough.
            decisive variables
            (subst (λ (x : Declarations). HasVariables x (terms_at table numbers) variables) (sym is)
            (subst (λ (rs : List CoreTree). HasVariables s.top.context.declarations rs variables) (sym held.in_table.stand) has))
            enough;
      }

  -- where the closure is made
  pub fits_of : {T E : Type 0} (r : Result T E) → (HasManyTerms (cores s.top.context (assuming s assumed)) → ⊥) → OnOk r (HasMoreThan d (terms_at table numbers) most_closure_terms → ⊥) → OnOk r ((n : ℕ) → IsTooLarge s assumed n → ⊥)
  fits_of (Ok x) few fits = assumed_fits few fits
  fits_of (Err e) few fits = tt

  pub too_large_of : {T : Type 0} (r : Result T CommandError) → (HasManyTerms (cores s.top.context (assuming s assumed)) → ⊥) → ((n : ℕ) → IsErrOf r (Refused n) → (n ≡ closure_too_large) × HasMoreThan d (terms_at table numbers) most_closure_terms) → (n : ℕ) → IsErrOf r (Refused n) → IsTooLarge s assumed n
  too_large_of r few why n e = let h = why n e in subst (IsTooLarge s assumed) (sym h.0) (assumed_too_large few h.1)
