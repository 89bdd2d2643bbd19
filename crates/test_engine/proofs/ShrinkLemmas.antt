-- All places of the assertions, with the whole of a derivation.
use Rattle.std.proofs.Common.{◌≡◌, ℕ, ◌+◌, refl, List, [], ◌∷◌, ◌++◌, length, Some, slice_get, sym, subst, inl, inr, arith}
use Rattle.std.proofs.lemmas.List.{length_push}
use Rattle.std.proofs.lemmas.Option.{none-some}
use Rattle.ct_lemmas.proofs.Lists.{slice_get-push_cases}
use Rattle.ct_lemmas.proofs.Pairs.{AllZip-from}
use Rattle.ct_sorts.specs.Declarations.{Declarations}
use Rattle.ct_terms.specs.declared.ids.TermId.{TermId}
use Rattle.ct_terms.specs.Terms.{Terms}
use Rattle.ct_log.specs.Recorded.{Derived}
use Rattle.ct_engine.specs.Verdict.{IsRefutation}
use Rattle.ct_shrink.specs.Shrunk.{IsCoreOf}

-- the numbers below this one, in order
pub record AreUpTo (count : ℕ) (places : List ℕ) : Type 0 where
  pub long : length places ≡ count
  pub each : (k place : ℕ) → slice_get places k ≡ Some place → place ≡ k

-- none, and one more
pub up_to_none : AreUpTo 0 []
up_to_none = record { long = refl; each = λ k place at. absurd (none-some place at) }

pub up_to_more : (count : ℕ) (places : List ℕ) → AreUpTo count places → AreUpTo (count + 1) (places ++ count ∷ [])
up_to_more count places are = record {
  long = let more = length_push places count in let was = are.long in omega (arith, more, was);
  each = λ k place at. elim (slice_get-push_cases places count place k at) [
    | inl was ↦ are.each k place was
    | inr last ↦ let long = are.long in let first = last.0 in let second = last.1 in omega (arith, long, first, second)
  ];
}

-- a refutation is a core at all places
pub whole_core : (d : Declarations) (table : Terms) (asserts : List TermId) (places : List ℕ) (derived : Derived) → AreUpTo (length asserts) places → IsRefutation d table asserts derived → IsCoreOf d table asserts places derived
whole_core d table asserts places derived are refutation = record {
  rising = λ j k m n at_j at_k less. let a = are.each j m at_j in let b = are.each k n at_k in omega (arith, a, b, less);
  chosen = asserts;
  stand = AllZip-from (λ (p : ℕ) (t : TermId). slice_get asserts p ≡ Some t) places asserts are.long (λ k p t at_p at_t. subst (λ (i : ℕ). slice_get asserts i ≡ Some t) (sym (are.each k p at_p)) at_t);
  declarations = refutation.declarations;
  asserted = refutation.asserted;
  passes = refutation.passes;
}
