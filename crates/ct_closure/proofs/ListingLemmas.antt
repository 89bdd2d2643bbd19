-- The marked terms listed in order, and the variables counted.
use Rattle.std.proofs.Common.{◌≡◌, ℕ, ◌+◌, ◌<◌, Bool, true, false, List, [], ◌∷◌, ◌++◌, take, get_or, Contains, slice_get, Some, sym, ap, subst, ◌∙◌, inl, inr, arith, true≢false}
use Rattle.std.proofs.lemmas.List.Elements.{Contains-append_left, Contains-push, Contains-push_cases}
use Rattle.std.proofs.lemmas.List.Sums.{count_by_more_no, count_by_more_yes}
use Rattle.std.proofs.lemmas.Option.{slice_get_within, same_Some, none-some, get_or_from_slice_get}
use Rattle.ct_lemmas.proofs.Contained.{Contains-from_slice_get, Contains-none}
use Rattle.ct_lemmas.proofs.Lists.{slice_get-push_cases}
use Rattle.ct_lemmas.proofs.Numbers.{last_or_before}
use Rattle.ct_sorts.specs.declared.ids.SortId.{SortId}
use Rattle.ct_terms.specs.declared.ids.TermId.{TermId}
use Rattle.ct_terms.specs.declared.term.Core.{Core}
use Rattle.ct_terms.specs.Terms.{Terms}
use Rattle.ct_closure.specs.ClosedTable.{AreRising}
use Rattle.ct_closure.specs.Steps.{IsMarked}
use Rattle.ct_closure.specs.Variables.{is_variable, variable_count}

-- the marked terms with numbers below this one are listed in order
pub record IsListing (marks : List Bool) (n : ℕ) (terms : List TermId) : Type 0 where
  pub below : (t : TermId) → Contains terms t → t.0 < n
  pub only : (t : TermId) → Contains terms t → IsMarked marks t
  pub all : (t : TermId) → t.0 < n → IsMarked marks t → Contains terms t
  pub rising : AreRising terms

pub listing_none : (marks : List Bool) → IsListing marks 0 []
listing_none marks =
    record {
      below = λ t h. absurd (Contains-none t h);
      only = λ t h. absurd (Contains-none t h);
      all = λ t h marked. absurd (omega (arith, h));
      rising = λ i j t u less at_i at_j. absurd (none-some t at_i);
    }

pub listing_marked : (marks : List Bool) (n : ℕ) (terms : List TermId) → IsListing marks n terms → slice_get marks n ≡ Some true → IsListing marks (n + 1) (terms ++ record { 0 = n } ∷ [])
listing_marked marks n terms so_far marked =
    let new : TermId = record { 0 = n } in
    let id : ℕ → TermId = λ k. record { 0 = k } in
    record {
      below = λ t h. elim (Contains-push_cases terms new t h) [
        | inl old ↦ let less = so_far.below t old in omega arith
        | inr same ↦ let e : n ≡ t.0 = ap (λ (u : TermId). u.0) same in omega arith
      ];
      only = λ t h. elim (Contains-push_cases terms new t h) [
        | inl old ↦ so_far.only t old
        | inr same ↦ subst (IsMarked marks) same marked
      ];
      all = λ t less here. elim (last_or_before t.0 n less) [
        | inl before ↦ Contains-append_left terms (new ∷ []) t (so_far.all t before here)
        | inr last ↦ subst (Contains (terms ++ new ∷ [])) (ap id (sym last)) (Contains-push terms new)
      ];
      rising = λ i j t u less at_i at_j. elim (slice_get-push_cases terms new t i at_i) [
        | inl old_t ↦ elim (slice_get-push_cases terms new u j at_j) [
          | inl old_u ↦ so_far.rising i j t u less old_t old_u
          | inr new_u ↦ let e : n ≡ u.0 = ap (λ (v : TermId). v.0) new_u.1 in let below = so_far.below t (Contains-from_slice_get terms i t old_t) in omega arith
        ]
        | inr new_t ↦ elim (slice_get-push_cases terms new u j at_j) [
          | inl old_u ↦ let within = slice_get_within terms j u old_u in absurd (omega (arith, less, within, new_t.0))
          | inr new_u ↦ absurd (omega (arith, less, new_t.0, new_u.0))
        ]
      ];
    }

pub listing_unmarked : (marks : List Bool) (n : ℕ) (terms : List TermId) → IsListing marks n terms → slice_get marks n ≡ Some false → IsListing marks (n + 1) terms
listing_unmarked marks n terms so_far unmarked =
    record {
      below = λ t h. let less = so_far.below t h in omega arith;
      only = so_far.only;
      all = λ t less here. elim (last_or_before t.0 n less) [
        | inl before ↦ so_far.all t before here
        | inr last ↦ absurd (true≢false (same_Some true false (sym (ap (slice_get marks) (sym last) ∙ here) ∙ unmarked)))
      ];
      rising = so_far.rising;
    }

-- one term more is counted
pub counted_more : (table : Terms) (n count : ℕ) (result : Bool) (core : Core) (sort : SortId) → slice_get table n ≡ Some (core, sort) → count ≡ variable_count (take n table) → result ≡ is_variable (core, sort) → (result ≡ true → count + 1 ≡ variable_count (take (n + 1) table)) × (result ≡ false → count ≡ variable_count (take (n + 1) table))
counted_more table n count result core sort at so_far is =
    let within = slice_get_within table n (core, sort) at in
    let here : is_variable (get_or table n (core, sort)) ≡ is_variable (core, sort) = ap is_variable (get_or_from_slice_get table n (core, sort) (core, sort) at) in (
      (λ yes. ap (λ k. k + 1) so_far ∙ sym (count_by_more_yes is_variable table n (core, sort) within (here ∙ sym is ∙ yes))),
      (λ no. so_far ∙ sym (count_by_more_no is_variable table n (core, sort) within (here ∙ sym is ∙ no))),
    )
