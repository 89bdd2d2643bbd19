-- What is known of the sorts of earlier declarations: which are listable, and how many lists of values variables have.
use Rattle.std.proofs.Common.{◌≡◌, ℕ, ◌<◌, ◌≤◌, ◌↔◌, Bool, true, false, is_some, nat_le, List, [], ◌∷◌, length, map, All, Option, Some, None, MatchOption, refl, sym, ◌∙◌, ap, ap₂, arith, true≢false}
use Rattle.std.proofs.lemmas.Bool.Decides.{nat_tests}
use Rattle.std.proofs.lemmas.List.Elements.{All-nil, All-cons}
use Rattle.ct_lemmas.proofs.Booleans.{not_true}
use Rattle.ct_sorts.specs.declared.ids.SortId.{SortId}
use Rattle.ct_sorts.specs.Consistent.{IsConsistent}
use Rattle.ct_sorts.specs.Declarations.{Declarations, IsSort}
use Rattle.ct_sorts.specs.Grown.{Extends}
use Rattle.ct_sorts.proofs.StructureLemmas.{own_constructors, own_selectors}
use Rattle.ct_listing.specs.Listable.{IsListable, is_listable}
use Rattle.ct_listing.specs.Listing.{choices, listed}
use Rattle.ct_listing.proofs.StageLemmas.{stage_listable, listable_stage}
use Rattle.ct_listing.proofs.LastingLemmas.{listable_back, listable_still, listed_still}
use Rattle.ct_formulas.specs.Choices.{choices_of, most_choices}
use Rattle.ct_finite.specs.Counts.{AreCounts, most_values}
use Rattle.ct_names.proofs.NeedLemmas.{grows_itself}
use Rattle.ct_names.proofs.StayListable.{AreVariableSorts}
use Rattle.ct_check.specs.Quantifiers.{AreKnown}
use Rattle.ct_check.proofs.GrownLemmas.{extends_further}

pub known_now : (d : Declarations) (counts : List ℕ) → IsConsistent d → AreCounts d counts → AreKnown d counts
known_now d counts c are = record { earlier = d; consistent = c; extends = (grows_itself d).extends; as_many = refl; right = are }

-- where no sort was added
pub known_still : (later d : Declarations) (counts : List ℕ) → Extends later d → length d.sorts ≡ length later.sorts → AreKnown d counts → AreKnown later counts
known_still later d counts grown same known =
    record {
      earlier = known.earlier;
      consistent = known.consistent;
      extends = extends_further later d known.earlier grown known.extends;
      as_many = known.as_many ∙ same;
      right = known.right;
    }

module _ (d : Declarations) (counts : List ℕ) (known : AreKnown d counts) where
  pub known_covers : (s : SortId) → IsSort d s → s.0 < length counts
  known_covers s there = omega (arith, there, known.as_many, known.right.long)

  listable_of : (s : SortId) → IsListable known.earlier s → is_listable d s ≡ true
  listable_of s h = listable_stage d s (listable_still d known.earlier known.extends (own_constructors known.earlier known.consistent) (own_selectors known.earlier known.consistent) s h)

  listable_in : (s : SortId) → IsSort d s → is_listable d s ≡ true → IsListable known.earlier s
  listable_in s there h =
      let inside : s.0 < length known.earlier.sorts = omega (arith, there, known.as_many) in
      listable_back d known.earlier known.extends (own_constructors known.earlier known.consistent) (own_selectors known.earlier known.consistent) known.consistent.fields s inside (stage_listable d (length d.sorts) s h)

  -- the answer to whether a sort is listable
  pub known_true : (s : SortId) (answer : Bool) → (answer ≡ true) ↔ IsListable known.earlier s → answer ≡ true → is_listable d s ≡ true
  known_true s answer exact e = listable_of s (exact.0 e)

  pub known_false : (s : SortId) (answer : Bool) → IsSort d s → (answer ≡ true) ↔ IsListable known.earlier s → answer ≡ false → is_listable d s ≡ false
  known_false s answer there exact e = not_true (is_listable d s) (λ t. true≢false (sym (exact.1 (listable_in s there t)) ∙ e))

  -- the sorts of variables, and the lists of values for them
  pub known_sorts : (sorts : List SortId) → AreVariableSorts d sorts → All (IsListable known.earlier) sorts
  known_sorts [] all = All-nil (IsListable known.earlier)
  known_sorts (s ∷ sorts) all = All-cons (IsListable known.earlier) s sorts (listable_in s all.0.0 all.0.1) (known_sorts sorts all.1)

  known_lists : (sorts : List SortId) → AreVariableSorts d sorts → map (listed d) sorts ≡ map (listed known.earlier) sorts
  known_lists [] all = refl
  known_lists (s ∷ sorts) all =
      ap₂ (λ vs vss. vs ∷ vss)
      (listed_still d known.earlier known.extends (own_constructors known.earlier known.consistent) (own_selectors known.earlier known.consistent) s (listable_in s all.0.0 all.0.1))
      (known_lists sorts all.1)

  pub known_choices : (sorts : List SortId) → AreVariableSorts d sorts → choices_of d sorts ≡ choices_of known.earlier sorts
  known_choices sorts all = ap choices (known_lists sorts all)

-- the test of the number of these lists
pub too_many_choices : (o : Option ℕ) (n : ℕ) → MatchOption o (most_values < n) (λ count. (count ≡ n) × (count ≤ most_values)) → is_some o ≡ false → nat_le n most_choices ≡ false
too_many_choices None n h e = grind (arith, nat_tests)
too_many_choices (Some count) n h e = absurd (true≢false e)

pub few_choices : (o : Option ℕ) (n : ℕ) → MatchOption o (most_values < n) (λ count. (count ≡ n) × (count ≤ most_values)) → is_some o ≡ true → nat_le n most_choices ≡ true
few_choices None n h e = absurd (true≢false (sym e))
few_choices (Some count) n h e = let small : n ≤ most_choices = omega (arith, h.0, h.1) in grind (arith, nat_tests)
