-- Rules of sorts one after the other: what one more sort adds.
use Rattle.std.proofs.Common.{◌≡◌, ℕ, ◌+◌, ◌<◌, ◌≤◌, List, [], ◌∷◌, ◌++◌, length, slice_get, Some, sym, ◌∙◌, ap, subst, inl, inr, arith}
use Rattle.std.proofs.lemmas.Option.{same_Some, slice_get_within}
use Rattle.ct_lemmas.proofs.Lists.{slice_get-append_cases, slice_get-append_left, slice_get-last, slice_get-there}
use Rattle.ct_lemmas.proofs.Numbers.{last_or_before}
use Rattle.ct_card.specs.declared.chain.Rule.{Rule}
use Rattle.ct_card.specs.Extended.{AreGrownBy}
use Rattle.ct_card.specs.Ruled.{HasRule, IsOneOf, AreSortRules, AreItemRules}
use Rattle.ct_card.proofs.ListLemmas.{pushed_at, none_at}

-- what stands in a list that begins with another, from the end of that on, with one more
pub pushed_each : {X : Type 0} (Is : ℕ → X → Type 0) (old now : List X) (x : X) (count : ℕ) → length now ≡ length old + count → ((i : ℕ) (y : X) → slice_get now (length old + i) ≡ Some y → Is i y) → Is count x → (i : ℕ) (y : X) → slice_get (now ++ x ∷ []) (length old + i) ≡ Some y → Is i y
pushed_each Is old now x count long each is i y at =
    elim (pushed_at now x y (length old + i) at) [
      | inl h ↦ each i y h
      | inr (e, same) ↦ let here : count ≡ i = omega arith in subst (λ n. Is n y) here (subst (Is count) (sym same) is)
    ]

-- one more element after those that were there or are so
pub grown_pushed : {X : Type 0} (Is : ℕ → X → Type 0) (old now : List X) (x : X) (s : ℕ) → length now ≡ s → length old ≤ s → AreGrownBy Is old now → Is s x → AreGrownBy Is old (now ++ x ∷ [])
grown_pushed Is old now x s long from grown is n y at =
    elim (pushed_at now x y n at) [
      | inl h ↦ grown n y h
      | inr (e, same) ↦ let here : s ≡ n = sym (e ∙ long) in inr (omega (arith, here, from), subst (λ k. Is k y) here (subst (Is s) (sym same) is))
    ]

pub grown_none : {X : Type 0} (Is : ℕ → X → Type 0) (old now : List X) → now ≡ old → AreGrownBy Is old now
grown_none Is old now same n y at = inl (ap (λ l. slice_get l n) (sym same) ∙ at)

-- a rule that stands stays where there are more
more_rules : (Is : Rule → Type 0) (rules more : List Rule) → HasRule rules Is → HasRule (rules ++ more) Is
more_rules Is rules more has = record { rule = has.rule; index = has.index; stated = slice_get-append_left rules more has.index has.rule has.stated; is = has.is }

module _ {Item : Type 0} (Own : ℕ → Rule → Type 0) (items : ℕ → List Item) (Of : ℕ → Item → Rule → Type 0) (first : ℕ) where
  pub no_sort_rules : (rules : List Rule) → rules ≡ [] → AreSortRules Own items Of first first rules
  no_sort_rules rules none =
      record {
        own = λ s from below. absurd (omega arith);
        each = λ s i item from below at. absurd (omega arith);
        only = λ k rule at. absurd (none_at k rule (ap (λ (l : List Rule). slice_get l k) (sym none) ∙ at));
      }

  -- one more sort: its own rule, and those of its items
  pub more_sort_rules : (s : ℕ) (rules new : List Rule) (rule : Rule) → first ≤ s → AreSortRules Own items Of first s rules → Own s rule → AreItemRules (Of s) (items s) (rules ++ rule ∷ []) new → AreSortRules Own items Of first (s + 1) new
  more_sort_rules s rules new rule from before is_own after =
      subst (AreSortRules Own items Of first (s + 1)) (sym after.grown.1)
      record { own = own; each = each; only = only }
    where
      middle : List Rule
      middle = rules ++ rule ∷ []

      all : List Rule
      all = middle ++ after.grown.0

      stays : (Is : Rule → Type 0) → HasRule rules Is → HasRule all Is
      stays Is has = more_rules Is middle after.grown.0 (more_rules Is rules (rule ∷ []) has)

      own : (u : ℕ) → first ≤ u → u < s + 1 → HasRule all (Own u)
      own u above below =
          elim (last_or_before u s below) [
            | inl less ↦ stays (Own u) (before.own u above less)
            | inr same ↦ more_rules (Own u) middle after.grown.0 (record { rule = rule; index = length rules; stated = slice_get-last rules rule; is = subst (λ n. Own n rule) (sym same) is_own })
          ]

      of_item : (i : ℕ) (item : Item) → slice_get (items s) i ≡ Some item → HasRule all (Of s item)
      of_item i item at =
          let within : i < length (items s) = slice_get_within (items s) i item at in
          let found = slice_get-there new (length middle + i) (omega (arith, after.long, within)) in
          let h = after.each i found.0 found.1 in
          record {
            rule = found.0;
            index = length middle + i;
            stated = ap (λ (l : List Rule). slice_get l (length middle + i)) (sym after.grown.1) ∙ found.1;
            is = subst (λ (x : Item). Of s x found.0) (same_Some _ _ (sym h.1 ∙ at)) h.2;
          }

      each : (u i : ℕ) (item : Item) → first ≤ u → u < s + 1 → slice_get (items u) i ≡ Some item → HasRule all (Of u item)
      each u i item above below at =
          elim (last_or_before u s below) [
            | inl less ↦ stays (Of u item) (before.each u i item above less at)
            | inr same ↦ subst (λ n. HasRule all (Of n item)) (sym same) (of_item i item (ap (λ n. slice_get (items n) i) (sym same) ∙ at))
          ]

      only : (k : ℕ) (r : Rule) → slice_get all k ≡ Some r → IsOneOf Own items Of first (s + 1) r
      only k r at =
          elim (slice_get-append_cases middle after.grown.0 k r at) [
            | inl h ↦ elim (pushed_at rules rule r k h) [
              | inl was ↦
                  let one = before.only k r was in
                  record { sort = one.sort; from = one.from; below = omega (arith, one.below); is = one.is }
              | inr (e, same) ↦ record { sort = s; from = from; below = omega arith; is = inl (subst (Own s) (sym same) is_own) }
            ]
            | inr (j, e, h) ↦
                let item = after.each j r (ap (slice_get new) (sym e) ∙ ap (λ (l : List Rule). slice_get l k) after.grown.1 ∙ at) in
                record { sort = s; from = from; below = omega arith; is = inr (item.0, j, item.1, item.2) }
          ]
