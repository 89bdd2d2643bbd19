-- Where sorts were added, the listable sorts of variables are as they were, and so are the lists of values for them.
use Rattle.std.proofs.Common.{◌≡◌, Bool, true, List, [], ◌∷◌, length, map, Ok, Err, refl, ap, ap₂}
use Rattle.ct_sexpr.specs.Expression.{Expression as Sexpr, Expressions as Sexprs, leaf, list, none, more}
use Rattle.ct_sorts.specs.declared.ids.SortId.{SortId}
use Rattle.ct_sorts.specs.Consistent.{IsConsistent}
use Rattle.ct_sorts.specs.Declarations.{Declarations, IsSort}
use Rattle.ct_sorts.proofs.StructureLemmas.{own_constructors, own_selectors}
use Rattle.ct_listing.specs.Listable.{is_listable}
use Rattle.ct_listing.specs.Listing.{choices, listed}
use Rattle.ct_listing.proofs.StageLemmas.{stage_listable, listable_stage}
use Rattle.ct_listing.proofs.LastingLemmas.{listable_still, listed_still}
use Rattle.ct_formulas.specs.Choices.{choices_of}
use Rattle.ct_names.specs.Needs.{Grows}
use Rattle.ct_names.specs.Outcome.{refused}
use Rattle.ct_names.specs.Refusals.{out_of_scope}
use Rattle.ct_names.specs.Sorts.{sort_of_part}
use Rattle.ct_names.specs.Elaboration.{part_of, parts_of, listable_sort, listable_sorts}
use Rattle.ct_names.proofs.LastingLemmas.{AreSorts}
use Rattle.ct_names.proofs.StayLemmas.{Stays, stays_ok, stays_err, stays_then, stays_halted}
use Rattle.ct_names.proofs.StayPatterns.{sort_part_stays}

-- the sort is there, and listable
abbrev pub IsVariableSort : Declarations → SortId → Type 0
IsVariableSort d s = IsSort d s × (is_listable d s ≡ true)

abbrev pub AreVariableSorts : Declarations → List SortId → Type 0
AreVariableSorts d [] = Unit {0}
AreVariableSorts d (s ∷ sorts) = IsVariableSort d s × AreVariableSorts d sorts

pub variable_sorts_there : (d : Declarations) (sorts : List SortId) → AreVariableSorts d sorts → AreSorts d sorts
variable_sorts_there d [] all = tt
variable_sorts_there d (s ∷ sorts) all = (all.0.0, variable_sorts_there d sorts all.1)

module _ (later d : Declarations) (grows : Grows later d) (c : IsConsistent d) where
  pub listable_stays : (s : SortId) → is_listable d s ≡ true → is_listable later s ≡ true
  listable_stays s h = listable_stage later s (listable_still later d grows.extends (own_constructors d c) (own_selectors d c) s (stage_listable d (length d.sorts) s h))

  listed_stays : (s : SortId) → is_listable d s ≡ true → listed later s ≡ listed d s
  listed_stays s h = listed_still later d grows.extends (own_constructors d c) (own_selectors d c) s (stage_listable d (length d.sorts) s h)

  lists_stay : (sorts : List SortId) → AreVariableSorts d sorts → map (listed later) sorts ≡ map (listed d) sorts
  lists_stay [] all = refl
  lists_stay (s ∷ sorts) all = ap₂ (λ vs vss. vs ∷ vss) (listed_stays s all.0.1) (lists_stay sorts all.1)

  pub choices_stay : (sorts : List SortId) → AreVariableSorts d sorts → choices_of later sorts ≡ choices_of d sorts
  choices_stay sorts all = ap choices (lists_stay sorts all)

  pub listable_sort_stays : (e : Sexpr) → Stays (IsVariableSort d) (listable_sort d (part_of d e)) (listable_sort later (part_of later e))
  listable_sort_stays (leaf a) = stays_err (IsVariableSort d) (refused out_of_scope) (Err (refused out_of_scope))
  listable_sort_stays (list none) = stays_err (IsVariableSort d) (refused out_of_scope) (Err (refused out_of_scope))
  listable_sort_stays (list (more x none)) = stays_err (IsVariableSort d) (refused out_of_scope) (Err (refused out_of_scope))
  listable_sort_stays (list (more x (more t (more u es)))) = stays_err (IsVariableSort d) (refused out_of_scope) (Err (refused out_of_scope))
  listable_sort_stays (list (more x (more t none))) =
      stays_then (IsSort d) (IsVariableSort d) (sort_of_part d (part_of d t)) (sort_of_part later (part_of later t)) _ _ (sort_part_stays later d grows c t)
      (λ s there. stays_halted (IsVariableSort d) (is_listable d s) (is_listable later s) out_of_scope (Ok s) (Ok s) (listable_stays s) (λ listable. stays_ok (IsVariableSort d) s (there, listable)))

  pub listable_sorts_stay : (es : Sexprs) → Stays (AreVariableSorts d) (listable_sorts d (parts_of d es)) (listable_sorts later (parts_of later es))
  listable_sorts_stay none = stays_ok (AreVariableSorts d) [] tt
  listable_sorts_stay (more e es) =
      stays_then (IsVariableSort d) (AreVariableSorts d) (listable_sort d (part_of d e)) (listable_sort later (part_of later e)) _ _ (listable_sort_stays e)
      (λ s is. stays_then (AreVariableSorts d) (AreVariableSorts d) (listable_sorts d (parts_of d es)) (listable_sorts later (parts_of later es)) _ _ (listable_sorts_stay es)
      (λ sorts all. stays_ok (AreVariableSorts d) (s ∷ sorts) (is, all)))
