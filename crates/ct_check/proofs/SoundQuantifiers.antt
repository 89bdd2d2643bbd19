-- A quantifier with a body that is well sorted is well sorted.
use Rattle.std.proofs.Common.{◌≡◌, ℕ, suc, ◌<◌, ◌≤◌, Bool, true, not, ◌&&◌, ◌==◌, List, [], ◌∷◌, length, map, nat_le, All, Contains, Ok, refl, sym, ◌∙◌, ap, subst, arith}
use Rattle.std.proofs.lemmas.Bool.Decides.{nat_tests}
use Rattle.std.proofs.lemmas.List.Elements.{All-nil, All-cons, All-contains}
use Rattle.ct_lemmas.proofs.Contained.{Contains-map_cases}
use Rattle.ct_sorts.specs.declared.ids.SortId.{SortId}
use Rattle.ct_sorts.specs.Declarations.{Declarations, bool_sort}
use Rattle.ct_listing.specs.Closed.{ClosedValue}
use Rattle.ct_listing.specs.Listable.{IsListable, is_listable}
use Rattle.ct_listing.specs.Listing.{choices, listed}
use Rattle.ct_listing.proofs.ChoiceLemmas.{choices_some}
use Rattle.ct_listing.proofs.ExactLemmas.{some_value, not_empty}
use Rattle.ct_listing.proofs.StageLemmas.{stage_listable, listable_stage}
use Rattle.ct_formulas.specs.declared.tree.Quantifier.{Quantifier}
use Rattle.ct_formulas.specs.Choices.{choices_of, most_choices, AreQuantifiable}
use Rattle.ct_formulas.specs.Formula as formula
use Rattle.ct_formulas.specs.Formula.{bind}
use Rattle.ct_formulas.specs.FormulaSorts.{IsSorted}
use Rattle.ct_names.specs.Refusals.{repeated_variable, too_many_values, out_of_scope}
use Rattle.ct_names.specs.Outcome.{Sorted, and_then, unless_halted, of_sort}
use Rattle.ct_names.specs.Variables.{Variable, ScopeIn, variables, variable_sorts, has_repeated, present_names}
use Rattle.ct_names.specs.Forms.{are_bindings, bound_names}
use Rattle.ct_names.specs.Parts.{Part, Parts, atom_part, list_part, no_parts, with_part, count, expression_in}
use Rattle.ct_names.specs.Sorts.{sort_of_part}
use Rattle.ct_names.specs.Elaboration.{meaning_of_part, listable_sort, listable_sorts, quantified_of}
use Rattle.ct_names.proofs.NeedLemmas.{grows_itself}
use Rattle.ct_names.proofs.StayLemmas.{ScopeIn-bind, ScopeIn-variables}
use Rattle.ct_names.proofs.StayListable.{IsVariableSort, AreVariableSorts, variable_sorts_there}
use Rattle.ct_names.proofs.StayPatterns.{sort_stays}
use Rattle.ct_check.proofs.Inversions.{and_then-inverse, halted-inverse, same_value, of_sort-inverse}
use Rattle.ct_check.proofs.SymbolSorts.{Theorems}
use Rattle.ct_check.proofs.SoundLemmas.{IsSoundPart, HasOwnSort, carried, meaning_sound}
use Rattle.ct_check.proofs.SoundForms.{bound_sorts, names-count}

some_are : (n m : ℕ) (b : Bool) → n ≡ m → (b && not (m == 0)) ≡ true → 0 < n
some_are n m b e h = grind (arith, nat_tests)

at_most : (n m : ℕ) → nat_le n m ≡ true → n ≤ m
at_most n m e = grind (arith, nat_tests)

module _ (d : Declarations) (theorems : Theorems d) where
  -- the sorts of variables are there and listable, as many as there are variables
  sort_is : (b : Part) (s : SortId) → listable_sort d b ≡ Ok s → IsVariableSort d s
  sort_is (list_part (with_part x (with_part sort no_parts)) m) s e =
      let found = and_then-inverse (sort_of_part d sort) (λ u. unless_halted (is_listable d u) out_of_scope (Ok u)) s e in
      let test = halted-inverse (is_listable d found.0) out_of_scope (Ok found.0) s found.2 in
      subst (IsVariableSort d) (same_value found.0 s test.1) ((sort_stays d d (grows_itself d) theorems.consistent (expression_in sort) found.0 found.1).1, test.0)
  sort_is (atom_part a) s e = absurd cc
  sort_is (list_part no_parts m) s e = absurd cc
  sort_is (list_part (with_part x no_parts) m) s e = absurd cc
  sort_is (list_part (with_part x (with_part sort (with_part y ps))) m) s e = absurd cc

  pub record AreSortsOf (bs : Parts) (sorts : List SortId) : Type 0 where
    pub all : AreVariableSorts d sorts
    pub long : length sorts ≡ count bs

  sorts_are : (bs : Parts) (sorts : List SortId) → listable_sorts d bs ≡ Ok sorts → AreSortsOf bs sorts
  sorts_are no_parts sorts e = subst (λ (ss : List SortId). AreSortsOf no_parts ss) (same_value [] sorts e) (record { all = tt; long = refl })
  sorts_are (with_part b bs) sorts e =
      let one = and_then-inverse (listable_sort d b) (λ s. and_then (listable_sorts d bs) (λ ss. Ok (s ∷ ss))) sorts e in
      let rest = and_then-inverse (listable_sorts d bs) (λ ss. Ok (one.0 ∷ ss)) sorts one.2 in
      let others = sorts_are bs rest.0 rest.1 in
      subst (λ (ss : List SortId). AreSortsOf (with_part b bs) ss) (same_value (one.0 ∷ rest.0) sorts rest.2)
      (record { all = (sort_is b one.0 one.1, others.all); long = ap suc others.long })

  all_listable : (sorts : List SortId) → AreVariableSorts d sorts → All (IsListable d) sorts
  all_listable [] all = All-nil (IsListable d)
  all_listable (s ∷ sorts) all = All-cons (IsListable d) s sorts (stage_listable d (length d.sorts) s all.0.1) (all_listable sorts all.1)

  -- there is a list of values for them
  some_choice : (sorts : List SortId) → All (IsListable d) sorts → 0 < length (choices_of d sorts)
  some_choice sorts all =
      let found = choices_some (map (listed d) sorts) (λ xs at.
      let from = Contains-map_cases (listed d) sorts xs at in
      let value = some_value d theorems.consistent (length d.sorts) from.0 (listable_stage d from.0 (All-contains (IsListable d) sorts from.0 all from.1)) in
      (value.0, subst (λ (vs : List ClosedValue). Contains vs value.0) from.2 value.1)) in
      not_empty (choices (map (listed d) sorts)) found.0 found.1

  quantifiable : (sorts : List SortId) → 0 < length sorts → AreVariableSorts d sorts → nat_le (length (choices_of d sorts)) most_choices ≡ true → AreQuantifiable d sorts
  quantifiable sorts some all few =
      record {
        variable = some;
        listable = all_listable sorts all;
        some = some_choice sorts (all_listable sorts all);
        few = at_most (length (choices_of d sorts)) most_choices few;
      }

  pub quantified_sound : (scope : List Variable) → ScopeIn d scope → (q : Quantifier) (bs : Parts) (body : Part) → IsSoundPart d body → (t : Sorted) → quantified_of d scope q bs body ≡ Ok t → HasOwnSort d (variable_sorts scope) t
  quantified_sound scope inside q bs body sound t e =
      let form = halted-inverse (are_bindings bs && not (count bs == 0)) out_of_scope _ t e in
      let fresh = halted-inverse (not (has_repeated (present_names (bound_names bs)))) repeated_variable _ t form.1 in
      let sorts = and_then-inverse (listable_sorts d bs) _ t fresh.1 in
      let are = sorts_are bs sorts.0 sorts.1 in
      let few = halted-inverse (nat_le (length (choices_of d sorts.0)) most_choices) too_many_values _ t sorts.2 in
      let inner = bind (variables (bound_names bs) sorts.0) scope in
      let whole = and_then-inverse (of_sort bool_sort (meaning_of_part d inner body)) (λ u. Ok (formula.Quantified q sorts.0 u, bool_sort)) t few.1 in
      let long : length (bound_names bs) ≡ length sorts.0 = names-count d theorems scope inside bs ∙ sym are.long in
      let inner_inside : ScopeIn d inner = ScopeIn-bind d (variables (bound_names bs) sorts.0) scope (ScopeIn-variables d (bound_names bs) sorts.0 (variable_sorts_there d sorts.0 are.all)) inside in
      carried d (variable_sorts scope) (formula.Quantified q sorts.0 whole.0, bool_sort) t whole.2 (
        quantifiable sorts.0 (some_are (length sorts.0) (count bs) (are_bindings bs) are.long form.0) are.all few.0,
        subst (λ (env : List SortId). IsSorted d env whole.0 bool_sort) (bound_sorts (bound_names bs) sorts.0 scope long)
            (meaning_sound d theorems inner inner_inside body sound (whole.0, bool_sort) (of_sort-inverse bool_sort (meaning_of_part d inner body) whole.0 whole.1)),
        refl,
      )
