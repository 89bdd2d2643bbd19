use Rattle.std.proofs.Common.{ℕ, [], Some, Contains, ◌↔◌, subst, sym, ◌∙◌, ap, length}
use Rattle.std.proofs.lemmas.Option.{none-some}
use Rattle.ct_lemmas.proofs.Contained.{slice_get-from_Contains}
use Rattle.ct_lemmas.proofs.Each.{All-at}
use Rattle.ct_sorts.specs.declared.ids.SortId.{SortId}
use Rattle.ct_sorts.specs.Declarations.{Declarations}
use Rattle.ct_sorts.specs.Consistent.{IsConsistent}
use Rattle.ct_sorts.specs.Structure.{HaveOwnConstructors, HaveOwnSelectors, AreOfTheirSorts}
use Rattle.ct_values.specs.Fitting.{FitsGraph}
use Rattle.ct_listing.specs.Closed.{ClosedValue, IsClosedOf, value_of}
use Rattle.ct_listing.specs.Listable.{IsListable}
use Rattle.ct_listing.specs.Listing.{values_within, listed}
use Rattle.ct_listing.proofs.ChoiceLemmas.{choices_exact}
use Rattle.ct_listing.proofs.DifferentLemmas.{AreByParts, one_value, values_different}
use Rattle.ct_listing.proofs.EveryLemmas.{AreConstructed, every}
use Rattle.ct_listing.proofs.ClosedLemmas.{value_sorted, term_sorted}
use Rattle.ct_listing.proofs.ExactLemmas.{entries_closed, some_value, not_empty}
use Rattle.ct_listing.proofs.LastingLemmas.{listable_back, listable_still, listed_still}
use Rattle.ct_listing.proofs.StableLemmas.{listed_unfolds}
use Rattle.ct_listing.proofs.StageLemmas.{stage_listable, listable_stage, listable_parts}
use Rattle.ct_listing.proofs.theorems.listed_values.Goals as goal

pub returns-clause-built : goal.returns-clause-built
returns-clause-built c = λ d s sort at kind each set closed. closed s.0 sort at kind (λ k field inside within. each k field inside within set closed)

pub returns-clause-parts : goal.returns-clause-parts
returns-clause-parts c = listable_parts

pub returns-clause-tested : goal.returns-clause-tested
returns-clause-tested c = λ d s. (stage_listable d (length d.sorts) s, listable_stage d s)

pub returns-clause-unfolds : goal.returns-clause-unfolds
returns-clause-unfolds c = listed_unfolds

-- the theorems that an entry's exactness rests on
exact_by : (d : Declarations) → IsConsistent d → HaveOwnConstructors d → HaveOwnSelectors d → AreOfTheirSorts d → AreByParts → AreConstructed d [] → (s : SortId) (v : ClosedValue) → IsListable d s → Contains (listed d s) v ↔ IsClosedOf d v s
exact_by d consistent own own_sels of_sorts always constructed s v listable = (
  entries_closed d own own_sels (length d.sorts) s v,
  λ closed.
      let found = every d always of_sorts [] [] constructed (length d.sorts) s (value_of v) (listable_stage d s listable) (value_sorted d [] v s closed) in
      subst (λ (w : ClosedValue). Contains (listed d s) w) (sym (one_value always [] [] v found.0 found.2)) found.1,
)

no_nodes : (d : Declarations) → FitsGraph d []
no_nodes d n node at = absurd (none-some _ at)

pub returns-clause-exact : goal.returns-clause-exact
returns-clause-exact c = λ d s v consistent listable.
    exact_by d consistent (c.structure.ensures.own_constructors d consistent) (c.structure.ensures.own_selectors d consistent) (c.structure.ensures.of_their_sorts d consistent) c.agreement.ensures.always
    (λ w t sort sorted at kind. c.well_sorted_values.ensures.constructed d [] w t sort (no_nodes d) sorted at kind)
    s v listable

pub returns-clause-choices : goal.returns-clause-choices
returns-clause-choices c = λ d sorts vs consistent listable.
    choices_exact (listed d) (IsClosedOf d) sorts
    (λ s v inside.
    let at = slice_get-from_Contains sorts s inside in
    exact_by d consistent (c.structure.ensures.own_constructors d consistent) (c.structure.ensures.own_selectors d consistent) (c.structure.ensures.of_their_sorts d consistent) c.agreement.ensures.always
    (λ w t sort sorted place kind. c.well_sorted_values.ensures.constructed d [] w t sort (no_nodes d) sorted place kind)
    s v (All-at (IsListable d) sorts at.0 s listable at.1))
    vs

pub returns-clause-some : goal.returns-clause-some
returns-clause-some c = λ d s consistent listable.
    let found = some_value d consistent (length d.sorts) s (listable_stage d s listable) in
    not_empty (values_within (length d.sorts) d s) found.0 found.1

pub returns-clause-different : goal.returns-clause-different
returns-clause-different c = λ d s i j v w g h consistent at_i at_j same.
    let e = one_value c.agreement.ensures.always g h v w same in
    values_different d consistent (length d.sorts) s i j v at_i (at_j ∙ ap (λ (u : ClosedValue). Some u) (sym e))

pub returns-clause-every : goal.returns-clause-every
returns-clause-every c = λ d g h v s consistent fits listable sorted.
    every d c.agreement.ensures.always (c.structure.ensures.of_their_sorts d consistent) g h
    (λ w t sort has at kind. c.well_sorted_values.ensures.constructed d g w t sort fits has at kind)
    (length d.sorts) s v (listable_stage d s listable) sorted

pub returns-clause-value : goal.returns-clause-value
returns-clause-value c = value_sorted

pub returns-clause-term : goal.returns-clause-term
returns-clause-term c = term_sorted

pub returns-clause-lasting : goal.returns-clause-lasting
returns-clause-lasting c = λ later earlier s consistent extends listable.
    listable_still later earlier extends (c.structure.ensures.own_constructors earlier consistent) (c.structure.ensures.own_selectors earlier consistent) s listable

pub returns-clause-longer : goal.returns-clause-longer
returns-clause-longer c = λ later earlier s consistent extends listable.
    listed_still later earlier extends (c.structure.ensures.own_constructors earlier consistent) (c.structure.ensures.own_selectors earlier consistent) s listable

pub returns-clause-back : goal.returns-clause-back
returns-clause-back c = λ later earlier s consistent extends there listable.
    listable_back later earlier extends (c.structure.ensures.own_constructors earlier consistent) (c.structure.ensures.own_selectors earlier consistent) consistent.fields s there listable
