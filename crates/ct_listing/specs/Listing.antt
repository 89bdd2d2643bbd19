-- The list of the closed values of a sort: constructor by constructor, and for each the lists of its fields' values in
-- lexicographic order.
use Rattle.std.specs.Prelude.{ℕ, zero, suc, List, [], ◌∷◌, length, map}
use Rattle.std.specs.List.{flat_map}
use Rattle.ct_sorts.specs.declared.ids.CtorId.{CtorId}
use Rattle.ct_sorts.specs.declared.ids.SortId.{SortId}
use Rattle.ct_sorts.specs.Declarations.{Declarations}
use Rattle.ct_terms.specs.Fields.{ctor_ids_of_sort}
use Rattle.ct_listing.specs.Closed.{ClosedValue, build, closed_of}
use Rattle.ct_listing.specs.Listable.{field_sorts}

-- the lists that have an element of each of these lists, in lexicographic order: the first element changes slowest
abbrev pub choices : {X : Type 0} → List (List X) → List (List X)
choices [] = [] ∷ []
choices (xs ∷ xss) = flat_map (λ x. map (λ ys. x ∷ ys) (choices xss)) xs

-- the closed values that a constructor builds over those that each sort has
abbrev pub built_by : Declarations → (SortId → List ClosedValue) → CtorId → List ClosedValue
built_by d values c = map (λ vs. build c (closed_of vs)) (choices (map values (field_sorts d c)))

-- those that the constructors of a sort build, in the order of the constructors
abbrev pub built_of : Declarations → (SortId → List ClosedValue) → SortId → List ClosedValue
built_of d values s = flat_map (built_by d values) (ctor_ids_of_sort d s)

-- the closed values of a sort in which at most so many constructors stand one under the other
unfoldable pub values_within : ℕ → Declarations → SortId → List ClosedValue
values_within zero d s = []
values_within (suc n) d s = built_of d (values_within n d) s

-- the closed values of a listable sort: on the way down no sort comes twice, so no more constructors stand one under the
-- other than there are sorts
abbrev pub listed : Declarations → SortId → List ClosedValue
listed d s = values_within (length d.sorts) d s
