-- Closed values have their sorts as values and as terms.
use Rattle.std.proofs.Common.{◌≡◌, List, [], ◌∷◌, Some, slice_get, refl}
use Rattle.std.specs.List.{AllZip}
use Rattle.ct_sorts.specs.declared.ids.SelId.{SelId}
use Rattle.ct_sorts.specs.declared.ids.SortId.{SortId}
use Rattle.ct_sorts.specs.Declarations.{Declarations}
use Rattle.ct_values.specs.Graph.{Nodes}
use Rattle.ct_values.specs.ValueSort.{HasValueSort, AreOfFields}
use Rattle.ct_terms.specs.CoreSorts.{AreFieldSorts, HasTreeSort, HaveTreeSorts}
use Rattle.ct_listing.specs.Closed.{ClosedValue, ClosedValues, build, no_closed, with_closed, IsClosedOf, AreClosedOf, value_of, values_under, term_of, terms_under}

module _ (d : Declarations) (g : Nodes) where
  mutual
    pub value_sorted : (v : ClosedValue) (s : SortId) → IsClosedOf d v s → HasValueSort d g (value_of v) s
    value_sorted (build c vs) s h = (h.0, h.1, h.2, values_sorted vs h.0.sels h.3)

    values_sorted : (vs : ClosedValues) (sels : List SelId) → AreClosedOf d vs sels → AreOfFields d g (values_under vs) sels
    values_sorted no_closed [] h = h
    values_sorted no_closed (s ∷ ss) h = absurd h
    values_sorted (with_closed v vs) [] h = absurd h
    values_sorted (with_closed v vs) (s ∷ ss) h = ((h.0.0, h.0.1, value_sorted v h.0.0.sort h.0.2), values_sorted vs ss h.1)

module _ (d : Declarations) where
  mutual
    pub term_sorted : (v : ClosedValue) (s : SortId) → IsClosedOf d v s → HasTreeSort d (term_of v) s
    term_sorted (build c vs) s h =
        let fields = terms_sorted vs h.0.sels h.3 in
        (h.0, fields.0, h.1, fields.1, fields.2, h.2)

    terms_sorted : (vs : ClosedValues) (sels : List SelId) → AreClosedOf d vs sels → (sorts : List SortId) × AreFieldSorts d sels sorts × HaveTreeSorts d (terms_under vs) sorts
    terms_sorted no_closed [] h = ([], tt, tt)
    terms_sorted no_closed (s ∷ ss) h = absurd h
    terms_sorted (with_closed v vs) [] h = absurd h
    terms_sorted (with_closed v vs) (s ∷ ss) h =
        let after = terms_sorted vs ss h.1 in
        (h.0.0.sort ∷ after.0, ((h.0.0, h.0.1, refl), after.1), (term_sorted v h.0.0.sort h.0.2, after.2))
