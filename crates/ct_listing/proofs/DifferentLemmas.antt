-- No two closed values are the same, and none comes twice in a list.
use Rattle.std.proofs.Common.{◌≡◌, ℕ, zero, suc, ◌↔◌, List, [], ◌∷◌, map, Some, Contains, refl, sym, ◌∙◌, ap, ap₂, subst}
use Rattle.std.specs.List.{AllZip}
use Rattle.std.proofs.lemmas.Option.{same_Some}
use Rattle.ct_lemmas.proofs.Contained.{Contains-map_cases}
use Rattle.ct_sorts.specs.declared.ids.CtorId.{CtorId}
use Rattle.ct_sorts.specs.declared.ids.SortId.{SortId}
use Rattle.ct_sorts.specs.Declarations.{Declarations}
use Rattle.ct_sorts.specs.Consistent.{IsConsistent}
use Rattle.ct_values.specs.declared.node.Head.{Head}
use Rattle.ct_values.specs.declared.node.Head.TheVariants.{Con, Elem}
use Rattle.ct_values.specs.Graph.{Nodes}
use Rattle.ct_values.specs.Value.{list_of}
use Rattle.ct_values.specs.Agreement.{Point, point, head, children, AgreeAlways}
use Rattle.ct_terms.specs.Fields.{ctor_ids_of_sort}
use Rattle.ct_listing.specs.Closed.{ClosedValue, ClosedValues, build, no_closed, with_closed, closed_list, closed_of, value_of, values_under}
use Rattle.ct_listing.specs.Listable.{field_sorts}
use Rattle.ct_listing.specs.Listing.{choices, built_by, built_of, values_within}
use Rattle.ct_listing.proofs.ChoiceLemmas.{choices_different}
use Rattle.ct_listing.proofs.FieldLemmas.{ids_once}
use Rattle.ct_listing.proofs.ListLemmas.{AreDifferent, different_none, different_map, different_flat_map}

-- equal heads are one constructor
same_ctor : (c k : CtorId) → Con c ≡ Con k → c ≡ k
same_ctor c k e = ap ctor e
  where
    ctor : Head → CtorId
    ctor (Con d) = d
    ctor (Elem s n) = c

-- two values are the same where their heads are equal and their children are the same
abbrev pub AreByParts : Type 0
AreByParts = (p q : Point) → AgreeAlways p q ↔ ((head p ≡ head q) × AllZip AgreeAlways (children p) (children q))

module _ (always : AreByParts) (g h : Nodes) where
  mutual
    -- closed values that are the same are equal
    pub one_value : (v w : ClosedValue) → AgreeAlways (point g (value_of v)) (point h (value_of w)) → v ≡ w
    one_value (build c vs) (build k ws) e =
        let parts = (always (point g (value_of (build c vs))) (point h (value_of (build k ws)))).0 e in
        ap₂ build (same_ctor c k (same_Some (Con c) (Con k) parts.0)) (one_values vs ws parts.1)

    one_values : (vs ws : ClosedValues) → AllZip AgreeAlways (map (point g) (list_of (values_under vs))) (map (point h) (list_of (values_under ws))) → vs ≡ ws
    one_values no_closed no_closed e = refl
    one_values no_closed (with_closed w ws) e = absurd e
    one_values (with_closed v vs) no_closed e = absurd e
    one_values (with_closed v vs) (with_closed w ws) e = ap₂ with_closed (one_value v w e.0) (one_values vs ws e.1)

pub closed_back : (vs : List ClosedValue) → closed_list (closed_of vs) ≡ vs
closed_back [] = refl
closed_back (v ∷ vs) = ap (λ ws. v ∷ ws) (closed_back vs)

ctor_of : ClosedValue → CtorId
ctor_of (build c vs) = c

under_of : ClosedValue → List ClosedValue
under_of (build c vs) = closed_list vs

one_built : (c : CtorId) (vs ws : List ClosedValue) → build c (closed_of vs) ≡ build c (closed_of ws) → vs ≡ ws
unfolding under_of
one_built c vs ws e = sym (closed_back vs) ∙ ap under_of e ∙ closed_back ws

one_ctor : (c k : CtorId) (vs ws : ClosedValues) → build c vs ≡ build k ws → c ≡ k
unfolding ctor_of
one_ctor c k vs ws e = ap ctor_of e

module _ (d : Declarations) (consistent : IsConsistent d) where
  built_different : (values : SortId → List ClosedValue) → ((s : SortId) → AreDifferent (values s)) → (s : SortId) → AreDifferent (built_of d values s)
  built_different values each s =
      different_flat_map (built_by d values) (ctor_ids_of_sort d s) (ids_once d consistent s)
      (λ c inside. different_map (λ vs. build c (closed_of vs)) (one_built c) (choices (map values (field_sorts d c)))
      (choices_different (map values (field_sorts d c)) (λ xs at.
      let found = Contains-map_cases values (field_sorts d c) xs at in
      subst (λ (l : List ClosedValue). AreDifferent l) found.2 (each found.0))))
      (λ c k z left right.
      let a = Contains-map_cases (λ vs. build c (closed_of vs)) (choices (map values (field_sorts d c))) z left in
      let b = Contains-map_cases (λ vs. build k (closed_of vs)) (choices (map values (field_sorts d k))) z right in
      one_ctor c k (closed_of a.0) (closed_of b.0) (a.2 ∙ sym b.2))

  pub values_different : (n : ℕ) (s : SortId) → AreDifferent (values_within n d s)
  unfolding values_within
  values_different zero s = different_none
  values_different (suc n) s = built_different (values_within n d) (values_different n) s
