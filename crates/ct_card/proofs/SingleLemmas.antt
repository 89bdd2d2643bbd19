-- Values of single sorts agree at every depth.
use Rattle.std.proofs.Common.{◌≡◌, ℕ, zero, suc, ◌⊎◌, ◌↔◌, Bool, true, IsTrue, List, [], ◌∷◌, map, slice_get, Some, refl, sym, ◌∙◌, ap, subst, inl, inr}
use Rattle.std.specs.List.{AllZip}
use Rattle.std.proofs.lemmas.Option.{none-some, same_Some}
use Rattle.ct_sorts.specs.declared.ids.CtorId.{CtorId}
use Rattle.ct_sorts.specs.declared.ids.SelId.{SelId}
use Rattle.ct_sorts.specs.declared.ids.SortId.{SortId}
use Rattle.ct_sorts.specs.declared.ids.Kind.{Kind}
use Rattle.ct_sorts.specs.declared.ids.Kind.TheVariants.{Free, Data, Codata}
use Rattle.ct_sorts.specs.Declarations.{Declarations, Sort, Constructor, Selector}
use Rattle.ct_sorts.specs.Structure.{AreOfTheirSorts}
use Rattle.ct_values.specs.declared.node.Head.TheVariants.{Con}
use Rattle.ct_values.specs.Graph.{Nodes}
use Rattle.ct_values.specs.Value.{Value}
use Rattle.ct_values.specs.Agreement.{Point, point, head, children, head_of, children_of, agree}
use Rattle.ct_values.specs.Fitting.{FitsGraph}
use Rattle.ct_values.specs.ValueSort.{HasValueSort}
use Rattle.ct_values.specs.Inversion.{IsValueOfField, IsConstructed}
use Rattle.ct_card.specs.Cardinality.{HasOneShape, IsSingleSet}

-- what the lemmas below have from the crates below
pub record Known : Type 0 where
  pub start : (p q : Point) → IsTrue (agree 0 p q)
  pub step : (k : ℕ) (p q : Point) → IsTrue (agree (suc k) p q) ↔ ((head p ≡ head q) × AllZip (λ x y. IsTrue (agree k x y)) (children p) (children q))
  pub constructed : (d : Declarations) (g : Nodes) (v : Value) (s : SortId) (sort : Sort) → FitsGraph d g → HasValueSort d g v s → slice_get d.sorts s.0 ≡ Some sort → (sort.kind ≡ Free → ⊥) → (c : CtorId) × IsConstructed d g v c s

not_free : (k : Kind) → (k ≡ Data) ⊎ (k ≡ Codata) → k ≡ Free → ⊥
not_free k (inl e) f = let h : Data ≡ Free = sym e ∙ f in cc
not_free k (inr e) f = let h : Codata ≡ Free = sym e ∙ f in cc

only_at : (x y : CtorId) (index : ℕ) → slice_get (x ∷ []) index ≡ Some y → x ≡ y
only_at x y zero at = same_Some _ _ at
only_at x y (suc index) at = absurd (none-some _ at)

module _ (known : Known) (d : Declarations) (of_sorts : AreOfTheirSorts d) (set : ℕ → Bool) (shapes : IsSingleSet d set) (g h : Nodes) (fits_g : FitsGraph d g) (fits_h : FitsGraph d h) where
  -- values of the fields agree where all values of the sorts of the set do
  fields_agree : (k : ℕ) → ((v w : Value) (s : SortId) → set s.0 ≡ true → HasValueSort d g v s → HasValueSort d h w s → IsTrue (agree k (point g v) (point h w))) → (sels : List SelId) → ((index : ℕ) (id : SelId) (selector : Selector) → slice_get sels index ≡ Some id → slice_get d.sels id.0 ≡ Some selector → set selector.sort.0 ≡ true) → (vs ws : List Value) → AllZip (IsValueOfField d g) vs sels → AllZip (IsValueOfField d h) ws sels → AllZip (λ x y. IsTrue (agree k x y)) (map (point g) vs) (map (point h) ws)
  fields_agree k each [] inside [] [] f e = tt
  fields_agree k each [] inside [] (w ∷ ws) f e = absurd e
  fields_agree k each [] inside (v ∷ vs) ws f e = absurd f
  fields_agree k each (id ∷ sels) inside [] ws f e = absurd f
  fields_agree k each (id ∷ sels) inside (v ∷ vs) [] f e = absurd e
  fields_agree k each (id ∷ sels) inside (v ∷ vs) (w ∷ ws) f e =
      let same : e.0.selector ≡ f.0.selector = same_Some _ _ (sym e.0.declared ∙ f.0.declared) in (
        each v w f.0.selector.sort (inside 0 id f.0.selector refl f.0.declared) f.0.sorted (subst (λ (s : Selector). HasValueSort d h w s.sort) same e.0.sorted),
        fields_agree k each sels (λ index. inside (suc index)) vs ws f.1 e.1,
      )

  -- the constructor of a value of a single sort is the only one
  the_only : (s : SortId) (shape : HasOneShape d set s.0) (i : Nodes) (v : Value) (c : CtorId) (is : IsConstructed d i v c s) → (shape.id ≡ c) × (is.ctor ≡ shape.ctor)
  the_only s shape i v c is =
      let at = of_sorts c.0 is.ctor is.declared in
      let owner : is.ctor.sort.0 ≡ s.0 = ap (λ (z : SortId). z.0) is.of_sort in
      let same : at.0 ≡ shape.sort = same_Some _ _ (sym at.2 ∙ ap (slice_get d.sorts) owner ∙ shape.of_sort) in
      let listed : slice_get (shape.id ∷ []) at.1 ≡ Some c = ap (λ (l : List CtorId). slice_get l at.1) (sym (ap (λ (u : Sort). u.ctors) same ∙ shape.only)) ∙ at.3 in
      let one = only_at shape.id c at.1 listed in
      (one, same_Some _ _ (sym is.declared ∙ ap (λ (z : CtorId). slice_get d.ctors z.0) (sym one) ∙ shape.declared))

  pub values_agree : (k : ℕ) (v w : Value) (s : SortId) → set s.0 ≡ true → HasValueSort d g v s → HasValueSort d h w s → IsTrue (agree k (point g v) (point h w))
  values_agree zero v w s inside sorted_v sorted_w = known.start (point g v) (point h w)
  values_agree (suc k) v w s inside sorted_v sorted_w =
      let shape = shapes s.0 inside in
      let a = known.constructed d g v s shape.sort fits_g sorted_v shape.of_sort (not_free shape.sort.kind shape.kind) in
      let b = known.constructed d h w s shape.sort fits_h sorted_w shape.of_sort (not_free shape.sort.kind shape.kind) in
      let one_a = the_only s shape g v a.0 a.1 in
      let one_b = the_only s shape h w b.0 b.1 in
      let heads : head_of g v ≡ head_of h w = a.1.headed ∙ ap (λ (z : CtorId). Some (Con z)) (sym one_a.0 ∙ one_b.0) ∙ sym b.1.headed in
      let fields_a : AllZip (IsValueOfField d g) (children_of g v) shape.ctor.sels = subst (λ (z : Constructor). AllZip (IsValueOfField d g) (children_of g v) z.sels) one_a.1 a.1.fields in
      let fields_b : AllZip (IsValueOfField d h) (children_of h w) shape.ctor.sels = subst (λ (z : Constructor). AllZip (IsValueOfField d h) (children_of h w) z.sels) one_b.1 b.1.fields in
      (known.step k (point g v) (point h w)).1 (heads, fields_agree k (values_agree k) shape.ctor.sels shape.fields (children_of g v) (children_of h w) fields_a fields_b)
