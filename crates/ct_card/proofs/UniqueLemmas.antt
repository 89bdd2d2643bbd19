-- No sort has two sizes.
use Rattle.std.proofs.Common.{◌≡◌, ℕ, zero, suc, ◌⊎◌, Bool, true, false, cond, List, [], ◌∷◌, slice_get, Some, refl, sym, ◌∙◌, ap, subst, inl, inr}
use Rattle.std.proofs.lemmas.Bool.{false≢true}
use Rattle.std.proofs.lemmas.Option.{none-some, same_Some}
use Rattle.ct_sorts.specs.declared.ids.CtorId.{CtorId}
use Rattle.ct_sorts.specs.declared.ids.Kind.{Kind}
use Rattle.ct_sorts.specs.declared.ids.Kind.TheVariants.{Free, Data, Codata}
use Rattle.ct_sorts.specs.Declarations.{Declarations, Sort, Constructor}
use Rattle.ct_card.specs.declared.size.Size.{Size}
use Rattle.ct_card.specs.declared.size.Size.TheVariants.{One, Finite, Infinite}
use Rattle.ct_card.specs.Dependence.{DependsOn}
use Rattle.ct_card.specs.Cardinality.{IsSingleSet, IsSingle, IsInfiniteSet, IsInfinite, HasSize}

only_at : (x y : CtorId) (index : ℕ) → slice_get (x ∷ []) index ≡ Some y → x ≡ y
only_at x y zero at = same_Some _ _ at
only_at x y (suc index) at = absurd (none-some _ at)

-- a field of a sort of a single set is in the set
pub field_in : (d : Declarations) (set : ℕ → Bool) → IsSingleSet d set → (s t : ℕ) → set s ≡ true → DependsOn d s t → set t ≡ true
field_in d set shapes s t inside step =
    let shape = shapes s inside in
    let same_sort : step.sort ≡ shape.sort = same_Some _ _ (sym step.of_sort ∙ shape.of_sort) in
    let listed : slice_get (shape.id ∷ []) step.index ≡ Some step.id = ap (λ (l : List CtorId). slice_get l step.index) (sym (ap (λ (u : Sort). u.ctors) same_sort ∙ shape.only)) ∙ step.listed in
    let same_id = only_at shape.id step.id step.index listed in
    let same_ctor : step.ctor ≡ shape.ctor = same_Some _ _ (sym step.declared ∙ ap (λ (c : CtorId). slice_get d.ctors c.0) (sym same_id) ∙ shape.declared) in
    let at : slice_get shape.ctor.sels step.field.index ≡ Some step.field.id = ap (λ (c : Constructor). slice_get c.sels step.field.index) (sym same_ctor) ∙ step.field.listed in
    subst (λ n. set n ≡ true) step.field.sorted (shape.fields step.field.index step.field.id step.field.selector at step.field.declared)

not_single_kind : (k : Kind) → (k ≡ Data) ⊎ (k ≡ Codata) → k ≡ Free → ⊥
not_single_kind k (inl e) f = let h : Data ≡ Free = sym e ∙ f in cc
not_single_kind k (inr e) f = let h : Codata ≡ Free = sym e ∙ f in cc

-- what the set does not have
abbrev without : (ℕ → Bool) → ℕ → Bool
without set n = cond (set n) false true

-- no single sort is infinite: what a single set does not have is closed under the rules of infinite sorts
pub single_not_infinite : (d : Declarations) (s : ℕ) → IsSingle d s → IsInfinite d s → ⊥
single_not_infinite d s (set, shapes, inside) infinite = false≢true (ap (λ b. cond b false true) (sym inside) ∙ infinite (without set) closed)
  where
    outside : (n : ℕ) → (set n ≡ true → ⊥) → without set n ≡ true
    outside n none = by (set n) refl
      where
        by : (b : Bool) → set n ≡ b → cond b false true ≡ true
        by true e = absurd (none e)
        by false e = refl

    not_in : (n : ℕ) → without set n ≡ true → set n ≡ true → ⊥
    not_in n h e = false≢true (ap (λ b. cond b false true) (sym e) ∙ h)

    closed : IsInfiniteSet d (without set)
    closed =
        record {
          free = λ n sort at free. outside n (λ e.
              let shape = shapes n e in
              let same : sort ≡ shape.sort = same_Some _ _ (sym at ∙ shape.of_sort) in
              not_single_kind shape.sort.kind shape.kind (ap (λ (u : Sort). u.kind) (sym same) ∙ free));
          cyclic = λ n several around. outside n (λ e. several (set, shapes, e));
          field = λ n t step h. outside n (λ e. not_in t h (field_in d set shapes n t e step));
        }

-- sizes exclude each other
pub one_size : (d : Declarations) (s : ℕ) (a b : Size) → HasSize d s a → HasSize d s b → a ≡ b
one_size d s One One x y = refl
one_size d s One Finite x y = absurd (y.0 x)
one_size d s One Infinite x y = absurd (single_not_infinite d s x y)
one_size d s Finite One x y = absurd (x.0 y)
one_size d s Finite Finite x y = refl
one_size d s Finite Infinite x y = absurd (x.1 y)
one_size d s Infinite One x y = absurd (single_not_infinite d s y x)
one_size d s Infinite Finite x y = absurd (y.1 x)
one_size d s Infinite Infinite x y = refl
