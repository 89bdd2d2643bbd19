-- Ranks tell sizes: a sort without a rank among those of several values is single, and one without a rank among the small
-- sorts is infinite; and the other way round.
use Rattle.std.proofs.Common.{◌≡◌, ℕ, zero, suc, ◌+◌, ◌<◌, ◌≤◌, ◌⊎◌, Bool, true, false, cond, nat_lt, nat_eq, IsTrue, not, List, [], ◌∷◌, ◌++◌, length, get_or, slice_get, Some, None, refl, sym, ◌∙◌, ap, subst, inl, inr, arith, Decides, true≢false, take}
use Rattle.std.specs.List.{IsDistinct, AllByRecursion, list_any}
use Rattle.std.proofs.lemmas.Bool.{false≢true, cases_order}
use Rattle.std.proofs.lemmas.Bool.Decides.{Decides-ltb, Decides-eqb}
use Rattle.std.proofs.lemmas.Option.{none-some, same_Some, slice_get_within}
use Rattle.std.proofs.lemmas.Map.Steps.{length-le_from_distinct_below}
use Rattle.ct_lemmas.proofs.Lists.{slice_get-there}
use Rattle.ct_sorts.specs.declared.ids.CtorId.{CtorId}
use Rattle.ct_sorts.specs.declared.ids.Kind.{Kind}
use Rattle.ct_sorts.specs.declared.ids.Kind.TheVariants.{Bool as BoolKind, Free, Data, Codata}
use Rattle.ct_sorts.specs.Declarations.{Declarations, Sort, Constructor, Selector, start}
use Rattle.ct_sorts.specs.Consistent.{IsConsistent, FitsKind}
use Rattle.ct_sorts.specs.Structure.{HaveOwnConstructors}
use Rattle.ct_card.specs.declared.size.Size.{Size}
use Rattle.ct_card.specs.declared.size.Size.TheVariants.{One, Finite, Infinite}
use Rattle.ct_card.specs.Dependence.{DependsOn, IsWay, DependsInSteps}
use Rattle.ct_card.specs.Cardinality.{IsSingleSet, IsSingle, IsInfiniteSet, IsInfinite, HasSize}
use Rattle.ct_card.specs.Rules.{IsDerived}
use Rattle.ct_card.specs.Sizes.{IsSizeBy}
use Rattle.ct_card.specs.Ranked.{AreSeveral, IsBuiltLower, AreSmall}

-- ---- small facts

pub derived_or : (ranks : List ℕ) (s : ℕ) → IsDerived ranks s ⊎ (IsDerived ranks s → ⊥)
derived_or ranks s =
    elim (cases_order (get_or ranks s 0) 0) [
      | inl e ↦ inr (λ h. omega arith)
      | inr (inl less) ↦ absurd (omega arith)
      | inr (inr more) ↦ inl more
    ]

pub zero_of : (n : ℕ) → (0 < n → ⊥) → n ≡ 0
zero_of zero h = refl
zero_of (suc n) h = absurd (h (omega arith))

get_or-past : (xs : List ℕ) (i : ℕ) → length xs ≤ i → get_or xs i 0 ≡ 0
get_or-past [] i h = refl
get_or-past (x ∷ xs) zero h = absurd (omega arith)
get_or-past (x ∷ xs) (suc i) h = get_or-past xs i (omega arith)

pub derived_within : (ranks : List ℕ) (s : ℕ) → IsDerived ranks s → s < length ranks
derived_within ranks s derived =
    elim (cases_order s (length ranks)) [
      | inl e ↦ let z : get_or ranks s 0 ≡ 0 = get_or-past ranks s (omega arith) in absurd (omega arith)
      | inr (inl less) ↦ less
      | inr (inr more) ↦ let z : get_or ranks s 0 ≡ 0 = get_or-past ranks s (omega arith) in absurd (omega arith)
    ]

-- a list of one element
pub one_of : {X : Type 0} (xs : List X) → length xs ≡ 1 → (x : X) × (xs ≡ x ∷ [])
one_of [] e = absurd (omega arith)
one_of (x ∷ []) e = (x, refl)
one_of (x ∷ (y ∷ zs)) e = absurd (omega arith)

one_or : (n : ℕ) → (n ≡ 1) ⊎ (n ≡ 1 → ⊥)
one_or zero = inr (λ e. omega arith)
one_or (suc zero) = inl refl
one_or (suc (suc n)) = inr (λ e. omega arith)

-- the sort that a step starts from is there, and that to which it leads
pub from_within : (d : Declarations) (s t : ℕ) → DependsOn d s t → s < length d.sorts
from_within d s t step = slice_get_within d.sorts s step.sort step.of_sort

pub to_within : (d : Declarations) → IsConsistent d → (s t : ℕ) → DependsOn d s t → t < length d.sorts
to_within d consistent s t step =
    let h = consistent.fields step.field.id.0 step.field.selector step.field.declared in
    subst (λ n. n < length d.sorts) step.field.sorted h

-- ---- single sorts

module _ (d : Declarations) (consistent : IsConsistent d) (own : HaveOwnConstructors d) where
  -- Bool has two constructors
  pub bool_two : (s : ℕ) (sort : Sort) → slice_get d.sorts s ≡ Some sort → s ≡ 0 → length sort.ctors ≡ 2
  bool_two s sort at e = by d.sorts consistent.first_sort (ap (slice_get d.sorts) (sym e) ∙ at)
    where
      by : (sorts : List Sort) → take 1 sorts ≡ start.sorts → slice_get sorts 0 ≡ Some sort → length sort.ctors ≡ 2
      by [] first at0 = absurd (none-some _ at0)
      by (x ∷ xs) first at0 =
          let e1 : slice_get (take 1 (x ∷ xs)) 0 ≡ slice_get start.sorts 0 = ap (λ l. slice_get l 0) first in
          let e2 : x ≡ sort = same_Some _ _ at0 in
          let e3 : x ≡ Rattle.ct_sorts.specs.Declarations.bool = same_Some _ _ e1 in
          ap (λ (u : Sort). length u.ctors) (sym e2 ∙ e3)

  -- a sort with one constructor is a datatype or a codatatype
  pub kind_of_one : (s : ℕ) (sort : Sort) → slice_get d.sorts s ≡ Some sort → length sort.ctors ≡ 1 → (sort.kind ≡ Data) ⊎ (sort.kind ≡ Codata)
  kind_of_one s sort at e = by sort.kind refl (consistent.kinds s sort at)
    where
      by : (k : Kind) → sort.kind ≡ k → FitsKind s k (length sort.ctors) → (sort.kind ≡ Data) ⊎ (sort.kind ≡ Codata)
      by BoolKind is fits = absurd (let two = bool_two s sort at fits in omega arith)
      by Free is fits = absurd (omega arith)
      by Data is fits = inl is
      by Codata is fits = inr is

  module _ (several : List ℕ) (ranked : AreSeveral d several) where
    -- the sorts without a rank
    unranked : ℕ → Bool
    unranked s = cond (nat_lt s (length d.sorts)) (nat_eq (get_or several s 0) 0) false

    unranked_in : (s : ℕ) → s < length d.sorts → (IsDerived several s → ⊥) → unranked s ≡ true
    unfolding unranked
    unranked_in s within none =
        let zero_rank : get_or several s 0 ≡ 0 = elim (cases_order (get_or several s 0) 0) [ inl e ↦ e | inr (inl less) ↦ absurd (omega arith) | inr (inr more) ↦ absurd (none more) ] in
        by (nat_lt s (length d.sorts)) (Decides-ltb s (length d.sorts)) ((Decides-eqb (get_or several s 0) 0).1 zero_rank)
      where
        by : (b : Bool) → Decides b (s < length d.sorts) → nat_eq (get_or several s 0) 0 ≡ true → cond b (nat_eq (get_or several s 0) 0) false ≡ true
        by true tells h = h
        by false tells h = absurd (true≢false (sym (tells.1 within)))

    unranked_out : (s : ℕ) → unranked s ≡ true → (s < length d.sorts) × (get_or several s 0 ≡ 0)
    unfolding unranked
    unranked_out s h = by (nat_lt s (length d.sorts)) (Decides-ltb s (length d.sorts)) h
      where
        by : (b : Bool) → Decides b (s < length d.sorts) → cond b (nat_eq (get_or several s 0) 0) false ≡ true → (s < length d.sorts) × (get_or several s 0 ≡ 0)
        by true tells h = (tells.0 refl, (Decides-eqb (get_or several s 0) 0).0 h)
        by false tells h = absurd (false≢true h)

    unranked_shape : IsSingleSet d unranked
    unranked_shape s inside =
        let out = unranked_out s inside in
        let none : IsDerived several s → ⊥ = λ h. let z : get_or several s 0 ≡ 0 = out.1 in omega arith in
        let at = slice_get-there d.sorts s out.0 in
        elim (one_or (length at.0.ctors)) [
          | inr other ↦ absurd (none (ranked.counted s (record { sort = at.0; of_sort = at.1; count = other })))
          | inl one ↦
              let only = one_of at.0.ctors one in
              let listed : slice_get at.0.ctors 0 ≡ Some only.0 = ap (λ l. slice_get l 0) only.1 in
              let ctor = own s 0 at.0 only.0 at.1 listed in
              record {
                sort = at.0;
                id = only.0;
                ctor = ctor.0;
                of_sort = at.1;
                kind = kind_of_one s at.0 at.1 one;
                only = only.1;
                declared = ctor.1;
                fields = λ index id selector listed_sel declared.
                    let step : DependsOn d s selector.sort.0 = record { sort = at.0; index = 0; id = only.0; ctor = ctor.0; of_sort = at.1; listed = listed; declared = ctor.1; field = record { index = index; id = id; selector = selector; listed = listed_sel; declared = declared; sorted = refl } } in
                    unranked_in selector.sort.0 (to_within d consistent s selector.sort.0 step) (λ h. none (ranked.field s selector.sort.0 step h));
              }
        ]

    -- a sort without a rank is single
    pub single_unranked : (s : ℕ) → s < length d.sorts → (IsDerived several s → ⊥) → IsSingle d s
    single_unranked s within none = (unranked, unranked_shape, unranked_in s within none)

    -- a field of a sort of a single set is in the set
    pub field_in : (set : ℕ → Bool) → IsSingleSet d set → (s t : ℕ) → set s ≡ true → DependsOn d s t → set t ≡ true
    field_in set shapes s t inside step =
        let shape = shapes s inside in
        let same_sort : step.sort ≡ shape.sort = same_Some _ _ (sym step.of_sort ∙ shape.of_sort) in
        let listed : slice_get (shape.id ∷ []) step.index ≡ Some step.id = ap (λ l. slice_get l step.index) (sym (ap (λ (u : Sort). u.ctors) same_sort ∙ shape.only)) ∙ step.listed in
        let same_id : shape.id ≡ step.id = first step.index shape.id step.id listed in
        let same_ctor : step.ctor ≡ shape.ctor = same_Some _ _ (sym step.declared ∙ ap (λ (c : CtorId). slice_get d.ctors c.0) (sym same_id) ∙ shape.declared) in
        let at : slice_get shape.ctor.sels step.field.index ≡ Some step.field.id = ap (λ (c : Constructor). slice_get c.sels step.field.index) (sym same_ctor) ∙ step.field.listed in
        subst (λ n. set n ≡ true) step.field.sorted (shape.fields step.field.index step.field.id step.field.selector at step.field.declared)
      where
        first : (index : ℕ) (x y : CtorId) → slice_get (x ∷ []) index ≡ Some y → x ≡ y
        first zero x y at = same_Some _ _ at
        first (suc index) x y at = absurd (none-some _ at)

    -- and one with a rank is not
    pub not_single_ranked : (s : ℕ) → IsDerived several s → IsSingle d s → ⊥
    not_single_ranked s derived (set, shapes, inside) = by (suc (get_or several s 0)) s (omega arith) derived inside
      where
        by : (fuel s : ℕ) → get_or several s 0 < fuel → IsDerived several s → set s ≡ true → ⊥
        by zero s less derived inside = omega arith
        by (suc fuel) s less derived inside =
            elim (ranked.grounded s derived) [
              | inl other ↦
                  let shape = shapes s inside in
                  let same : other.sort ≡ shape.sort = same_Some _ _ (sym other.of_sort ∙ shape.of_sort) in
                  other.count (ap (λ (u : Sort). length u.ctors) same ∙ ap length shape.only)
              | inr has ↦
                  let l : get_or several has.field 0 < get_or several s 0 = has.lower in
                  by fuel has.field (omega arith) has.derived (field_in set shapes s has.field inside has.step)
            ]

    -- ---- small sorts are not infinite
    module _ (small : List ℕ) (ranks : AreSmall d several small) where
      -- the fields of a sort without a rank among several have none
      unranked_field : (s t : ℕ) → DependsOn d s t → (IsDerived several s → ⊥) → IsDerived several t → ⊥
      unranked_field s t step none derived = none (ranked.field s t step derived)

      -- along a way from a small sort to one of several values ranks fall
      falls : (s t : ℕ) (way : List ℕ) → IsWay d s way t → IsDerived small s → IsDerived several t → IsDerived several s × IsBuiltLower d small s × IsDerived small t × (get_or small t 0 < get_or small s 0)
      falls s t [] step derived target =
          elim (ranks.grounded s derived) [
            | inl none ↦ absurd (none (ranked.field s t step target))
            | inr built ↦ (ranked.field s t step target, built, built.derived t step, built.lower t step)
          ]
      falls s t (u ∷ way) (step, rest) derived target =
          elim (ranks.grounded s derived) [
            | inl none ↦ absurd (none (along s t (u ∷ way) (step, rest) target))
            | inr built ↦
                let further = falls u t way rest (built.derived u step) target in
                let l : get_or small u 0 < get_or small s 0 = built.lower u step in
                let m : get_or small t 0 < get_or small u 0 = further.3 in
                (ranked.field s u step further.0, built, further.2, omega arith)
          ]
        where
          along : (s t : ℕ) (way : List ℕ) → IsWay d s way t → IsDerived several t → IsDerived several s
          along s t [] step target = ranked.field s t step target
          along s t (u ∷ way) (step, rest) target = ranked.field s u step (along u t way rest target)

      -- the sorts that are not small
      large : ℕ → Bool
      large s = nat_eq (get_or small s 0) 0

      large_in : (s : ℕ) → (IsDerived small s → ⊥) → large s ≡ true
      unfolding large
      large_in s none =
          (Decides-eqb (get_or small s 0) 0).1 (elim (cases_order (get_or small s 0) 0) [ inl e ↦ e | inr (inl less) ↦ absurd (omega arith) | inr (inr more) ↦ absurd (none more) ])

      large_out : (s : ℕ) → large s ≡ true → IsDerived small s → ⊥
      unfolding large
      large_out s h derived = let z : get_or small s 0 ≡ 0 = (Decides-eqb (get_or small s 0) 0).0 h in omega arith

      large_set : IsInfiniteSet d large
      large_set =
          record {
            free = λ s sort at free. large_in s (λ derived.
                let none : length sort.ctors ≡ 0 = subst (λ k. FitsKind s k (length sort.ctors)) free (consistent.kinds s sort at) in
                elim (ranks.grounded s derived) [
                  | inl single ↦ single (ranked.counted s (record { sort = sort; of_sort = at; count = λ e. omega arith }))
                  | inr built ↦
                      let same : built.sort ≡ sort = same_Some _ _ (sym built.of_sort ∙ at) in
                      let some : 0 < length sort.ctors = subst (λ (u : Sort). 0 < length u.ctors) same built.some in
                      omega arith
                ]);
            cyclic = λ s several_values around. large_in s (λ derived.
                let target : IsDerived several s = elim (derived_or several s) [ inl h ↦ h | inr none ↦ absurd (several_values (single_unranked s (subst (λ n. s < n) ranks.long (derived_within small s derived)) none)) ] in
                let lower = falls s s around.0 around.1 derived target in
                let l : get_or small s 0 < get_or small s 0 = lower.3 in
                omega arith);
            field = λ s t step out. large_in s (λ derived.
                large_out t out (elim (ranks.grounded s derived) [
                  | inl none ↦ ranks.single t (to_within d consistent s t step) (unranked_field s t step none)
                  | inr built ↦ built.derived t step
                ]));
          }

      pub finite_small : (s : ℕ) → IsDerived small s → IsInfinite d s → ⊥
      finite_small s derived infinite = large_out s (infinite large large_set) derived

      -- ---- all others are
      module _ (set : ℕ → Bool) (closed : IsInfiniteSet d set) where
        further : (s u t : ℕ) (way : List ℕ) → IsWay d s way u → DependsOn d u t → IsWay d s (way ++ u ∷ []) t
        further s u t [] step last = (step, last)
        further s u t (v ∷ way) (step, rest) last = (step, further v u t way rest last)

        -- a list that does not have a number has only others
        apart : (u : ℕ) (met : List ℕ) → list_any (nat_eq u) met ≡ false → AllByRecursion (λ y. nat_eq u y ≡ false) met
        apart u [] h = tt
        apart u (v ∷ met) h = by (nat_eq u v) refl h (λ k. apart u met k)
          where
            by : (b : Bool) → nat_eq u v ≡ b → (Rattle.std.proofs.Common.◌||◌ b (list_any (nat_eq u) met)) ≡ false → (list_any (nat_eq u) met ≡ false → AllByRecursion (λ y. nat_eq u y ≡ false) met) → AllByRecursion (λ y. nat_eq u y ≡ false) (v ∷ met)
            by true e h rest = absurd (true≢false h)
            by false e h rest = (e, rest h)

        -- the sorts that were met are distinct, and each leads to this one
        record AreMet (met : List ℕ) (u : ℕ) : Type 0 where
          distinct : IsDistinct nat_eq met
          below : (v : ℕ) → list_any (nat_eq v) met ≡ true → v < length d.sorts
          leads : (v : ℕ) → list_any (nat_eq v) met ≡ true → DependsInSteps d v u

        -- one more sort of a walk over sorts that are neither small nor in the set
        module _ (fuel : ℕ) (rest : (met : List ℕ) (u : ℕ) → length d.sorts < length met + fuel → AreMet met u → u < length d.sorts → (IsDerived small u → ⊥) → set u ≡ false → ⊥) (met : List ℕ) (u : ℕ) (long : length d.sorts < length met + suc fuel) (are : AreMet met u) (within : u < length d.sorts) (none : IsDerived small u → ⊥) (out : set u ≡ false) where
          target : IsDerived several u
          target = elim (derived_or several u) [ inl h ↦ h | inr single ↦ absurd (none (ranks.single u within single)) ]

          in_met : (v : ℕ) (b : Bool) → nat_eq v u ≡ b → (Rattle.std.proofs.Common.◌||◌ (nat_eq v u) (list_any (nat_eq v) met)) ≡ true → v < length d.sorts
          in_met v true e listed = subst (λ n. n < length d.sorts) (sym ((Decides-eqb v u).0 e)) within
          in_met v false e listed = are.below v (subst (λ b. (Rattle.std.proofs.Common.◌||◌ b (list_any (nat_eq v) met)) ≡ true) e listed)

          leads_on : (t : ℕ) → DependsOn d u t → (v : ℕ) (b : Bool) → nat_eq v u ≡ b → (Rattle.std.proofs.Common.◌||◌ (nat_eq v u) (list_any (nat_eq v) met)) ≡ true → DependsInSteps d v t
          leads_on t step v true e listed = ([], subst (λ n. DependsOn d n t) (sym ((Decides-eqb v u).0 e)) step)
          leads_on t step v false e listed =
              let way = are.leads v (subst (λ b. (Rattle.std.proofs.Common.◌||◌ b (list_any (nat_eq v) met)) ≡ true) e listed) in
              (way.0 ++ u ∷ [], further v u t way.0 way.1 step)

          distinct_more : list_any (nat_eq u) met ≡ false → IsDistinct nat_eq (u ∷ met)
          unfolding IsDistinct
          distinct_more fresh = (apart u met fresh, are.distinct)

          -- the next sort
          next : list_any (nat_eq u) met ≡ false → (t : ℕ) → DependsOn d u t → (IsDerived small t → ⊥) → set t ≡ false → ⊥
          next fresh t step none_t out_t =
              rest (u ∷ met) t (omega arith) (record {
                distinct = distinct_more fresh;
                below = λ v listed. in_met v (nat_eq v u) refl listed;
                leads = λ v listed. leads_on t step v (nat_eq v u) refl listed;
              }) (to_within d consistent u t step) none_t out_t

          at : (x : Sort) × (slice_get d.sorts u ≡ Some x)
          at = slice_get-there d.sorts u within

          fields : list_any (nat_eq u) met ≡ false → (t : ℕ) → DependsOn d u t → IsDerived small t
          fields fresh t step =
              elim (derived_or small t) [
                | inl h ↦ h
                | inr none_t ↦ absurd (choose (set t) refl none_t)
              ]
            where
              choose : (b : Bool) → set t ≡ b → (IsDerived small t → ⊥) → ⊥
              choose true e none_t = true≢false (sym (closed.field u t step e) ∙ out)
              choose false e none_t = next fresh t step none_t e

          has_ctors : (k : Kind) → at.0.kind ≡ k → FitsKind u k (length at.0.ctors) → list_any (nat_eq u) met ≡ false → ⊥
          has_ctors BoolKind is fits fresh = let two = bool_two u at.0 at.1 fits in none (ranks.built u at.0 at.1 (omega arith) (fields fresh))
          has_ctors Free is fits fresh = true≢false (sym (closed.free u at.0 at.1 is) ∙ out)
          has_ctors Data is fits fresh = none (ranks.built u at.0 at.1 fits (fields fresh))
          has_ctors Codata is fits fresh = none (ranks.built u at.0 at.1 fits (fields fresh))

          by_met : (b : Bool) → list_any (nat_eq u) met ≡ b → ⊥
          by_met true e = true≢false (sym (closed.cyclic u (not_single_ranked u target) (are.leads u e)) ∙ out)
          by_met false e = has_ctors at.0.kind refl (consistent.kinds u at.0 at.1) e

          no_further : ⊥
          no_further = by_met (list_any (nat_eq u) met) refl

        -- there is no sort that is neither small nor in the set
        walk : (fuel : ℕ) (met : List ℕ) (u : ℕ) → length d.sorts < length met + fuel → AreMet met u → u < length d.sorts → (IsDerived small u → ⊥) → set u ≡ false → ⊥
        walk zero met u long are within none out =
            let few : length met ≤ length d.sorts = length-le_from_distinct_below met (length d.sorts) are.distinct are.below in
            omega arith
        walk (suc fuel) met u long are within none out = no_further fuel (walk fuel) met u long are within none out

        none_met : IsDistinct nat_eq []
        unfolding IsDistinct
        none_met = tt

        in_set : (s : ℕ) → s < length d.sorts → (IsDerived small s → ⊥) → set s ≡ true
        in_set s within none = by (set s) refl
          where
            by : (b : Bool) → set s ≡ b → set s ≡ true
            by true e = e
            by false e = absurd (walk (suc (length d.sorts)) [] s (omega arith) (record { distinct = none_met; below = λ v listed. absurd (false≢true listed); leads = λ v listed. absurd (false≢true listed) }) within none e)

      pub infinite_large : (s : ℕ) → s < length d.sorts → (IsDerived small s → ⊥) → IsInfinite d s
      infinite_large s within none set closed = in_set set closed s within none

      -- the size by ranks is the size
      pub size_from : (s : ℕ) (size : Size) → s < length d.sorts → IsSizeBy several small s size → HasSize d s size
      size_from s size within is =
          subst (λ (z : Size). HasSize d s z) (sym is)
          (by (nat_eq (get_or several s 0) 0) (nat_eq (get_or small s 0) 0) (Decides-eqb (get_or several s 0) 0) (Decides-eqb (get_or small s 0) 0) within)
        where
          by : (a b : Bool) → Decides a (get_or several s 0 ≡ 0) → Decides b (get_or small s 0 ≡ 0) → s < length d.sorts → HasSize d s (cond a One (cond b Infinite Finite))
          by true b at bt within = single_unranked s within (λ h. let z : get_or several s 0 ≡ 0 = at.0 refl in omega arith)
          by false true at bt within = infinite_large s within (λ h. let z : get_or small s 0 ≡ 0 = bt.0 refl in omega arith)
          by false false at bt within = (
            not_single_ranked s (elim (derived_or several s) [ inl h ↦ h | inr none ↦ absurd (true≢false (sym (at.1 (zero_of (get_or several s 0) none)))) ]),
            finite_small s (elim (derived_or small s) [ inl h ↦ h | inr none ↦ absurd (true≢false (sym (bt.1 (zero_of (get_or small s 0) none)))) ]),
          )
