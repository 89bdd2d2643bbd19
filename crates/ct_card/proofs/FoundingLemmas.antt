-- The order in which sorts are well founded, from the rules by which it was made.
use Rattle.std.proofs.Common.{◌≡◌, ℕ, ◌<◌, ◌≤◌, Bool, true, cond, nat_lt, List, [], ◌∷◌, length, get_or, slice_get, Some, refl, sym, ◌∙◌, ap, subst, inl, inr, arith}
use Rattle.std.proofs.lemmas.Bool.Decides.{Decides-ltb}
use Rattle.std.proofs.lemmas.Option.{same_Some, slice_get_within}
use Rattle.ct_lemmas.proofs.Lists.{slice_get-there}
use Rattle.ct_sorts.specs.declared.ids.CtorId.{CtorId}
use Rattle.ct_sorts.specs.declared.ids.Kind.{Kind}
use Rattle.ct_sorts.specs.declared.ids.Kind.TheVariants.{Bool as BoolKind, Free, Data, Codata}
use Rattle.ct_sorts.specs.Declarations.{Declarations, Sort, Constructor}
use Rattle.ct_sorts.specs.Founded.{IsClosedSet}
use Rattle.ct_sorts.specs.Consistent.{IsConsistent}
use Rattle.ct_sorts.specs.Structure.{HaveOwnConstructors, AreOfTheirSorts, HaveOwnSelectors, AreOfTheirConstructors}
use Rattle.ct_card.specs.declared.chain.Rule.{Rule}
use Rattle.ct_card.specs.Rules.{IsDerived, IsGrounded, AreRanks, IsOrder}
use Rattle.ct_card.specs.Founding.{is_data, AreFoundingRules, HasLowerFields, HasFounding, AreFounded}
use Rattle.ct_card.specs.Dependence.{HasFieldOf}
use Rattle.ct_card.specs.Derived.{AreHeadsWithin}
use Rattle.ct_card.specs.Extended.{IsLater}
use Rattle.ct_card.specs.Fields.{ctor_fields, ctors_of}
use Rattle.ct_card.proofs.RuleLemmas.{cases_below, ctor_field, ctors_at, ready_none}
use Rattle.ct_card.proofs.StayLemmas.{sort_was, fields_same, field_within_earlier}

-- the numbers with ranks
abbrev positive : List ℕ → ℕ → Bool
positive ranks n = nat_lt 0 (get_or ranks n 0)

module _ (d : Declarations) (consistent : IsConsistent d) (own : HaveOwnConstructors d) (own_sels : HaveOwnSelectors d) (of_sorts : AreOfTheirSorts d) (of_ctors : AreOfTheirConstructors d) where
  -- the heads of the rules are further sorts
  pub founding_heads : (first : ℕ) (rules : List Rule) → AreFoundingRules d first (length d.sorts) rules → AreHeadsWithin first (length d.sorts) rules
  founding_heads first rules are k rule at =
      let one = are.only k rule at in
      elim one.is [
        | inl kind ↦
            let sort = slice_get-there d.sorts one.sort one.below in
            let is = kind sort.0 sort.1 in
            (subst (λ n. first ≤ n) (sym is.0) one.from, subst (λ n. n < length d.sorts) (sym is.0) one.below)
        | inr (c, index, listed, is) ↦ (subst (λ n. first ≤ n) (sym is.0) one.from, subst (λ n. n < length d.sorts) (sym is.0) one.below)
      ]

  module _ (e : Declarations) (later : IsLater d e) (old old_order : List ℕ) (before : AreFounded e old old_order) (rules : List Rule) (ranks order : List ℕ) (are : AreFoundingRules d (length old) (length d.sorts) rules) (made : AreRanks rules old ranks (length d.sorts)) (ordered : IsOrder ranks order) where
    set_in : (n : ℕ) → IsDerived ranks n → positive ranks n ≡ true
    set_in n h = (Decides-ltb 0 (get_or ranks n 0)).1 h

    set_out : (n : ℕ) → positive ranks n ≡ true → IsDerived ranks n
    set_out n h = (Decides-ltb 0 (get_or ranks n 0)).0 h

    earlier_in : (s : ℕ) → s < length old → IsDerived ranks s
    earlier_in s less = let h = before.all s (subst (λ n. s < n) before.long less) in let e = made.stayed s less in omega arith

    not_data : (k : Kind) (n : ℕ) (body : List ℕ) → (k ≡ Data → ⊥) → body ≡ cond (is_data k) (n ∷ []) [] → body ≡ []
    not_data BoolKind n body other e = e
    not_data Free n body other e = e
    not_data Data n body other e = absurd (other refl)
    not_data Codata n body other e = e

    by_kind : (s : ℕ) (sort : Sort) → slice_get d.sorts s ≡ Some sort → (sort.kind ≡ Data → ⊥) → IsDerived ranks s
    by_kind s sort at other =
        elim (cases_below s (length old)) [
          | inl less ↦ earlier_in s less
          | inr from ↦
              let has = are.own s from (slice_get_within d.sorts s sort at) in
              let is = has.is sort at in
              subst (λ n. IsDerived ranks n) is.0 (made.complete has.index has.rule has.stated (ready_none d consistent own own_sels of_sorts of_ctors ranks has.rule (not_data sort.kind s has.rule.body.items other is.1)))
        ]

    by_ctor : (s index : ℕ) (sort : Sort) (c : CtorId) (ctor : Constructor) → slice_get d.sorts s ≡ Some sort → slice_get sort.ctors index ≡ Some c → slice_get d.ctors c.0 ≡ Some ctor → ((t : ℕ) → HasFieldOf d ctor t → IsDerived ranks t) → IsDerived ranks s
    by_ctor s index sort c ctor at listed declared fields =
        elim (cases_below s (length old)) [
          | inl less ↦ earlier_in s less
          | inr from ↦
              let in_list : slice_get (ctors_of d s) index ≡ Some c = ap (λ (l : List CtorId). slice_get l index) (ctors_at d consistent own own_sels of_sorts of_ctors s sort at) ∙ listed in
              let has = are.each s index c from (slice_get_within d.sorts s sort at) in_list in
              subst (λ n. IsDerived ranks n) has.is.0 (made.complete has.index has.rule has.stated (λ i b at_b. fields b (ctor_field d consistent own own_sels of_sorts of_ctors c ctor i b declared (ap (λ (l : List ℕ). slice_get l i) (sym has.is.1) ∙ at_b))))
        ]

    closed : IsClosedSet d (positive ranks)
    closed =
        record {
          others = λ s sort at other. set_in s (by_kind s sort at other);
          built = λ s sort index c ctor at listed declared fields. set_in s (by_ctor s index sort c ctor at listed declared (λ t f. set_out t (subst (λ n. positive ranks n ≡ true) f.sorted (fields f.index f.id f.selector f.listed f.declared))));
        }

    all_founded : (s : ℕ) → s < length d.sorts → 0 < get_or ranks s 0
    all_founded s within = set_out s (consistent.founded s within (positive ranks) closed)

    data_body : (k : Kind) (n : ℕ) (body : List ℕ) → k ≡ Data → body ≡ cond (is_data k) (n ∷ []) [] → body ≡ n ∷ []
    data_body k n body is e = e ∙ ap (λ (z : Kind). cond (is_data z) (n ∷ []) []) is

    -- what the rule of a further datatype tells
    of_rule : (s : ℕ) (sort : Sort) → slice_get d.sorts s ≡ Some sort → sort.kind ≡ Data → IsGrounded rules ranks s → (index : ℕ) × (c : CtorId) × (slice_get sort.ctors index ≡ Some c) × HasLowerFields d ranks s c
    of_rule s sort at data_kind g =
        let one = are.only g.cause g.rule g.stated in
        elim one.is [
          | inl kind ↦
              let there_sort = slice_get-there d.sorts one.sort one.below in
              let is = kind there_sort.0 there_sort.1 in
              let same : one.sort ≡ s = sym is.0 ∙ g.head in
              let same_sort : there_sort.0 ≡ sort = same_Some _ _ (sym there_sort.1 ∙ ap (slice_get d.sorts) same ∙ at) in
              let body = data_body there_sort.0.kind one.sort g.rule.body.items (ap (λ (u : Sort). u.kind) same_sort ∙ data_kind) is.1 in
              let l : get_or ranks one.sort 0 < get_or ranks s 0 = g.lower 0 one.sort (ap (λ (l : List ℕ). slice_get l 0) body) in
              let f : get_or ranks one.sort 0 ≡ get_or ranks s 0 = ap (λ n. get_or ranks n 0) same in
              absurd (omega arith)
          | inr (c, index, listed, is) ↦
              let same : one.sort ≡ s = sym is.0 ∙ g.head in
              let in_sort : slice_get sort.ctors index ≡ Some c = ap (λ (l : List CtorId). slice_get l index) (sym (ctors_at d consistent own own_sels of_sorts of_ctors s sort at)) ∙ ap (λ n. slice_get (ctors_of d n) index) (sym same) ∙ listed in
              (index, c, in_sort, λ k t field. g.lower k t (ap (λ (l : List ℕ). slice_get l k) is.1 ∙ field))
        ]

    founded_built : HasFounding d ranks
    founded_built s sort at data_kind =
        elim (cases_below s (length old)) [
          | inl less ↦
              let in_e : s < length e.sorts = subst (λ n. s < n) before.long less in
              let was = before.built s sort (sort_was d e later s sort in_e at) data_kind in
              let ctor = later.own_ctors s was.0 sort was.1 (sort_was d e later s sort in_e at) was.2 in (
                was.0,
                was.1,
                was.2,
                λ k t field.
                    let lower = was.3 k t (ap (λ (l : List ℕ). slice_get l k) (sym (fields_same d e later was.1 ctor.0 ctor.1)) ∙ field) in
                    let of_sort = made.stayed s less in
                    founded_lower s t of_sort less lower (field_earlier was.1 k t ctor.0 ctor.1 field),
              )
          | inr from ↦ of_rule s sort at data_kind (made.grounded s from (all_founded s (slice_get_within d.sorts s sort at)))
        ]
      where
        field_earlier : (c : CtorId) (k t : ℕ) (ctor : Constructor) → slice_get e.ctors c.0 ≡ Some ctor → slice_get (ctor_fields d c) k ≡ Some t → t < length old
        field_earlier c k t ctor at_c field = subst (λ n. t < n) (sym before.long) (field_within_earlier d e later c k t ctor at_c field)

        founded_lower : (s t : ℕ) → get_or ranks s 0 ≡ get_or old s 0 → s < length old → get_or old t 0 < get_or old s 0 → t < length old → get_or ranks t 0 < get_or ranks s 0
        founded_lower s t same less lower within = let e = made.stayed t within in omega arith

    pub founded_from : AreFounded d ranks order
    founded_from = record { long = made.long; ordered = ordered; all = all_founded; built = founded_built }
