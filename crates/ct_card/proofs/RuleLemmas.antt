-- What the ranks of sorts say, from the rules by which they were made.
use Rattle.std.proofs.Common.{◌≡◌, ℕ, zero, suc, ◌+◌, ◌-◌, ◌<◌, ◌≤◌, ◌⊎◌, Bool, true, false, cond, nat_eq, List, [], ◌∷◌, length, get_or, slice_get, Some, Option, option_map, unwrap_or, refl, sym, ◌∙◌, ap, subst, inl, inr, arith, Decides, true≢false}
use Rattle.std.proofs.lemmas.Bool.{cases_order}
use Rattle.std.proofs.lemmas.Bool.Decides.{Decides-eqb}
use Rattle.std.proofs.lemmas.Option.{none-some, same_Some, slice_get_within}
use Rattle.ct_lemmas.proofs.Lists.{slice_get-flat_map, slice_get-map_at, slice_get-map_source, slice_get-there}
use Rattle.ct_sorts.specs.declared.ids.CtorId.{CtorId}
use Rattle.ct_sorts.specs.declared.ids.SelId.{SelId}
use Rattle.ct_sorts.specs.Declarations.{Declarations, Sort, Constructor, Selector}
use Rattle.ct_sorts.specs.Consistent.{IsConsistent}
use Rattle.ct_sorts.specs.Structure.{HaveOwnConstructors, AreOfTheirSorts, HaveOwnSelectors, AreOfTheirConstructors}
use Rattle.ct_card.specs.declared.chain.Rule.{Rule}
use Rattle.ct_card.specs.Dependence.{HasFieldOf, DependsOn}
use Rattle.ct_card.specs.Rules.{IsDerived, IsReady, IsComplete, HaveStayed, IsGrounded, AreRanks}
use Rattle.ct_card.specs.Ranked.{HasOtherCount, HasLower, AreSeveral, IsBuiltLower, AreSmall}
use Rattle.ct_card.specs.Fields.{field_sort, sels_of, ctor_fields, ctors_of, sort_fields}
use Rattle.ct_card.specs.Ruled.{IsCountRule, IsFieldRule, HasRule, AreSeveralRules, IsSmallRule, AreSmallRules}
use Rattle.ct_card.specs.Derived.{AreHeadsWithin}
use Rattle.ct_card.specs.Extended.{IsLater}
use Rattle.ct_card.proofs.ListLemmas.{none_at, flat_source}
use Rattle.ct_card.proofs.SizeLemmas.{derived_within, zero_of}
use Rattle.ct_card.proofs.StayLemmas.{sort_stays, sort_was, step_stays, step_was, count_stays, count_was}

-- a number is below another or not
pub cases_below : (m n : ℕ) → (m < n) ⊎ (n ≤ m)
cases_below m n = elim (cases_order m n) [ inl e ↦ inr (omega arith) | inr (inl less) ↦ inl less | inr (inr more) ↦ inr (omega arith) ]

module _ (d : Declarations) (consistent : IsConsistent d) (own : HaveOwnConstructors d) (own_sels : HaveOwnSelectors d) (of_sorts : AreOfTheirSorts d) (of_ctors : AreOfTheirConstructors d) where
  pub sels_at : (c : CtorId) (ctor : Constructor) → slice_get d.ctors c.0 ≡ Some ctor → sels_of d c ≡ ctor.sels
  sels_at c ctor at = ap (λ (o : Option Constructor). unwrap_or (option_map (λ (x : Constructor). x.sels) o) []) at

  pub ctors_at : (s : ℕ) (sort : Sort) → slice_get d.sorts s ≡ Some sort → ctors_of d s ≡ sort.ctors
  ctors_at s sort at = ap (λ (o : Option Sort). unwrap_or (option_map (λ (x : Sort). x.ctors) o) []) at

  pub field_at : (id : SelId) (selector : Selector) → slice_get d.sels id.0 ≡ Some selector → field_sort d id ≡ selector.sort.0
  field_at id selector at = ap (λ (o : Option Selector). unwrap_or (option_map (λ (x : Selector). x.sort.0) o) 0) at

  -- the list of a constructor's field sorts has the sorts of its fields
  pub ctor_field : (c : CtorId) (ctor : Constructor) (k t : ℕ) → slice_get d.ctors c.0 ≡ Some ctor → slice_get (ctor_fields d c) k ≡ Some t → HasFieldOf d ctor t
  ctor_field c ctor k t at listed =
      let source = slice_get-map_source (field_sort d) (sels_of d c) k t listed in
      let at_sel : slice_get ctor.sels k ≡ Some source.0 = ap (λ l. slice_get l k) (sym (sels_at c ctor at)) ∙ source.1 in
      let sel = own_sels c.0 k ctor source.0 at at_sel in
      record { index = k; id = source.0; selector = sel.0; listed = at_sel; declared = sel.1; sorted = sym (field_at source.0 sel.0 sel.1) ∙ source.2 }

  pub field_ctor : (c : CtorId) (ctor : Constructor) (t : ℕ) → slice_get d.ctors c.0 ≡ Some ctor → (f : HasFieldOf d ctor t) → slice_get (ctor_fields d c) f.index ≡ Some t
  field_ctor c ctor t at f =
      let listed : slice_get (sels_of d c) f.index ≡ Some f.id = ap (λ l. slice_get l f.index) (sels_at c ctor at) ∙ f.listed in
      slice_get-map_at (field_sort d) (sels_of d c) f.index f.id listed ∙ ap Some (field_at f.id f.selector f.declared ∙ f.sorted)

  -- and that of a sort
  pub step_listed : (s k t : ℕ) → s < length d.sorts → slice_get (sort_fields d s) k ≡ Some t → DependsOn d s t
  step_listed s k t within listed =
      let source = flat_source (ctor_fields d) (ctors_of d s) k t listed in
      let sort = slice_get-there d.sorts s within in
      let at_c : slice_get sort.0.ctors source.0 ≡ Some source.1 = ap (λ l. slice_get l source.0) (sym (ctors_at s sort.0 sort.1)) ∙ source.3 in
      let ctor = own s source.0 sort.0 source.1 sort.1 at_c in
      record { sort = sort.0; index = source.0; id = source.1; ctor = ctor.0; of_sort = sort.1; listed = at_c; declared = ctor.1; field = ctor_field source.1 ctor.0 source.2 t ctor.1 source.4 }

  pub listed_step : (s t : ℕ) → DependsOn d s t → (k : ℕ) × (slice_get (sort_fields d s) k ≡ Some t)
  listed_step s t step =
      slice_get-flat_map (ctor_fields d) (ctors_of d s) step.index step.field.index step.id t (ap (λ l. slice_get l step.index) (ctors_at s step.sort step.of_sort) ∙ step.listed) (field_ctor step.id step.ctor t step.declared step.field)

  -- ---- sorts of several values

  -- the body of a rule that holds, or of one that derives nothing
  if_one : (n k : ℕ) (body : List ℕ) → body ≡ cond (nat_eq n 1) (k ∷ []) [] → ((n ≡ 1) × (body ≡ k ∷ [])) ⊎ ((n ≡ 1 → ⊥) × (body ≡ []))
  if_one n k body e = by (nat_eq n 1) (Decides-eqb n 1) e
    where
      by : (b : Bool) → Decides b (n ≡ 1) → body ≡ cond b (k ∷ []) [] → ((n ≡ 1) × (body ≡ k ∷ [])) ⊎ ((n ≡ 1 → ⊥) × (body ≡ []))
      by true tells e = inl (tells.0 refl, e)
      by false tells e = inr (λ h. true≢false (sym (tells.1 h)), e)

  pub ready_none : (ranks : List ℕ) (rule : Rule) → rule.body.items ≡ [] → IsReady ranks rule
  ready_none ranks rule e = λ i b listed. absurd (none_at i b (ap (λ l. slice_get l i) (sym e) ∙ listed))

  one_at : (t i b : ℕ) → slice_get (t ∷ []) i ≡ Some b → t ≡ b
  one_at t zero b at = same_Some _ _ at
  one_at t (suc i) b at = absurd (none-some _ at)

  ready_one : (ranks : List ℕ) (rule : Rule) (t : ℕ) → rule.body.items ≡ t ∷ [] → IsDerived ranks t → IsReady ranks rule
  ready_one ranks rule t e derived = λ i b listed. subst (λ n. IsDerived ranks n) (one_at t i b (ap (λ l. slice_get l i) (sym e) ∙ listed)) derived

  -- the heads of the rules are further sorts
  pub several_heads : (first : ℕ) (rules : List Rule) → AreSeveralRules d first (length d.sorts) rules → AreHeadsWithin first (length d.sorts) rules
  several_heads first rules are k rule at =
      let one = are.only k rule at in
      elim one.is [
        | inl own_rule ↦ (subst (λ n. first ≤ n) (sym own_rule.0) one.from, subst (λ n. n < length d.sorts) (sym own_rule.0) one.below)
        | inr (t, index, listed, is) ↦ (subst (λ n. first ≤ n) (sym is.0) one.from, subst (λ n. n < length d.sorts) (sym is.0) one.below)
      ]

  -- a rule that is stated is complete
  by_rule : (Is : Rule → Type 0) (s : ℕ) (rules : List Rule) (ranks : List ℕ) → IsComplete rules ranks → (has : HasRule rules Is) → has.rule.head ≡ s → IsReady ranks has.rule → IsDerived ranks s
  by_rule Is s rules ranks complete has head ready = subst (λ n. IsDerived ranks n) head (complete has.index has.rule has.stated ready)

  module _ (e : Declarations) (later : IsLater d e) (old : List ℕ) (before : AreSeveral e old) (rules : List Rule) (ranks : List ℕ) (are : AreSeveralRules d (length old) (length d.sorts) rules) (made : AreRanks rules old ranks (length d.sorts)) where
    several_new : (s : ℕ) → IsDerived old s → IsDerived ranks s
    several_new s derived = let e = made.stayed s (derived_within old s derived) in omega arith

    several_old : (s : ℕ) → s < length old → IsDerived ranks s → IsDerived old s
    several_old s less derived = let e = made.stayed s less in omega arith

    several_counted : (s : ℕ) → HasOtherCount d s → IsDerived ranks s
    several_counted s other =
        elim (cases_below s (length old)) [
          | inl less ↦ several_new s (before.counted s (count_was d e later s (subst (λ n. s < n) before.long less) other))
          | inr from ↦
              let within : s < length d.sorts = slice_get_within d.sorts s other.sort other.of_sort in
              let has = are.own s from within in
              let same : length (ctors_of d s) ≡ length other.sort.ctors = ap length (ctors_at s other.sort other.of_sort) in
              elim (if_one (length (ctors_of d s)) s has.rule.body.items has.is.1) [
                | inl (one, body) ↦ absurd (other.count (sym same ∙ one))
                | inr (more, body) ↦ by_rule (IsCountRule d s) s rules ranks made.complete has has.is.0 (ready_none ranks has.rule body)
              ]
        ]

    several_field : (s t : ℕ) → DependsOn d s t → IsDerived ranks t → IsDerived ranks s
    several_field s t step derived =
        elim (cases_below s (length old)) [
          | inl less ↦
              let was = step_was d e later s t (subst (λ n. s < n) before.long less) step in
              several_new s (before.field s t was.0 (several_old t (subst (λ n. t < n) (sym before.long) was.1) derived))
          | inr from ↦
              let within : s < length d.sorts = slice_get_within d.sorts s step.sort step.of_sort in
              let listed = listed_step s t step in
              let has = are.each s listed.0 t from within listed.1 in
              by_rule (IsFieldRule s t) s rules ranks made.complete has has.is.0 (ready_one ranks has.rule t has.is.1 derived)
        ]

    several_grounded : (s : ℕ) → IsDerived ranks s → HasOtherCount d s ⊎ HasLower d ranks s
    several_grounded s derived =
        elim (cases_below s (length old)) [
          | inl less ↦ elim (before.grounded s (several_old s less derived)) [
            | inl other ↦ inl (count_stays d e later s other)
            | inr has ↦
                let of_field = made.stayed has.field (derived_within old has.field has.derived) in
                let of_sort = made.stayed s less in
                let lower = has.lower in
                inr (record { field = has.field; step = step_stays d e later s has.field has.step; derived = several_new has.field has.derived; lower = omega arith })
          ]
          | inr from ↦ by (made.grounded s from derived)
        ]
      where
        by : IsGrounded rules ranks s → HasOtherCount d s ⊎ HasLower d ranks s
        by g =
            let one = are.only g.cause g.rule g.stated in
            elim one.is [
              | inl count ↦
                  let same : one.sort ≡ s = sym count.0 ∙ g.head in
                  elim (if_one (length (ctors_of d one.sort)) one.sort g.rule.body.items count.1) [
                    | inl (single, body) ↦
                        let l : get_or ranks one.sort 0 < get_or ranks s 0 = g.lower 0 one.sort (ap (λ l. slice_get l 0) body) in
                        let e : get_or ranks one.sort 0 ≡ get_or ranks s 0 = ap (λ n. get_or ranks n 0) same in
                        absurd (omega arith)
                    | inr (more, body) ↦
                        let sort = slice_get-there d.sorts one.sort one.below in
                        inl (record { sort = sort.0; of_sort = ap (slice_get d.sorts) (sym same) ∙ sort.1; count = λ e. more (ap length (ctors_at one.sort sort.0 sort.1) ∙ e) })
                  ]
              | inr (t, index, at, is) ↦
                  let same : one.sort ≡ s = sym is.0 ∙ g.head in
                  let first : slice_get g.rule.body.items 0 ≡ Some t = ap (λ l. slice_get l 0) is.1 in
                  inr (record { field = t; step = subst (λ n. DependsOn d n t) same (step_listed one.sort index t one.below at); derived = g.ready 0 t first; lower = g.lower 0 t first })
            ]

    pub several_from : AreSeveral d ranks
    several_from = record { long = made.long; counted = several_counted; field = several_field; grounded = several_grounded }

  -- ---- small sorts

  pub small_heads : (several : List ℕ) (first : ℕ) (rules : List Rule) → AreSmallRules d several first rules → AreHeadsWithin first (length d.sorts) rules
  small_heads several first rules are k rule at =
      let is = are.each k rule at in
      let within = slice_get_within rules k rule at in
      (omega (arith, is.0), omega (arith, is.0, are.long))

  module _ (e : Declarations) (later : IsLater d e) (known several : List ℕ) (stayed : HaveStayed known several) (known_long : length known ≡ length e.sorts) (old : List ℕ) (before : AreSmall e known old) (rules : List Rule) (ranks : List ℕ) (are : AreSmallRules d several (length old) rules) (made : AreRanks rules old ranks (length d.sorts)) where
    -- what the body of a sort's rule may be
    body_of : (k n : ℕ) (body : List ℕ) → body ≡ cond (nat_eq (get_or several k 0) 0) [] (cond (nat_eq n 0) (k ∷ []) (sort_fields d k)) → ((get_or several k 0 ≡ 0) × (body ≡ [])) ⊎ (((get_or several k 0 ≡ 0 → ⊥) × (n ≡ 0) × (body ≡ k ∷ [])) ⊎ ((get_or several k 0 ≡ 0 → ⊥) × (n ≡ 0 → ⊥) × (body ≡ sort_fields d k)))
    body_of k n body e = by (nat_eq (get_or several k 0) 0) (nat_eq n 0) (Decides-eqb (get_or several k 0) 0) (Decides-eqb n 0) e
      where
        by : (a b : Bool) → Decides a (get_or several k 0 ≡ 0) → Decides b (n ≡ 0) → body ≡ cond a [] (cond b (k ∷ []) (sort_fields d k)) → ((get_or several k 0 ≡ 0) × (body ≡ [])) ⊎ (((get_or several k 0 ≡ 0 → ⊥) × (n ≡ 0) × (body ≡ k ∷ [])) ⊎ ((get_or several k 0 ≡ 0 → ⊥) × (n ≡ 0 → ⊥) × (body ≡ sort_fields d k)))
        by true b at bt e = inl (at.0 refl, e)
        by false true at bt e = inr (inl (λ h. true≢false (sym (at.1 h)), bt.0 refl, e))
        by false false at bt e = inr (inr (λ h. true≢false (sym (at.1 h)), λ h. true≢false (sym (bt.1 h)), e))

    small_new : (s : ℕ) → IsDerived old s → IsDerived ranks s
    small_new s derived = let e = made.stayed s (derived_within old s derived) in omega arith

    small_old : (s : ℕ) → s < length old → IsDerived ranks s → IsDerived old s
    small_old s less derived = let e = made.stayed s less in omega arith

    in_known : (s : ℕ) → s < length old → s < length known
    in_known s less = omega (arith, before.long, known_long)

    -- the rule of a further sort
    rule_of : (s : ℕ) → length old ≤ s → s < length d.sorts → HasRule rules (IsSmallRule d several s)
    rule_of s from within =
        let rule = slice_get-there rules (s - length old) (omega (arith, are.long)) in
        let same : length old + (s - length old) ≡ s = omega arith in
        record { rule = rule.0; index = s - length old; stated = rule.1; is = subst (λ n. IsSmallRule d several n rule.0) same (are.each (s - length old) rule.0 rule.1) }

    small_single : (s : ℕ) → s < length d.sorts → (IsDerived several s → ⊥) → IsDerived ranks s
    small_single s within none =
        elim (cases_below s (length old)) [
          | inl less ↦ small_new s (before.single s (subst (λ n. s < n) before.long less) (λ h. let e = stayed s (in_known s less) in none (omega arith)))
          | inr from ↦
              let has = rule_of s from within in
              let zero_rank : get_or several s 0 ≡ 0 = zero_of (get_or several s 0) none in
              elim (body_of s (length (ctors_of d s)) has.rule.body.items has.is.1) [
                | inl (z, body) ↦ by_rule (IsSmallRule d several s) s rules ranks made.complete has has.is.0 (ready_none ranks has.rule body)
                | inr (inl h) ↦ absurd (h.0 zero_rank)
                | inr (inr h) ↦ absurd (h.0 zero_rank)
              ]
        ]

    small_built : (s : ℕ) (sort : Sort) → slice_get d.sorts s ≡ Some sort → 0 < length sort.ctors → ((t : ℕ) → DependsOn d s t → IsDerived ranks t) → IsDerived ranks s
    small_built s sort at some fields =
        elim (cases_below s (length old)) [
          | inl less ↦
              let in_e : s < length e.sorts = subst (λ n. s < n) before.long less in
              small_new s (before.built s sort (sort_was d e later s sort in_e at) some (λ t step.
              let was = step_was d e later s t in_e (step_stays d e later s t step) in
              small_old t (subst (λ n. t < n) (sym before.long) was.1) (fields t (step_stays d e later s t step))))
          | inr from ↦
              let within : s < length d.sorts = slice_get_within d.sorts s sort at in
              let has = rule_of s from within in
              let same : length (ctors_of d s) ≡ length sort.ctors = ap length (ctors_at s sort at) in
              elim (body_of s (length (ctors_of d s)) has.rule.body.items has.is.1) [
                | inl (z, body) ↦ by_rule (IsSmallRule d several s) s rules ranks made.complete has has.is.0 (ready_none ranks has.rule body)
                | inr (inl h) ↦ let none : length (ctors_of d s) ≡ 0 = h.1 in absurd (omega arith)
                | inr (inr h) ↦ by_rule (IsSmallRule d several s) s rules ranks made.complete has has.is.0 (λ i b listed. fields b (step_listed s i b within (ap (λ l. slice_get l i) (sym h.2) ∙ listed)))
              ]
        ]

    small_grounded : (s : ℕ) → IsDerived ranks s → (IsDerived several s → ⊥) ⊎ IsBuiltLower d ranks s
    small_grounded s derived =
        elim (cases_below s (length old)) [
          | inl less ↦ elim (before.grounded s (small_old s less derived)) [
            | inl none ↦ inl (λ h. let e = stayed s (in_known s less) in none (omega arith))
            | inr built ↦
                let in_e : s < length e.sorts = subst (λ n. s < n) before.long less in
                let of_sort = made.stayed s less in
                inr (record {
                  sort = built.sort;
                  of_sort = sort_stays d e later s built.sort built.of_sort;
                  some = built.some;
                  derived = λ t step. small_new t (built.derived t (step_was d e later s t in_e step).0);
                  lower = λ t step.
                      let was = step_was d e later s t in_e step in
                      let of_field = made.stayed t (subst (λ n. t < n) (sym before.long) was.1) in
                      let lower = built.lower t was.0 in
                      omega arith;
                })
          ]
          | inr from ↦ by (made.grounded s from derived) (subst (λ n. s < n) made.long (derived_within ranks s derived))
        ]
      where
        by : IsGrounded rules ranks s → s < length d.sorts → (IsDerived several s → ⊥) ⊎ IsBuiltLower d ranks s
        by g within = of_body (body_of s (length (ctors_of d s)) g.rule.body.items is.1)
          where
            cause : ℕ
            cause = length old + g.cause

            same : cause ≡ s
            same = sym (are.each g.cause g.rule g.stated).0 ∙ g.head

            is : IsSmallRule d several s g.rule
            is = subst (λ n. IsSmallRule d several n g.rule) same (are.each g.cause g.rule g.stated)

            of_body : ((get_or several s 0 ≡ 0) × (g.rule.body.items ≡ [])) ⊎ (((get_or several s 0 ≡ 0 → ⊥) × (length (ctors_of d s) ≡ 0) × (g.rule.body.items ≡ s ∷ [])) ⊎ ((get_or several s 0 ≡ 0 → ⊥) × (length (ctors_of d s) ≡ 0 → ⊥) × (g.rule.body.items ≡ sort_fields d s))) → (IsDerived several s → ⊥) ⊎ IsBuiltLower d ranks s
            of_body (inl (z, body)) = inl (λ h. omega arith)
            of_body (inr (inl h)) =
                let l : get_or ranks s 0 < get_or ranks s 0 = g.lower 0 s (ap (λ l. slice_get l 0) h.2) in
                absurd (omega arith)
            of_body (inr (inr h)) =
                let sort = slice_get-there d.sorts s within in
                let count : length (ctors_of d s) ≡ length sort.0.ctors = ap length (ctors_at s sort.0 sort.1) in
                let some : 0 < length sort.0.ctors = elim (cases_order 0 (length sort.0.ctors)) [ inl e ↦ absurd (h.1 (count ∙ sym e)) | inr (inl less) ↦ less | inr (inr more) ↦ absurd (omega arith) ] in
                inr (record {
                  sort = sort.0;
                  of_sort = sort.1;
                  some = some;
                  derived = λ t step. let at = listed_step s t step in g.ready at.0 t (ap (λ l. slice_get l at.0) h.2 ∙ at.1);
                  lower = λ t step. let at = listed_step s t step in g.lower at.0 t (ap (λ l. slice_get l at.0) h.2 ∙ at.1);
                })

    pub small_from : AreSmall d several ranks
    small_from = record { long = made.long; single = small_single; built = small_built; grounded = small_grounded }
