-- The trail as it grows and is cut.
use Rattle.std.proofs.Common.{◌≡◌, ℕ, zero, suc, ◌+◌, ◌<◌, ◌≤◌, ◌^◌, ◌⊎◌, inl, inr, Bool, true, false, not, List, [], ◌∷◌, ◌++◌, length, take, set, replicate, Option, Some, None, slice_get, Contains, refl, sym, ap, subst, ◌∙◌, arith}
use Rattle.std.proofs.lemmas.Option.{none-some, same_Some, slice_get_within}
use Rattle.std.proofs.lemmas.List.{length-set, length_push, take_all, length-replicate}
use Rattle.ct_lemmas.proofs.Contained.{Contains-from_slice_get}
use Rattle.ct_lemmas.proofs.Lists.{slice_get-append_left, slice_get-last, slice_get-push_cases, slice_get-set_other, slice_get-set_same, slice_get-there}
use Rattle.ct_lemmas.proofs.Numbers.{order_cases, same_or_other}
use Rattle.ct_lemmas.proofs.Prefixes.{slice_get-take, slice_get-take_below, take-slice_get, take-slice_get_next}
use Rattle.ct_terms.specs.declared.ids.Lit.{Lit}
use Rattle.ct_terms.specs.Literal.{opposite}
use Rattle.ct_sat.specs.declared.decided.Decided.{Decided}
use Rattle.ct_sat.specs.State.{IsConsistent}
use Rattle.ct_sat.specs.Trail.{unset_count, AreIndexed, AreDecisions, IsWhole}
use Rattle.ct_sat.specs.Status.{IsUnset}

-- two signs are one, or opposites
signs : (a b : Bool) → (a ≡ b) ⊎ (a ≡ not b)
signs true true = inl refl
signs true false = inr refl
signs false true = inr refl
signs false false = inl refl

-- two literals of one term are one, or opposites
pub one_or_opposite : (k l : Lit) → k.term.0 ≡ l.term.0 → (k ≡ l) ⊎ (k ≡ opposite l)
one_or_opposite k l e =
    let of : ℕ → Bool → Lit = λ n b. record { term = record { 0 = n }; positive = b } in
    elim (signs k.positive l.positive) [
      | inl p ↦ inl (ap (λ (n : ℕ). of n k.positive) e ∙ ap (λ (b : Bool). of l.term.0 b) p)
      | inr p ↦ inr (ap (λ (n : ℕ). of n k.positive) e ∙ ap (λ (b : Bool). of l.term.0 b) p)
    ]

-- a literal without a value has no literal of its term in the list
pub no_literal : (literals : List Lit) (l : Lit) → IsUnset literals l → (i : ℕ) (k : Lit) → slice_get literals i ≡ Some k → k.term.0 ≡ l.term.0 → ⊥
no_literal literals l unset i k at same =
    elim (one_or_opposite k l same) [
      | inl e ↦ unset.0 (subst (Contains literals) e (Contains-from_slice_get literals i k at))
      | inr e ↦ unset.1 (subst (Contains literals) e (Contains-from_slice_get literals i k at))
    ]

-- the index of one term is set, or unset again
unset_count-set_some : (indices : List (Option ℕ)) (t i : ℕ) → slice_get indices t ≡ Some None → unset_count indices ≡ unset_count (set indices t (Some i)) + 1
unset_count-set_some [] t i e = absurd (none-some _ e)
unset_count-set_some (None ∷ indices) zero i e = omega arith
unset_count-set_some (Some k ∷ indices) zero i e = absurd (none-some k (sym (same_Some (Some k) None e)))
unset_count-set_some (None ∷ indices) (suc t) i e = let h = unset_count-set_some indices t i e in omega arith
unset_count-set_some (Some k ∷ indices) (suc t) i e = unset_count-set_some indices t i e

unset_count-set_none : (indices : List (Option ℕ)) (t i : ℕ) → slice_get indices t ≡ Some (Some i) → unset_count (set indices t None) ≡ unset_count indices + 1
unset_count-set_none [] t i e = absurd (none-some _ e)
unset_count-set_none (None ∷ indices) zero i e = absurd (none-some i (same_Some None (Some i) e))
unset_count-set_none (Some k ∷ indices) zero i e = omega arith
unset_count-set_none (None ∷ indices) (suc t) i e = let h = unset_count-set_none indices t i e in omega arith
unset_count-set_none (Some k ∷ indices) (suc t) i e = unset_count-set_none indices t i e

-- at first no term stands anywhere
unset_count-replicate : (n : ℕ) → unset_count (replicate n None) ≡ n
unset_count-replicate zero = refl
unset_count-replicate (suc n) = ap suc (unset_count-replicate n)

slice_get-replicate : (n t : ℕ) (r : Option ℕ) → slice_get (replicate n None) t ≡ Some r → r ≡ None
slice_get-replicate zero t r e = absurd (none-some r e)
slice_get-replicate (suc n) zero r e = sym (same_Some None r e)
slice_get-replicate (suc n) (suc t) r e = slice_get-replicate n t r e

pub AreIndexed-start : (n : ℕ) (indices : List (Option ℕ)) → indices ≡ replicate n None → n < 2 ^ 32 → AreIndexed [] [] indices
AreIndexed-start n indices is few = record {
  one_each = refl;
  indexed = λ i l e. absurd (none-some l e);
  found = λ t i e. absurd (none-some i (sym (slice_get-replicate n t (Some i) (ap (λ (ps : List (Option ℕ)). slice_get ps t) (sym is) ∙ e))));
  room = (let count : unset_count indices ≡ n = ap unset_count is ∙ unset_count-replicate n in let wide = long in omega arith);
  few = subst (λ (k : ℕ). k < 2 ^ 32) (sym long) few;
}
  where
    long : length indices ≡ n
    long = ap length is ∙ length-replicate n None

pub AreDecisions-start : AreDecisions [] [] []
AreDecisions-start = record {
  stand = λ j d e. absurd (none-some _ e);
  in_order = λ i j d e h at. absurd (none-some _ at);
  counted = λ j d e. absurd (none-some _ e);
  each = λ i e. absurd (none-some _ e);
}

-- a term without a literal has no index
pub index_unset : (literals : List Lit) (reasons indices : List (Option ℕ)) (l : Lit) → AreIndexed literals reasons indices → IsUnset literals l → l.term.0 < length indices → slice_get indices l.term.0 ≡ Some None
index_unset literals reasons indices l indexed unset within =
    let at = slice_get-there indices l.term.0 within in by at.0 at.1
  where
    by : (o : Option ℕ) → slice_get indices l.term.0 ≡ Some o → slice_get indices l.term.0 ≡ Some None
    by None e = e
    by (Some i) e = let f = indexed.found l.term.0 i e in absurd (no_literal literals l unset i f.0 f.1 f.2)

-- there is room for a literal without a value
pub has_room : (literals : List Lit) (reasons indices : List (Option ℕ)) (l : Lit) → AreIndexed literals reasons indices → IsUnset literals l → l.term.0 < length indices → length literals < length indices
has_room literals reasons indices l indexed unset within =
    let count = unset_count-set_some indices l.term.0 0 (index_unset literals reasons indices l indexed unset within) in
    let room = indexed.room in omega arith

pub AreIndexed-push : (literals : List Lit) (reasons indices : List (Option ℕ)) (l : Lit) (r : Option ℕ) → AreIndexed literals reasons indices → IsUnset literals l → l.term.0 < length indices → AreIndexed (literals ++ l ∷ []) (reasons ++ r ∷ []) (set indices l.term.0 (Some (length literals)))
AreIndexed-push literals reasons indices l r old unset within = record {
  one_each = length_push reasons r ∙ ap (λ (n : ℕ). n + 1) old.one_each ∙ sym (length_push literals l);
  indexed = λ i k e. elim (slice_get-push_cases literals l k i e) [
    | inl before ↦ slice_get-set_other indices l.term.0 k.term.0 (Some (length literals)) (λ same. no_literal literals l unset i k before same) ∙ old.indexed i k before
    | inr last ↦ (let term : k.term.0 ≡ l.term.0 = ap (λ (m : Lit). m.term.0) (sym last.1) in
        ap (slice_get (set indices l.term.0 (Some (length literals)))) term ∙ slice_get-set_same indices l.term.0 (Some (length literals)) within ∙ ap (λ (n : ℕ). Some (Some n)) (sym last.0))
  ];
  found = λ t i e. elim (same_or_other t l.term.0) [
    | inl same ↦ (let at : Some (Some (length literals)) ≡ Some (Some i) = sym (slice_get-set_same indices l.term.0 (Some (length literals)) within) ∙ ap (slice_get (set indices l.term.0 (Some (length literals)))) (sym same) ∙ e in
        let is : length literals ≡ i = same_Some (length literals) i (same_Some (Some (length literals)) (Some i) at) in
        (l, ap (slice_get (literals ++ l ∷ [])) (sym is) ∙ slice_get-last literals l, sym same))
    | inr other ↦ (let f = old.found t i (sym (slice_get-set_other indices l.term.0 t (Some (length literals)) other) ∙ e) in
        (f.0, slice_get-append_left literals (l ∷ []) i f.0 f.1, f.2))
  ];
  room = (let count = unset_count-set_some indices l.term.0 (length literals) (index_unset literals reasons indices l old unset within) in
      let long = length-set indices l.term.0 (Some (length literals)) in
      let more = length_push literals l in
      let room = old.room in omega arith);
  few = (let long = length-set indices l.term.0 (Some (length literals)) in let few = old.few in omega arith);
}

pub AreIndexed-pop : (literals : List Lit) (reasons indices : List (Option ℕ)) (l : Lit) (r : Option ℕ) → AreIndexed (literals ++ l ∷ []) (reasons ++ r ∷ []) indices → AreIndexed literals reasons (set indices l.term.0 None)
AreIndexed-pop literals reasons indices l r old = record {
  one_each = (let a = length_push literals l in let b = length_push reasons r in let e = old.one_each in omega arith);
  indexed = λ i k e. slice_get-set_other indices l.term.0 k.term.0 None
      (λ same.
      let here = old.indexed i k (slice_get-append_left literals (l ∷ []) i k e) in
      let both : Some (Some (length literals)) ≡ Some (Some i) = sym last_at ∙ ap (slice_get indices) (sym same) ∙ here in
      let is : length literals ≡ i = same_Some (length literals) i (same_Some (Some (length literals)) (Some i) both) in
      let within = slice_get_within literals i k e in omega arith)
      ∙ old.indexed i k (slice_get-append_left literals (l ∷ []) i k e);
  found = λ t i e. elim (same_or_other t l.term.0) [
    | inl same ↦ (let at : Some None ≡ Some (Some i) = sym (slice_get-set_same indices l.term.0 None within_l) ∙ ap (slice_get (set indices l.term.0 None)) (sym same) ∙ e in
        absurd (none-some i (same_Some None (Some i) at)))
    | inr other ↦ (let f = old.found t i (sym (slice_get-set_other indices l.term.0 t None other) ∙ e) in
        elim (slice_get-push_cases literals l f.0 i f.1) [
          | inl before ↦ (f.0, before, f.2)
          | inr last ↦ absurd (other (sym f.2 ∙ ap (λ (m : Lit). m.term.0) (sym last.1)))
        ])
  ];
  room = (let count = unset_count-set_none indices l.term.0 (length literals) last_at in
      let long = length-set indices l.term.0 None in
      let more = length_push literals l in
      let room = old.room in omega arith);
  few = (let long = length-set indices l.term.0 None in let few = old.few in omega arith);
}
  where
    last_at : slice_get indices l.term.0 ≡ Some (Some (length literals))
    last_at = old.indexed (length literals) l (slice_get-last literals l)

    within_l : l.term.0 < length indices
    within_l = slice_get_within indices l.term.0 (Some (length literals)) last_at

-- no term stands twice
pub AreIndexed-consistent : (literals : List Lit) (reasons indices : List (Option ℕ)) → AreIndexed literals reasons indices → IsConsistent literals
AreIndexed-consistent literals reasons indices indexed i j l k at_i at_j same =
    let both : Some (Some i) ≡ Some (Some j) = sym (indexed.indexed i l at_i) ∙ ap (slice_get indices) same ∙ indexed.indexed j k at_j in
    same_Some i j (same_Some (Some i) (Some j) both)

-- there are no more decisions than literals
pub decisions_fit : (literals : List Lit) (reasons : List (Option ℕ)) (decided : List Decided) → AreDecisions literals reasons decided → length decided ≤ length literals
decisions_fit literals reasons [] h = omega arith
decisions_fit literals reasons (d ∷ ds) h =
    let last = slice_get-there (d ∷ ds) (length ds) (omega arith) in
    let a = h.counted (length ds) last.0 last.1 in
    let b = slice_get_within literals last.0.index last.0.literal (h.stand (length ds) last.0 last.1) in
    omega arith

pub AreDecisions-imply : (literals : List Lit) (reasons : List (Option ℕ)) (decided : List Decided) (l : Lit) (r : ℕ) → AreDecisions literals reasons decided → AreDecisions (literals ++ l ∷ []) (reasons ++ Some r ∷ []) decided
AreDecisions-imply literals reasons decided l r old = record {
  stand = λ j d e. slice_get-append_left literals (l ∷ []) d.index d.literal (old.stand j d e);
  in_order = old.in_order;
  counted = old.counted;
  each = λ i e. elim (slice_get-push_cases reasons (Some r) None i e) [ inl before ↦ old.each i before | inr last ↦ absurd (none-some r (sym last.1)) ];
}

pub AreDecisions-decide : (literals : List Lit) (reasons : List (Option ℕ)) (decided : List Decided) (l : Lit) → length reasons ≡ length literals → AreDecisions literals reasons decided → AreDecisions (literals ++ l ∷ []) (reasons ++ None ∷ []) (decided ++ record { literal = l; index = length literals } ∷ [])
AreDecisions-decide literals reasons decided l long old = record {
  stand = λ j d e. elim (slice_get-push_cases decided new d j e) [
    | inl before ↦ slice_get-append_left literals (l ∷ []) d.index d.literal (old.stand j d before)
    | inr last ↦ subst (λ (x : Decided). slice_get (literals ++ l ∷ []) x.index ≡ Some x.literal) last.1 (slice_get-last literals l)
  ];
  in_order = λ i j d e below at_i at_j. elim (slice_get-push_cases decided new d i at_i) [
    | inl d_old ↦ elim (slice_get-push_cases decided new e j at_j) [
      | inl e_old ↦ old.in_order i j d e below d_old e_old
      | inr last ↦ subst (λ (x : Decided). d.index < x.index) last.1 (slice_get_within literals d.index d.literal (old.stand i d d_old))
    ]
    | inr last ↦ (let within = slice_get_within (decided ++ new ∷ []) j e at_j in let more = length_push decided new in let i_is = last.0 in absurd (omega arith))
  ];
  counted = λ j d e. elim (slice_get-push_cases decided new d j e) [
    | inl before ↦ old.counted j d before
    | inr last ↦ (let fit = decisions_fit literals reasons decided old in
        let index : length literals ≡ d.index = ap (λ (x : Decided). x.index) last.1 in
        let j_is = last.0 in omega arith)
  ];
  each = λ i e. elim (slice_get-push_cases reasons None None i e) [
    | inl before ↦ (let o = old.each i before in (o.0, o.1, slice_get-append_left decided (new ∷ []) o.0 o.1 o.2, o.3))
    | inr last ↦ (length decided, new, slice_get-last decided new, sym long ∙ sym last.0)
  ];
}
  where
    new : Decided
    new = record { literal = l; index = length literals }

pub AreDecisions-cut : (literals : List Lit) (reasons : List (Option ℕ)) (decided : List Decided) (keep : ℕ) (next : Decided) → slice_get decided keep ≡ Some next → AreDecisions literals reasons decided → AreDecisions (take next.index literals) (take next.index reasons) (take keep decided)
AreDecisions-cut literals reasons decided keep next at old = record {
  stand = λ j d e. take-slice_get next.index literals d.index d.literal
      (old.in_order j keep d next (slice_get-take_below keep decided j d e) (slice_get-take keep decided j d e) at)
      (old.stand j d (slice_get-take keep decided j d e));
  in_order = λ i j d e below at_i at_j. old.in_order i j d e below (slice_get-take keep decided i d at_i) (slice_get-take keep decided j e at_j);
  counted = λ j d e. old.counted j d (slice_get-take keep decided j d e);
  each = λ i e.
      (let o = old.each i (slice_get-take next.index reasons i None e) in
      let below = slice_get-take_below next.index reasons i None e in
      let index = o.3 in
      elim (order_cases o.0 keep) [
        | inl h ↦ (o.0, o.1, take-slice_get keep decided o.0 o.1 h o.2, o.3)
        | inr h ↦ elim h [
          | inl same ↦ (let is : o.1 ≡ next = same_Some o.1 next (sym o.2 ∙ ap (slice_get decided) same ∙ at) in
              let at_next : o.1.index ≡ next.index = ap (λ (x : Decided). x.index) is in absurd (omega arith))
          | inr later ↦ (let after = old.in_order keep o.0 next o.1 later at o.2 in absurd (omega arith))
        ]
      ]);
}

-- what always holds of a trail
pub IsWhole-from : (literals : List Lit) (reasons indices : List (Option ℕ)) (decided : List Decided) → AreIndexed literals reasons indices → AreDecisions literals reasons decided → IsWhole (record { literals = literals; reasons = reasons; decided = decided; room = length indices })
IsWhole-from literals reasons indices decided indexed decisions = record {
  fits = (let room = indexed.room in omega arith);
  few = indexed.few;
  consistent = AreIndexed-consistent literals reasons indices indexed;
  decisions = decisions;
  below = λ i l at. slice_get_within indices l.term.0 (Some i) (indexed.indexed i l at);
}

-- a list is its first part and its last element
pub split_last : {X : Type 0} (xs : List X) (n : ℕ) (x : X) → length xs ≡ n + 1 → slice_get xs n ≡ Some x → xs ≡ take n xs ++ x ∷ []
split_last xs n x long at = sym (take_all (n + 1) xs (omega arith)) ∙ take-slice_get_next xs n x at

-- the last literal is taken back
pub AreIndexed-truncate : (literals : List Lit) (reasons indices : List (Option ℕ)) (n : ℕ) (l : Lit) → AreIndexed literals reasons indices → length literals ≡ n + 1 → slice_get literals n ≡ Some l → AreIndexed (take n literals) (take n reasons) (set indices l.term.0 None)
AreIndexed-truncate literals reasons indices n l indexed long at =
    let one_each = indexed.one_each in
    let r = slice_get-there reasons n (omega arith) in
    let by_literals : AreIndexed (take n literals ++ l ∷ []) reasons indices = subst (λ (xs : List Lit). AreIndexed xs reasons indices) (split_last literals n l long at) indexed in
    AreIndexed-pop (take n literals) (take n reasons) indices l r.0
    (subst (λ (rs : List (Option ℕ)). AreIndexed (take n literals ++ l ∷ []) rs indices) (split_last reasons n r.0 (omega arith) r.1) by_literals)
