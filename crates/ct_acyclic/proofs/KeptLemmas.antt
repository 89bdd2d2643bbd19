-- The points that are kept, and the order of what is kept of a topological order.
use Rattle.std.proofs.Common.{◌≡◌, ℕ, ◌+◌, ◌-◌, ◌<◌, List, [], ◌∷◌, ◌++◌, length, slice_get, Some, sym, ap, subst, ◌∙◌, inl, inr, arith, length-append}
use Rattle.std.proofs.lemmas.Bool.{cases_order}
use Rattle.std.proofs.lemmas.Option.{none-some, same_Some, slice_get_within}
use Rattle.ct_lemmas.proofs.Lists.{slice_get-append_left, slice_get-last, slice_get-push_cases}
use Rattle.ct_terms.specs.declared.ids.TermId.{TermId}
use Rattle.ct_ordering.specs.Graph.{graph}
use Rattle.ct_ordering.specs.Order.{IsOrder}
use Rattle.ct_congr.specs.State.{State}
use Rattle.ct_acyclic.specs.Order.{IsDataClass, IsClassOrder}
use Rattle.ct_acyclic.specs.Edges.{AreRows, IsRow, AreKept}

module _ (state : State) (points : List ℕ) where
  pub AreKept-none : AreKept state points 0 []
  AreKept-none = record {
    only = λ k t at. absurd (none-some t at);
    each = λ j t before. absurd (omega (arith, before));
    ordered = λ k l s t less at. absurd (none-some s at);
  }

  module _ (count : ℕ) (t : TermId) (list : List TermId) (here : slice_get points count ≡ Some t.0) (old : AreKept state points count list) where
    -- the term at the count
    same : (u : TermId) (j : ℕ) → j ≡ count → slice_get points j ≡ Some u.0 → t ≡ u
    same u j e at = let n : t.0 ≡ u.0 = same_Some t.0 u.0 (sym here ∙ ap (slice_get points) (sym e) ∙ at) in λ i. record { 0 = n i }

    pub AreKept-skip : (IsDataClass state t → ⊥) → AreKept state points (count + 1) list
    AreKept-skip other = record {
      only = λ k u at. let h = old.only k u at in (h.0, (h.1.0, omega (arith, h.1.1), h.1.2));
      each = λ j u before at is. elim (cases_order j count) [
        | inl e ↦ absurd (other (subst (IsDataClass state) (sym (same u j e at)) is))
        | inr h ↦ elim h [ inl less ↦ old.each j u less at is | inr greater ↦ absurd (omega (arith, before, greater)) ]
      ];
      ordered = λ k l s u less at_s at_u. let h = old.ordered k l s u less at_s at_u in (h.0, h.1, h.2, omega (arith, h.3), h.4, h.5);
    }

    pub AreKept-push : IsDataClass state t → AreKept state points (count + 1) (list ++ t ∷ [])
    AreKept-push mine = record {
      only = λ k u at. elim (slice_get-push_cases list t u k at) [
        | inl had ↦ let h = old.only k u had in (h.0, (h.1.0, omega (arith, h.1.1), h.1.2))
        | inr new ↦ (subst (IsDataClass state) new.1 mine, (count, omega arith, subst (λ (v : TermId). slice_get points count ≡ Some v.0) new.1 here))
      ];
      each = λ j u before at is. elim (cases_order j count) [
        | inl e ↦ (length list, slice_get-last list t ∙ ap Some (same u j e at))
        | inr h ↦ elim h [
          | inl less ↦ let found = old.each j u less at is in (found.0, slice_get-append_left list (t ∷ []) found.0 u found.1)
          | inr greater ↦ absurd (omega (arith, before, greater))
        ]
      ];
      ordered = λ k l s u less at_s at_u. elim (slice_get-push_cases list t s k at_s) [
        | inl had ↦ elim (slice_get-push_cases list t u l at_u) [
          | inl also ↦ let h = old.ordered k l s u less had also in (h.0, h.1, h.2, omega (arith, h.3), h.4, h.5)
          | inr new ↦
              let h = (old.only k s had).1 in
              (h.0, count, h.1, omega arith, h.2, subst (λ (v : TermId). slice_get points count ≡ Some v.0) new.1 here)
        ]
        | inr first ↦
            let within = slice_get_within (list ++ t ∷ []) l u at_u in
            absurd (omega (arith, within, first.0, less, length-append list (t ∷ [])))
      ];
    }

-- what is kept of a topological order of the graph is an order of the classes
pub IsClassOrder-of : (state : State) (starts kids points : List ℕ) (list : List TermId) → length state.reps ≡ length state.terms → AreRows (length state.terms) (IsRow state) (length state.terms) starts kids → IsOrder (graph starts kids) points → AreKept state points (length points) list → IsClassOrder state list
IsClassOrder-of state starts kids points list long rows order kept =
    let count : length starts - 1 ≡ length state.terms = omega (arith, rows.long) in
    let apart : (k l : ℕ) (t : TermId) → k < l → slice_get list k ≡ Some t → slice_get list l ≡ Some t → ⊥ =
    λ k l t less at_k at_l.
    let h = kept.ordered k l t t less at_k at_l in
    let e = order.once t.0 h.0 h.1 h.4 h.5 in
    omega (arith, e, h.2) in
    record {
      only = λ k t at. (kept.only k t at).0;
      each = λ t is.
          let inside = slice_get_within state.reps t.0 t is.own in
          let found = order.each t.0 (omega (arith, inside, long, count)) in
          kept.each found.0 t (slice_get_within points found.0 t.0 found.1) found.1 is;
      once = λ k l t at_k at_l. elim (cases_order k l) [
        | inl e ↦ e
        | inr h ↦ elim h [ inl less ↦ absurd (apart k l t less at_k at_l) | inr greater ↦ absurd (apart l k t greater at_l at_k) ]
      ];
      after = λ t next con place earlier later equal leads at_next at_t.
          let own = (kept.only later t at_t).0.own in
          let own_next = (kept.only earlier next at_next).0.own in
          let inside = slice_get_within state.reps t.0 t own in
          let kid = (rows.rows t.0 (omega (arith, inside, long))).all con next place own own_next equal leads in
          elim (cases_order earlier later) [
            | inl e ↦
                let is : next ≡ t = same_Some next t (sym at_next ∙ ap (slice_get list) e ∙ at_t) in
                let h = (kept.only later t at_t).1 in
                let less = order.before t.0 place next.0 h.0 h.0 kid (subst (λ (v : TermId). slice_get points h.0 ≡ Some v.0) (sym is) h.2) h.2 in
                absurd (omega (arith, less))
            | inr h ↦ elim h [
              | inl less ↦ less
              | inr greater ↦
                  let o = kept.ordered later earlier t next greater at_t at_next in
                  let less = order.before t.0 place next.0 o.1 o.0 kid o.5 o.4 in
                  absurd (omega (arith, less, o.2))
            ]
          ];
    }
