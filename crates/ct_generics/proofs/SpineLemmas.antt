-- Down the head of a shared expression, argument by argument, and numbers in a set.
use Rattle.std.proofs.Common.{◌≡◌, ℕ, ◌⊎◌, Bool, true, false, if◌then◌else◌, List, [], ◌∷◌, ◌++◌, reverse, Option, Some, None, slice_get, refl, sym, ap, subst, ◌∙◌, inl, inr}
use Rattle.std.specs.List.{list_any}
use Rattle.std.proofs.lemmas.Bool.Decides.{Decides-eqb}
use Rattle.std.proofs.lemmas.List.{reverse-append, append_assoc, append-nil}
use Rattle.std.proofs.lemmas.Option.{same_Some}
use Rattle.indexmap.specs.IndexSet.{insert_key}
use Rattle.std.proofs.lemmas.Bool.{true≢false}
use Rattle.ct_lemmas.proofs.Lists.{slice_get-append_left, slice_get-push_cases}
use Rattle.ct_generics.specs.declared.nodes.ExprId.{ExprId}
use Rattle.ct_generics.specs.declared.nodes.HeadId.{HeadId}
use Rattle.ct_generics.specs.declared.nodes.Node.{Node}
use Rattle.ct_generics.specs.declared.nodes.Node.TheVariants.{Param, Head, Apply}
use Rattle.ct_generics.specs.contracts.nodes.ExprIdPartialEq.TheImpl as derived
use Rattle.ct_generics.specs.Expression.{Expression, parameter, named, applied, head_of, args_of}
use Rattle.ct_generics.specs.Nodes.{Stands, Stay, StandFor, AreUnlike, IsSpine}
use Rattle.ct_generics.proofs.NodeLemmas.{Stands-one}
use Rattle.ct_generics.proofs.MarkLemmas.{list_any-at}

-- what is left of the expression above an inner one: its head is the same, and its last arguments are on the stack
pub record IsDown (nodes : List Node) (n : ℕ) (stack : List ExprId) (e : Expression) : Type 0 where
  pub inner : Expression
  pub rest : List Expression
  pub stands : Stands nodes n inner
  pub top : head_of e ≡ head_of inner
  pub args : args_of e ≡ args_of inner ++ rest
  pub under : StandFor nodes (reverse stack) rest

pub IsDown-start : (nodes : List Node) (n : ℕ) (e : Expression) → Stands nodes n e → IsDown nodes n [] e
IsDown-start nodes n e stands = record { inner = e; rest = []; stands = stands; top = refl; args = sym (append-nil (args_of e)); under = tt }

same_parts : (m n k l : ExprId) → Apply m k ≡ Apply n l → (m ≡ n) × (k ≡ l)
same_parts m n k l e = (cc, cc)

-- one argument further down
pub IsDown-step : (nodes : List Node) (n : ℕ) (m k : ExprId) (stack : List ExprId) (e : Expression) → slice_get nodes n ≡ Some (Apply m k) → IsDown nodes n stack e → IsDown nodes m.0 (stack ++ k ∷ []) e
IsDown-step nodes n m k stack e at down = by down.inner down.stands down.top down.args
  where
    by : (inner : Expression) → Stands nodes n inner → head_of e ≡ head_of inner → args_of e ≡ args_of inner ++ down.rest → IsDown nodes m.0 (stack ++ k ∷ []) e
    by (parameter i) stands top args = absurd (let f = same_Some (Apply m k) (Param i) (sym at ∙ stands) in cc)
    by (named h) stands top args = absurd (let f = same_Some (Apply m k) (Head (record { 0 = h })) (sym at ∙ stands) in cc)
    by (applied f a) stands top args =
        let parts = same_parts stands.0 m stands.1 k (same_Some (Apply stands.0 stands.1) (Apply m k) (sym stands.2 ∙ at)) in
        record {
          inner = f;
          rest = a ∷ down.rest;
          stands = subst (λ (x : ExprId). Stands nodes x.0 f) parts.0 stands.3;
          top = top;
          args = args ∙ append_assoc (args_of f) (a ∷ []) down.rest;
          under = subst (λ (ids : List ExprId). StandFor nodes ids (a ∷ down.rest)) (sym (reverse-append stack (k ∷ []))) (subst (λ (x : ExprId). Stands nodes x.0 a) parts.1 stands.4, down.under);
        }

-- the head at the bottom
pub top_head : (nodes : List Node) (n : ℕ) (h : HeadId) (e : Expression) → slice_get nodes n ≡ Some (Head h) → Stands nodes n e → (Some h.0 ≡ head_of e) × (args_of e ≡ [])
top_head nodes n h e at stands = subst (λ (f : Expression). (Some h.0 ≡ head_of f) × (args_of f ≡ [])) (Stands-one nodes n (named h.0) e at stands) (refl, refl)

pub top_param : (nodes : List Node) (n i : ℕ) (e : Expression) → slice_get nodes n ≡ Some (Param i) → Stands nodes n e → (None ≡ head_of e) × (args_of e ≡ [])
top_param nodes n i e at stands = subst (λ (f : Expression). (None ≡ head_of f) × (args_of f ≡ [])) (Stands-one nodes n (parameter i) e at stands) (refl, refl)

-- all arguments, once the head is reached
pub IsSpine-from : (nodes : List Node) (n : ℕ) (stack : List ExprId) (e : Expression) (head : Option ℕ) → ((f : Expression) → Stands nodes n f → (head ≡ head_of f) × (args_of f ≡ [])) → IsDown nodes n stack e → IsSpine nodes head (reverse stack) e
IsSpine-from nodes n stack e head bottom down =
    let at = bottom down.inner down.stands in
    record {
      top = at.0 ∙ sym down.top;
      under = subst (StandFor nodes (reverse stack)) (sym (down.args ∙ ap (λ (es : List Expression). es ++ down.rest) at.1)) down.under;
    }

-- ---- numbers in a set

own_id : (id : ExprId) → derived.eq-value.it id id ≡ true
own_id id = (Decides-eqb id.0 id.0).1 refl

absent : (ids : List ExprId) (id : ExprId) → list_any (derived.eq-value.it id) ids ≡ false → (i : ℕ) → slice_get ids i ≡ Some id → ⊥
absent ids id none i at = true≢false (sym (list_any-at (derived.eq-value.it id) ids i id at (own_id id)) ∙ none)

by_insertion : (P : List ExprId → Type 0) (old new : List ExprId) (id : ExprId) → new ≡ insert_key derived.eq-value.it old id → P old → (((i : ℕ) → slice_get old i ≡ Some id → ⊥) → P (old ++ id ∷ [])) → P new
by_insertion P old new id is stored added = subst P (sym is) (by (list_any (derived.eq-value.it id) old) refl)
  where
    by : (b : Bool) → list_any (derived.eq-value.it id) old ≡ b → P (if b then old else old ++ id ∷ [])
    by true e = stored
    by false e = added (absent old id e)

pub AreUnlike-inserted : (old new : List ExprId) (id : ExprId) → new ≡ insert_key derived.eq-value.it old id → AreUnlike old → AreUnlike new
AreUnlike-inserted old new id is single = by_insertion AreUnlike old new id is single push
  where
    push : ((i : ℕ) → slice_get old i ≡ Some id → ⊥) → AreUnlike (old ++ id ∷ [])
    push fresh m n other at_m at_n =
        elim (slice_get-push_cases old id other m at_m) [
          | inl m_before ↦ elim (slice_get-push_cases old id other n at_n) [
            | inl n_before ↦ single m n other m_before n_before
            | inr n_last ↦ absurd (fresh m (m_before ∙ ap Some (sym n_last.1)))
          ]
          | inr m_last ↦ elim (slice_get-push_cases old id other n at_n) [
            | inl n_before ↦ absurd (fresh n (n_before ∙ ap Some (sym m_last.1)))
            | inr n_last ↦ m_last.0 ∙ sym n_last.0
          ]
        ]

pub Stay-inserted_id : (old new : List ExprId) (id : ExprId) → new ≡ insert_key derived.eq-value.it old id → Stay old new
Stay-inserted_id old new id is = by_insertion (Stay old) old new id is (λ n x at. at) (λ _ n x at. slice_get-append_left old (id ∷ []) n x at)

pub only-inserted : (old new : List ExprId) (id : ExprId) → new ≡ insert_key derived.eq-value.it old id → (i : ℕ) (other : ExprId) → slice_get new i ≡ Some other → (slice_get old i ≡ Some other) ⊎ (other ≡ id)
only-inserted old new id is =
    by_insertion (λ (ids : List ExprId). (i : ℕ) (other : ExprId) → slice_get ids i ≡ Some other → (slice_get old i ≡ Some other) ⊎ (other ≡ id)) old new id is (λ i other at. inl at) (λ _ i other at. elim (slice_get-push_cases old id other i at) [ inl before ↦ inl before | inr last ↦ inr (sym last.1) ])
