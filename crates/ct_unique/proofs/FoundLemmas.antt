-- One more pair.
use Rattle.std.proofs.Common.{◌≡◌, ℕ, ◌<◌, ◌⊎◌, Bool, true, false, cond, nat_eq, List, [], ◌∷◌, ◌++◌, length, slice_get, Option, Some, None, Decides, is_some, refl, sym, ap, subst, ◌∙◌, inl, inr, arith, true≢false, append-nil, append_assoc, length-append}
use Rattle.std.proofs.lemmas.Bool.Decides.{Decides-and, Decides-eqb}
use Rattle.std.proofs.lemmas.Option.{none-some, same_Some}
use Rattle.ct_lemmas.proofs.Lists.{slice_get-append_left, slice_get-last, slice_get-push_cases}
use Rattle.indexmap.specs.IndexMap.{IndexMap, get}
use Rattle.ct_rules.specs.declared.equation.Equation.{Equation}
use Rattle.ct_congr.specs.State.{State}
use Rattle.ct_unique.specs.declared.found.Key.{Key}
use Rattle.ct_unique.specs.Found.{same_key, key_of, IsIndexed, room, IsAdded, IsOpen, IsMore}
use Rattle.ct_unique.proofs.RoomLemmas.{missing_pairs-less}

-- two keys are the same exactly where the derived test says so
Decides-same_key : (a b : Key) → Decides (same_key a b) (a ≡ b)
Decides-same_key a b =
    let both = Decides-and (nat_eq a.left.0 b.left.0) (nat_eq a.right.0 b.right.0) (Decides-eqb a.left.0 b.left.0) (Decides-eqb a.right.0 b.right.0) in
    (λ h i. record { left = record { 0 = (both.0 h).0 i }; right = record { 0 = (both.0 h).1 i } }, λ e. both.1 (ap (λ k. k.left.0) e, ap (λ k. k.right.0) e))

-- options that have a value
pub some_of : {X : Type 0} (o : Option X) → is_some o ≡ true → (x : X) × (o ≡ Some x)
some_of None h = absurd (true≢false (sym h))
some_of (Some x) h = (x, refl)

pub none_of : {X : Type 0} (o : Option X) → is_some o ≡ false → o ≡ None
none_of None h = refl
none_of (Some x) h = absurd (true≢false h)

module _ {S : Type 0} (state : State) (index : IndexMap Key ℕ S) (pairs : List Equation) (pair : Equation) (key : Key) (left : slice_get state.reps pair.left.0 ≡ Some key.left) (right : slice_get state.reps pair.right.0 ≡ Some key.right) (indexed : IsIndexed state index pairs) where
  -- a pair of the classes was there
  pub IsAdded-old : (place : ℕ) → get same_key index key ≡ Some place → IsAdded state index pairs index pairs pair
  IsAdded-old place under =
      let h = indexed.stored key place under in
      record {
        rest = [];
        grown = sym (append-nil pairs);
        only = λ k e at. inl at;
        stands = record { pair = h.0; place = place; at = h.1; left = (key.left, left, h.2); right = (key.right, h.3, right) };
        indexed = indexed;
        spent = omega arith;
      }

  module _ {T : Type 0} (more : IndexMap Key ℕ T) (place : ℕ) (writes : (k : Key) → get same_key more k ≡ cond (same_key key k) (Some place) (get same_key index k)) (absent : get same_key index key ≡ None) where
    stay : (k : Key) (p : ℕ) → get same_key index k ≡ Some p → get same_key more k ≡ Some p
    stay k p had = writes k ∙ at (same_key key k) refl
      where
        at : (b : Bool) → same_key key k ≡ b → cond b (Some place) (get same_key index k) ≡ Some p
        at true e =
            let is : key ≡ k = (Decides-same_key key k).0 e in
            absurd (none-some p (sym absent ∙ ap (get same_key index) is ∙ had))
        at false e = had

    only_new : (k : Key) (p : ℕ) → get same_key more k ≡ Some p → (get same_key index k ≡ Some p) ⊎ ((k ≡ key) × (p ≡ place))
    only_new k p has = at (same_key key k) refl (sym (writes k) ∙ has)
      where
        at : (b : Bool) → same_key key k ≡ b → cond b (Some place) (get same_key index k) ≡ Some p → (get same_key index k ≡ Some p) ⊎ ((k ≡ key) × (p ≡ place))
        at true e now = inr (sym ((Decides-same_key key k).0 e), same_Some p place (sym now))
        at false e now = inl now

    under : get same_key more key ≡ Some place
    under = writes key ∙ ap (λ b. cond b (Some place) (get same_key index key)) ((Decides-same_key key key).1 refl)

    less : key.left.0 < length state.terms → key.right.0 < length state.terms → room state more < room state index
    less left_in right_in =
        missing_pairs-less (λ l r. is_some (get same_key index (key_of l r))) (λ l r. is_some (get same_key more (key_of l r)))
        (λ l r h. let p = some_of (get same_key index (key_of l r)) h in ap is_some (stay (key_of l r) p.0 p.1))
        (length state.terms) (length state.terms) key.left.0 key.right.0 left_in right_in (ap is_some absent) (ap is_some under)

    -- none was
    pub IsAdded-new : (after : List Equation) → key.left.0 < length state.terms → key.right.0 < length state.terms → place ≡ length pairs → after ≡ pairs ++ pair ∷ [] → IsAdded state index pairs more after pair
    IsAdded-new after left_in right_in at_end e =
        let last : slice_get after place ≡ Some pair = ap (λ (list : List Equation). slice_get list place) e ∙ ap (slice_get (pairs ++ pair ∷ [])) at_end ∙ slice_get-last pairs pair in
        record {
          rest = pair ∷ [];
          grown = e;
          only = λ k f at. elim (slice_get-push_cases pairs pair f k (subst (λ (list : List Equation). slice_get list k ≡ Some f) e at)) [
            | inl had ↦ inl had
            | inr new ↦ inr (sym new.1)
          ];
          stands = record { pair = pair; place = place; at = last; left = (key.left, left, left); right = (key.right, right, right) };
          indexed = record {
            stored = λ k p now. elim (only_new k p now) [
              | inl had ↦
                  let h = indexed.stored k p had in
                  (h.0, subst (λ (list : List Equation). slice_get list p ≡ Some h.0) (sym e) (slice_get-append_left pairs (pair ∷ []) p h.0 h.1), h.2, h.3)
              | inr new ↦ (
                pair,
                ap (slice_get after) new.1 ∙ last,
                left ∙ ap (λ (q : Key). Some q.left) (sym new.0),
                right ∙ ap (λ (q : Key). Some q.right) (sym new.0),
              )
            ];
            listed = λ k f q at at_left at_right. elim (slice_get-push_cases pairs pair f k (subst (λ (list : List Equation). slice_get list k ≡ Some f) e at)) [
              | inl had ↦ stay q k (indexed.listed k f q had at_left at_right)
              | inr new ↦
                  let left_is : key.left ≡ q.left = same_Some key.left q.left (sym left ∙ subst (λ (g : Equation). slice_get state.reps g.left.0 ≡ Some q.left) (sym new.1) at_left) in
                  let right_is : key.right ≡ q.right = same_Some key.right q.right (sym right ∙ subst (λ (g : Equation). slice_get state.reps g.right.0 ≡ Some q.right) (sym new.1) at_right) in
                  let is : key ≡ q = λ i. record { left = left_is i; right = right_is i } in
                  let here : place ≡ k = at_end ∙ sym new.0 in
                  ap (get same_key more) (sym is) ∙ under ∙ ap Some here
            ];
          };
          spent = omega (arith, less left_in right_in, ap length e, length-append pairs (pair ∷ []));
        }

-- ---- more pairs of one block

pub IsMore-none : {S : Type 0} (state : State) (blocks : List ℕ) (IsNeeded : Equation → Type 0) (index : IndexMap Key ℕ S) (pairs : List Equation) → IsIndexed state index pairs → IsMore state blocks IsNeeded index pairs index pairs
IsMore-none state blocks IsNeeded index pairs indexed = record {
  rest = [];
  grown = sym (append-nil pairs);
  only = λ k e at. inl at;
  indexed = indexed;
  spent = omega arith;
}

pub IsMore-added : {S T : Type 0} (state : State) (blocks : List ℕ) (IsNeeded : Equation → Type 0) (old : IndexMap Key ℕ S) (before : List Equation) (new : IndexMap Key ℕ T) (after : List Equation) (pair : Equation) → IsAdded state old before new after pair → IsOpen state blocks pair → IsNeeded pair → IsMore state blocks IsNeeded old before new after
IsMore-added state blocks IsNeeded old before new after pair added opens needed = record {
  rest = added.rest;
  grown = added.grown;
  only = λ k e at. elim (added.only k e at) [ inl had ↦ inl had | inr is ↦ inr (subst (IsOpen state blocks) (sym is) opens, subst IsNeeded (sym is) needed) ];
  indexed = added.indexed;
  spent = added.spent;
}

pub IsMore-trans : {S T U : Type 0} (state : State) (blocks : List ℕ) (IsNeeded : Equation → Type 0) (old : IndexMap Key ℕ S) (before : List Equation) (mid : IndexMap Key ℕ T) (between : List Equation) (new : IndexMap Key ℕ U) (after : List Equation) → IsMore state blocks IsNeeded old before mid between → IsMore state blocks IsNeeded mid between new after → IsMore state blocks IsNeeded old before new after
IsMore-trans state blocks IsNeeded old before mid between new after p q = record {
  rest = p.rest ++ q.rest;
  grown = q.grown ∙ ap (λ (list : List Equation). list ++ q.rest) p.grown ∙ append_assoc before p.rest q.rest;
  only = λ k e at. elim (q.only k e at) [ inl had ↦ p.only k e had | inr new ↦ inr new ];
  indexed = q.indexed;
  spent = omega (arith, p.spent, q.spent);
}

-- they are needed for something else too
pub IsMore-weaker : {S T : Type 0} (state : State) (blocks : List ℕ) (P Q : Equation → Type 0) (old : IndexMap Key ℕ S) (before : List Equation) (new : IndexMap Key ℕ T) (after : List Equation) → ((e : Equation) → P e → Q e) → IsMore state blocks P old before new after → IsMore state blocks Q old before new after
IsMore-weaker state blocks P Q old before new after each more = record {
  rest = more.rest;
  grown = more.grown;
  only = λ k e at. elim (more.only k e at) [ inl had ↦ inl had | inr new ↦ inr (new.0, each e new.1) ];
  indexed = more.indexed;
  spent = more.spent;
}
