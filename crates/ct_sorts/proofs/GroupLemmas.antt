-- Items in groups: the row of all items, with the number of each item's group and the item's index in it.
use Rattle.std.proofs.Common.{◌≡◌, ℕ, zero, suc, ◌+◌, ◌<◌, ◌⊎◌, List, [], ◌∷◌, ◌++◌, length, replicate, slice_get, Some, refl, sym, ◌∙◌, ap, subst, inl, inr, arith}
use Rattle.std.proofs.lemmas.Option.{none-some, same_Some, slice_get_within}
use Rattle.std.proofs.lemmas.List.{length-replicate}
use Rattle.std.proofs.lemmas.List.FromFn.{length-range_with_len}
use Rattle.std.specs.List.{flat_map, range_with_len}
use Rattle.ct_lemmas.proofs.Lists.{slice_get-append_after, slice_get-append_cases, slice_get-append_left}
use Rattle.ct_sorts.specs.Consistent.{owners, indices}
use Rattle.ct_sorts.proofs.Lists.{slice_get-numbers}

-- all items, one group after the other
abbrev pub row : {X : Type 0} → List (List X) → List X
row {X} groups = flat_map (λ (g : List X). g) groups

slice_get-replicate : {X : Type 0} (n : ℕ) (v : X) (i : ℕ) → i < n → slice_get (replicate n v) i ≡ Some v
slice_get-replicate zero v i h = absurd (omega arith)
slice_get-replicate (suc n) v zero h = refl
slice_get-replicate (suc n) v (suc i) h = slice_get-replicate n v i (omega arith)

-- where an item stands in the row, the number of its group and its index in the group stand beside it
pub record Stands {X : Type 0} (first : ℕ) (groups : List (List X)) (k g p : ℕ) (x : X) : Type 0 where
  pub item : slice_get (row groups) k ≡ Some x
  pub owner : slice_get (owners first groups) k ≡ Some (first + g)
  pub place : slice_get (indices groups) k ≡ Some p

-- in the first group
stands_here : {X : Type 0} (first : ℕ) (group : List X) (groups : List (List X)) (p : ℕ) (x : X) → slice_get group p ≡ Some x → Stands first (group ∷ groups) p 0 p x
stands_here {X} first group groups p x at =
    let within = slice_get_within group p x at in
    let e : first + 0 ≡ first = omega arith in
    record {
      item = slice_get-append_left group (row groups) p x at;
      owner = slice_get-append_left (replicate (length group) first) (owners (first + 1) groups) p _ (rw e (slice_get-replicate (length group) first p within));
      place = slice_get-append_left (range_with_len 0 (length group)) (indices groups) p p (slice_get-numbers 0 (length group) p within ∙ ap Some (omega arith));
    }

-- in a later group
stands_later : {X : Type 0} (first : ℕ) (group : List X) (groups : List (List X)) (k g p : ℕ) (x : X) → Stands (first + 1) groups k g p x → Stands first (group ∷ groups) (length group + k) (suc g) p x
stands_later {X} first group groups k g p x h =
    let e : first + suc g ≡ first + 1 + g = omega arith in
    record {
      item = slice_get-append_after group (row groups) k ∙ h.item;
      owner = subst (λ n. slice_get (replicate (length group) first ++ owners (first + 1) groups) (n + k) ≡ Some (first + suc g)) (length-replicate (length group) first) (slice_get-append_after (replicate (length group) first) (owners (first + 1) groups) k ∙ h.owner ∙ ap Some (sym e));
      place = subst (λ n. slice_get (range_with_len 0 (length group) ++ indices groups) (n + k) ≡ Some p) (length-range_with_len 0 (length group)) (slice_get-append_after (range_with_len 0 (length group)) (indices groups) k ∙ h.place);
    }

-- an item of a group stands in the row
pub in_row : {X : Type 0} (first : ℕ) (groups : List (List X)) (g p : ℕ) (group : List X) (x : X) → slice_get groups g ≡ Some group → slice_get group p ≡ Some x → (k : ℕ) × Stands first groups k g p x
in_row first [] g p group x at_g at_p = absurd (none-some _ at_g)
in_row first (h ∷ groups) zero p group x at_g at_p = (p, stands_here first h groups p x (subst (λ l. slice_get l p ≡ Some x) (sym (same_Some h group at_g)) at_p))
in_row first (h ∷ groups) (suc g) p group x at_g at_p =
    let found = in_row (first + 1) groups g p group x at_g at_p in
    (length h + found.0, stands_later first h groups found.0 g p x found.1)

-- the group that an item of the row is of
pub record IsOf {X : Type 0} (first : ℕ) (groups : List (List X)) (k : ℕ) (x : X) : Type 0 where
  pub g : ℕ
  pub p : ℕ
  pub group : List X
  pub at_g : slice_get groups g ≡ Some group
  pub at_p : slice_get group p ≡ Some x
  pub stands : Stands first groups k g p x

pub of_row : {X : Type 0} (first : ℕ) (groups : List (List X)) (k : ℕ) (x : X) → slice_get (row groups) k ≡ Some x → IsOf first groups k x
of_row first [] k x at = absurd (none-some _ at)
of_row {X} first (h ∷ groups) k x at = by (slice_get-append_cases h (row groups) k x at) (of_row (first + 1) groups)
  where
    by : (slice_get h k ≡ Some x) ⊎ ((j : ℕ) × (k ≡ length h + j) × (slice_get (row groups) j ≡ Some x)) → ((j : ℕ) (y : X) → slice_get (row groups) j ≡ Some y → IsOf (first + 1) groups j y) → IsOf first (h ∷ groups) k x
    by (inl here) rest = record { g = 0; p = k; group = h; at_g = refl; at_p = here; stands = stands_here first h groups k x here }
    by (inr later) rest =
        let found = rest later.0 x later.2 in
        record {
          g = suc found.g;
          p = found.p;
          group = found.group;
          at_g = found.at_g;
          at_p = found.at_p;
          stands = subst (λ i. Stands first (h ∷ groups) i (suc found.g) found.p x) (sym later.1) (stands_later first h groups later.0 found.g found.p x found.stands);
        }
