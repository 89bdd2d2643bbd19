-- Sorts that nodes can have, one node after the other.
use Rattle.std.proofs.Common.{◌≡◌, ℕ, zero, suc, ◌+◌, ◌<◌, ◌⊎◌, ◌++◌, List, [], ◌∷◌, length, length-append, map, replicate, Option, None, Some, option_map, slice_get, refl, sym, ap, subst, ◌∙◌, inl, inr, arith}
use Rattle.std.proofs.lemmas.List.{length-map}
use Rattle.std.proofs.lemmas.Option.{none-some, same_Some, slice_get_within}
use Rattle.ct_lemmas.proofs.Lists.{slice_get-append_left, slice_get-append_cases, slice_get-last, slice_get-push_cases, slice_get-map_at, slice_get-replicate}
use Rattle.ct_sorts.specs.declared.ids.SortId.{SortId}
use Rattle.ct_sorts.specs.Declarations.{Declarations, Constructor, Sort, IsSort}
use Rattle.ct_sorts.specs.Consistent.{IsConsistent, owners}
use Rattle.ct_sexpr.specs.Expression.{Expressions}
use Rattle.ct_values.specs.declared.node.Node.{Node}
use Rattle.ct_values.specs.declared.node.Node.TheVariants.{Con, Elem}
use Rattle.ct_values.specs.Fitting.{node_sort}
use Rattle.ct_readback.specs.Nodes.{CanHave}
use Rattle.ct_readback.specs.Descent.{HasSort, Keeps}
use Rattle.ct_readback.proofs.ReachedLemmas.{HasHead, HaveSaidSorts, HaveSaidHeads, said_parts}
use Rattle.ct_readback.proofs.KnownLemmas.{AreSortsSoFar}

pub keeps_trans : (x y z : List (Option SortId)) → Keeps x y → Keeps y z → Keeps x z
keeps_trans x y z a b = record { long = b.long ∙ a.long; kept = λ i s h. b.kept i s (a.kept i s h) }

-- a node without a sort has none
pub has_none : (known : List (Option SortId)) (i : ℕ) (s : SortId) → slice_get known i ≡ Some None → HasSort known i s → ⊥
has_none known i s free has = none-some s (same_Some None (Some s) (sym free ∙ has))

-- ---- sorts that can be had are declared

owners_within : {X : Type 0} (first : ℕ) (groups : List (List X)) (i k : ℕ) → slice_get (owners first groups) i ≡ Some k → k < first + length groups
owners_within first [] i k at = absurd (none-some k at)
owners_within first (g ∷ groups) i k at =
    elim (slice_get-append_cases (replicate (length g) first) (owners (first + 1) groups) i k at) [
      | inl here ↦ let same = slice_get-replicate (length g) i first k here in omega (arith, same)
      | inr (j, place, later) ↦ let less = owners_within (first + 1) groups j k later in omega (arith, less)
    ]

ctor_sort_there : (d : Declarations) → IsConsistent d → (c : ℕ) (ctor : Constructor) → slice_get d.ctors c ≡ Some ctor → IsSort d ctor.sort
ctor_sort_there d consistent c ctor at =
    let owner = slice_get-map_at (λ (k : Constructor). k.sort.0) d.ctors c ctor at in
    let less = owners_within 0 (map (λ (s : Sort). s.ctors) d.sorts) c ctor.sort.0 (ap (λ (l : List ℕ). slice_get l c) (sym consistent.ctor_sorts) ∙ owner) in
    let long = length-map d.sorts (λ (s : Sort). s.ctors) in
    omega (arith, less, long)

node_declared : (d : Declarations) → IsConsistent d → (x : Node) (s : SortId) → node_sort d x ≡ Some s → HasHead d x → IsSort d s
node_declared d consistent (Con c ns) s sorted (ctor, at, sels) =
    let own : ctor.sort ≡ s = same_Some ctor.sort s (sym (ap (option_map (λ (k : Constructor). k.sort)) at) ∙ sorted) in
    subst (λ (t : SortId). IsSort d t) own (ctor_sort_there d consistent c.0 ctor at)
node_declared d consistent (Elem t m) s sorted head = subst (λ (u : SortId). IsSort d u) (same_Some t s sorted) (slice_get_within d.sorts t.0 head.sort head.declared)

pub can_declared : (d : Declarations) → IsConsistent d → HaveSaidSorts d → HaveSaidHeads d → (rows : Expressions) (i : ℕ) (s : SortId) → CanHave d rows i s → IsSort d s
can_declared d consistent sorts heads rows i s (fits, are, has) =
    let f = are i s has in
    let parts = said_parts d rows i s f.node f.said in
    node_declared d consistent f.node s (sorts s parts.text f.node parts.said) (heads s parts.text f.node parts.said)

-- ---- one node more

before_or_last : (k n : ℕ) → k < n + 1 → (k < n) ⊎ (k ≡ n)
before_or_last zero zero less = inr refl
before_or_last zero (suc n) less = inl (omega arith)
before_or_last (suc k) zero less = absurd (omega (arith, less))
before_or_last (suc k) (suc n) less = elim (before_or_last k n (omega (arith, less))) [ inl before ↦ inl (omega (arith, before)) | inr same ↦ inr (ap suc same) ]

-- none of the first sorts can be had, nor the next
pub none_more : (d : Declarations) (rows : Expressions) (i n : ℕ) → ((t : SortId) → t.0 < n → CanHave d rows i t → ⊥) → (CanHave d rows i (record { 0 = n }) → ⊥) → (t : SortId) → t.0 < n + 1 → CanHave d rows i t → ⊥
none_more d rows i n before here t less can =
    elim (before_or_last t.0 n less) [
      | inl earlier ↦ before t earlier can
      | inr same ↦ here (subst (λ (m : ℕ). CanHave d rows i (record { 0 = m })) same can)
    ]

pub keeps_self : (x : List (Option SortId)) → Keeps x x
keeps_self x = record { long = refl; kept = λ i s h. h }

pub sorts_none : (d : Declarations) (rows : Expressions) (reached : List (Option SortId)) (sorts : List SortId) → sorts ≡ [] → AreSortsSoFar d rows reached sorts 0
sorts_none d rows reached sorts is = record {
  long = ap length is;
  kept = λ j t less has. absurd (omega (arith, less));
  each = λ j t at. absurd (none-some t (sym (ap (λ (l : List SortId). slice_get l j) is) ∙ at));
}

module _ (d : Declarations) (rows : Expressions) (reached known : List (Option SortId)) (sorts new : List SortId) (i : ℕ) (s : SortId) where
  pub sorts_more : AreSortsSoFar d rows reached sorts i → Keeps reached known → ((t : SortId) → HasSort known i t → s ≡ t) → IsSort d s → CanHave d rows i s → new ≡ sorts ++ s ∷ [] → AreSortsSoFar d rows reached new (i + 1)
  sorts_more so_far keeps first declared can is = record {
    long = let longer = length-append sorts (s ∷ []) in let same = ap length is in let long = so_far.long in omega (arith, longer, same, long);
    kept = λ j t less has. elim (before_or_last j i less) [
      | inl before ↦ ap (λ (l : List SortId). slice_get l j) is ∙ slice_get-append_left sorts (s ∷ []) j t (so_far.kept j t before has)
      | inr last ↦
          let here : HasSort known i t = subst (λ (n : ℕ). HasSort known n t) last (keeps.kept j t has) in
          ap (λ (l : List SortId). slice_get l j) is ∙ ap (λ (n : ℕ). slice_get (sorts ++ s ∷ []) n) (last ∙ sym so_far.long) ∙ slice_get-last sorts s ∙ ap Some (first t here)
    ];
    each = λ j t at. elim (slice_get-push_cases sorts s t j (sym (ap (λ (l : List SortId). slice_get l j) is) ∙ at)) [
      | inl before ↦ so_far.each j t before
      | inr (last, same) ↦
          subst (λ (u : SortId). IsSort d u × CanHave d rows j u) same (subst (λ (n : ℕ). IsSort d s × CanHave d rows n s) (sym (last ∙ so_far.long)) (declared, can))
    ];
  }
