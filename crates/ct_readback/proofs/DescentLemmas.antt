-- The sorts of nodes that are found from the root of a graph down.
use Rattle.std.proofs.Common.{◌≡◌, ℕ, zero, suc, ◌+◌, ◌<◌, ◌≤◌, ◌⊎◌, Bool, true, false, true≢false, List, [], ◌∷◌, ◌++◌, length, length-set, map, set, take, get_or, Contains, Option, Some, None, option_map, unwrap_or, slice_get, refl, sym, ap, ap₂, subst, ◌∙◌, inl, inr, arith}
use Rattle.std.specs.Bool.{OnTrue, OnFalse}
use Rattle.std.proofs.lemmas.Option.{none-some, same_Some, slice_get_within, slice_get-get_or}
use Rattle.std.proofs.lemmas.List.{take_all, take_more}
use Rattle.ct_lemmas.proofs.Lists.{slice_get-append_left, slice_get-last, slice_get-push_cases, slice_get-map_at}
use Rattle.ct_lemmas.proofs.Contained.{Contains-none, Contains-first, Contains-rest, Contains-cons}
use Rattle.ct_lemmas.proofs.Pairs.{AllZip-weaker, AllZip-push}
use Rattle.ct_ordering.proofs.ListLemmas.{slice_set-cases, slice_set-here, slice_set-other}
use Rattle.ct_sorts.specs.declared.ids.SortId.{SortId}
use Rattle.ct_sorts.specs.declared.ids.SelId.{SelId}
use Rattle.ct_sorts.specs.declared.ids.CtorId.{CtorId}
use Rattle.ct_sorts.specs.Declarations.{Declarations, Constructor, Selector}
use Rattle.ct_sorts.proofs.PieceLemmas.{Begins-self, Begins-trans}
use Rattle.ct_values.specs.declared.node.NodeId.{NodeId}
use Rattle.ct_names.specs.Symbols.{field_sort_id, ctor_field_sorts}
use Rattle.ct_readback.specs.declared.descent.Descent.{Descent}
use Rattle.ct_readback.specs.Descent.{HasSort, Keeps, AreListed, Extends, IsOther, HaveSorts, pairs_of}

-- a node with a sort
abbrev pub pair_of : ℕ → SortId → ℕ × SortId
pair_of i s = (i, s)

-- ---- what stays and what is new

pub extends_self : (x : Descent) (asked : List (ℕ × SortId)) → Extends x x asked
extends_self x asked = record {
  keeps = record { long = refl; kept = λ i s h. h };
  begins = Begins-self x.met.items;
  only = λ i s h. inl h;
  listed = λ h. h;
}

pub extends_trans : (x y z : Descent) (first second asked : List (ℕ × SortId)) → ((pair : ℕ × SortId) → Contains first pair → Contains asked pair) → ((pair : ℕ × SortId) → Contains second pair → Contains asked pair)
    → Extends x y first → Extends y z second → Extends x z asked
extends_trans x y z first second asked inside within a b = record {
  keeps = record { long = b.keeps.long ∙ a.keeps.long; kept = λ i s h. b.keeps.kept i s (a.keeps.kept i s h) };
  begins = Begins-trans x.met.items y.met.items z.met.items a.begins b.begins;
  only = λ i s h. elim (b.only i s h) [
    | inl old ↦ elim (a.only i s old) [ inl older ↦ inl older | inr new ↦ inr (inside (i, s) new) ]
    | inr new ↦ inr (within (i, s) new)
  ];
  listed = λ h. b.listed (a.listed h);
}

-- one node got its sort
module _ (old new : Descent) (n : ℕ) (s : SortId) (within : n < length old.sorts.items) (free : slice_get old.sorts.items n ≡ Some None) (sorts : new.sorts.items ≡ set old.sorts.items n (Some s)) (met : new.met.items ≡ old.met.items ++ n ∷ []) where
  pub got : HasSort new.sorts.items n s
  got = ap (λ (l : List (Option SortId)). slice_get l n) sorts ∙ slice_set-here old.sorts.items n (Some s) within

  kept : (i : ℕ) (t : SortId) → HasSort old.sorts.items i t → HasSort new.sorts.items i t
  kept i t h =
      ap (λ (l : List (Option SortId)). slice_get l i) sorts
      ∙ slice_set-other old.sorts.items n (Some s) i (Some t) (λ same. none-some t (same_Some None (Some t) (sym free ∙ ap (slice_get old.sorts.items) (sym same) ∙ h))) h

  cases : (i : ℕ) (t : SortId) → HasSort new.sorts.items i t → ((i ≡ n) × (s ≡ t)) ⊎ HasSort old.sorts.items i t
  cases i t h =
      elim (slice_set-cases old.sorts.items n (Some s) i (Some t) (sym (ap (λ (l : List (Option SortId)). slice_get l i) sorts) ∙ h)) [
        | inl e ↦ inl (e.0, same_Some s t e.1)
        | inr o ↦ inr o.1
      ]

  pair : (i : ℕ) (t : SortId) → (i ≡ n) × (s ≡ t) → Contains (pair_of n s ∷ []) (pair_of i t)
  pair i t e =
      let same : pair_of n s ≡ pair_of i t = ap₂ (λ (a : ℕ) (b : SortId). pair_of a b) (sym e.0) e.1 in
      subst (λ (p : ℕ × SortId). Contains (pair_of n s ∷ []) p) same (Contains-first (pair_of n s) [])

  listed : AreListed old.sorts.items old.met.items → AreListed new.sorts.items new.met.items
  listed h = record {
    listed = λ i t has. elim (cases i t has) [
      | inl e ↦ (length old.met.items, ap (λ (l : List ℕ). slice_get l (length old.met.items)) met ∙ slice_get-last old.met.items n ∙ ap Some (sym e.0))
      | inr before ↦
          let at = h.listed i t before in
          (at.0, ap (λ (l : List ℕ). slice_get l at.0) met ∙ slice_get-append_left old.met.items (n ∷ []) at.0 i at.1)
    ];
    sorted = λ k i at. elim (slice_get-push_cases old.met.items n i k (sym (ap (λ (l : List ℕ). slice_get l k) met) ∙ at)) [
      | inl before ↦ let has = h.sorted k i before in (has.0, kept i has.0 has.1)
      | inr last ↦ (s, subst (λ m. HasSort new.sorts.items m s) last.1 got)
    ];
  }

  pub extends_got : Extends old new (pair_of n s ∷ [])
  extends_got = record {
    keeps = record { long = ap length sorts ∙ length-set old.sorts.items n (Some s); kept = kept };
    begins = (n ∷ [], met);
    only = λ i t h. elim (cases i t h) [ inl e ↦ inr (pair i t e) | inr before ↦ inl before ];
    listed = listed;
  }

-- ---- nodes one for one

pub pairs_at : (nodes : List NodeId) (wanted : List SortId) (k : ℕ) (n : NodeId) (s : SortId) → slice_get nodes k ≡ Some n → slice_get wanted k ≡ Some s → Contains (pairs_of nodes wanted) (n.0, s)
pairs_at [] wanted k n s at at_s = absurd (none-some n at)
pairs_at (m ∷ nodes) [] k n s at at_s = absurd (none-some s at_s)
pairs_at (m ∷ nodes) (t ∷ wanted) zero n s at at_s =
    let first : m ≡ n = same_Some m n at in
    let second : t ≡ s = same_Some t s at_s in
    let same : pair_of m.0 t ≡ pair_of n.0 s = ap₂ (λ (a : NodeId) (b : SortId). pair_of a.0 b) first second in
    subst (λ (p : ℕ × SortId). Contains (pairs_of (m ∷ nodes) (t ∷ wanted)) p) same (Contains-first (pair_of m.0 t) (pairs_of nodes wanted))
pairs_at (m ∷ nodes) (t ∷ wanted) (suc k) n s at at_s = Contains-rest (pair_of m.0 t) (pairs_of nodes wanted) (pair_of n.0 s) (pairs_at nodes wanted k n s at at_s)

-- a pair alone is one of the pairs
pub pair_inside : (nodes : List NodeId) (wanted : List SortId) (k : ℕ) (n : NodeId) (s : SortId) → slice_get nodes k ≡ Some n → slice_get wanted k ≡ Some s → (pair : ℕ × SortId) → Contains (pair_of n.0 s ∷ []) pair → Contains (pairs_of nodes wanted) pair
pair_inside nodes wanted k n s at at_s pair inside =
    elim (Contains-cons (pair_of n.0 s) [] pair inside) [
      | inl same ↦ subst (λ (p : ℕ × SortId). Contains (pairs_of nodes wanted) p) same (pairs_at nodes wanted k n s at at_s)
      | inr nothing ↦ absurd (Contains-none pair nothing)
    ]

pub have_kept : (old new : List (Option SortId)) (nodes : List NodeId) (wanted : List SortId) → Keeps old new → HaveSorts old nodes wanted → HaveSorts new nodes wanted
have_kept old new nodes wanted keeps have = AllZip-weaker (λ (c : NodeId) (t : SortId). HasSort old c.0 t) (λ (c : NodeId) (t : SortId). HasSort new c.0 t) (λ c t h. keeps.kept c.0 t h) nodes wanted have

pub other_kept : (old new : List (Option SortId)) (pair : ℕ × SortId) → Keeps old new → IsOther old pair → IsOther new pair
other_kept old new pair keeps (inl none) = inl (let long = keeps.long in omega (arith, none, long))
other_kept old new pair keeps (inr (t, has, differs)) = inr (t, keeps.kept pair.0 t has, differs)

-- the sorts of a constructor's fields
pub fields_are : (d : Declarations) (c : CtorId) (sels : List SelId) → option_map (λ (ctor : Constructor). ctor.sels) (slice_get d.ctors c.0) ≡ Some sels → ctor_field_sorts d c ≡ map (field_sort_id d) sels
fields_are d c sels at = ap (λ (o : Option (List SelId)). map (field_sort_id d) (unwrap_or o [])) at

pub wanted_at : (d : Declarations) (fields : List SelId) (k : ℕ) (f : SelId) (t : SortId) → slice_get fields k ≡ Some f → t ≡ field_sort_id d f → slice_get (map (field_sort_id d) fields) k ≡ Some t
wanted_at d fields k f t at is = slice_get-map_at (field_sort_id d) fields k f at ∙ ap Some (sym is)

pub sort_is : (d : Declarations) (f : SelId) (t : SortId) → option_map (λ (x : Selector). x.sort) (slice_get d.sels f.0) ≡ Some t → t ≡ field_sort_id d f
sort_is d f t at = sym (ap (λ (o : Option SortId). unwrap_or o (record { 0 = 0 })) at)

pub take_at : {X : Type 0} (xs : List X) (i : ℕ) (x : X) → slice_get xs i ≡ Some x → take (i + 1) xs ≡ take i xs ++ x ∷ []
take_at {X} xs i x at =
    let within = slice_get_within xs i x at in
    let same : get_or xs i x ≡ x = same_Some (get_or xs i x) x (sym (slice_get-get_or xs i x within) ∙ at) in
    take_more xs i x within ∙ ap (λ (y : X). take i xs ++ y ∷ []) same

-- one node more has its sort
pub have_more : (sorts : List (Option SortId)) (nodes : List NodeId) (wanted : List SortId) (k : ℕ) (n : NodeId) (s : SortId) → slice_get nodes k ≡ Some n → slice_get wanted k ≡ Some s → HasSort sorts n.0 s
    → HaveSorts sorts (take k nodes) (take k wanted) → HaveSorts sorts (take (k + 1) nodes) (take (k + 1) wanted)
have_more sorts nodes wanted k n s at at_s has have =
    rw (take_at nodes k n at, take_at wanted k s at_s) (AllZip-push (λ (c : NodeId) (t : SortId). HasSort sorts c.0 t) (take k nodes) (take k wanted) n s have has)

-- all of them have theirs
pub have_all : (sorts : List (Option SortId)) (nodes : List NodeId) (wanted : List SortId) (k : ℕ) → length nodes ≤ k → length wanted ≤ k → HaveSorts sorts (take k nodes) (take k wanted) → HaveSorts sorts nodes wanted
have_all sorts nodes wanted k past past_s have = rw (take_all k nodes past, take_all k wanted past_s) at have

-- what holds on a test
pub on_true : (b : Bool) (P : Type 0) → b ≡ true → OnTrue b P → P
on_true true P is h = h
on_true false P is h = absurd (true≢false (sym is))

pub on_false : (b : Bool) (P : Type 0) → b ≡ false → OnFalse b P → P
on_false true P is h = absurd (true≢false is)
on_false false P is h = h
