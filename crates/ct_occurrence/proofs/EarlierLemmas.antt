-- Constructors in a list and the set of them.
use Rattle.std.proofs.Common.{◌≡◌, ℕ, suc, ◌+◌, Bool, true, false, cond, ◌||◌, List, [], ◌∷◌, length, refl, sym, ap, ap₂, ◌∙◌, arith}
use Rattle.std.specs.Cmp.{IsEquivalence}
use Rattle.std.specs.Set.{is_member, unique_keys}
use Rattle.std.proofs.lemmas.Cmp.{nat_eq_equiv, on_equiv}
use Rattle.std.proofs.lemmas.Map.Made.{hash_set_len-from_list}
use Rattle.indexmap.specs.IndexSet.{IndexSet, contains, index_set_len}
use Rattle.ct_sorts.specs.declared.ids.CtorId.{CtorId}
use Rattle.ct_formulas.specs.Compiled.{is_among}
use Rattle.ct_occurrence.specs.Earlier.{same_ctor, distinct_ctors, IsSetOf}

pub same_equiv : IsEquivalence same_ctor
same_equiv = on_equiv (λ (c : CtorId). c.0) nat_eq_equiv

pub among_is_member : (cs : List CtorId) (k : CtorId) → is_among cs k ≡ is_member same_ctor cs k
among_is_member [] k = refl
among_is_member (c ∷ cs) k = ap₂ (λ (x y : Bool). x || y) (same_equiv.symm c k) (among_is_member cs k)

-- what a list and the set of it say of the list that clauses see
module _ {S : Type 0} (cs : List CtorId) (set : IndexSet CtorId S) (is : IsSetOf cs set) (seen : List CtorId) (view : cs ≡ seen) (c : CtorId) where
  pub found : (b : Bool) → b ≡ contains same_ctor set c → b ≡ is_among seen c
  found b h = h ∙ (is.0 c ∙ (ap (λ (ks : List CtorId). is_member same_ctor ks c) view ∙ sym (among_is_member seen c)))

  abbrev once : List CtorId
  once = unique_keys same_ctor seen

  long : index_set_len set ≡ length once
  long = hash_set_len-from_list same_equiv cs set is ∙ ap distinct_ctors view

  with : (b : Bool) → b ≡ is_among seen c → length (cond b once (c ∷ once)) ≡ distinct_ctors (c ∷ seen)
  with b h = ap (λ (x : Bool). length (cond x once (c ∷ once))) (h ∙ among_is_member seen c)

  pub count_same : (n : ℕ) → n ≡ index_set_len set → true ≡ is_among seen c → n ≡ distinct_ctors (c ∷ seen)
  count_same n e h = e ∙ (long ∙ with true h)

  pub count_more : (n : ℕ) → n ≡ index_set_len set → false ≡ is_among seen c → n + 1 ≡ distinct_ctors (c ∷ seen)
  count_more n e h =
      let same : n ≡ length once = e ∙ long in
      let more : n + 1 ≡ suc (length once) = omega (arith, same) in
      more ∙ with false h
