-- Stored nodes of sorts.
use Rattle.std.proofs.Common.{◌≡◌, ℕ, ◌+◌, List, [], ◌∷◌, ◌++◌, length, set, replicate, slice_get, Some, None, Option, refl, sym, ◌∙◌, ap, subst, inl, inr}
use Rattle.std.proofs.lemmas.Option.{none-some, same_Some}
use Rattle.ct_lemmas.proofs.Lists.{slice_get-replicate}
use Rattle.ct_sorts.specs.declared.ids.SortId.{SortId}
use Rattle.ct_sorts.specs.Declarations.{Declarations}
use Rattle.ct_sorts.specs.Grown.{Begins}
use Rattle.ct_values.specs.declared.node.NodeId.{NodeId}
use Rattle.ct_values.specs.Graph.{Nodes}
use Rattle.ct_values.specs.Fitting.{HasNodeSort}
use Rattle.ct_build.specs.OpenClasses.{AreOfAllSorts}
use Rattle.ct_build.specs.Nodes.{AreStored}
use Rattle.ct_build.proofs.ListLemmas.{pushed_at, length-push, set_at}
use Rattle.ct_build.proofs.GraphLemmas.{begins_sort}

module _ (d : Declarations) where
  -- none is stored
  pub stored_none : (g : Nodes) (count : ℕ) → AreStored d g (replicate count None)
  stored_none g count s n at = absurd (none-some n (sym (slice_get-replicate count s None (Some n) at)))

  -- one more is stored
  pub stored_set : (g : Nodes) (found : List (Option NodeId)) (s : SortId) (n : NodeId) → AreStored d g found → HasNodeSort d g n s → AreStored d g (set found s.0 (Some n))
  stored_set g found s n old has t m at =
      elim (set_at found s.0 t (Some n) (Some m) at) [
        | inl (e, same) ↦
            let one : n ≡ m = same_Some n m same in
            subst (λ k. HasNodeSort d g m (record { 0 = k })) (sym e) (subst (λ (k : NodeId). HasNodeSort d g k s) one has)
        | inr (other, had) ↦ old t m had
      ]

  -- a node of each of the first sorts, one more of them
  pub record AreOfFirstSorts (g : Nodes) (count : ℕ) (list : List NodeId) : Type 0 where
    pub long : length list ≡ count
    pub sorted : (s : ℕ) (n : NodeId) → slice_get list s ≡ Some n → HasNodeSort d g n (record { 0 = s })

  pub first_sorts_none : (g : Nodes) → AreOfFirstSorts g 0 []
  first_sorts_none g = record { long = refl; sorted = λ s n at. absurd (none-some n at) }

  pub first_sorts_longer : (g longer : Nodes) (count : ℕ) (list : List NodeId) → Begins g longer → AreOfFirstSorts g count list → AreOfFirstSorts longer count list
  first_sorts_longer g longer count list begins old = record { long = old.long; sorted = λ s n at. begins_sort d g longer n (record { 0 = s }) begins (old.sorted s n at) }

  pub first_sorts_more : (g : Nodes) (count : ℕ) (list : List NodeId) (n : NodeId) → AreOfFirstSorts g count list → HasNodeSort d g n (record { 0 = count }) → AreOfFirstSorts g (count + 1) (list ++ n ∷ [])
  first_sorts_more g count list n old has = record {
    long = length-push list n ∙ ap (λ k. k + 1) old.long;
    sorted = λ s m at. elim (pushed_at list n m s at) [
      | inl h ↦ old.sorted s m h
      | inr (e, same) ↦ subst (λ (k : NodeId). HasNodeSort d g k (record { 0 = s })) (sym same) (subst (λ k. HasNodeSort d g n (record { 0 = k })) (sym (e ∙ old.long)) has)
    ];
  }

  -- nodes of all sorts stay where the graph grows
  pub all_sorts_longer : (g longer : Nodes) (list : List NodeId) → Begins g longer → AreOfAllSorts d g list → AreOfAllSorts d longer list
  all_sorts_longer g longer list begins old = record { long = old.long; sorted = λ s n at. begins_sort d g longer n (record { 0 = s }) begins (old.sorted s n at) }
