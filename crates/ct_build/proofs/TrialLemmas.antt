-- Trials of values, one more.
use Rattle.std.proofs.Common.{◌≡◌, ℕ, ◌+◌, List, [], ◌∷◌, ◌++◌, sym, ◌∙◌, ap, subst, inl, inr, arith}
use Rattle.ct_values.specs.declared.node.NodeId.{NodeId}
use Rattle.ct_values.specs.Graph.{Nodes}
use Rattle.ct_values.specs.Agreement.{Point}
use Rattle.ct_terms.specs.declared.ids.TermId.{TermId}
use Rattle.ct_congr.specs.State.{State}
use Rattle.ct_build.specs.declared.open_classes.OpenClass.{OpenClass}
use Rattle.ct_build.specs.Trials.{IsRefused, AreRefused}
use Rattle.ct_build.proofs.ListLemmas.{pushed_at, length-push}

module _ (state : State) (IsNumbered : ℕ → Point → Type 0) (g : Nodes) (defaults : List NodeId) (unbuilt : List OpenClass) (chosen : List NodeId) where
  pub refused_more : (tried : ℕ) (pair : TermId × TermId) → IsRefused state IsNumbered g defaults unbuilt chosen tried pair.0 pair.1 → AreRefused state IsNumbered g defaults unbuilt chosen 0 tried → AreRefused state IsNumbered g defaults unbuilt chosen 0 (tried + 1)
  refused_more tried pair is old = record {
    pairs = old.pairs ++ pair ∷ [];
    long = length-push old.pairs pair ∙ ap (λ k. k + 1) old.long;
    each = λ i other at. elim (pushed_at old.pairs pair other i at) [
      | inl h ↦ old.each i other h
      | inr (e, same) ↦
          let number : tried ≡ 0 + i = omega (arith, e, old.long) in
          subst (λ (p : TermId × TermId). IsRefused state IsNumbered g defaults unbuilt chosen (0 + i) p.0 p.1) (sym same)
          (subst (λ (k : ℕ). IsRefused state IsNumbered g defaults unbuilt chosen k pair.0 pair.1) number is)
    ];
  }
