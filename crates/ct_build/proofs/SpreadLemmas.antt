-- Values of open classes whose numbers are their ranks times a gap, and half of the gap.
use Rattle.std.proofs.Common.{◌≡◌, ℕ, ◌+◌, ◌-◌, ◌*◌, ◌/◌, ◌^◌, min, ◌<◌, ◌≤◌, List, ◌++◌, length, slice_get, Some, sym, ◌∙◌, ap, subst, inl, inr, arith}
use Rattle.std.proofs.lemmas.Option.{same_Some, slice_get_within}
use Rattle.ct_sorts.specs.declared.ids.SortId.{SortId}
use Rattle.ct_sorts.specs.Grown.{Begins}
use Rattle.ct_values.specs.declared.node.NodeId.{NodeId}
use Rattle.ct_values.specs.Graph.{Nodes, IsClosed}
use Rattle.ct_values.specs.Value.{reference}
use Rattle.ct_values.specs.Agreement.{Point, node_point, AgreeAlways}
use Rattle.ct_congr.specs.State.{State}
use Rattle.ct_build.specs.declared.open_classes.OpenClass.{OpenClass}
use Rattle.ct_build.specs.ClassValues.{Laws}
use Rattle.ct_build.specs.Chosen.{AreSpread, IsPushed}
use Rattle.ct_build.proofs.ListLemmas.{pushed_at}

-- a number that is not too great is not cut
uncut : (x y n : ℕ) → n ≡ min (min x (2 ^ 64 - 1) + y) (2 ^ 64 - 1) → x + y < 2 ^ 64 → n ≡ x + y
uncut x y n is less = omega (arith, is, less)

module _ (state : State) (IsNumbered : SortId → ℕ → Point → Type 0) (gap : ℕ) (unbuilt : List OpenClass) (from : ℕ) where
  -- at the start there is none
  pub spread_none : (g : Nodes) (chosen : List NodeId) → length chosen ≤ from → AreSpread state IsNumbered gap unbuilt from g chosen
  spread_none g chosen few i class n s later listed at has less = absurd (omega (arith, few, later, slice_get_within chosen i n at))

  -- one more class
  pub spread_more : (g longer : Nodes) (before after : List NodeId) (class : OpenClass) (number : ℕ) → slice_get unbuilt (length before) ≡ Some class
      → number ≡ min (min (class.rank * gap) (2 ^ 64 - 1) + gap / 2) (2 ^ 64 - 1)
      → ((i : ℕ) (n : NodeId) (s : SortId) (k : ℕ) → slice_get before i ≡ Some n → IsNumbered s k (node_point g n) → IsNumbered s k (node_point longer n))
      → IsPushed state IsNumbered unbuilt g before number longer after
      → AreSpread state IsNumbered gap unbuilt from g before → AreSpread state IsNumbered gap unbuilt from longer after
  spread_more g longer before after class number listed number_is stays pushed old i other n s later at at_n has less =
      elim (pushed_at before pushed.node n i (ap (λ (l : List NodeId). slice_get l i) (sym pushed.nodes_are) ∙ at_n)) [
        | inl h ↦ stays i n s (other.rank * gap + gap / 2) h (old i other n s later at h has less)
        | inr (e, same) ↦
            let one : class ≡ other = same_Some class other (sym listed ∙ ap (slice_get unbuilt) (sym e) ∙ at) in
            let is : number ≡ other.rank * gap + gap / 2 = uncut (other.rank * gap) (gap / 2) number (number_is ∙ ap (λ (c : OpenClass). min (min (c.rank * gap) (2 ^ 64 - 1) + gap / 2) (2 ^ 64 - 1)) one) less in
            subst (λ (m : NodeId). IsNumbered s (other.rank * gap + gap / 2) (node_point longer m)) (sym same)
            (subst (λ (k : ℕ). IsNumbered s k (node_point longer pushed.node)) is (pushed.numbered other s (ap (slice_get unbuilt) (sym e) ∙ at) has))
      ]

-- a node of a graph has in a longer one the value that it had
pub node_stays : (laws : Laws) (g longer : Nodes) (n : NodeId) → IsClosed g → Begins g longer → n.0 < length g → AgreeAlways (node_point g n) (node_point longer n)
node_stays laws g longer n closed (more, is) within =
    subst (λ (h : Nodes). AgreeAlways (node_point g n) (node_point h n)) (sym is)
    (laws.turned (node_point (g ++ more) n) (node_point g n) (laws.grown g more (reference n) closed within))
