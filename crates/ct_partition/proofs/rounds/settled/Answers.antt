use Rattle.std.proofs.Common.{◌≡◌, ℕ, ◌<◌, ◌≤◌, ◌-◌, ◌*◌, List, length, sym, subst, ◌∙◌, arith, sum, true≢false}
use Rattle.ct_partition.specs.Points.{points}
use Rattle.ct_partition.specs.Refinement.{IsRefined}
use Rattle.ct_partition.proofs.PointLemmas.{closed}
use Rattle.ct_partition.proofs.RefineLemmas.{IsPartition-refined, sum-refined, sum-partition}
use Rattle.ct_partition.proofs.rounds.settled.Goals as goal

-- a number that rises below a bound comes nearer to it
nearer : (top m n : ℕ) → m < n → n ≤ top → top - n < top - m
nearer top m n less within = omega arith

pub refined-requires : goal.refined-requires
refined-requires c = record { formed = c.requires.formed; long = c.requires.together.long }

pub loop-blocks-init : goal.loop-blocks-init
loop-blocks-init c =
    let labels = c.args.labels.now in
    let starts = c.args.starts.now in
    let children = c.args.children.now in
    IsPartition-refined (points labels starts children) c.args.blocks.now c.in_ok-blocks.blocks.items (closed labels starts children c.requires.formed) c.requires.together c.in_ok-blocks.ensures.refined

pub loop-blocks-preserved : goal.loop-blocks-preserved
loop-blocks-preserved c =
    let labels = c.args.labels.now in
    let starts = c.args.starts.now in
    let children = c.args.children.now in
    IsPartition-refined (points labels starts children) c.loop-blocks.blocks.items c.in_ok-next.next.items (closed labels starts children c.requires.formed) c.loop-blocks.invariant.keeps (rw c.deref.ensures.value at c.in_ok-next.ensures.refined)

pub loop-blocks-smaller : goal.loop-blocks-smaller
loop-blocks-smaller c =
    let labels = c.args.labels.now in
    let starts = c.args.starts.now in
    let children = c.args.children.now in
    let p = points labels starts children in
    let old = c.loop-blocks.blocks.items in
    let next = c.in_ok-next.next.items in
    let refined : IsRefined p old next = rw c.deref.ensures.value at c.in_ok-next.ensures.refined in
    let other : next ≡ old → ⊥ = λ same.
    true≢false (sym (c.are_equal.ensures.value.1 (c.deref-in-loop-blocks.ensures.value ∙ same ∙ sym c.deref-in-loop-blocks-2.ensures.value)) ∙ c.if-are_equal.false) in
    let less = sum-refined p old next c.loop-blocks.invariant refined other in
    let partition = IsPartition-refined p old next (closed labels starts children c.requires.formed) c.loop-blocks.invariant.keeps refined in
    nearer (length labels * length labels) (sum old) (sum next) less (sum-partition p next partition)

pub returns-then-are_equal : goal.returns-then-are_equal
returns-then-are_equal c =
    let labels = c.args.labels.now in
    let starts = c.args.starts.now in
    let children = c.args.children.now in
    let p = points labels starts children in
    let old = c.loop-blocks.blocks.items in
    let next = c.in_ok-next.next.items in
    let refined : IsRefined p old next = rw c.deref.ensures.value at c.in_ok-next.ensures.refined in
    let same : next ≡ old = sym c.deref-in-loop-blocks.ensures.value ∙ c.are_equal.ensures.value.0 c.if-are_equal.true ∙ c.deref-in-loop-blocks-2.ensures.value in
    record {
      partition = IsPartition-refined p old next (closed labels starts children c.requires.formed) c.loop-blocks.invariant.keeps refined;
      steady = subst (λ (blocks : List ℕ). IsRefined p blocks next) (sym same) refined;
    }
