use Rattle.std.proofs.Common.{◌≡◌, ℕ, ◌<◌, List, length, All, sym, ap₂, subst, ◌∙◌, arith}
use Rattle.ct_partition.specs.Points.{points}
use Rattle.ct_partition.specs.Sets.{has, IsSaturated}
use Rattle.ct_partition.specs.Refinement.{KeepsTogether}
use Rattle.ct_partition.specs.Parents.{in_row_of}
use Rattle.ct_partition.proofs.PointLemmas.{closed}
use Rattle.ct_partition.proofs.SaturatedLemmas.{IsSaturated-parents}
use Rattle.ct_partition.proofs.WaitingLemmas.{all_saturated, all_within, rows_within, waiting_within}
use Rattle.ct_partition.proofs.partition.split_by_changes.Goals as goal

pub loop-round-init : goal.loop-round-init
loop-round-init c =
    let p = points c.args.labels.now c.args.starts.now c.args.children.now in
    let waiting = c.in_ok-waiting.waiting.items in
    let zeros = c.in_ok-stamps.ensures.zeros in
    record {
      blocks = c.in_ok-blocks.ensures.blocks;
      keep = c.in_ok-blocks.ensures.alike p (λ i. p.count);
      within = all_within p.count waiting c.in_ok-waiting.ensures.value;
      saturated = all_saturated p waiting c.in_ok-waiting.ensures.value;
      low = λ k d within. let e = zeros k d within in omega arith;
      stamped = c.in_ok-stamps.ensures.long;
    }

pub loop-round-preserved : goal.loop-round-preserved
loop-round-preserved c =
    let labels = c.args.labels.now in
    let starts = c.args.starts.now in
    let children = c.args.children.now in
    let p = points labels starts children in
    let rows = c.in_ok-parents.parents.items in
    let changed = c.in_ok-changed.changed.items in
    let waiting = c.in_ok-waiting-2.waiting.items in
    let parents = c.in_ok-parents.ensures.parents in
    let found = c.in_ok-waiting-2.ensures in
    let after = c.in_ok-changed.ensures.alike p c.loop-round.invariant.keep c.in_ok-groups.ensures.saturated in
    let value : (i : ℕ) → has waiting i ≡ in_row_of rows changed i = λ i.
    found.parents i ∙ ap₂ (λ (list : List (List ℕ)) (xs : List ℕ). in_row_of list xs i) c.deref-in-loop-round-2.ensures.value c.deref-in-loop-round-3.ensures.value in
    record {
      blocks = c.in_ok-changed.ensures.blocks;
      keep = after.0;
      within = waiting_within p rows changed waiting parents value;
      saturated = IsSaturated-parents p rows changed waiting (closed labels starts children c.requires.formed) parents after.1 value;
      low = found.stamps;
      stamped = found.long ∙ c.loop-round.invariant.stamped;
    }

pub grouped-requires : goal.grouped-requires
grouped-requires c =
    let p = points c.args.labels.now c.args.starts.now c.args.children.now in
    let done = c.loop-round.invariant in
    record {
      formed = c.requires.formed;
      together = subst (λ (xs : List ℕ). KeepsTogether p xs) (sym c.deref.ensures.value) done.keep.keeps;
      within = subst (λ (xs : List ℕ). All (λ i. i < p.count) xs) (sym c.deref-in-loop-round.ensures.value) done.within;
      saturated = subst (λ (xs : List ℕ). IsSaturated p xs) (sym c.deref-in-loop-round.ensures.value) done.saturated;
    }

pub split-requires : goal.split-requires
split-requires c =
    let groups = c.in_ok-groups.groups.items in
    record {
      blocks = c.loop-round.invariant.blocks;
      within = subst (λ n. All (λ group. All (λ i. i < n) group) groups) (sym c.loop-round.invariant.keep.keeps.long) c.in_ok-groups.ensures.within;
    }

pub parents_of-requires : goal.parents_of-requires
parents_of-requires c =
    let p = points c.args.labels.now c.args.starts.now c.args.children.now in
    let rows = c.in_ok-parents.parents.items in
    let changed = c.in_ok-changed.changed.items in
    let parents = c.in_ok-parents.ensures.parents in
    let done = c.loop-round.invariant in
    let stamps = c.loop-round.stamps.items in
    let inside : All (λ i. i < length rows) changed = subst (λ n. All (λ i. i < n) changed) (done.keep.keeps.long ∙ sym parents.long) c.in_ok-changed.ensures.within in
    let points_in : All (λ row. All (λ i. i < length stamps) row) rows = subst (λ n. All (λ row. All (λ i. i < n) row) rows) (sym done.stamped) (rows_within p rows parents) in
    record {
      within = subst (λ (xs : List ℕ). All (λ i. i < length c.deref-in-loop-round-2.result.now) xs) (sym c.deref-in-loop-round-3.ensures.value) (subst (λ (list : List (List ℕ)). All (λ i. i < length list) changed) (sym c.deref-in-loop-round-2.ensures.value) inside);
      rows = subst (λ (list : List (List ℕ)). All (λ row. All (λ i. i < length stamps) row) list) (sym c.deref-in-loop-round-2.ensures.value) points_in;
      fresh = λ k d within. let s = done.low k d within in omega arith;
    }
