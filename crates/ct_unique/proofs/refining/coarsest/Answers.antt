use Rattle.std.proofs.Common.{length}
use Rattle.ct_partition.specs.Points.{points}
use Rattle.ct_partition.specs.Partition as point_blocks
use Rattle.ct_unique.specs.Nodes.{AreBlocks}
use Rattle.ct_unique.proofs.BlockLemmas.{IsCoarsest-of, exact_of}
use Rattle.ct_unique.proofs.refining.coarsest.Goals as goal

pub returns-clause-coarsest : goal.returns-clause-coarsest
returns-clause-coarsest c =
    let state = c.args.classes.now in
    let labels = c.in_ok-labels.labels.items in
    let starts = c.in_ok-rows.rows.starts.items in
    let children = c.in_ok-rows.rows.children.items in
    let numbers = c.in_ok-points.points.items in
    let stable : point_blocks.IsStable (points labels starts children) numbers = rw (c.deref.ensures.value, c.deref-2.ensures.value, c.deref-3.ensures.value) at c.in_ok-points.ensures.stable in
    let coarsest : point_blocks.IsCoarsest (points labels starts children) numbers = rw (c.deref.ensures.value, c.deref-2.ensures.value, c.deref-3.ensures.value) at c.in_ok-points.ensures.coarsest in
    let least : point_blocks.AreLeastPoints (points labels starts children) numbers = rw (c.deref.ensures.value, c.deref-2.ensures.value, c.deref-3.ensures.value) at c.in_ok-points.ensures.least in
    let made : AreBlocks state numbers (length state.terms) c.in_ok-by_term.by_term.items = rw c.deref-4.ensures.value at c.in_ok-by_term.ensures.made in
    IsCoarsest-of state c.in_ok-rows.ensures.long numbers c.in_ok-by_term.by_term.items made c.requires.quiet c.in_ok-rows.ensures.sorted labels starts children c.in_ok-labels.ensures.labels c.in_ok-rows.ensures.rows stable coarsest least

pub returns-clause-exact : goal.returns-clause-exact
returns-clause-exact c = exact_of c.args.classes.now c.in_ok-by_term.by_term.items (returns-clause-coarsest c)
