use Rattle.std.proofs.Common.{◌≡◌, Bool, true, false, List, length, replicate, ap, subst, ◌∙◌}
use Rattle.std.proofs.lemmas.List.{length-replicate}
use Rattle.ct_generics.specs.Marks.{marked}
use Rattle.ct_generics.specs.Search.{IsSearch}
use Rattle.ct_generics.proofs.MarkLemmas.{none_marked}
use Rattle.ct_generics.proofs.SearchLemmas.{IsSearch-start, IsSearch-step, IsSearch-last, reached_exactly}
use Rattle.ct_generics.proofs.search.reached.Goals as goal

pub loop-i-init : goal.loop-i-init
loop-i-init c =
    let g = c.args.graph.now in
    let marks = c.in_ok-marks.marks.items in
    let unset : marks ≡ replicate (length g) false = c.in_ok-marks.ensures.items_if_clones_equal (λ y e. e) in
    IsSearch-start g c.args.start marks c.mark.new.marks.items c.mark.new.stack.items c.requires.within (ap length unset ∙ length-replicate (length g) false) (λ i h. none_marked (length g) i (subst (λ (ms : List Bool). marked ms i ≡ true) unset h)) (rw c.new-stack.ensures.items at c.in_ok-mark.ensures.marks)

pub vertex_at-vertex-requires : goal.vertex_at-vertex-requires
vertex_at-vertex-requires c =
    record { within = IsSearch-last c.args.graph.now c.args.start c.in-Some.i c.loop-i.marks.items c.loop-i.stack.items c.pop.new.stack.items c.in-Some.ensures.popped c.loop-i.invariant }

pub loop-i-preserved : goal.loop-i-preserved
loop-i-preserved c =
    IsSearch-step c.args.graph.now c.args.start c.in-Some.i c.vertex_at-vertex.result.now c.loop-i.marks.items c.mark_ctors.new.marks.items c.loop-i.stack.items c.pop.new.stack.items c.mark_ctors.new.stack.items c.requires.closed c.vertex_at-vertex.ensures.value c.in-Some.ensures.popped c.loop-i.invariant (rw c.as_slice.ensures.value at c.in_ok-mark_ctors.ensures.marks)

pub returns-clause-reached : goal.returns-clause-reached
returns-clause-reached c =
    reached_exactly c.args.graph.now c.args.start c.loop-i.marks.items (subst (λ s. IsSearch c.args.graph.now c.args.start c.loop-i.marks.items s) c.in_default.ensures.popped c.loop-i.invariant)
