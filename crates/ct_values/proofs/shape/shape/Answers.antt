use Rattle.std.proofs.Common.{ℕ, [], ◌∷◌, map, get_or, take}
use Rattle.std.proofs.lemmas.List.{take_more, map-append}
use Rattle.ct_values.specs.declared.node.NodeId.{NodeId}
use Rattle.ct_values.specs.Partition.{class_at}
use Rattle.ct_values.specs.Shape.{Spells}
use Rattle.ct_values.proofs.RenumberLemmas.{Stay-trans}
use Rattle.ct_values.proofs.ShapeLemmas.{Spells-stay, Spells-push, Spells-within}
use Rattle.ct_values.proofs.shape.shape.Goals as goal

pub loop-child-preserved : goal.loop-child-preserved
loop-child-preserved c =
    let old = c.loop-child.steps.keys in
    let new = c.add_step-in-loop-child.new.steps.keys in
    let classes = c.args.classes.now in
    let children = c.args.children.now in
    let head = c.args.head in
    let class_of : NodeId → ℕ = λ child. class_at classes child.0 in
    let none : NodeId = record { 0 = 0 } in
    let child = get_or children c.loop-child.child-index none in
    let before = take c.loop-child.child-index children in
    let done = c.in_ok-last-2.ensures in
    let last = c.in_ok-last-2.last in
    let stored : Spells new c.loop-child.last head (map class_of before) = Spells-stay old new c.loop-child.last head (map class_of before) done.stay c.loop-child.invariant.2 in (
      done.steps,
      Stay-trans c.args.steps.now.keys old new c.loop-child.invariant.1 done.stay,
      rw (take_more children c.loop-child.child-index none c.loop-child-test.true, map-append class_of before (child ∷ []))
          (Spells-push new c.loop-child.last last head (map class_of before) (class_of child) stored done.at),
    )

pub returns-clause-within : goal.returns-clause-within
returns-clause-within c =
    let shape = map (λ child. class_at c.args.classes.now child.0) (take c.loop-child.child-index c.args.children.now) in
    Spells-within c.loop-child.steps.keys c.loop-child.last c.args.head shape c.loop-child.invariant.2
