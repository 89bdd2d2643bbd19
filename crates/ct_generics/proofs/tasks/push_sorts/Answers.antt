use Rattle.std.proofs.Common.{◌≡◌, ◌++◌, [], map, reverse, ap, ◌∙◌, sym}
use Rattle.std.proofs.lemmas.List.{nil_from_length}
use Rattle.ct_generics.specs.declared.tasks.Task.TheVariants.{Add}
use Rattle.ct_generics.proofs.TaskLemmas.{pushed-sort}
use Rattle.ct_generics.proofs.tasks.push_sorts.Goals as goal

pub loop-id-preserved : goal.loop-id-preserved
loop-id-preserved c = pushed-sort _ _ _ c.loop-id.tasks.items c.push.new.self.items _ c.in-Some.ensures.steps c.in_ok-push.ensures.items c.loop-id.invariant

pub returns-clause-pushed : goal.returns-clause-pushed
returns-clause-pushed c =
    let none_left : c.loop-id.id-iterator.iter.rest.now ≡ [] = nil_from_length c.loop-id.id-iterator.iter.rest.now c.in-None.ensures.steps.0 in
    ap (λ ids. map Add ids ++ reverse c.loop-id.tasks.items) (sym none_left) ∙ c.loop-id.invariant
