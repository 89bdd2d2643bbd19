use Rattle.std.proofs.Common.{◌≡◌, ℕ, ◌<◌, ◌≤◌, List, length, get_or, ◌∙◌, arith, add-one}
use Rattle.std.proofs.lemmas.Grind.{get_or_default_zero}
use Rattle.ct_values.specs.Partition.{class_at}
use Rattle.ct_values.proofs.FiniteLemmas.{IsSettling-step, unsettled-set}
use Rattle.ct_values.proofs.finite.settle.Goals as goal

-- what is read as 0 at an index is the class there
zero_class : (classes : List ℕ) (i x : ℕ) → i < length classes → x ≡ get_or classes i x → x ≤ 0 → class_at classes i ≡ 0
zero_class classes i x within read low = omega (arith, read ∙ get_or_default_zero classes i x within)

pub returns-clause-settling : goal.returns-clause-settling
returns-clause-settling c =
    let classes = c.args.classes.now.items in
    let index = c.args.n.0 in
    let within : index < length classes = omega (arith, c.requires.within, c.requires.settling.long) in
    let zero_at = zero_class classes index c.index.result.now within c.index.ensures c.if-index-gt0.false in
    let made = c.in_ok-number.ensures in
    rw add-one
    (IsSettling-step c.args.graph.now classes c.args.steps.now c.shape.new.steps index c.in_ok-number.number c.head.result c.children-parts.result.now c.requires.settling c.requires.within zero_at c.head.ensures.value c.children-parts.ensures.value c.children-parts.ensures.below (rw c.deref.ensures.value at c.if-not-are_settled.ensures.value) made.steps made.stay (rw c.deref-2.ensures.value at made.spells))

pub returns-clause-done : goal.returns-clause-done
returns-clause-done c =
    let classes = c.args.classes.now.items in
    let index = c.args.n.0 in
    let within : index < length classes = omega (arith, c.requires.within, c.requires.settling.long) in
    let zero_at = zero_class classes index c.index.result.now within c.index.ensures c.if-index-gt0.false in
    rw add-one (unsettled-set classes index c.in_ok-number.number within zero_at)
