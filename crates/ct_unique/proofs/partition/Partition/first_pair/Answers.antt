use Rattle.std.proofs.Common.{◌<◌, length, slice_index, sym, ap, subst, ◌∙◌, inl, inr, arith}
use Rattle.std.proofs.lemmas.Bool.{cases_order}
use Rattle.ct_congr.specs.State.{AreEqual}
use Rattle.ct_unique.specs.Nodes.{term}
use Rattle.ct_unique.specs.Partition.{block_of}
use Rattle.ct_unique.proofs.ClassLemmas.{InOneClass-sym, InOneClass-trans}
use Rattle.ct_unique.proofs.ExtensionLemmas.{IsStronglyExtensional-of}
use Rattle.ct_unique.proofs.partition.Partition.first_pair.Goals as goal

pub are_equal-requires-clause-left : goal.are_equal-requires-clause-left
are_equal-requires-clause-left c =
    let made = c.requires.made in
    let before : c.loop-t.t < length c.args.self.now = omega (arith, c.loop-t-test.true, c.len-t-end.ensures.count, ap length c.table.ensures.value, made.long) in
    let inside = made.inside (term c.loop-t.t) before in
    omega (arith, inside, c.block.ensures.value, made.long)

pub constructors-requires-clause-left : goal.constructors-requires-clause-left
constructors-requires-clause-left c =
    let made = c.requires.made in
    let before : c.loop-t.t < length c.args.self.now = omega (arith, c.loop-t-test.true, c.len-t-end.ensures.count, ap length c.table.ensures.value, made.long) in
    let inside = made.inside (term c.loop-t.t) before in
    omega (arith, inside, c.block.ensures.value, made.long)

pub constructors-requires-clause-same : goal.constructors-requires-clause-same
constructors-requires-clause-same c =
    let made = c.requires.made in
    let before : c.loop-t.t < length c.args.self.now = omega (arith, c.loop-t-test.true, c.len-t-end.ensures.count, ap length c.table.ensures.value, made.long) in
    ap (slice_index c.args.self.now) c.block.ensures.value ∙ made.member (term c.loop-t.t) before

pub loop-t-preserved : goal.loop-t-preserved
loop-t-preserved c = λ k before.
    let state = c.args.classes.now in
    let blocks = c.args.self.now in
    elim (cases_order k c.loop-t.t) [
      | inl e ↦
          let here : AreEqual state (term c.block.result) (term c.loop-t.t) = c.are_equal.ensures.value.0 c.if-not-are_equal.false in
          let named : AreEqual state (term (block_of blocks (term c.loop-t.t))) (term c.loop-t.t) = subst (λ n. AreEqual state (term n) (term c.loop-t.t)) c.block.ensures.value here in
          subst (λ n. AreEqual state (term (block_of blocks (term n))) (term n)) (sym e) named
      | inr h ↦ elim h [
        | inl less ↦ c.loop-t.invariant k less
        | inr greater ↦ absurd (omega (arith, before, greater))
      ]
    ]

pub returns-clause-none : goal.returns-clause-none
returns-clause-none c = λ x y in_x in_y same.
    let state = c.args.classes.now in
    let blocks = c.args.self.now in
    let all = ap length c.table.ensures.value in
    let left = c.loop-t.invariant x.0 (omega (arith, in_x, all, c.len-t-end.ensures.count, c.loop-t-test.false)) in
    let right = c.loop-t.invariant y.0 (omega (arith, in_y, all, c.len-t-end.ensures.count, c.loop-t-test.false)) in
    let there : AreEqual state (term (block_of blocks x)) y = subst (λ n. AreEqual state (term n) y) (sym same) right in
    InOneClass-trans state.reps x (term (block_of blocks x)) y (InOneClass-sym state.reps (term (block_of blocks x)) x left) there

pub returns-clause-extensional : goal.returns-clause-extensional
returns-clause-extensional c = IsStronglyExtensional-of c.args.classes.now c.args.self.now c.requires.made c.table.ensures.one_sort (returns-clause-none c)
