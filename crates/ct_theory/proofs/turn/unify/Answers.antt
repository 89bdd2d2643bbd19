use Rattle.std.proofs.Common.{[], ◌∷◌, refl, sym, subst}
use Rattle.ct_sorts.specs.Declarations.{Declarations}
use Rattle.ct_terms.specs.Terms.{Terms}
use Rattle.ct_congr.specs.declared.merge.Merge.{Merge}
use Rattle.ct_congr.specs.declared.merge.Reason.TheVariants.{Unique}
use Rattle.ct_unique.specs.Partition.{IsApart}
use Rattle.ct_theory.specs.Finite.{AreFinite}
use Rattle.ct_theory.proofs.TurnLemmas.{IsSaturation-of, IsUnderWay-merged}
use Rattle.ct_theory.proofs.AnswerLemmas.{HaveMerges, Connect, unequal-merged}
use Rattle.ct_theory.proofs.turn.unify.Goals as goal

pub finite_classes-requires-clause-finite : goal.finite_classes-requires-clause-finite
finite_classes-requires-clause-finite c =
    subst (λ (t : Terms). AreFinite c.args.classes.now.declarations t) c.table.ensures.value
    (subst (λ (d : Declarations). AreFinite d c.table.result.now) c.signature.ensures.value (c.are_finite.ensures.finite c.if-are_finite.true))

pub returns-then-are_finite-clause-turn : goal.returns-then-are_finite-clause-turn
returns-then-are_finite-clause-turn c =
    λ d terms literals under.
    IsSaturation-of d terms literals c.args.classes.now under c.requires.quiet c.merges.ensures.long c.merges.ensures.states c.args.found.reps.items c.requires.acyclic c.requires.ordered c.finite_classes.ensures.extensional

pub returns-in-None : goal.returns-in-None
returns-in-None c = record {
  forests = λ planted is. is;
  marks = refl;
  under_way = λ d terms literals under. under;
  turn = λ d terms literals under.
      IsSaturation-of d terms literals c.args.classes.now under c.requires.quiet c.merges.ensures.long c.merges.ensures.states c.args.found.reps.items c.requires.acyclic c.requires.ordered c.in-None.ensures.extensional;
}

pub returns-in_ok-merge-in-Some : goal.returns-in_ok-merge-in-Some
returns-in_ok-merge-in-Some c =
    let old = c.args.classes.now in
    let new = c.merge.new.self in
    let a = c.in-Some.a in
    let b = c.in-Some.b in
    let pairs = c.in_ok-listed-in-Some.listed in
    let merge : Merge = record { left = a; right = b; why = Unique pairs } in
    let connect : Connect = record { more = c.classes_of_merges.ensures.connected_more; sides = c.classes_of_merges.ensures.connected_merge } in
    let before : HaveMerges old = record { long = c.merges.ensures.long; connected = c.merges.ensures.connected; equal = c.merges.ensures.equal; states = c.merges.ensures.states } in
    let after : HaveMerges new = record { long = c.merges-in-Some.ensures.long; connected = c.merges-in-Some.ensures.connected; equal = c.merges-in-Some.ensures.equal; states = c.merges-in-Some.ensures.states } in
    let listed = c.in_ok-listed-in-Some.ensures in
    let ensures = c.in_ok-merge-in-Some.ensures in
    let found = c.in-Some.ensures.found in
    let apart : IsApart old c.in_ok-partition.partition a b = rw (c.in-Some.a-is, c.in-Some.b-is) found in
    record {
      forests = c.kept_forests.ensures.more old new (merge ∷ []) ensures.terms ensures.merges;
      marks = ensures.marks;
      under_way = λ d terms literals under.
          IsUnderWay-merged d terms literals old under c.requires.quiet before.long before.states new pairs a b ensures.declarations ensures.terms ensures.hypotheses ensures.given apart.left apart.right listed.asked listed.matched;
      turn = λ d terms literals under. unequal-merged old new c.in_ok-partition.partition merge connect before after apart ensures.terms ensures.merges;
    }

pub returns-then-are_finite-clause-forests : goal.returns-then-are_finite-clause-forests
returns-then-are_finite-clause-forests c = λ planted is. is
