use Rattle.std.proofs.Common.{List, Option, ℕ, arith, refl, sym, subst, take}
use Rattle.ct_congr.specs.Merges.{AreConnected}
use Rattle.ct_explain.specs.Resting.{HasNumber, Rests}
use Rattle.ct_explain.proofs.WritingLemmas.{AreDone-later}
use Rattle.ct_explain.proofs.ExplainedLemmas.{AreDone-put, merge_at}
use Rattle.ct_explain.proofs.RestLemmas.{rests_numbered, number_put, number_stays}
use Rattle.ct_explain.proofs.explain.write_next.Goals as goal

pub write_merge-requires-clause-reason : goal.write_merge-requires-clause-reason
write_merge-requires-clause-reason c =
    let at = merge_at c.args.classes.now.merges c.merges-merges.result.now c.args.k c.index-merges-k.result c.requires.inside c.merges-merges.ensures.value c.index-merges-k.is in
    c.merges-merges.ensures.justified c.args.k c.index-merges-k.result at

pub write_merge-requires-clause-rests : goal.write_merge-requires-clause-rests
write_merge-requires-clause-rests c =
    let state = c.args.classes.now in
    let m = c.index-merges-k.result in
    let known = AreConnected (take c.args.k state.merges) in
    let at = merge_at state.merges c.merges-merges.result.now c.args.k m c.requires.inside c.merges-merges.ensures.value c.index-merges-k.is in
    subst (λ (l : List (Option ℕ)). Rests state.terms c.args.forest.now.links known (HasNumber l) m.right m.why) (sym c.deref.ensures.value)
    (rests_numbered state.terms c.args.forest.now.links known c.args.marks.now c.args.done.now.items c.args.k m.right m.why c.requires.before (c.requires.closed c.args.k m at c.if-not-is_marked.ensures.marked))

pub returns-clause-done : goal.returns-clause-done
returns-clause-done c =
    let at = merge_at c.args.classes.now.merges c.merges-merges.result.now c.args.k c.index-merges-k.result c.requires.inside c.merges-merges.ensures.value c.index-merges-k.is in
    AreDone-put c.write_merge.new.writer c.args.classes.now.merges c.args.done.now.items c.args.k c.in_ok-number.number c.index-merges-k.result
    (omega (arith, c.requires.inside, c.requires.long)) at c.in_ok-number.ensures.told
    (AreDone-later c.args.classes.now c.args.writer.now c.write_merge.new.writer c.args.classes.now.merges c.args.done.now.items c.in_ok-number.ensures.grown c.requires.done)

pub returns-clause-marked : goal.returns-clause-marked
returns-clause-marked c = λ marked. number_put c.args.done.now.items _ c.args.k c.in_ok-number.number (omega (arith, c.requires.inside, c.requires.long)) refl

pub returns-clause-stays : goal.returns-clause-stays
returns-clause-stays c = number_stays c.args.done.now.items _ c.args.k c.in_ok-number.number (omega (arith, c.requires.inside, c.requires.long)) refl
