use Rattle.std.proofs.Common.{◌≤◌, length, take, All, subst, arith}
use Rattle.std.proofs.lemmas.List.{take_all}
use Rattle.std.proofs.lemmas.List.Elements.{All-more, All-weaker}
use Rattle.ct_kept.specs.declared.lemma.Lemma.{Lemma}
use Rattle.ct_kept.proofs.lines.longest.Goals as goal

pub loop-lemma-preserved : goal.loop-lemma-preserved
loop-lemma-preserved c =
    let most = c.larger-most.result in
    All-more (λ (l : Lemma). length l.steps ≤ most) c.args.lemmas.now c.loop-lemma.lemma-index c.lemma-item.result c.loop-lemma-test.true
    (All-weaker (λ (l : Lemma). length l.steps ≤ c.loop-lemma.most) (λ (l : Lemma). length l.steps ≤ most) (λ l h. omega (arith, h, c.larger-most.ensures.left)) (take c.loop-lemma.lemma-index c.args.lemmas.now) c.loop-lemma.invariant)
    (subst (λ (l : Lemma). length l.steps ≤ most) c.lemma-item.is (omega (arith, c.larger-most.ensures.right, c.len.ensures.len)))

pub returns : goal.returns
returns c = record {
  each = subst (All (λ (l : Lemma). length l.steps ≤ c.loop-lemma.most)) (take_all c.loop-lemma.lemma-index c.args.lemmas.now c.loop-lemma-test.false) c.loop-lemma.invariant;
}
