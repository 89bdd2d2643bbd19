use Rattle.std.proofs.Common.{All, Contains, subst}
use Rattle.ct_restriction.specs.Restricted.{IsMarked}
use Rattle.ct_kept.specs.declared.lemma.Lemma.{Lemma}
use Rattle.ct_kept.specs.Lemmas.{lemma_terms}
use Rattle.ct_kept.proofs.WithinLemmas.{roots_more}
use Rattle.ct_kept.proofs.within.roots_of.Goals as goal

pub loop-lemma-preserved : goal.loop-lemma-preserved
loop-lemma-preserved c =
    roots_more c.args.marks.now c.args.lemmas.now c.loop-lemma.lemma-index c.lemma-item.result c.loop-lemma.roots.items c.push_roots.new.roots.items c.loop-lemma-test.true c.loop-lemma.invariant c.in_ok-push_roots.ensures.stays c.in_ok-push_roots.ensures.marked
    (subst (λ (l : Lemma). All (IsMarked c.args.marks.now) (lemma_terms l) → All (Contains c.push_roots.new.roots.items) (lemma_terms l)) c.lemma-item.is c.in_ok-push_roots.ensures.all)
