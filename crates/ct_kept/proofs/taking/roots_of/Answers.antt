use Rattle.std.proofs.Common.{◌≡◌, ◌++◌, subst}
use Rattle.std.specs.List.{flat_map}
use Rattle.ct_log.specs.declared.line.Line.{Line}
use Rattle.ct_kept.specs.Lemmas.{lemma_terms, lemmas_of_step}
use Rattle.ct_kept.proofs.TakenLemmas.{roots_more}
use Rattle.ct_kept.proofs.taking.roots_of.Goals as goal

pub loop-line-preserved : goal.loop-line-preserved
loop-line-preserved c =
    roots_more c.args.lines.now c.loop-line.line-index c.line-item.result c.loop-line-test.true c.loop-line.roots.items c.push_roots.new.roots.items c.loop-line.invariant
    (subst (λ (l : Line). c.push_roots.new.roots.items ≡ c.loop-line.roots.items ++ flat_map lemma_terms (lemmas_of_step l.clause l.step)) c.line-item.is c.in_ok-push_roots.ensures.roots)
