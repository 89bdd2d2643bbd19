use Rattle.std.proofs.Common.{◌≡◌, ◌++◌, map, subst}
use Rattle.ct_log.specs.declared.line.Line.{Line}
use Rattle.ct_restriction.specs.Renamed.{number_in}
use Rattle.ct_kept.specs.Lemmas.{renamed_lemma, lemmas_of_step}
use Rattle.ct_kept.specs.Taken.{AreKnownLemmas}
use Rattle.ct_kept.proofs.TakenLemmas.{known_more, pushed_more, pushes_some}
use Rattle.ct_kept.proofs.taking.push_lemmas.Goals as goal

pub returns-then-not-branch-clause-pushes : goal.returns-then-not-branch-clause-pushes
returns-then-not-branch-clause-pushes c =
    let n = c.args.numbers.now in
    let found = rw c.if-not-branch.true at c.in_ok-push_lemma.ensures.pushed in
    pushes_some c.args.lines.now c.loop-line.line-index c.line-item.result c.loop-line-test.true n c.args.lemmas.now.items c.loop-line.lemmas.items c.push_lemma.new.lemmas.items c.loop-line.invariant.known c.loop-line.invariant.pushed
    (subst (λ (l : Line). AreKnownLemmas n (lemmas_of_step l.clause l.step) → ⊥) c.line-item.is found.0, found.1)

pub loop-line-preserved : goal.loop-line-preserved
loop-line-preserved c =
    let n = c.args.numbers.now in
    let found = rw c.if-not-branch.false at c.in_ok-push_lemma.ensures.pushed in
    record {
      known = known_more c.args.lines.now c.loop-line.line-index c.line-item.result c.loop-line-test.true n c.loop-line.invariant.known
          (subst (λ (l : Line). AreKnownLemmas n (lemmas_of_step l.clause l.step)) c.line-item.is found.0);
      pushed = pushed_more c.args.lines.now c.loop-line.line-index c.line-item.result c.loop-line-test.true n c.args.lemmas.now.items c.loop-line.lemmas.items c.push_lemma.new.lemmas.items c.loop-line.invariant.pushed
          (subst (λ (l : Line). c.push_lemma.new.lemmas.items ≡ c.loop-line.lemmas.items ++ map (renamed_lemma (number_in n.numbers)) (lemmas_of_step l.clause l.step)) c.line-item.is found.1);
    }
