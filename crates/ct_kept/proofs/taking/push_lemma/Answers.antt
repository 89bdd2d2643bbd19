use Rattle.std.proofs.Common.{refl}
use Rattle.ct_kept.proofs.TakenLemmas.{pushed_one, unknown_one}
use Rattle.ct_kept.proofs.taking.push_lemma.Goals as goal

pub returns-in_ok-push-in-Some-clause-pushed : goal.returns-in_ok-push-in-Some-clause-pushed
returns-in_ok-push-in-Some-clause-pushed c =
    pushed_one c.args.numbers.now c.args.line.now.clause c.args.line.now.step c.in-Theory.steps c.in-Theory.close c.in-Theory.is c.as_slice.result.now c.as_slice-in-Theory.result.now c.as_slice.ensures.value c.as_slice-in-Theory.ensures.value c.in-Some.lemma c.args.lemmas.now.items c.push.new.self.items
    (rw c.in-Some.is at c.in_ok-lemma-in-Theory.ensures.moved) c.in_ok-push-in-Some.ensures.items

pub returns-in-None-clause-pushed : goal.returns-in-None-clause-pushed
returns-in-None-clause-pushed c = (
  unknown_one c.args.numbers.now c.args.line.now.clause c.args.line.now.step c.in-Theory.steps c.in-Theory.close c.in-Theory.is c.as_slice.result.now c.as_slice-in-Theory.result.now c.as_slice.ensures.value c.as_slice-in-Theory.ensures.value
      (rw c.in-None.is at c.in_ok-lemma-in-Theory.ensures.moved),
  refl,
)
