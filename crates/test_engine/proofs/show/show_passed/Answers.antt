use Rattle.test_engine.proofs.VerdictLemmas.{judges_over}
use Rattle.test_engine.proofs.show.show_passed.Goals as goal

pub show_run-requires : goal.show_run-requires
show_run-requires c =
    record {
      judges =
          judges_over c.args.derivation.now c.args.sig.now c.rec-rec.result.now c.rec-rec.ensures.derivation c.requires.own c.rec-rec.ensures.value _ _ c.asserts-asserts.ensures.value
          (rw c.deref.ensures c.in_ok-sizes.ensures.sizes);
    }
