use Rattle.test_engine.proofs.VerdictLemmas.{terms_sorted}
use Rattle.test_engine.proofs.solve.show_lines.Goals as goal

pub show_record-requires : goal.show_record-requires
show_record-requires c =
    record { fits = terms_sorted c.args.derivation.now c.args.sig.now c.rec.result.now c.rec.ensures.derivation c.requires.own c.rec.ensures.value }
