use Rattle.ct_model.proofs.BodyLemmas.{AreOpened}
use Rattle.ct_model.proofs.body.write_openings.Given as goal

abbrev pub invariant-loop-r : goal.invariant-loop-r
invariant-loop-r l = AreOpened l.sig l.graph l.rows l.r l.first l.count l.fn.out.items l.out.items
