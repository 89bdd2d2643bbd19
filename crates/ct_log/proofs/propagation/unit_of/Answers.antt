use Rattle.std.proofs.lemmas.Option.{none-some}
use Rattle.ct_log.proofs.LookLemmas.{not_told}
use Rattle.ct_log.proofs.PropagatedLemmas.{unit-none, unit-other, unit-found}
use Rattle.ct_log.proofs.propagation.unit_of.Goals as goal

pub returns-in-None : goal.returns-in-None
returns-in-None c = record {
  unit = λ set marked l. (λ unit. absurd (unit-none set c.args.clause.now l (c.in-None.ensures.other set marked) unit), λ e. absurd (none-some l e));
}

pub returns-then-not-are_false_but : goal.returns-then-not-are_false_but
returns-then-not-are_false_but c = record {
  unit = λ set marked k. (
    λ unit.
        let found = c.in-Some.ensures.other set marked in
        absurd (unit-other set c.args.clause.now c.in-Some.l k found.0 found.1 (not_told c.are_false_but.result _ (c.are_false_but.ensures.others set marked) c.if-not-are_false_but.true) unit),
    λ e. absurd (none-some k e),
  );
}

pub returns-else-not-are_false_but : goal.returns-else-not-are_false_but
returns-else-not-are_false_but c = record {
  unit = λ set marked.
      let found = c.in-Some.ensures.other set marked in
      unit-found set c.args.clause.now c.in-Some.l found.0 found.1 ((c.are_false_but.ensures.others set marked).0 c.if-not-are_false_but.false);
}
