use Rattle.std.proofs.lemmas.Option.{none-some}
use Rattle.ct_log.specs.Acceptance.{clauses_of}
use Rattle.ct_log.proofs.LookLemmas.{not_told}
use Rattle.ct_log.proofs.PropagatedLemmas.{IsUnitAt-told, IsNumbered-within}
use Rattle.ct_log.proofs.propagation.unit_at.Goals as goal

pub returns-then-not-has_line : goal.returns-then-not-has_line
returns-then-not-has_line c = record {
  unit = λ set marked l. (
    λ h. absurd (not_told c.has_line.result _ c.has_line.ensures.within c.if-not-has_line.true (IsNumbered-within c.args.lines.now c.args.hint h.0 h.1)),
    λ e. absurd (none-some l e),
  );
}

pub clause_at-requires : goal.clause_at-requires
clause_at-requires c = let h = c.has_line.ensures.within.0 c.if-not-has_line.false in record { above = h.0; within = h.1 }

pub returns : goal.returns
returns c = record {
  unit = λ set marked. IsUnitAt-told (clauses_of c.args.lines.now) c.args.hint set c.clause_at.result.now c.unit_of.result c.clause_at.ensures.numbered (c.unit_of.ensures.unit set marked);
}
