use Rattle.std.proofs.lemmas.List.Elements.{All-contains}
use Rattle.ct_terms.specs.Propagation.{IsFalseIn}
use Rattle.ct_log.specs.Acceptance.{clauses_of}
use Rattle.ct_log.proofs.LookLemmas.{not_told}
use Rattle.ct_log.proofs.PropagatedLemmas.{IsFalseAt-told, IsNumbered-within}
use Rattle.ct_log.proofs.propagation.is_false_at.Goals as goal

pub returns-then-not-has_line : goal.returns-then-not-has_line
returns-then-not-has_line c = record {
  refuted = λ set marked. (
    λ e. cc,
    λ h. absurd (not_told c.has_line.result _ c.has_line.ensures.within c.if-not-has_line.true (IsNumbered-within c.args.lines.now c.args.hint h.0 h.1)),
  );
}

pub clause_at-requires : goal.clause_at-requires
clause_at-requires c = let h = c.has_line.ensures.within.0 c.if-not-has_line.false in record { above = h.0; within = h.1 }

pub returns-in-None : goal.returns-in-None
returns-in-None c = record {
  refuted = λ set marked. (λ e. (c.clause_at.result.now, c.clause_at.ensures.numbered, c.in-None.ensures.other set marked), λ h. cc);
}

pub returns-in-Some : goal.returns-in-Some
returns-in-Some c = record {
  refuted = λ set marked. (
    λ e. cc,
    λ h.
        let found = c.in-Some.ensures.other set marked in
        let all = IsFalseAt-told (clauses_of c.args.lines.now) c.args.hint set c.clause_at.result.now c.clause_at.ensures.numbered h in
        absurd (found.1 (All-contains (IsFalseIn set) c.clause_at.result.now _ all found.0)),
  );
}
