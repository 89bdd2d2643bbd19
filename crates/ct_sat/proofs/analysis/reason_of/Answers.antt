use Rattle.std.proofs.Common.{◌≡◌, ◌∙◌, length, sym, subst, refl}
use Rattle.std.proofs.lemmas.Option.{slice_get_within, slice_get_read, same_Some}
use Rattle.ct_sat.specs.Assigned.{IsReason}
use Rattle.ct_sat.proofs.AnalysisLemmas.{reason_there}
use Rattle.ct_sat.proofs.analysis.reason_of.Goals as goal

pub unreachable-requires : goal.unreachable-requires
unreachable-requires c = reason_there c.args.trail.now.literals c.args.trail.now.reasons c.args.trail.now.decided c.args.index c.in-None.ensures.whole.decisions c.requires.decisions c.in-None.ensures.value

pub returns-clause-reason : goal.returns-clause-reason
returns-clause-reason c =
    let p = c.requires.reasons.each c.args.index c.in-Some.clause c.in-Some.ensures.value in
    let within = slice_get_within c.args.clauses.now c.in-Some.clause p.0 p.1 in
    let here = slice_get_read c.args.clauses.now (length c.args.clauses.now) c.in-Some.clause c.index-clauses-clause.result refl within c.index-clauses-clause.is in
    let same : p.0 ≡ c.index-clauses-clause.result = same_Some p.0 c.index-clauses-clause.result (sym p.1 ∙ here) in
    subst (IsReason c.args.clauses.now c.args.trail.now.literals c.args.index) same p.2
