use Rattle.std.proofs.Common.{◌≡◌, ◌∙◌, sym, subst}
use Rattle.std.proofs.lemmas.Option.{get_or_from_slice_get}
use Rattle.ct_sat.specs.Assigned.{IsReason}
use Rattle.ct_sat.proofs.AnalysisLemmas.{Leads-explain}
use Rattle.ct_sat.proofs.analysis.explain_by.Goals as goal

pub returns-clause-down : goal.returns-clause-down
returns-clause-down c = λ put conflict leads.
    let k = c.requires.reason in
    let is : k.0 ≡ c.index-clauses-reason.result = sym (c.index-clauses-reason.is ∙ get_or_from_slice_get c.args.clauses.now c.args.reason k.0 c.index-clauses-reason.result k.1) in
    let reason = subst (IsReason c.args.clauses.now c.args.trail.now.literals c.args.index) is k.2 in
    let marks = rw c.as_slice.ensures.value at c.mark.ensures.marked in
    rw c.in_ok-push.ensures.items (Leads-explain c.args.clauses.now c.args.trail.now.literals c.args.marks.now.items c.mark.new.marks.items c.args.hints.now.items c.args.index put conflict c.index-clauses-reason.result c.len-count.ensures.whole.consistent reason marks leads)
