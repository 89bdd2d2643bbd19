use Rattle.std.proofs.Common.{◌<◌, ◌+◌, inl, inr, arith}
use Rattle.ct_sat.proofs.AnalysisLemmas.{Leads-skip, Leads-put}
use Rattle.ct_sat.proofs.ClauseLemmas.{unmarked_here, Collects-put}
use Rattle.ct_sat.proofs.analysis.put_marked.Goals as goal

pub returns-then-not-index-clause-leads : goal.returns-then-not-index-clause-leads
returns-then-not-index-clause-leads c = λ clauses hints conflict leads.
    Leads-skip clauses c.args.trail.now.literals c.args.marks.now.items hints (c.args.index + 1) c.args.index c.args.lits.now.items conflict
    (unmarked_here c.args.marks.now.items c.args.index c.index.result.now (omega (arith, c.requires.long)) c.index.ensures c.if-not-index.true) leads

pub returns-then-above-eq0-clause-leads : goal.returns-then-above-eq0-clause-leads
returns-then-above-eq0-clause-leads c = λ clauses hints conflict leads.
    rw (c.in_ok-push.ensures.items, c.opposite.ensures.value.2) (Leads-put clauses c.args.trail.now.literals c.args.marks.now.items hints c.args.index c.args.lits.now.items conflict c.opposite.ensures.value.0 c.opposite.ensures.value.1 leads)

pub returns-then-above-eq0-clause-collects : goal.returns-then-above-eq0-clause-collects
returns-then-above-eq0-clause-collects c = λ start older above collects.
    rw (c.in_ok-push.ensures.items, c.opposite.ensures.value.2) (Collects-put c.args.trail.now.literals c.args.above (c.args.index + 1) c.args.index older c.args.lits.now.items c.opposite.ensures.value.0 (omega arith) (omega arith) c.opposite.ensures.value.1 collects)

pub returns-else-above-eq0-clause-leads : goal.returns-else-above-eq0-clause-leads
returns-else-above-eq0-clause-leads c = λ clauses hints conflict leads.
    rw (c.in_ok-push.ensures.items, c.opposite.ensures.value.2) (Leads-put clauses c.args.trail.now.literals c.args.marks.now.items hints c.args.index c.args.lits.now.items conflict c.opposite.ensures.value.0 c.opposite.ensures.value.1 leads)

pub returns-else-above-eq0-clause-collects : goal.returns-else-above-eq0-clause-collects
returns-else-above-eq0-clause-collects c = λ start older above collects.
    let below : c.args.index < c.args.above = elim above [ inl none ↦ omega arith | inr p ↦ omega (arith, p.0) ] in
    rw (c.in_ok-push.ensures.items, c.opposite.ensures.value.2) (Collects-put c.args.trail.now.literals c.args.above c.args.above c.args.index older c.args.lits.now.items c.opposite.ensures.value.0 (omega arith) below c.opposite.ensures.value.1 collects)
