use Rattle.std.proofs.Common.{◌≤◌, ◌-◌, ◌∙◌, List, [], ℕ, length, subst, sym, arith}
use Rattle.ct_sat.specs.Analysis.{Leads}
use Rattle.ct_sat.proofs.ClauseLemmas.{start_within, marked_none, conflict_leads}
use Rattle.ct_sat.proofs.analysis.locate.Goals as goal
use Rattle.ct_sat.proofs.analysis.locate.Goals.{then-top-start, else-top-start}

pub overflow_add-bound : goal.overflow_add-bound
overflow_add-bound c =
    let start = rw c.decided.ensures.value at c.start_of-start.ensures.start in
    let within = start_within c.args.trail.now.literals c.args.trail.now.reasons c.args.trail.now.decided c.start_of-start.result c.decided.ensures.whole.decisions start in
    let fits = c.decided.ensures.whole.fits in
    let few = c.decided.ensures.whole.few in
    omega arith

pub walk-requires-clause-fits : goal.walk-requires-clause-fits
walk-requires-clause-fits c =
    let start = rw c.decided.ensures.value at c.start_of-start.ensures.start in
    let within = start_within c.args.trail.now.literals c.args.trail.now.reasons c.args.trail.now.decided c.start_of-start.result c.decided.ensures.whole.decisions start in
    let inside = c.top-top.ensures.raises.inside (omega arith) in
    elim c.if-top-start.branch [ then-top-start w ↦ omega arith | else-top-start w ↦ omega arith ]

pub walk-requires-clause-unmarked : goal.walk-requires-clause-unmarked
walk-requires-clause-unmarked c = marked_none c.args.trail.now.literals c.as_slice-literals.result.now c.args.marks.now.items c.mark.new.marks.items c.start_of-start.result (c.if-top-start.bound - 1) c.lower-lowest.result c.requires.unmarked c.requires.long c.mark.ensures.marked c.lower-lowest.ensures.lowers

pub returns : goal.returns
returns c =
    let start = rw c.decided.ensures.value at c.start_of-start.ensures.start in
    let within = start_within c.args.trail.now.literals c.args.trail.now.reasons c.args.trail.now.decided c.start_of-start.result c.decided.ensures.whole.decisions start in
    let inside = c.top-top.ensures.raises.inside (omega arith) in
    let high : c.top-top.result ≤ c.if-top-start.bound = elim c.if-top-start.branch [ then-top-start w ↦ omega arith | else-top-start w ↦ omega arith ] in
    let fits : c.if-top-start.bound ≤ length c.args.trail.now.literals = elim c.if-top-start.branch [ then-top-start w ↦ omega arith | else-top-start w ↦ omega arith ] in
    let marks = rw c.as_slice-literals.ensures.value at c.mark.ensures.marked in
    let raises = rw c.as_slice-literals.ensures.value at c.top-top.ensures.raises in
    let begun : Leads c.args.clauses.now c.args.trail.now.literals c.mark.new.marks.items [] c.if-top-start.bound [] c.args.conflict.now.literals = conflict_leads c.args.clauses.now c.args.trail.now.literals c.args.marks.now.items c.mark.new.marks.items c.top-top.result c.if-top-start.bound c.args.conflict.now.literals c.requires.conflict marks raises high in
    let begun_there = subst (λ (hs : List ℕ). Leads c.args.clauses.now c.args.trail.now.literals c.mark.new.marks.items hs c.if-top-start.bound [] c.args.conflict.now.literals) (sym c.requires.begun) begun in
    record {
      located = record {
        leads = c.in_ok-unique.ensures.down [] c.args.conflict.now.literals begun_there;
        long = c.in_ok-unique.ensures.long ∙ c.mark.ensures.marked.long ∙ c.requires.long;
        decision = start;
        from = c.in_ok-unique.ensures.from;
        fits = (let below = c.in_ok-unique.ensures.below in omega arith);
        unmarked = c.in_ok-unique.ensures.unmarked;
      };
    }
