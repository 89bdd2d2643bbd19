use Rattle.std.proofs.Common.{◌≡◌, ℕ, ◌≤◌, ◌+◌, ◌-◌, ◌∙◌, false, get_or, arith, subst, sym}
use Rattle.std.proofs.lemmas.Option.{get_or_from_slice_get}
use Rattle.ct_sat.specs.declared.decided.Decided.{Decided}
use Rattle.ct_sat.specs.Analysis.{Leads, IsAbove}
use Rattle.ct_sat.proofs.AnalysisLemmas.{Leads-raise}
use Rattle.ct_sat.proofs.ClauseLemmas.{start_within}
use Rattle.ct_sat.proofs.analysis.collect.Goals as goal

abbrev default : Decided
default = record { literal = record { term = record { 0 = 0 }; positive = false }; index = 0 }

pub put_or_explain-requires-clause-fits : goal.put_or_explain-requires-clause-fits
put_or_explain-requires-clause-fits c =
    let within = start_within c.args.trail.now.literals c.args.trail.now.reasons c.args.trail.now.decided c.args.start c.decided.ensures.whole.decisions c.requires.start in
    omega (arith, c.loop-index.invariant.index)

pub loop-index-preserved : goal.loop-index-preserved
loop-index-preserved c =
    let back : c.loop-index.index - 1 + 1 ≡ c.loop-index.index = omega arith in
    let i = c.loop-index.invariant in
    let above = subst (λ (n : ℕ). IsAbove n c.loop-index.above c.args.start) (sym back) i.above in
    record {
      leads = λ conflict leads. c.in_ok-above.ensures.leads conflict
          (subst (λ (n : ℕ). Leads c.args.clauses.now c.args.trail.now.literals c.loop-index.marks.items c.loop-index.hints.items n c.loop-index.lits.items conflict) (sym back) (i.leads conflict leads));
      long = c.in_ok-above.ensures.long ∙ i.long;
      collects = c.in_ok-above.ensures.collects c.args.start c.args.lits.now.items above i.collects;
      above = c.in_ok-above.ensures.above c.args.start (omega (arith, i.index)) above;
      index = omega (arith, i.index);
    }

pub returns-clause-leads : goal.returns-clause-leads
returns-clause-leads c = λ conflict d at leads.
    let test = rw c.decided.ensures.value at c.loop-index-test.false in
    let first : get_or c.args.trail.now.decided 0 default ≡ d = get_or_from_slice_get c.args.trail.now.decided 0 d default at in
    let low : c.loop-index.index ≤ d.index = subst (λ (x : Decided). c.loop-index.index ≤ x.index) first test in
    Leads-raise c.args.clauses.now c.args.trail.now.literals c.loop-index.marks.items c.loop-index.hints.items c.loop-index.index d.index c.loop-index.lits.items conflict low (c.loop-index.invariant.leads conflict leads)
