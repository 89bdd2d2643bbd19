use Rattle.std.proofs.Common.{◌≡◌, sym, subst, inl, inr, arith}
use Rattle.ct_lemmas.proofs.Numbers.{same_or_other}
use Rattle.ct_terms.specs.declared.ids.TermId.{TermId}
use Rattle.ct_congr.specs.Partition.{InOneClass}
use Rattle.ct_congr.specs.Rules.{AreClosedOf}
use Rattle.ct_congr.proofs.saturate.at_terms.Goals as goal

pub loop-t-preserved : goal.loop-t-preserved
loop-t-preserved c =
    let t : TermId = record { 0 = c.loop-t.t } in
    let known = InOneClass c.args.reps.now in
    record {
      closed = λ none injective u core below has. elim (same_or_other u.0 c.loop-t.t) [
        | inl e ↦
            let is : t ≡ u = λ i. record { 0 = sym e i } in
            subst (AreClosedOf c.args.sig.now c.args.table.now known) is (c.in_ok-at_term.ensures.closed none injective) core has
        | inr other ↦ c.loop-t.invariant.closed (c.in_ok-at_term.ensures.none none) injective u core (omega (arith, other, below)) has
      ];
      before = λ none. c.loop-t.invariant.before (c.in_ok-at_term.ensures.none none);
      needed = λ hyps had. c.in_ok-at_term.ensures.needed hyps (c.loop-t.invariant.needed hyps had);
    }

pub returns-clause-closed : goal.returns-clause-closed
returns-clause-closed c = λ none injective t core below has.
    c.loop-t.invariant.closed none injective t core (omega (arith, below, c.len-t-end.ensures.count, c.loop-t-test.false)) has
