use Rattle.std.proofs.Common.{◌≡◌, sym, subst, inl, inr, arith}
use Rattle.ct_lemmas.proofs.Numbers.{same_or_other}
use Rattle.ct_terms.specs.declared.ids.TermId.{TermId}
use Rattle.ct_congr.specs.Index.{IsInjectedAt}
use Rattle.ct_congr.proofs.ConstructorLemmas.{IsInjective-all}
use Rattle.ct_congr.proofs.constructors.injections.Goals as goal

pub loop-t-preserved : goal.loop-t-preserved
loop-t-preserved c =
    let t : TermId = record { 0 = c.loop-t.t } in
    record {
      all = λ none u below.
          let both = c.in_ok-inject.ensures.closed none in
          elim (same_or_other u.0 c.loop-t.t) [
            | inl e ↦
                let is : t ≡ u = λ i. record { 0 = sym e i } in
                subst (IsInjectedAt c.args.table.now c.args.reps.now c.args.index.now) is both.1
            | inr other ↦ c.loop-t.invariant.all both.0 u (omega (arith, other, below))
          ];
      before = λ none. c.loop-t.invariant.before (c.in_ok-inject.ensures.closed none).0;
      needed = λ hyps had. c.in_ok-inject.ensures.needed hyps (c.loop-t.invariant.needed hyps had);
    }

pub returns-clause-closed : goal.returns-clause-closed
returns-clause-closed c = λ none. (
  c.loop-t.invariant.before none,
  IsInjective-all c.args.table.now c.args.reps.now c.args.sig.now c.args.index.now c.requires.sorted (λ t below. c.loop-t.invariant.all none t (omega (arith, below, c.len-t-end.ensures.count, c.loop-t-test.false))),
)
