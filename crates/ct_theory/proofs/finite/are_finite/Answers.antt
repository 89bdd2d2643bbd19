use Rattle.std.proofs.Common.{refl, arith}
use Rattle.std.proofs.lemmas.Option.{slice_get_within}
use Rattle.ct_terms.specs.declared.term.Core.TheVariants.{Con}
use Rattle.ct_theory.proofs.FiniteLemmas.{AreFiniteBelow-next}
use Rattle.ct_theory.proofs.finite.are_finite.Goals as goal

pub loop-t-preserved : goal.loop-t-preserved
loop-t-preserved c = AreFiniteBelow-next c.args.sig.now c.args.table.now c.loop-t.t c.loop-t.invariant (c.if-not-is_finite.ensures.finite refl)

pub returns : goal.returns
returns c = record {
  finite = λ yes t k args stands. c.loop-t.invariant t k args (omega (arith, c.loop-t-test.false, c.len-t-end.ensures.count, c.loop-t.auto.t-end, slice_get_within c.args.table.now t.0 (Con k args, stands.0) stands.1)) stands;
}
