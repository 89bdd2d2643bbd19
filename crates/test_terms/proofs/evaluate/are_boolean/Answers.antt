use Rattle.std.proofs.Common.{All, subst}
use Rattle.std.proofs.lemmas.List.{take_all}
use Rattle.std.proofs.lemmas.List.Elements.{All-more}
use Rattle.ct_terms.specs.Terms.{IsBoolean}
use Rattle.test_terms.proofs.evaluate.are_boolean.Goals as goal

pub loop-t-preserved : goal.loop-t-preserved
loop-t-preserved c =
    All-more (IsBoolean c.args.table.now) c.args.terms.now c.loop-t.t-index (record { 0 = 0 }) c.loop-t-test.true c.loop-t.invariant (c.is_boolean.ensures.boolean c.if-not-is_boolean.false)

pub returns : goal.returns
returns c = record {
  boolean = λ e. subst (All (IsBoolean c.args.table.now)) (take_all c.loop-t.t-index c.args.terms.now c.loop-t-test.false) c.loop-t.invariant;
}
