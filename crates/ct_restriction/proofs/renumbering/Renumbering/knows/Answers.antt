use Rattle.std.proofs.Common.{◌∙◌, All, refl, subst, sym, true≢false}
use Rattle.std.proofs.lemmas.List.{take_all}
use Rattle.std.proofs.lemmas.List.Elements.{All-more, All-from_recursion, recursion_from_All}
use Rattle.ct_restriction.specs.Renumbered.{IsKnown}
use Rattle.ct_restriction.proofs.renumbering.Renumbering.knows.Goals as goal

pub loop-t-preserved : goal.loop-t-preserved
loop-t-preserved c =
    All-more (IsKnown c.args.self.now) c.args.terms.now c.loop-t.t-index (record { 0 = 0 }) c.loop-t-test.true c.loop-t.invariant (c.knows_one.ensures.known.0 c.if-not-knows_one.false)

pub returns-then-not-knows_one : goal.returns-then-not-knows_one
returns-then-not-knows_one c = record {
  known = (
    λ no. absurd (true≢false (sym no)),
    λ all. sym c.if-not-knows_one.true ∙ c.knows_one.ensures.known.1 (All-from_recursion (IsKnown c.args.self.now) c.args.terms.now all c.loop-t.t-index (record { 0 = 0 }) c.loop-t-test.true),
  );
}

pub returns : goal.returns
returns c = record {
  known = (
    λ yes. recursion_from_All (IsKnown c.args.self.now) c.args.terms.now (subst (All (IsKnown c.args.self.now)) (take_all c.loop-t.t-index c.args.terms.now c.loop-t-test.false) c.loop-t.invariant),
    λ all. refl,
  );
}
