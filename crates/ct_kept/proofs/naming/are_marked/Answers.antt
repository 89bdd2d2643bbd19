use Rattle.std.proofs.Common.{◌∙◌, All, refl, subst, sym, true≢false}
use Rattle.std.proofs.lemmas.List.{take_all}
use Rattle.std.proofs.lemmas.List.Elements.{All-more, All-from_recursion, recursion_from_All}
use Rattle.ct_restriction.specs.Restricted.{IsMarked}
use Rattle.ct_kept.proofs.naming.are_marked.Goals as goal

pub loop-t-preserved : goal.loop-t-preserved
loop-t-preserved c =
    All-more (IsMarked c.args.marks.now) c.args.terms.now c.loop-t.t-index (record { 0 = 0 }) c.loop-t-test.true c.loop-t.invariant (c.is_marked.ensures.marked.0 c.if-not-is_marked.false)

pub returns-then-not-is_marked : goal.returns-then-not-is_marked
returns-then-not-is_marked c = record {
  marked = (
    λ no. absurd (true≢false (sym no)),
    λ all. sym c.if-not-is_marked.true ∙ c.is_marked.ensures.marked.1 (All-from_recursion (IsMarked c.args.marks.now) c.args.terms.now all c.loop-t.t-index (record { 0 = 0 }) c.loop-t-test.true),
  );
}

pub returns : goal.returns
returns c = record {
  marked = (
    λ yes. recursion_from_All (IsMarked c.args.marks.now) c.args.terms.now (subst (All (IsMarked c.args.marks.now)) (take_all c.loop-t.t-index c.args.terms.now c.loop-t-test.false) c.loop-t.invariant),
    λ all. refl,
  );
}
