use Rattle.std.proofs.Common.{inl, inr, subst}
use Rattle.ct_explain.specs.Trees.{IsTop}
use Rattle.ct_terms.specs.declared.ids.TermId.{TermId}
use Rattle.ct_explain.proofs.HangLemmas.{tested_not}
use Rattle.ct_explain.proofs.TopLemmas.{tested_one}
use Rattle.ct_explain.proofs.uniqueness.joins.Goals as goal

pub returns-then-ne-clause-apart : goal.returns-then-ne-clause-apart
returns-then-ne-clause-apart c = inl (c.top.result, c.top.ensures.top, tested_not c.top.result c.args.from c.if-ne.ensures)

pub returns-then-ne-2-clause-apart : goal.returns-then-ne-2-clause-apart
returns-then-ne-2-clause-apart c = inr (c.top-2.result, c.top-2.ensures.top, tested_not c.top-2.result c.args.to c.if-ne-2.ensures)

pub returns-clause-left : goal.returns-clause-left
returns-clause-left c = subst (λ (q : TermId). IsTop c.args.links.now c.args.bound c.args.e.left q) (tested_one c.top.result c.args.from c.if-ne.ensures) c.top.ensures.top

pub returns-clause-right : goal.returns-clause-right
returns-clause-right c = subst (λ (q : TermId). IsTop c.args.links.now c.args.bound c.args.e.right q) (tested_one c.top-2.result c.args.to c.if-ne-2.ensures) c.top-2.ensures.top
