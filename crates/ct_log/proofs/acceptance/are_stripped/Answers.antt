use Rattle.std.proofs.Common.{false, All, subst}
use Rattle.std.proofs.lemmas.List.{take_all}
use Rattle.std.proofs.lemmas.List.Elements.{All-more}
use Rattle.ct_terms.specs.declared.ids.Lit.{Lit}
use Rattle.ct_terms.specs.Literal.{IsStripped}
use Rattle.ct_log.proofs.LookLemmas.{not_told}
use Rattle.ct_log.proofs.acceptance.are_stripped.Goals as goal

abbrev default : Lit
default = record { term = record { 0 = 0 }; positive = false }

pub returns-then-not-is_stripped : goal.returns-then-not-is_stripped
returns-then-not-is_stripped c = record {
  stripped = (λ e. cc, λ all. absurd (not_told c.is_stripped.result _ c.is_stripped.ensures.stripped c.if-not-is_stripped.true (all c.loop-l.l-index default c.loop-l-test.true)));
}

pub loop-l-preserved : goal.loop-l-preserved
loop-l-preserved c =
    All-more (λ l. IsStripped c.args.table.now l.term) c.args.clause.now c.loop-l.l-index default c.loop-l-test.true c.loop-l.invariant (c.is_stripped.ensures.stripped.0 c.if-not-is_stripped.false)

pub returns : goal.returns
returns c = record {
  stripped = (λ e. subst (All (λ l. IsStripped c.args.table.now l.term)) (take_all c.loop-l.l-index c.args.clause.now c.loop-l-test.false) c.loop-l.invariant, λ all. cc);
}
