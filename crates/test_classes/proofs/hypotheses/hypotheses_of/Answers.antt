use Rattle.std.proofs.Common.{All, sym, subst}
use Rattle.std.proofs.lemmas.List.Elements.{All-push}
use Rattle.ct_terms.specs.declared.ids.Lit.{Lit}
use Rattle.ct_terms.specs.Literal.{IsStripped}
use Rattle.test_classes.proofs.hypotheses.hypotheses_of.Goals as goal

pub loop-part-preserved : goal.loop-part-preserved
loop-part-preserved c =
    subst (All (λ (h : Lit). IsStripped c.args.table.now h.term)) (sym c.in_ok-push.ensures.items)
    (All-push (λ (h : Lit). IsStripped c.args.table.now h.term) c.loop-part.hyps.items c.in_ok-hypothesis.field-0 c.loop-part.invariant c.in_ok-hypothesis.ensures.stripped)
