use Rattle.std.proofs.Common.{All}
use Rattle.ct_terms.specs.declared.ids.Lit.{Lit}
use Rattle.ct_terms.specs.Literal.{IsStripped}
use Rattle.test_classes.proofs.hypotheses.hypotheses_of.Given as goal

abbrev pub invariant-loop-part : goal.invariant-loop-part
invariant-loop-part l = All (λ (h : Lit). IsStripped l.table h.term) l.hyps.items
