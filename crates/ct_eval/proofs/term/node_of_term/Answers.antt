use Rattle.std.proofs.Common.{List, ap, sym, subst, ◌∙◌}
use Rattle.ct_terms.specs.declared.ids.TermId.{TermId}
use Rattle.ct_terms.specs.declared.term.Core.{Core}
use Rattle.ct_terms.specs.declared.term.Core.TheVariants.{Con, Sel, Test, Apply, Eq, Not, And, Or, Iff}
use Rattle.ct_eval.specs.EvaluationStep.{IsNodeFor}
use Rattle.ct_eval.proofs.StepResults.{dispatched}
use Rattle.ct_eval.proofs.term.node_of_term.Goals as goal

pub returns-in-Con-clause-value : goal.returns-in-Con-clause-value
returns-in-Con-clause-value c =
    dispatched c.args.sig.now c.args.interp.now c.args.shared.now c.construct.new.shared c.args.nodes.now c.args.core.now (Con c.in-Con.c c.as_slice.result.now) c.construct.result (c.in-Con.is ∙ ap (λ (ts : List TermId). Con c.in-Con.c ts) (sym c.as_slice.ensures.value)) (c.construct.ensures.value c.args.sig.now c.args.interp.now c.requires.fits)

pub returns-in-Sel-clause-value : goal.returns-in-Sel-clause-value
returns-in-Sel-clause-value c =
    dispatched c.args.sig.now c.args.interp.now c.args.shared.now c.args.shared.now c.args.nodes.now c.args.core.now (Sel c.in-Sel.s c.in-Sel.t) c.select.result c.in-Sel.is c.select.ensures.value

pub returns-in-Test-clause-value : goal.returns-in-Test-clause-value
returns-in-Test-clause-value c =
    dispatched c.args.sig.now c.args.interp.now c.args.shared.now c.test.new.shared c.args.nodes.now c.args.core.now (Test c.in-Test.c c.in-Test.t) c.test.result c.in-Test.is (c.test.ensures.value c.args.sig.now c.args.interp.now c.sorts.ensures.consistent c.requires.fits)

pub returns-in-Apply-clause-value : goal.returns-in-Apply-clause-value
returns-in-Apply-clause-value c =
    dispatched c.args.sig.now c.args.interp.now c.args.shared.now c.args.shared.now c.args.nodes.now c.args.core.now (Apply c.in-Apply.f c.as_slice-in-Apply.result.now) c.apply.result (c.in-Apply.is ∙ ap (λ (ts : List TermId). Apply c.in-Apply.f ts) (sym c.as_slice-in-Apply.ensures.value)) (c.apply.ensures.value c.args.sig.now c.requires.proper c.requires.fits)

pub returns-in-Eq-clause-value : goal.returns-in-Eq-clause-value
returns-in-Eq-clause-value c =
    dispatched c.args.sig.now c.args.interp.now c.args.shared.now c.equate.new.shared c.args.nodes.now c.args.core.now (Eq c.in-Eq.a c.in-Eq.b) c.equate.result c.in-Eq.is (c.equate.ensures.value c.args.sig.now c.sorts.ensures.consistent c.requires.fits)

pub returns-in-Not-clause-value : goal.returns-in-Not-clause-value
returns-in-Not-clause-value c =
    dispatched c.args.sig.now c.args.interp.now c.args.shared.now c.negate.new.shared c.args.nodes.now c.args.core.now (Not c.in-Not.t) c.negate.result c.in-Not.is (c.negate.ensures.value c.args.sig.now c.args.interp.now c.sorts.ensures.consistent c.requires.fits)

pub returns-in-And-clause-value : goal.returns-in-And-clause-value
returns-in-And-clause-value c =
    dispatched c.args.sig.now c.args.interp.now c.args.shared.now c.conjoin.new.shared c.args.nodes.now c.args.core.now (And c.as_slice-in-And.result.now) c.conjoin.result (c.in-And.is ∙ ap (λ (ts : List TermId). And ts) (sym c.as_slice-in-And.ensures.value)) (c.conjoin.ensures.value c.args.sig.now c.args.interp.now c.sorts.ensures.consistent c.requires.fits)

pub returns-in-Or-clause-value : goal.returns-in-Or-clause-value
returns-in-Or-clause-value c =
    dispatched c.args.sig.now c.args.interp.now c.args.shared.now c.disjoin.new.shared c.args.nodes.now c.args.core.now (Or c.as_slice-in-Or.result.now) c.disjoin.result (c.in-Or.is ∙ ap (λ (ts : List TermId). Or ts) (sym c.as_slice-in-Or.ensures.value)) (c.disjoin.ensures.value c.args.sig.now c.args.interp.now c.sorts.ensures.consistent c.requires.fits)

pub returns-in-Iff-clause-value : goal.returns-in-Iff-clause-value
returns-in-Iff-clause-value c =
    dispatched c.args.sig.now c.args.interp.now c.args.shared.now c.compare.new.shared c.args.nodes.now c.args.core.now (Iff c.in-Iff.a c.in-Iff.b) c.compare.result c.in-Iff.is (c.compare.ensures.value c.args.sig.now c.args.interp.now c.sorts.ensures.consistent c.requires.fits)

pub returns-in-Ite-clause-value : goal.returns-in-Ite-clause-value
returns-in-Ite-clause-value c =
    let g = c.args.shared.now in
    subst (λ (k : Core). IsNodeFor c.args.sig.now c.args.interp.now g g c.args.nodes.now k c.choose.result) (sym c.in-Ite.is) (c.choose.ensures.value c.args.sig.now c.args.interp.now c.requires.fits)
