use Rattle.std.proofs.Common.{length, refl}
use Rattle.ct_terms.specs.declared.term.Core.TheVariants.{Con}
use Rattle.ct_congr.proofs.TermLemmas.{Has-inside}
use Rattle.ct_congr.proofs.RuleLemmas.{IsTesting-true}
use Rattle.ct_congr.proofs.rules.test_true.Goals as goal

pub returns-in_ok-need-in-Some-clause-needed : goal.returns-in_ok-need-in-Some-clause-needed
returns-in_ok-need-in-Some-clause-needed c = λ d hyps old.
    let terms = c.args.table.now in
    let h = c.in-Some.ensures.found terms (length terms) c.requires.index in
    c.in_ok-need-in-Some.ensures.needed d terms hyps (refl, IsTesting-true terms c.args.reps.now c.args.t c.args.u c.in-Some.con c.args.c h.0 c.requires.stands h.2 h.1, refl) tt old

pub returns-in-None-clause-closed : goal.returns-in-None-clause-closed
returns-in-None-clause-closed c = λ none con args has equal.
    let terms = c.args.table.now in
    absurd (c.in-None.ensures.none terms (length terms) con args c.requires.index (Has-inside terms (Con c.args.c args) con.0 has) has equal)
