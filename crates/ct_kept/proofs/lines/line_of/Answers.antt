use Rattle.std.proofs.Common.{◌≡◌, ◌∙◌, List, length, All, ap, subst, arith}
use Rattle.std.proofs.lemmas.List.{length-map}
use Rattle.ct_terms.specs.declared.ids.Lit.{Lit}
use Rattle.ct_log.specs.declared.rules.EqStep.{EqStep}
use Rattle.ct_restriction.specs.Renamed.{number_in}
use Rattle.ct_restriction.specs.Renumbered.{IsKnown}
use Rattle.ct_kept.specs.declared.lemma.Lemma.{Lemma}
use Rattle.ct_kept.specs.Lemmas.{lemma_terms, renamed_lemma, renamed_step}
use Rattle.ct_kept.proofs.MovedLemmas.{line_unknown, line_found}
use Rattle.ct_kept.proofs.lines.line_of.Goals as goal

pub accepted_line-requires : goal.accepted_line-requires
accepted_line-requires c =
    let found = rw c.in-Some.is at c.in_ok-moved.ensures.moved in
    let long : length c.in-Some.moved.steps ≡ length c.args.lemma.now.steps =
    ap (λ (l : Lemma). length l.steps) found.1 ∙ (length-map c.as_slice-steps.result.now (renamed_step (number_in c.args.numbers.now.numbers)) ∙ ap length c.as_slice-steps.ensures.value) in
    record { judges = c.requires.judges; literals = c.requires.literals; fits = omega (arith, c.requires.fits, long) }

pub returns-in-None-clause-line : goal.returns-in-None-clause-line
returns-in-None-clause-line c = λ from exact.
    let lemma = c.args.lemma.now in
    let given : Lemma = record { clause = c.as_slice-clause.result.now; steps = c.as_slice-steps.result.now; close = lemma.close } in
    let same : given ≡ lemma =
    ap (λ (ls : List Lit). record { clause = ls; steps = c.as_slice-steps.result.now; close = lemma.close }) c.as_slice-clause.ensures.value
    ∙ ap (λ (ss : List EqStep). record { clause = lemma.clause; steps = ss; close = lemma.close }) c.as_slice-steps.ensures.value in
    let n = c.args.numbers.now in
    line_unknown c.args.sig.now from c.args.terms.now n exact lemma (subst (λ (l : Lemma). All (IsKnown n) (lemma_terms l) → ⊥) same (rw c.in-None.is at c.in_ok-moved.ensures.moved))

pub returns-in-Some-clause-line : goal.returns-in-Some-clause-line
returns-in-Some-clause-line c = λ from exact.
    let lemma = c.args.lemma.now in
    let given : Lemma = record { clause = c.as_slice-clause.result.now; steps = c.as_slice-steps.result.now; close = lemma.close } in
    let same : given ≡ lemma =
    ap (λ (ls : List Lit). record { clause = ls; steps = c.as_slice-steps.result.now; close = lemma.close }) c.as_slice-clause.ensures.value
    ∙ ap (λ (ss : List EqStep). record { clause = lemma.clause; steps = ss; close = lemma.close }) c.as_slice-steps.ensures.value in
    let n = c.args.numbers.now in
    let found = rw c.in-Some.is at c.in_ok-moved.ensures.moved in
    line_found c.args.sig.now from c.args.terms.now n exact lemma c.in-Some.moved c.accepted_line.result (subst (λ (l : Lemma). All (IsKnown n) (lemma_terms l)) same found.0)
    (found.1 ∙ ap (renamed_lemma (number_in n.numbers)) same) c.accepted_line.ensures.line
