use Rattle.std.proofs.Common.{◌≡◌, ◌∙◌, List, ap}
use Rattle.ct_terms.specs.declared.ids.Lit.{Lit}
use Rattle.ct_log.specs.declared.rules.EqStep.{EqStep}
use Rattle.ct_kept.specs.declared.lemma.Lemma.{Lemma}
use Rattle.ct_kept.proofs.WithinLemmas.{chosen_moved}
use Rattle.ct_kept.proofs.within.lemmas_of.Goals as goal

pub loop-lemma-preserved : goal.loop-lemma-preserved
loop-lemma-preserved c =
    let item = c.lemma-item.result in
    let given : Lemma = record { clause = c.as_slice-clause.result.now; steps = c.as_slice-steps.result.now; close = item.close } in
    let is_item : given ≡ item =
    ap (λ (ls : List Lit). record { clause = ls; steps = c.as_slice-steps.result.now; close = item.close }) c.as_slice-clause.ensures.value
    ∙ ap (λ (ss : List EqStep). record { clause = item.clause; steps = ss; close = item.close }) c.as_slice-steps.ensures.value in
    chosen_moved c.args.numbers.now c.args.lemmas.now c.loop-lemma.lemma-index given item c.loop-lemma-test.true (is_item ∙ c.lemma-item.is) c.loop-lemma.made.items c.push_found.new.lemmas.items c.in_ok-found.found c.loop-lemma.invariant c.in_ok-found.ensures.moved c.in_ok-push_found.ensures.pushed
