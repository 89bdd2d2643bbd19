use Rattle.ct_log_text.proofs.NamedLemmas.{text_answer, text_inside}
use Rattle.ct_log_text.proofs.named.sort_with_text.Goals as goal

pub returns-clause-value : goal.returns-clause-value
returns-clause-value c =
    let d = c.args.sig.now in
    let consistent = c.sorts.ensures.consistent in
    text_answer d consistent (λ s t e f. c.shapes.ensures.one_text d s t e f consistent) c.args.text.now c.sort_with_text.result c.sort_with_text.ensures.value

pub returns-clause-inside : goal.returns-clause-inside
returns-clause-inside c = text_inside c.args.sig.now c.sorts.ensures.consistent c.args.text.now c.sort_with_text.result c.sort_with_text.ensures.value
