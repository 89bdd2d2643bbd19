use Rattle.std.proofs.Common.{rules, ap, sym, ◌∙◌, length, ◌++◌, List, ◌≡◌}
use Rattle.ct_log.specs.declared.rules.EqStep.{EqStep}
use Rattle.ct_explain.proofs.ExplainedLemmas.{explained, AreWritten-none}
use Rattle.ct_explain.proofs.forest.Forest.explain.Goals as goal

pub returns-clause-explained : goal.returns-clause-explained
returns-clause-explained c =
    let count : c.len.result ≡ length c.args.into.now.steps.items = search rules in
    explained c.args.classes.now c.write.new.writer c.args.into.now.steps.items c.append.new.self.items c.in_ok-number.number c.args.a c.args.b
    (sym (c.in_ok-number.ensures.grown.first ∙ c.new-writer.ensures.first ∙ count))
    (c.in_ok-append.ensures.items ∙ ap (λ (l : List EqStep). c.args.into.now.steps.items ++ l) c.into_steps-steps.ensures.value)
    (c.in_ok-number.ensures.grown.valid (AreWritten-none c.args.classes.now c.new-writer.result c.new-writer.ensures.steps c.new-writer.ensures.stated))
    c.in_ok-number.ensures.told
