use Rattle.std.proofs.Common.{take, sym, ap, ◌∙◌}
use Rattle.ct_terms.specs.Terms.{Terms}
use Rattle.ct_trial.proofs.LastModelLemmas.{tried_before}
use Rattle.ct_trial.proofs.last_model.LastModel.satisfying.Goals as goal

pub satisfies-requires-clause-trial : goal.satisfies-requires-clause-trial
satisfies-requires-clause-trial c =
    let count = c.common-count.result in
    tried_before c.args.sig.now c.args.self.now c.args.table.now count c.cut.new.interp c.cut.new.self c.requires.model
    (ap (λ (ts : Terms). take count ts) (sym c.as_slice.ensures.value) ∙ c.common-count.ensures.same)
    (λ a e terms to many sorted was. c.cut.ensures.trial a e terms to (many ∙ sym c.funs.ensures.value) sorted was)
