use Rattle.std.proofs.Common.{◌∙◌, ℕ, take, All, sym, subst}
use Rattle.ct_sorts.specs.Marks.{cut}
use Rattle.ct_terms.specs.Terms.{Terms, AreSorted}
use Rattle.ct_trial.specs.LastModel.{AppliesBelow}
use Rattle.ct_trial.specs.Trial.{IsTrial}
use Rattle.ct_trial.proofs.LastModelLemmas.{model_kept, left_trial}
use Rattle.ct_trial.proofs.last_model.LastModel.cut.Goals as goal

pub returns-then-is_below : goal.returns-then-is_below
returns-then-is_below c = record { model = λ yes. model_kept c.args.sig.now c.args.mark.now c.args.self.now c.requires.can_cut (c.is_below.ensures.below c.if-is_below.true) c.requires.model }

pub returns : goal.returns
returns c =
    let d = c.args.sig.now in
    let mark = c.args.mark.now in
    let m = c.args.self.now in
    let count = c.count_below-count.result in
    let below : All (AppliesBelow mark.functions) (take count m.terms.items) =
    subst (λ (n : ℕ). All (AppliesBelow n) (take count m.terms.items)) c.funs.ensures.value
    (subst (λ (ts : Terms). All (AppliesBelow c.funs.result) (take count ts)) c.as_slice.ensures.value c.count_below-count.ensures.below)
    in
    let left =
    left_trial d mark m count c.cut.new.interp c.cut.new.self c.requires.can_cut c.requires.consistent (c.has_no_more_functions.ensures.fewer c.if-not-has_no_more_functions.false) c.requires.model below
    (λ a e terms to many sorted was. c.cut.ensures.trial a e terms to (many ∙ sym c.funs-2.ensures.value) sorted was)
    in
    record {
      model = λ yes. record {
        earlier = cut d mark;
        consistent = c.requires.consistent;
        extends = c.growth.ensures.itself (cut d mark);
        declared = left.2;
        sorted = subst (AreSorted (cut d mark)) (sym c.truncate.ensures.items) left.0;
        trial = subst (λ (ts : Terms). IsTrial (cut d mark) ts c.cut.new.interp c.cut.new.self) (sym c.truncate.ensures.items) left.1;
      };
    }
