use Rattle.std.proofs.Common.{refl, sym, ap, ◌++◌, ◌∷◌, [], ◌∙◌, append_assoc}
use Rattle.ct_model.specs.ModelText.{can_miss}
use Rattle.ct_model.proofs.ModelLemmas.{at_false, at_true}
use Rattle.ct_model.proofs.model.write_selector.Goals as goal

pub returns-then-not-can_miss : goal.returns-then-not-can_miss
returns-then-not-can_miss c = record { ok = at_false (can_miss c.args.sig.now c.args.s.0) _ _ (sym c.can_miss.ensures.value ∙ c.if-not-can_miss.true) refl }

pub returns : goal.returns
returns c =
    let text = c.in_ok-write_off.ensures.ok in
    record {
      ok = at_true (can_miss c.args.sig.now c.args.s.0) _ _ (sym c.can_miss.ensures.value ∙ c.if-not-can_miss.false)
          (text.0, text.1, c.in_ok-push.ensures.items ∙ ap (λ w. w ++ 10 ∷ []) text.2 ∙ append_assoc c.args.out.now.items text.0 (10 ∷ []));
    }
