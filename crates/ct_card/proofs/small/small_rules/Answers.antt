use Rattle.std.proofs.Common.{◌≡◌, ◌+◌, ◌∷◌, [], ◌++◌, List, slice_get, sym, ◌∙◌, ap, subst, inl, inr, arith}
use Rattle.ct_card.specs.declared.chain.Rule.{Rule}
use Rattle.ct_card.specs.Ruled.{IsSmallRule}
use Rattle.ct_card.proofs.ListLemmas.{pushed_at}
use Rattle.ct_card.proofs.small.small_rules.Goals as goal

pub loop-s-preserved : goal.loop-s-preserved
loop-s-preserved c =
    let rules = c.loop-s.rules.items in
    let new = c.in_ok-small_rule.field-0 in
    let grown : c.push.new.self.items ≡ rules ++ new ∷ [] = c.in_ok-push.ensures.items in
    record {
      long = omega (arith, c.in_ok-push.ensures.len, c.loop-s.invariant.long);
      each = λ k rule at. elim (pushed_at rules new rule k (ap (λ (l : List Rule). slice_get l k) (sym grown) ∙ at)) [
        | inl h ↦ c.loop-s.invariant.each k rule h
        | inr (e, same) ↦
            let here : c.loop-s.s ≡ c.args.first + k = omega (arith, e, c.loop-s.invariant.long) in
            subst (λ n. IsSmallRule c.args.sig.now c.args.several.now n rule) here (subst (λ (r : Rule). IsSmallRule c.args.sig.now c.args.several.now c.loop-s.s r) (sym same) c.in_ok-small_rule.ensures.rule)
      ];
    }
