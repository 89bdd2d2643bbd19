use Rattle.std.proofs.Common.{List, subst, arith}
use Rattle.ct_card.specs.declared.chain.Rule.{Rule}
use Rattle.ct_card.specs.Fields.{ctors_of}
use Rattle.ct_card.specs.Founding.{IsKindRule, IsCtorRule}
use Rattle.ct_card.specs.Ruled.{AreItemRules}
use Rattle.ct_card.proofs.SortRuleLemmas.{no_sort_rules, more_sort_rules}
use Rattle.ct_card.proofs.founded.founding_rules.Goals as goal

pub loop-s-init : goal.loop-s-init
loop-s-init c =
    let d = c.args.sig.now in
    record { from = omega arith; rules = no_sort_rules (IsKindRule d) (ctors_of d) (IsCtorRule d) c.args.first c.new-rules.result.items c.new-rules.ensures.items }

pub loop-s-preserved : goal.loop-s-preserved
loop-s-preserved c =
    let d = c.args.sig.now in
    let s = c.loop-s.s in
    let rules = c.loop-s.rules.items in
    let new = c.in_ok-kind_rule.field-0 in
    let items = subst (λ (l : List Rule). AreItemRules (IsCtorRule d s) (ctors_of d s) l c.push_ctor_rules.new.rules.items) c.in_ok-push.ensures.items c.in_ok-push_ctor_rules.ensures.rules in
    record {
      from = omega (arith, c.loop-s.invariant.from);
      rules = more_sort_rules (IsKindRule d) (ctors_of d) (IsCtorRule d) c.args.first s rules c.push_ctor_rules.new.rules.items new c.loop-s.invariant.from c.loop-s.invariant.rules c.in_ok-kind_rule.ensures.rule items;
    }
