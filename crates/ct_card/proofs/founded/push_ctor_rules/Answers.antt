use Rattle.std.proofs.Common.{◌≡◌, ℕ, ◌+◌, ◌<◌, ◌∷◌, [], ◌++◌, List, length, append-nil, get_or, slice_get, Some, sym, ◌∙◌, ap, subst, arith}
use Rattle.std.proofs.lemmas.Option.{slice_get-get_or, slice_get_within}
use Rattle.ct_sorts.specs.Grown.{Begins}
use Rattle.ct_sorts.specs.declared.ids.CtorId.{CtorId}
use Rattle.ct_card.specs.declared.chain.Rule.{Rule}
use Rattle.ct_card.specs.Fields.{ctors_of}
use Rattle.ct_card.specs.Founding.{IsCtorRule}
use Rattle.ct_card.proofs.ListLemmas.{begins_pushed}
use Rattle.ct_card.proofs.SortRuleLemmas.{pushed_each}
use Rattle.ct_card.proofs.DepartureLemmas.{own_list}
use Rattle.ct_card.proofs.founded.push_ctor_rules.Goals as goal

pub loop-i-init : goal.loop-i-init
loop-i-init c =
    let old = c.args.rules.now.items in
    record {
      grown = ([], sym (append-nil old));
      long = omega arith;
      each = λ i rule at. let h = slice_get_within old (length old + i) rule at in absurd (omega arith);
    }

pub loop-i-preserved : goal.loop-i-preserved
loop-i-preserved c =
    let old = c.args.rules.now.items in
    let now = c.loop-i.rules.items in
    let inv = c.loop-i.invariant in
    let new = c.in_ok-ctor_rule.field-0 in
    let items = c.ctors-own.result.now in
    let read : CtorId = get_or items c.loop-i.i (record { 0 = 0 }) in
    let within : c.loop-i.i < length items = omega arith in
    let at = slice_get-get_or items c.loop-i.i (record { 0 = 0 }) within in
    let grown : c.push.new.self.items ≡ now ++ new ∷ [] = c.in_ok-push.ensures.items in
    record {
      grown = subst (Begins old) (sym grown) (begins_pushed old now new inv.grown);
      long = omega (arith, c.in_ok-push.ensures.len, inv.long);
      each = λ i rule here. pushed_each (λ (k : ℕ) (r : Rule). (item : CtorId) × (slice_get items k ≡ Some item) × IsCtorRule c.args.sig.now c.args.s.0 item r) old now new c.loop-i.i inv.long inv.each (read, at, c.in_ok-ctor_rule.ensures.rule) i rule (subst (λ (l : List Rule). slice_get l (length old + i) ≡ Some rule) grown here);
    }

pub returns : goal.returns
returns c =
    let inv = c.loop-i.invariant in
    let old = c.args.rules.now.items in
    let items = c.ctors-own.result.now in
    let same : items ≡ ctors_of c.args.sig.now c.args.s.0 = sym (own_list c.args.sig.now c.args.s.0 c.ctors-own.result.now c.ctors-own.ensures.value) in
    let count : c.loop-i.i ≡ length items = omega arith in
    record {
      rules = record {
        grown = inv.grown;
        long = inv.long ∙ ap (λ n. length old + n) (count ∙ ap (λ (l : List CtorId). length l) same);
        each = λ i rule at. let one = inv.each i rule at in (one.0, subst (λ (l : List CtorId). slice_get l i ≡ Some one.0) same one.1, one.2);
      };
    }
