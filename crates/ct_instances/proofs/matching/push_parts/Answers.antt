use Rattle.std.proofs.Common.{List, option_map, refl, sym, subst, ◌∙◌, arith}
use Rattle.ct_generics.specs.declared.nodes.ExprId.{ExprId}
use Rattle.ct_generics.specs.declared.nodes.HeadId.{HeadId}
use Rattle.ct_generics.specs.Expression.{args_of}
use Rattle.ct_generics.specs.Nodes.{StandFor}
use Rattle.ct_instances.specs.Pairs.{side_by_side}
use Rattle.ct_instances.proofs.MatchLemmas.{other_head, other_length, same_head}
use Rattle.ct_instances.proofs.matching.push_parts.Goals as goal

pub returns-then-not-is_head : goal.returns-then-not-is_head
returns-then-not-is_head c = record {
  parted = λ params e stands is none_is.
      let d = c.args.sig.now in
      let nodes = c.args.template.now in
      let spine = c.in-Ok.ensures.spine e stands in
      let fields = c.as_slice-fields.result.now in
      let args = c.sort_args-args.result.now in
      let top = option_map (λ (h : HeadId). h.0) c.in-Ok.spine.head in
      let under = subst (λ (ids : List ExprId). StandFor nodes ids (args_of e)) (sym c.as_slice-fields.ensures.value) spine.under in
      (refl, λ m. other_head d c.sorts.ensures.consistent nodes (c.denotations.ensures.expression nodes) params c.args.field e stands is none_is c.args.sort c.requires.sort c.sort_head.result.0 c.sort_head.ensures.value top spine.top (sym c.is_head.ensures.value ∙ c.if-not-is_head.true) m);
}

pub returns-then-fields-args : goal.returns-then-fields-args
returns-then-fields-args c = record {
  parted = λ params e stands is none_is.
      let d = c.args.sig.now in
      let nodes = c.args.template.now in
      let spine = c.in-Ok.ensures.spine e stands in
      let fields = c.as_slice-fields.result.now in
      let args = c.sort_args-args.result.now in
      let top = option_map (λ (h : HeadId). h.0) c.in-Ok.spine.head in
      let under = subst (λ (ids : List ExprId). StandFor nodes ids (args_of e)) (sym c.as_slice-fields.ensures.value) spine.under in
      (refl, λ m. other_length d c.sorts.ensures.consistent nodes (c.denotations.ensures.expression nodes) params c.args.field e stands is none_is c.args.sort c.requires.sort c.sort_head.result.0 c.sort_head.ensures.value fields args under c.sort_args-args.ensures.value (λ same. absurd (omega (arith, same, c.if-fields-args.true))) m);
}

pub returns : goal.returns
returns c = record {
  parted = λ params e stands is none_is.
      let d = c.args.sig.now in
      let nodes = c.args.template.now in
      let spine = c.in-Ok.ensures.spine e stands in
      let fields = c.as_slice-fields.result.now in
      let args = c.sort_args-args.result.now in
      let top = option_map (λ (h : HeadId). h.0) c.in-Ok.spine.head in
      let under = subst (λ (ids : List ExprId). StandFor nodes ids (args_of e)) (sym c.as_slice-fields.ensures.value) spine.under in
      let parts = same_head d c.sorts.ensures.consistent nodes (c.denotations.ensures.expression nodes) params c.args.field e stands is none_is c.args.sort c.requires.sort c.sort_head.result.0 c.sort_head.ensures.value top fields args spine.top (sym c.is_head.ensures.value ∙ c.if-not-is_head.false) under c.sort_args-args.ensures.value (omega (arith, c.if-fields-args.false)) in
      (side_by_side fields args, c.in_ok-push_pairs.ensures.pushed, parts.pairs, parts.less, parts.matched_are);
}
