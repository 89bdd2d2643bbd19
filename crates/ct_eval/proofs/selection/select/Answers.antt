use Rattle.std.proofs.Common.{◌≡◌, true, [], ◌∷◌, sym, ap, subst, ◌∙◌}
use Rattle.std.proofs.lemmas.Option.{slice_get_within}
use Rattle.std.proofs.lemmas.Result.{IfOk-weaker}
use Rattle.ct_values.specs.declared.node.NodeId.{NodeId}
use Rattle.ct_values.specs.Value.{reference}
use Rattle.ct_terms.specs.declared.term.Core.TheVariants.{Sel}
use Rattle.ct_values.specs.TruthValue.{is_built}
use Rattle.ct_eval.specs.Evaluation.{core_value}
use Rattle.ct_eval.specs.LookUp.{look_up}
use Rattle.ct_eval.specs.EvaluationStep.{HasValue, IsResult}
use Rattle.ct_eval.proofs.StepTerms.{valued_under}
use Rattle.ct_eval.proofs.StepTables.{selector_table}
use Rattle.ct_eval.proofs.StepSelect.{ctor_is, test_is, selected_field, selected_wrongly}
use Rattle.ct_eval.proofs.StepReady.{ready_Sel}
use Rattle.ct_eval.proofs.StepResults.{gathered}
use Rattle.ct_eval.proofs.selection.select.Goals as goal

pub node_at-n-requires : goal.node_at-n-requires
node_at-n-requires c =
    record { there = ready_Sel c.args.sig.now c.args.interp.now c.args.shared.now c.args.nodes.now c.args.s c.args.t c.requires.ready }

pub sel_ctor-requires : goal.sel_ctor-requires
sel_ctor-requires c =
    let sorted = c.requires.ready.sorted in
    record { inside = slice_get_within c.args.sig.now.sels c.args.s.0 sorted.selector sorted.declared }

pub field-requires-clause-built : goal.field-requires-clause-built
field-requires-clause-built c =
    let d = c.args.sig.now in
    let sorted = c.requires.ready.sorted in (
      sorted.selector,
      sorted.declared,
      subst (λ k. is_built c.args.shared.now k (reference c.node_at-n.result) ≡ true) (sym (ctor_is d c.args.s sorted.selector c.sel_ctor.result sorted.declared c.sel_ctor.ensures.value)) (sym (c.is_built.ensures.value ∙ ap (λ h. is_built h c.sel_ctor.result (reference c.node_at-n.result)) c.graph.ensures.value) ∙ c.if-is_built.true),
    )

pub returns-then-is_built : goal.returns-then-is_built
returns-then-is_built c = record {
  value = λ terms value sort valued sorted.
      let d = c.args.sig.now in
      let i = c.args.interp.now in
      let g = c.args.shared.now in
      let nodes = c.args.nodes.now in
      let v = value c.args.t in
      let has = subst (λ (n : NodeId). HasValue d i g v sorted.ctor.sort n) (sym c.node_at-n.ensures.value) (valued_under d i terms g nodes value valued c.args.t sorted.ctor.sort sorted.sorted c.requires.ready.below.0) in
      let reported = c.field.ensures.value sorted.selector i.graph v sorted.declared has.first in
      let test = test_is c.theorems.ensures.theorems d g i.graph c.args.s sorted.selector c.sel_ctor.result v c.node_at-n.result c.is_built.result sorted.declared c.sel_ctor.ensures.value (c.is_built.ensures.value ∙ ap (λ h. is_built h c.sel_ctor.result (reference c.node_at-n.result)) c.graph.ensures.value) has.first in
      (c.requires.fits, selected_field d i g c.args.s sorted.selector v reported.0 sort c.field.result sorted.declared (test ∙ c.if-is_built.true) reported.1 sorted.result reported.2 reported.3);
}

pub wrongly_applied-requires-clause-fits : goal.wrongly_applied-requires-clause-fits
wrongly_applied-requires-clause-fits c =
    let d = c.args.sig.now in
    let i = c.args.interp.now in
    let g = c.args.shared.now in
    let r = c.requires.ready in
    let v = r.value c.args.t in
    let table = selector_table d i c.args.s.0 r.sorted.selector r.sorted.ctor c.requires.proper r.sorted.declared r.sorted.constructor in
    let has = subst (λ (n : NodeId). HasValue d i g v r.sorted.ctor.sort n) (sym c.node_at-n.ensures.value) (valued_under d i r.terms g c.args.nodes.now r.value r.valued c.args.t r.sorted.ctor.sort r.sorted.sorted r.below.0) in
    (d, r.sorted.ctor.sort ∷ [], r.sorted.selector.sort, table.0, v, table.1, table.2, has.first)

pub returns : goal.returns
returns c =
    let d = c.args.sig.now in
    let i = c.args.interp.now in
    let g = c.args.shared.now in
    let nodes = c.args.nodes.now in
    record {
      value = gathered d i g g nodes (Sel c.args.s c.args.t) c.wrongly_applied.result (λ terms value sort valued sorted.
          let v = value c.args.t in
          let table = selector_table d i c.args.s.0 sorted.selector sorted.ctor c.requires.proper sorted.declared sorted.constructor in
          let has = subst (λ (n : NodeId). HasValue d i g v sorted.ctor.sort n) (sym c.node_at-n.ensures.value) (valued_under d i terms g nodes value valued c.args.t sorted.ctor.sort sorted.sorted c.requires.ready.below.0) in
          let reported = c.wrongly_applied.ensures.value d (sorted.ctor.sort ∷ []) sorted.selector.sort table.0 v table.1 table.2 has.first in
          let test = test_is c.theorems.ensures.theorems d g i.graph c.args.s sorted.selector c.sel_ctor.result v c.node_at-n.result c.is_built.result sorted.declared c.sel_ctor.ensures.value (c.is_built.ensures.value ∙ ap (λ h. is_built h c.sel_ctor.result (reference c.node_at-n.result)) c.graph.ensures.value) has.first in
          IfOk-weaker c.wrongly_applied.result (HasValue d i g (reference (look_up i.graph table.0 (v ∷ []))) sorted.selector.sort) (IsResult d i g (core_value d i value (Sel c.args.s c.args.t)) sort) (λ n h. (c.requires.fits, selected_wrongly d i g c.args.s sorted.selector v table.0 sort n sorted.declared (test ∙ c.if-is_built.false) table.1 sorted.result h)) reported);
    }
