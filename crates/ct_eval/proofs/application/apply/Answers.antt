use Rattle.std.proofs.Common.{List, map, subst, sym, ◌∙◌}
use Rattle.ct_values.specs.declared.node.NodeId.{NodeId}
use Rattle.ct_eval.specs.Index.{AreRepresentatives}
use Rattle.ct_eval.proofs.StepTerms.{are_representatives, sorts_sorted}
use Rattle.ct_eval.proofs.StepTables.{function_table, given_is}
use Rattle.ct_eval.proofs.application.apply.Goals as goal

pub given-requires : goal.given-requires
given-requires c =
    let d = c.requires.ready.0 in
    let r = c.requires.ready.2 in
    let i = c.args.interp.now in
    let g = c.args.shared.now in
    let nodes = c.args.nodes.now in
    let args = c.args.args.now in
    let table = function_table d i c.args.f.0 r.sorted.function c.requires.ready.1 r.sorted.declared in
    let first = are_representatives d i r.terms g nodes r.value r.valued args (sorts_sorted r.terms args r.sorted.function.args r.sorted.sorted) r.below in
    record {
      fits = (
        i.graph,
        d,
        r.sorted.function.args,
        r.sorted.function.result,
        table.0,
        map r.value args,
        c.requires.funs,
        table.1,
        c.requires.longer,
        table.2,
        subst (λ (ns : List NodeId). AreRepresentatives i.graph g ns (map r.value args)) (sym (c.new-args.ensures.value ∙ c.in_ok-nodes_of.ensures.value)) first,
      );
    }

pub returns : goal.returns
returns c = record {
  value = λ d proper fits terms value sort valued sorted.
      let i = c.args.interp.now in
      let g = c.args.shared.now in
      let nodes = c.args.nodes.now in
      let args = c.args.args.now in
      let table = function_table d i c.args.f.0 sorted.function proper sorted.declared in
      let first = are_representatives d i terms g nodes value valued args (sorts_sorted terms args sorted.function.args sorted.sorted) c.requires.ready.2.below in
      let reported = c.given.ensures.value i.graph d sorted.function.args sorted.function.result table.0 (map value args) c.requires.funs table.1 c.requires.longer table.2
      (subst (λ (ns : List NodeId). AreRepresentatives i.graph g ns (map value args)) (sym (c.new-args.ensures.value ∙ c.in_ok-nodes_of.ensures.value)) first)
      c.closed.ensures.closed in
      (fits, given_is d i g _ table.0 (map value args) sort sorted.function.result c.given.result table.1 sorted.result reported.0 reported.1);
}
