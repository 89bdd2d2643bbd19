use Rattle.std.proofs.Common.{◌≡◌, List, Option, Some, subst}
use Rattle.ct_sorts.specs.declared.ids.SortId.{SortId}
use Rattle.ct_sexpr.specs.View.{expression_of, expressions_of}
use Rattle.ct_values.specs.Graph.{Nodes}
use Rattle.ct_readback.specs.GraphText.{graph_rows}
use Rattle.ct_readback.specs.Nodes.{IsGraphOf}
use Rattle.ct_readback.specs.Descent.{AreReached, HasUnsorted, AreSorts, AreNodesSaid}
use Rattle.ct_readback.proofs.FoundLemmas.{found_some, found_none}
use Rattle.ct_readback.proofs.NodeSortLemmas.{said_sorts, said_heads}
use Rattle.ct_readback.proofs.WholeGraphLemmas.{graph_unsorted, upper_part, graph_of_rows}
use Rattle.ct_readback.proofs.graph_text.graph_at.Goals as goal

pub returns-in_default-3 : goal.returns-in_default-3
returns-in_default-3 c =
    let d = c.args.sig.now in
    let e = expression_of c.args.expr.now in
    let rows = expressions_of c.in-Some.rows.now in
    let at : graph_rows e ≡ Some rows = c.in-Some.ensures.value in
    record {
      graph = graph_unsorted d c.args.s e rows at (found_none c.in_ok-sorts.field-0 (HasUnsorted d rows) (λ v. AreSorts d rows c.deref.result.now v.items) c.in_default-3.is c.in_ok-sorts.ensures.sorts);
    }

pub returns : goal.returns
returns c =
    let d = c.args.sig.now in
    let e = expression_of c.args.expr.now in
    let s = c.args.s in
    let rows = expressions_of c.in-Some.rows.now in
    let at : graph_rows e ≡ Some rows = c.in-Some.ensures.value in
    let reached = c.in-Some-2.reached.items in
    let sorts = c.in-Some-3.sorts.items in
    let h = c.in_ok-graph.graph in
    let are = found_some c.in_ok-reached.field-0 c.in-Some-2.reached ((g : Nodes) → IsGraphOf d s rows g → ⊥) (λ v. AreReached d s rows v.items) c.in-Some-2.is c.in_ok-reached.ensures.sorts in
    let found = found_some c.in_ok-sorts.field-0 c.in-Some-3.sorts (HasUnsorted d rows) (λ v. AreSorts d rows c.deref.result.now v.items) c.in-Some-3.is c.in_ok-sorts.ensures.sorts in
    let all = subst (λ (l : List (Option SortId)). AreSorts d rows l sorts) c.deref.ensures.value found in
    let nodes = subst (λ (l : List SortId). AreNodesSaid d rows l h) c.deref-2.ensures.value c.in_ok-graph.ensures.nodes in
    let heads = said_heads d c.sorts.ensures.consistent in
    let own_sorts = said_sorts d c.sorts.ensures.consistent in
    record { graph = ((rows, at, graph_of_rows d s rows reached sorts h own_sorts heads are all nodes), upper_part d s rows reached sorts h own_sorts heads are all nodes) }
