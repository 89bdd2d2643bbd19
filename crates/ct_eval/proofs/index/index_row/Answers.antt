use Rattle.std.proofs.Common.{List, ◌<◌, length, sym, ap, subst}
use Rattle.std.proofs.lemmas.List.Elements.{recursion_from_All}
use Rattle.ct_values.specs.declared.node.NodeId.{NodeId}
use Rattle.ct_eval.specs.Index.{AreRepresentativeNodes, row_key}
use Rattle.ct_eval.proofs.IndexLemmas.{Theorems, HasRows-push, AreRepresentativeNodes-longer, same_elsewhere}
use Rattle.ct_eval.proofs.index.index_row.Goals as goal

pub returns-clause-added : goal.returns-clause-added
returns-clause-added c = λ rows old longer closed more.
    let g = c.args.shared.now in
    let row = c.args.row.now in
    let done = c.in_ok-insert_row.ensures in
    let theorems : Theorems = record {
      every_depth = c.agreement.ensures.every_depth;
      one = c.representative_nodes.ensures.one;
      lasting = c.representative_nodes.ensures.lasting;
    } in
    let found : AreRepresentativeNodes g c.in_ok-representatives.field-0.items row.args = rw c.as_slice.ensures.value at c.in_ok-representatives.ensures.first in
    let representatives : AreRepresentativeNodes g c.new.result row.args = subst (λ (ms : List NodeId). AreRepresentativeNodes g ms row.args) (sym c.new.ensures.value) found in
    HasRows-push theorems longer closed c.args.number rows row c.new.result c.args.index.now c.insert_row.new.index
    (AreRepresentativeNodes-longer theorems c.agreement.ensures.turned c.agreement.ensures.always_grown c.representative_nodes.ensures.same g longer c.graph.ensures.closed more c.new.result row.args (recursion_from_All (λ n. n.0 < length g) row.args c.requires.within) representatives) done.stay done.added done.only (old longer closed more)

pub returns-clause-others : goal.returns-clause-others
returns-clause-others c = λ other args apart.
    let done = c.in_ok-insert_row.ensures in
    same_elsewhere c.args.index.now c.insert_row.new.index (row_key c.args.number c.new.result) c.args.row.now.result done.stay done.only (row_key other args) (λ e. apart (ap (λ key. key.table) e))
