use Rattle.std.proofs.Common.{◌≡◌, ◌<◌, length, ap, sym, ◌∙◌, subst}
use Rattle.std.proofs.lemmas.Option.{same_Some, slice_get_within}
use Rattle.ct_values.specs.declared.node.NodeId.{NodeId}
use Rattle.ct_values.specs.Agreement.{node_point}
use Rattle.ct_values.specs.Sharing.{IsRepresentative}
use Rattle.ct_eval.specs.declared.interp.Table.{Table}
use Rattle.ct_eval.specs.LookUp.{look_up}
use Rattle.ct_eval.proofs.StepTables.{look_up_sorted, sorted_within, looked_up}
use Rattle.ct_eval.proofs.application.given.Goals as goal

pub table_at-requires : goal.table_at-requires
table_at-requires c =
    let f = c.requires.fits in
    record { within = slice_get_within c.args.tables.now c.args.number f.4 f.7 }

pub first-requires : goal.first-requires
first-requires c =
    let f = c.requires.fits in
    let longer = c.args.shared.now in
    let one : c.table_at.result.now ≡ f.4 = same_Some c.table_at.result.now f.4 (sym c.table_at.ensures.value ∙ f.7) in
    let found : c.found-node.result ≡ look_up f.0 f.4 f.5 = c.found-node.ensures.value f.0 longer f.5 c.args.tables.now f.6 c.table_at.ensures.value f.8 f.10 ∙ ap (λ (t : Table). look_up f.0 t f.5) one in
    record {
      within = subst (λ (n : NodeId). n.0 < length longer) (sym found) (sorted_within f.1 f.0 longer (look_up f.0 f.4 f.5) f.3 f.8 (look_up_sorted f.1 f.0 f.2 f.3 f.4 f.5 f.9));
    }

pub returns : goal.returns
returns c = record {
  value = λ g d sorts sort table values index at l fits first closed.
      let longer = c.args.shared.now in
      let one : c.table_at.result.now ≡ table = same_Some c.table_at.result.now table (sym c.table_at.ensures.value ∙ at) in
      let found : c.found-node.result ≡ look_up g table values = c.found-node.ensures.value g longer values c.args.tables.now index c.table_at.ensures.value l first ∙ ap (λ (t : Table). look_up g t values) one in
      looked_up c.theorems.ensures.theorems d g longer (look_up g table values) c.first.result sort closed l (look_up_sorted d g sorts sort table values fits)
      (subst (λ (n : NodeId). IsRepresentative longer (node_point longer n) c.first.result) found c.first.ensures.first);
}
