use Rattle.ct_readback.proofs.AnswerLemmas.{on_ok_map}
use Rattle.ct_readback.proofs.EdgeLemmas.{row_added}
use Rattle.ct_readback.proofs.placing.add_row.Goals as goal

pub returns-clause-added : goal.returns-clause-added
returns-clause-added c =
    on_ok_map c.add_children.result
    (λ (row, are, added). (row, row_added c.args.sig.now c.args.h.now c.args.n c.children.result.now row c.children.ensures.value (c.is_data.ensures.datatype.0 c.if-not-is_data.false) are, added))
    c.add_children.ensures.added
