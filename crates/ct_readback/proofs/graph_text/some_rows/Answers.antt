use Rattle.ct_readback.proofs.FormLemmas.{rows_there}
use Rattle.ct_readback.proofs.graph_text.some_rows.Goals as goal

pub returns-in-len1-up : goal.returns-in-len1-up
returns-in-len1-up c = record { value = rows_there c.args.rows.now c.in-len1-up.len_at_least }
