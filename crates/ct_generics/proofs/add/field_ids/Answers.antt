use Rattle.std.proofs.Common.{◌∙◌}
use Rattle.ct_lemmas.proofs.Pairs.{AllZip-one_length}
use Rattle.ct_generics.specs.Nodes.{StandFor}
use Rattle.ct_generics.specs.Reach.{fields_of}
use Rattle.ct_generics.proofs.RowLemmas.{rows-flat}
use Rattle.ct_generics.proofs.add.field_ids.Goals as goal

pub returns-clause-fields : goal.returns-clause-fields
returns-clause-fields c hs e stored stands =
    let table = c.stored_rows.new.table in
    let rows = c.in_ok-rows.rows in
    let all = c.in_ok-rows.ensures.rows hs e stored stands in
    (c.len.ensures.len ∙ AllZip-one_length (StandFor table) rows (fields_of hs e) all, rw (c.new.ensures.value, c.in_ok-append_rows.ensures.ok, c.new-ids.ensures.items, c.as_slice.ensures.value) (rows-flat table rows (fields_of hs e) all))
