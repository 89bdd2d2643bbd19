use Rattle.ct_generics.proofs.RowLemmas.{rows-stand}
use Rattle.ct_generics.proofs.rows.image_rows.Goals as goal

pub returns-clause-rows : goal.returns-clause-rows
returns-clause-rows c head es stored stand =
    rw c.new.ensures.value
    (rows-stand c.args.stored.now.template c.substitute.new.target c.in_ok-images.images.items es (c.in_ok-images.ensures.images es stand) c.in_ok-rows.rows.items c.args.stored.now.ctors head.ctors (rw (c.as_slice.ensures.value, c.as_slice-2.ensures.value) at c.in_ok-rows.ensures.images) stored.fields)
