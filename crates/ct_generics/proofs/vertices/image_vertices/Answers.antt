use Rattle.std.proofs.Common.{inl, inr, ⊎_elim}
use Rattle.ct_generics.proofs.ReachedLemmas.{rows-images, row-image}
use Rattle.ct_generics.proofs.vertices.image_vertices.Goals as goal

pub returns-clause-fields : goal.returns-clause-fields
returns-clause-fields c head es stored stand =
    rw c.new.ensures.value
    (rows-images c.args.stored.now.template c.substitute.new.target c.in_ok-images.images.items c.row_indices.new.ids es (c.in_ok-images.ensures.images es stand) c.in_ok-rows.rows.items c.args.stored.now.ctors head.ctors (rw (c.as_slice.ensures.value, c.as_slice-2.ensures.value) at c.in_ok-rows.ensures.rows) stored.fields)

pub returns-clause-only : goal.returns-clause-only
returns-clause-only c head es i id stored stand at =
    let only = rw (c.as_slice.ensures.value, c.as_slice-2.ensures.value) at c.in_ok-rows.ensures.only in
    ⊎_elim (λ old. inl old) (λ image. inr (row-image c.args.stored.now.template c.substitute.new.target c.in_ok-images.images.items es (c.in_ok-images.ensures.images es stand) c.args.stored.now.ctors head.ctors id stored.fields image)) (only i id at)
