use Rattle.std.proofs.Common.{sym, ◌∙◌}
use Rattle.ct_generics.proofs.ShapeLemmas.{rows_tell}
use Rattle.ct_generics.proofs.uniform.is_uniform.Goals as goal

pub returns-clause-uniform : goal.returns-clause-uniform
returns-clause-uniform c hd is =
    let tells = rows_tell c.args.first c.args.head.now hd c.in_ok-shapes.shapes.items is c.in_ok-shapes.ensures.long c.in_ok-shapes.ensures.shapes in
    let value = rw (c.as_slice.ensures.value, c.as_slice-2.ensures.value) at c.rows_keep.ensures.value in
    (λ h. tells.0 (sym value ∙ h), λ uniform. value ∙ tells.1 uniform)
