use Rattle.std.proofs.Common.{◌<◌, ◌∙◌, length, Some, ap, sym, arith}
use Rattle.ct_equivalence.specs.Grouping.{Grouping}
use Rattle.ct_equivalence.proofs.RowLemmas.{row_of-at}
use Rattle.ct_equivalence.proofs.grouped.Grouped.uses.Goals as goal

pub row-requires : goal.row-requires
row-requires c = record { inside = omega (arith, c.requires.inside, ap (λ (g : Grouping). length g.reps) c.self.view_is, c.self.invariant.uses_long) }

pub returns : goal.returns
returns c =
    let rows = c.self.inside.uses in
    let within : c.args.t.0 < length rows = omega (arith, c.requires.inside, ap (λ (g : Grouping). length g.reps) c.self.view_is, c.self.invariant.uses_long) in
    rw (← c.self.view_is) (record { value = row_of-at rows c.args.t within ∙ ap Some (sym c.row.ensures.value) })
