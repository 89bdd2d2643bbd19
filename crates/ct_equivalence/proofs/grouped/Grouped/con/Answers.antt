use Rattle.std.proofs.Common.{◌<◌, length, refl, ap, arith}
use Rattle.std.proofs.lemmas.Option.{slice_get_read}
use Rattle.ct_equivalence.specs.Grouping.{Grouping}
use Rattle.ct_equivalence.proofs.grouped.Grouped.con.Goals as goal

pub index-requires : goal.index-requires
index-requires c = omega (arith, c.requires.inside, ap (λ (g : Grouping). length g.reps) c.self.view_is, c.self.invariant.cons_long)

pub returns : goal.returns
returns c =
    let cons = c.self.inside.cons.items in
    let within : c.args.t.0 < length cons = omega (arith, c.requires.inside, ap (λ (g : Grouping). length g.reps) c.self.view_is, c.self.invariant.cons_long) in
    rw (← c.self.view_is) (record { value = slice_get_read cons (length cons) c.args.t.0 c.index.result.now refl within c.index.ensures })
