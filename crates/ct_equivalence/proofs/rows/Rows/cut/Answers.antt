use Rattle.std.proofs.Common.{◌<◌, ◌∙◌, length, take, map, ap, sym, arith}
use Rattle.std.proofs.lemmas.List.{length-map}
use Rattle.ct_equivalence.specs.Undoing.{row_of}
use Rattle.ct_equivalence.proofs.RowLemmas.{row_of-read, map-written}
use Rattle.ct_equivalence.proofs.rows.Rows.cut.Goals as goal

pub returns : goal.returns
returns c =
    let rows = c.self.inside.rows.items in
    let within : c.args.t.0 < length rows = omega (arith, c.requires.inside, ap length c.self.view_is, length-map rows (λ v. v.items)) in
    let read = row_of-read rows c.args.t c.index_mut.result.now within c.index_mut.ensures.value in
    rw (← c.self.view_is)
    (record { first = map-written rows c.args.t.0 c.truncate.new.self (take c.args.len (row_of (map (λ v. v.items) rows) c.args.t)) (c.truncate.ensures.items ∙ ap (take c.args.len) (sym read)) })
