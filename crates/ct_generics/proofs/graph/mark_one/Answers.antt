use Rattle.std.proofs.Common.{refl, sym, ◌∙◌}
use Rattle.std.proofs.lemmas.Option.{slice_get_read}
use Rattle.ct_generics.proofs.MarkLemmas.{AreMarksSound-set}
use Rattle.ct_generics.proofs.graph.mark_one.Goals as goal

pub returns : goal.returns
returns c =
    let g = c.args.graph.now in
    let v = c.index-graph-i.result in
    let at = slice_get_read g _ c.args.i v refl c.if-i-graph.false c.index-graph-i.is in
    record { sound = λ before. AreMarksSound-set g c.args.marks.now c.args.i v at (sym c.is_built.ensures.value ∙ c.if-not-is_built.false) before }
