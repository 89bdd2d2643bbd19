use Rattle.std.proofs.Common.{◌≡◌, ◌==◌, sym, ap, ◌∙◌}
use Rattle.std.specs.List.{list_any}
use Rattle.ct_generics.proofs.SearchLemmas.{arcs-tested}
use Rattle.ct_generics.proofs.search.is_data_over.Goals as goal

pub returns : goal.returns
returns c =
    let y = c.args.y in
    let ctors = c.args.vertex.now.ctors in
    let value : c.has_arc.result ≡ list_any (list_any (λ z. z == y)) ctors = c.has_arc.ensures.value ∙ ap (list_any (list_any (λ z. z == y))) c.as_slice.ensures.value in
    record { source = (λ h. (c.is_data.ensures.data_kind.0 c.if-not-is_data.false, (arcs-tested ctors y).0 (sym value ∙ h)), λ both. value ∙ (arcs-tested ctors y).1 both.1) }
