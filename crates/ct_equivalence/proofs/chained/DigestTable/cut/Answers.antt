use Rattle.std.proofs.Common.{◌∙◌, map, take, ap, sym}
use Rattle.std.proofs.lemmas.List.{take-map}
use Rattle.ct_equivalence.specs.Chains.{SignatureRows, row_pair}
use Rattle.ct_equivalence.proofs.chained.DigestTable.cut.Goals as goal

pub returns : goal.returns
returns c =
    let rows = c.self.inside.rows.items in
    record { first = ap (map row_pair) c.cut_rows.ensures.first ∙ sym (take-map row_pair c.args.len rows) ∙ ap (λ (list : SignatureRows). take c.args.len list) c.self.view_is }
