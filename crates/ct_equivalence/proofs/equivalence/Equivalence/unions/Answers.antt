use Rattle.std.proofs.Common.{◌∙◌, reverse, sym}
use Rattle.std.proofs.lemmas.List.{length-reverse}
use Rattle.ct_equivalence.proofs.NoteLemmas.{AreGroupings-noted, length-befores}
use Rattle.ct_equivalence.proofs.equivalence.Equivalence.unions.Goals as goal

pub returns : goal.returns
returns c =
    let e = c.self.inside in
    rw (← c.self.view_is)
    (record { value = c.len.ensures ∙ e.log.ok.0 ∙ sym (length-reverse e.log.items) ∙ sym (length-befores e.grouped (reverse e.log.items)); whole = AreGroupings-noted e.grouped (reverse e.log.items) c.self.invariant })
