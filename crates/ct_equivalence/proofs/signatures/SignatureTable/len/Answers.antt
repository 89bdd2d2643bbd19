use Rattle.ct_equivalence.proofs.SignatureLemmas.{AreDifferent-unique}
use Rattle.ct_equivalence.proofs.signatures.SignatureTable.len.Goals as goal

pub returns : goal.returns
returns c = rw (← c.self.view_is) (record { value = c.len.ensures.len; different = AreDifferent-unique c.self.inside.entries.entries c.self.invariant })
