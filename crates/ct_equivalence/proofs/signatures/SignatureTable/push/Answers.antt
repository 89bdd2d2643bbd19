use Rattle.std.proofs.Common.{◌∙◌, sym, subst}
use Rattle.ct_equivalence.specs.Signatures.{Signatures, IsFree}
use Rattle.ct_equivalence.proofs.SignatureLemmas.{entries-new}
use Rattle.ct_equivalence.proofs.signatures.SignatureTable.push.Goals as goal

pub returns-clause-pushed : goal.returns-clause-pushed
returns-clause-pushed c =
    rw (← c.self.view_is)
    (c.in_ok-insert.ensures.entries ∙ entries-new c.self.inside.entries c.self.invariant c.args.key c.args.term (subst (λ (es : Signatures). IsFree es c.args.key) (sym c.self.view_is) c.requires.free))
