use Rattle.std.proofs.Common.{sym, ◌∙◌}
use Rattle.ct_equivalence.proofs.SignatureLemmas.{get_iff}
use Rattle.ct_equivalence.proofs.signatures.SignatureTable.find.Goals as goal

pub returns : goal.returns
returns c =
    let iff = get_iff c.self.inside.entries c.self.invariant c.args.key.now in
    let is = c.copied.ensures ∙ c.get.ensures.value in
    rw (← c.self.view_is) (record { value = λ t. (λ h. (iff t).0 (sym is ∙ h), λ h. is ∙ (iff t).1 h) })
