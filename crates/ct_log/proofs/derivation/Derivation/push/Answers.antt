use Rattle.ct_log.specs.Recorded.{Derived}
use Rattle.ct_log.proofs.DerivationLemmas.{IsDerivation-push}
use Rattle.ct_log.proofs.derivation.Derivation.push.Goals as goal

pub invariant_of-self-2 : goal.invariant_of-self-2
invariant_of-self-2 c =
    let x : Derived = record { declarations = c.self.inside.judges.declarations; sizes = c.self.inside.judges.sizes; rec = c.self.inside.rec; asserts = c.self.inside.asserts.items } in
    rw c.in_ok-push.ensures.ok (IsDerivation-push x c.args.line c.self.invariant (rw (← c.self.view_is) at c.requires.accepted))
