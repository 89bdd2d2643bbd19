use Rattle.std.proofs.Common.{reverse}
use Rattle.ct_equivalence.proofs.NoteLemmas.{AreGroupings-noted}
use Rattle.ct_equivalence.proofs.equivalence.Equivalence.reps.Goals as goal

pub returns : goal.returns
returns c =
    let e = c.self.inside in
    rw (← c.self.view_is) (record { value = c.reps.ensures.value; whole = AreGroupings-noted e.grouped (reverse e.log.items) c.self.invariant })
