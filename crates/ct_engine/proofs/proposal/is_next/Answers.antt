use Rattle.ct_engine.proofs.OpeningLemmas.{judges_of}
use Rattle.ct_engine.proofs.proposal.is_next.Goals as goal

pub is_accepted-requires-clause-judges : goal.is_accepted-requires-clause-judges
is_accepted-requires-clause-judges c =
    let course = c.args.course.now in
    let before = c.requires.opening.before in
    rw (c.table.ensures.value, c.rec-rec.ensures.value, c.asserts.ensures.value)
    (judges_of c.args.sig.now c.args.sizes.now course.derivation before.declarations before.sized c.rec-rec.ensures.derivation)
