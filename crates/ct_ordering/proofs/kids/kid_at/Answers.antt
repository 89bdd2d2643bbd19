use Rattle.std.proofs.Common.{◌+◌, arith}
use Rattle.ct_ordering.proofs.PointLemmas.{starts_within}
use Rattle.ct_ordering.proofs.kids.kid_at.Goals as goal

pub part-these-requires : goal.part-these-requires
part-these-requires c =
    let formed = c.requires.formed in
    let high = starts_within c.args.starts.now c.args.kids.now formed (c.args.hop.point + 1) (omega (arith, c.requires.within)) in
    record { order = formed.rising c.args.hop.point c.requires.within; within = high }
