use Rattle.std.proofs.Common.{◌+◌, arith}
use Rattle.ct_partition.proofs.PointLemmas.{starts_within}
use Rattle.ct_partition.proofs.children.children_of.Goals as goal

pub part-requires : goal.part-requires
part-requires c =
    let formed = c.requires.formed in
    let i = c.args.i in
    let high = starts_within c.args.labels.now c.args.starts.now c.args.children.now formed (i + 1) (omega arith) in
    record { order = formed.rising i c.requires.within; within = high }
