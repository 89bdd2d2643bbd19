use Rattle.ct_unique.proofs.BlockLemmas.{built_both}
use Rattle.ct_unique.proofs.partition.constructors.Goals as goal

pub unreachable-requires : goal.unreachable-requires
unreachable-requires c =
    let both = built_both c.args.classes.now c.args.partition.now c.requires.made c.args.a c.args.b c.requires.left c.requires.right c.requires.same c.requires.apart in
    c.in_default.ensures.none both.0.0 both.0.1 both.0.2

pub unreachable-requires-in_default-con_of : goal.unreachable-requires-in_default-con_of
unreachable-requires-in_default-con_of c =
    let both = built_both c.args.classes.now c.args.partition.now c.requires.made c.args.a c.args.b c.requires.left c.requires.right c.requires.same c.requires.apart in
    c.in_default-con_of.ensures.none both.1.0 both.1.1 both.1.2
