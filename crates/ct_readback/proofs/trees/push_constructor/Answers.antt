use Rattle.ct_values.specs.declared.node.Node.TheVariants.{Con}
use Rattle.ct_values.proofs.LastingLemmas.{fits_closed}
use Rattle.ct_readback.proofs.TreeLemmas.{added_begins, added_formed, fits_below, built, constructed}
use Rattle.ct_readback.proofs.trees.push_constructor.Goals as goal

pub add-requires : goal.add-requires
add-requires c =
    let d = c.args.sig.now in
    let g = c.args.graph.now in
    let r = c.requires.children in
    record { below = fits_below d g (Con c.args.c c.args.children) (built d g c.args.c r.0 r.1 c.args.children c.requires.inside r.2 r.3 r.4) }

pub returns-clause-grown : goal.returns-clause-grown
returns-clause-grown c = added_begins c.args.graph.now (Con c.args.c c.args.children) c.add.new.self c.in_ok-n.ensures.grown

pub returns-clause-well_formed : goal.returns-clause-well_formed
returns-clause-well_formed c =
    let d = c.args.sig.now in
    let g = c.args.graph.now in
    let r = c.requires.children in
    added_formed d g (Con c.args.c c.args.children) c.add.new.self c.in_ok-n.ensures.grown c.requires.well_formed (built d g c.args.c r.0 r.1 c.args.children c.requires.inside r.2 r.3 r.4)

pub returns-clause-node : goal.returns-clause-node
returns-clause-node c = λ fields vs are have.
    let d = c.args.sig.now in
    let g = c.args.graph.now in
    let new = c.add.new.self in
    constructed d g new c.args.c fields vs c.args.children c.in_ok-n.n c.requires.inside (fits_closed d g c.requires.well_formed.fits) have
    (added_begins g (Con c.args.c c.args.children) new c.in_ok-n.ensures.grown) c.in_ok-n.ensures.stands
