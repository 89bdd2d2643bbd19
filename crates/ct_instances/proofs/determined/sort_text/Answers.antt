use Rattle.ct_instances.specs.Among.{origin_of}
use Rattle.ct_instances.proofs.CtorNameLemmas.{origin_at}
use Rattle.ct_instances.proofs.determined.sort_text.Goals as goal

pub returns : goal.returns
returns c =
    let d = c.args.sig.now in
    record { value = c.sort_text.ensures.value (origin_of d c.args.s) (origin_at d c.sorts.ensures.consistent c.args.s c.requires.inside) }
