use Rattle.std.proofs.Common.{sym, ◌∙◌}
use Rattle.std.proofs.lemmas.Option.{slice_get-get_or, slice_get_within}
use Rattle.ct_instances.proofs.InstanceLemmas.{AreMade, same_gen, instance_made, instance_yes, made_at, nth_is, among_yes}
use Rattle.ct_instances.proofs.among.instance_ctor.Goals as goal

pub bounds-ctors-index : goal.bounds-ctors-index
bounds-ctors-index c =
    let d = c.args.sig.now in
    let made = instance_made d c.sorts.ensures.consistent (λ s i e t. c.shapes.ensures.constructors d s i e t c.sorts.ensures.consistent) c.args.g c.sort_head.result c.args.index c.args.sort c.requires.sort c.requires.ctor c.sort_head.ensures.value (same_gen c.sort_head.result c.args.g (sym c.ne.ensures ∙ c.if-ne.false)) in
    slice_get_within c.ctors.result.now c.args.index made.id (made_at d c.args.sort.0 c.args.index c.requires.ctor.0 made c.ctors.result.now c.ctors.ensures.value)

pub returns-clause-value : goal.returns-clause-value
returns-clause-value c =
    let d = c.args.sig.now in
    let are : AreMade d = λ s i e t. c.shapes.ensures.constructors d s i e t c.sorts.ensures.consistent in
    let same = same_gen c.sort_head.result c.args.g (sym c.ne.ensures ∙ c.if-ne.false) in
    let made = instance_made d c.sorts.ensures.consistent are c.args.g c.sort_head.result c.args.index c.args.sort c.requires.sort c.requires.ctor c.sort_head.ensures.value same in
    let within = slice_get_within c.ctors.result.now c.args.index made.id (made_at d c.args.sort.0 c.args.index c.requires.ctor.0 made c.ctors.result.now c.ctors.ensures.value) in
    let test = instance_yes d c.sorts.ensures.consistent are c.args.g c.sort_head.result c.args.sort c.requires.sort c.sort_head.ensures.value same in
    sym (among_yes d c.args.g c.args.index c.args.sort test ∙ nth_is d c.args.sort c.args.index c.ctors.result.now c.ctors.ensures.value ∙ slice_get-get_or c.ctors.result.now c.args.index (record { 0 = 0 }) within)
