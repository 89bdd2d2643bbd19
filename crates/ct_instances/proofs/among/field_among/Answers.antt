use Rattle.std.proofs.Common.{Option, sym, ◌∙◌, ap}
use Rattle.std.specs.Option.{option_and_then}
use Rattle.std.proofs.lemmas.Option.{slice_get-get_or}
use Rattle.ct_sorts.specs.declared.ids.CtorId.{CtorId}
use Rattle.ct_instances.specs.Among.{nth_sel}
use Rattle.ct_instances.proofs.InstanceLemmas.{field_within, nth_sel_is}
use Rattle.ct_instances.proofs.among.field_among.Goals as goal

pub bounds-ctor_sels-place : goal.bounds-ctor_sels-place
bounds-ctor_sels-place c =
    let d = c.args.sig.now in
    field_within d c.sorts.ensures.consistent (λ s i e t. c.shapes.ensures.constructors d s i e t c.sorts.ensures.consistent) c.args.g c.args.index c.args.place c.requires.field c.args.sort c.requires.sort c.in_ok-c.c c.in_ok-c.ensures.value c.ctor_sels.result.now c.ctor_sels.ensures.value

pub returns-clause-value : goal.returns-clause-value
returns-clause-value c =
    let d = c.args.sig.now in
    let within = field_within d c.sorts.ensures.consistent (λ s i e t. c.shapes.ensures.constructors d s i e t c.sorts.ensures.consistent) c.args.g c.args.index c.args.place c.requires.field c.args.sort c.requires.sort c.in_ok-c.c c.in_ok-c.ensures.value c.ctor_sels.result.now c.ctor_sels.ensures.value in
    sym (ap (λ (o : Option CtorId). option_and_then (nth_sel d c.args.place) o) (sym c.in_ok-c.ensures.value) ∙ nth_sel_is d c.args.place c.in_ok-c.c c.ctor_sels.result.now c.ctor_sels.ensures.value ∙ slice_get-get_or c.ctor_sels.result.now c.args.place (record { 0 = 0 }) within)

pub returns-clause-inside : goal.returns-clause-inside
returns-clause-inside c =
    let d = c.args.sig.now in
    c.ctor_sels.ensures.sels c.args.place (record { 0 = 0 }) (field_within d c.sorts.ensures.consistent (λ s i e t. c.shapes.ensures.constructors d s i e t c.sorts.ensures.consistent) c.args.g c.args.index c.args.place c.requires.field c.args.sort c.requires.sort c.in_ok-c.c c.in_ok-c.ensures.value c.ctor_sels.result.now c.ctor_sels.ensures.value)
