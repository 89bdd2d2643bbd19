use Rattle.std.proofs.Common.{Option, Some, ◌∙◌, ap}
use Rattle.ct_sorts.specs.declared.ids.SortId.{SortId}
use Rattle.ct_instances.proofs.MatchLemmas.{param_met, param_new, held_at}
use Rattle.ct_instances.proofs.matching.fits_parameter.Goals as goal

pub returns-in-Some-clause-fits : goal.returns-in-Some-clause-fits
returns-in-Some-clause-fits c d consistent hold is =
    let at = rw c.as_slice.ensures.value at c.place_of.ensures.value ∙ ap (λ (o : Option SortId). Some o) c.in-Some.is in
    param_met d consistent c.args.sorts.now.items c.args.i c.in-Some.first c.args.sort (held_at d c.args.sorts.now.items c.args.i c.in-Some.first hold at) is at

pub returns-in-None-clause-fits : goal.returns-in-None-clause-fits
returns-in-None-clause-fits c d consistent hold is = param_new d c.args.sorts.now.items c.args.i c.args.sort (rw c.as_slice.ensures.value at c.place_of.ensures.value ∙ ap (λ (o : Option SortId). Some o) c.in-None.is)
