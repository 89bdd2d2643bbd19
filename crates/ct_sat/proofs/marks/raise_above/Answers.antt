use Rattle.std.proofs.Common.{arith, ◌+◌}
use Rattle.std.proofs.lemmas.Option.{slice_get_within}
use Rattle.ct_sat.proofs.ClauseLemmas.{Raises-one}
use Rattle.ct_sat.proofs.marks.raise_above.Goals as goal

pub overflow_add-result : goal.overflow_add-result
overflow_add-result c =
    let within = slice_get_within c.args.trail.now.literals c.in-Some.position c.in-Some.ensures.found.0 c.in-Some.ensures.found.1 in
    let fits = c.in-Some.ensures.whole.fits in
    let few = c.in-Some.ensures.whole.few in
    omega arith

pub returns-then-position-index : goal.returns-then-position-index
returns-then-position-index c = record { raises = Raises-one c.args.trail.now.literals c.args.l c.in-Some.ensures.found.0 c.in-Some.position c.args.index c.args.index c.in-Some.ensures.whole.consistent c.in-Some.ensures.found.1 c.in-Some.ensures.found.2 (omega arith) (λ h. h) (omega arith) }

pub returns-else-position-index : goal.returns-else-position-index
returns-else-position-index c =
    let within = slice_get_within c.args.trail.now.literals c.in-Some.position c.in-Some.ensures.found.0 c.in-Some.ensures.found.1 in
    record { raises = Raises-one c.args.trail.now.literals c.args.l c.in-Some.ensures.found.0 c.in-Some.position c.args.index (c.in-Some.position + 1) c.in-Some.ensures.whole.consistent c.in-Some.ensures.found.1 c.in-Some.ensures.found.2 (omega arith) (λ h. omega arith) (omega arith) }
