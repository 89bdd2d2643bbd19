use Rattle.std.proofs.Common.{arith, rules}
use Rattle.ct_sat.proofs.TrailLemmas.{AreIndexed-start, AreDecisions-start}
use Rattle.ct_sat.proofs.trail.Trail.new.Goals as goal

pub invariant_of-result : goal.invariant_of-result
invariant_of-result c =
    let indices = c.in_ok-vec.ensures.items_if_clones_equal (search rules) in
    let long = c.in_ok-vec.ensures.len in (
      rw (c.in_ok-with_capacity.ensures.items, c.in_ok-with_capacity-2.ensures.items) (AreIndexed-start c.args.terms c.in_ok-vec.field-0.items indices (omega arith)),
      rw (c.in_ok-with_capacity.ensures.items, c.in_ok-with_capacity-2.ensures.items, c.in_ok-with_capacity-3.ensures.items) AreDecisions-start,
      omega (arith, c.in_ok-vec.field-0.ok.0, c.in_ok-with_capacity.ensures.capacity),
      omega (arith, c.in_ok-vec.field-0.ok.0, c.in_ok-with_capacity-2.ensures.capacity),
      omega (arith, c.in_ok-vec.field-0.ok.0, c.in_ok-with_capacity-3.ensures.capacity),
    )
