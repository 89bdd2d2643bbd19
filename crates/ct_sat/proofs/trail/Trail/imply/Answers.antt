use Rattle.std.proofs.Common.{◌≡◌, length, Some, arith}
use Rattle.std.proofs.lemmas.List.{length-set}
use Rattle.ct_sat.specs.Status.{IsUnset}
use Rattle.ct_sat.proofs.TrailLemmas.{has_room, AreIndexed-push, AreDecisions-imply}
use Rattle.ct_sat.proofs.trail.Trail.imply.Goals as goal

pub push_reserved-requires : goal.push_reserved-requires
push_reserved-requires c =
    let unset : IsUnset c.self.inside.literals.items c.args.l = rw (← c.self.view_is) at c.requires.unset in
    let within = rw (← c.self.view_is) at c.requires.within in
    let room = has_room c.self.inside.literals.items c.self.inside.reasons.items c.self.inside.indices.items c.args.l c.self.invariant.0 unset within in
    let capacity = c.self.invariant.2 in
    omega (arith, c.self.inside.literals.ok.0)

pub push_reserved-requires-2 : goal.push_reserved-requires-2
push_reserved-requires-2 c =
    let unset : IsUnset c.self.inside.literals.items c.args.l = rw (← c.self.view_is) at c.requires.unset in
    let within = rw (← c.self.view_is) at c.requires.within in
    let room = has_room c.self.inside.literals.items c.self.inside.reasons.items c.self.inside.indices.items c.args.l c.self.invariant.0 unset within in
    let capacity = c.self.invariant.3 in
    let one_each = c.self.invariant.0.one_each in
    omega (arith, c.self.inside.reasons.ok.0)

pub invariant_of-self : goal.invariant_of-self
invariant_of-self c =
    let unset : IsUnset c.self.inside.literals.items c.args.l = rw (← c.self.view_is) at c.requires.unset in
    let within = rw (← c.self.view_is) at c.requires.within in
    let at_len : c.len.result ≡ length c.self.inside.literals.items = omega (arith, c.self.inside.literals.ok.0) in
    let long = length-set c.self.inside.indices.items c.args.l.term.0 (Some c.len.result) in
    let literals = c.self.invariant.2 in
    let reasons = c.self.invariant.3 in
    let decided = c.self.invariant.4 in (
      rw (c.push_reserved.ensures.items, c.push_reserved-2.ensures.items, at_len) (AreIndexed-push c.self.inside.literals.items c.self.inside.reasons.items c.self.inside.indices.items c.args.l (Some c.args.clause) c.self.invariant.0 unset within),
      rw (c.push_reserved.ensures.items, c.push_reserved-2.ensures.items) (AreDecisions-imply c.self.inside.literals.items c.self.inside.reasons.items c.self.inside.decided.items c.args.l c.args.clause c.self.invariant.1),
      omega (arith, c.push_reserved.ensures.capacity),
      omega (arith, c.push_reserved-2.ensures.capacity),
      omega arith,
    )
