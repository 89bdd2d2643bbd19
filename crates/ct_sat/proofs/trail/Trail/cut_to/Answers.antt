use Rattle.std.proofs.Common.{◌≡◌, ◌∙◌, length, refl, sym, arith}
use Rattle.std.proofs.lemmas.Option.{slice_get_read, slice_get_within, same_Some}
use Rattle.ct_sat.proofs.TrailLemmas.{AreDecisions-cut}
use Rattle.ct_sat.proofs.trail.Trail.cut_to.Goals as goal

pub cut-requires-clause-within : goal.cut-requires-clause-within
cut-requires-clause-within c =
    let within = rw (← c.self.view_is) at c.requires.fits in
    let at = slice_get_read c.self.inside.decided.items (length c.self.inside.decided.items) c.args.keep c.index.result.now refl within c.index.ensures in
    let h = slice_get_within c.self.inside.literals.items c.index.result.now.index c.index.result.now.literal (c.self.invariant.1.stand c.args.keep c.index.result.now at) in
    omega arith

pub invariant_of-self : goal.invariant_of-self
invariant_of-self c =
    let within = rw (← c.self.view_is) at c.requires.fits in
    let at = slice_get_read c.self.inside.decided.items (length c.self.inside.decided.items) c.args.keep c.index.result.now refl within c.index.ensures in
    let literals = c.self.invariant.2 in
    let reasons = c.self.invariant.3 in
    let decided = c.self.invariant.4 in (
      c.cut.ensures.indexed,
      rw (c.cut.ensures.literals, c.cut.ensures.reasons, c.truncate.ensures.items) (AreDecisions-cut c.self.inside.literals.items c.self.inside.reasons.items c.self.inside.decided.items c.args.keep c.index.result.now at c.self.invariant.1),
      omega (arith, c.cut.ensures.room, c.cut.ensures.literals_capacity),
      omega (arith, c.cut.ensures.room, c.cut.ensures.reasons_capacity),
      omega (arith, c.cut.ensures.room, c.truncate.ensures.capacity),
    )

pub returns : goal.returns
returns c = record {
  after = λ d at_d.
      let within = rw (← c.self.view_is) at c.requires.fits in
      let at = slice_get_read c.self.inside.decided.items (length c.self.inside.decided.items) c.args.keep c.index.result.now refl within c.index.ensures in
      let at_there = rw (← c.self.view_is) at at_d in
      let same : c.index.result.now ≡ d = same_Some c.index.result.now d (sym at ∙ at_there) in
      rw (← c.self.view_is, c.cut.ensures.literals, c.cut.ensures.reasons, c.cut.ensures.room, c.truncate.ensures.items, same) refl;
}
