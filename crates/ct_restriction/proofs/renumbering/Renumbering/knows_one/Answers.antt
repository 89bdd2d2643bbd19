use Rattle.std.proofs.Common.{◌∙◌, ◌<◌, true, Some, length, IsTrue, get_or, ap, sym, subst, arith}
use Rattle.std.proofs.lemmas.Option.{slice_get-get_or, get_or_from_slice_get}
use Rattle.ct_restriction.specs.Renumbered.{Numbers, IsKnown}
use Rattle.ct_restriction.proofs.renumbering.Renumbering.knows_one.Goals as goal

pub returns : goal.returns
returns c =
    let inside = c.self.inside in
    let t = c.args.t in
    let yes = c.index.result.now in
    let in_numbers : t.0 < length inside.numbers.items = omega (arith, c.if-index-len.false, c.len.ensures) in
    let in_known : t.0 < length inside.known.items = omega (arith, c.if-index-len-2.false, c.len-2.ensures) in
    record {
      known = subst (λ (s : Numbers). (IsTrue yes → IsKnown s t) × (IsKnown s t → IsTrue yes)) c.self.view_is (
        λ set. (
          get_or inside.numbers.items t.0 (record { 0 = 0 }),
          (slice_get-get_or inside.known.items t.0 yes in_known ∙ ap Some (sym c.index.ensures ∙ set), slice_get-get_or inside.numbers.items t.0 (record { 0 = 0 }) in_numbers),
        ),
        λ h. c.index.ensures ∙ get_or_from_slice_get inside.known.items t.0 true yes h.1.0,
      );
    }
