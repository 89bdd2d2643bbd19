use Rattle.std.proofs.Common.{map, take, sym, ◌∙◌, ap, subst}
use Rattle.std.proofs.lemmas.List.{take-map}
use Rattle.ct_sorts.specs.Lookup.{AreDistinct}
use Rattle.ct_sorts.proofs.NumberedLemmas.{pair_of, pairs_of, AreDistinct-take}
use Rattle.ct_sorts.proofs.numbered.Numbered.truncate.Goals as goal

pub invariant_of-self : goal.invariant_of-self
invariant_of-self g c =
    let es = c.self.inside.entries.entries in
    subst AreDistinct (take-map (λ e. e.0.items) c.args.len es ∙ sym (ap (map (λ e. e.0.items)) c.truncate.ensures.entries))
    (AreDistinct-take c.args.len (map (λ e. e.0.items) es) c.self.invariant)

pub returns : goal.returns
returns g c =
    record { first = ap pairs_of c.truncate.ensures.entries ∙ sym (take-map pair_of c.args.len c.self.inside.entries.entries) ∙ ap (take c.args.len) c.self.view_is }
