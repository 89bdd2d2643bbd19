use Rattle.std.proofs.Common.{take, sym, ap, subst, ◌∙◌}
use Rattle.std.proofs.lemmas.List.{take-map}
use Rattle.ct_generics.specs.Names.{AreDistinct}
use Rattle.ct_generics.proofs.NameTableLemmas.{names_in, AreDistinct-take}
use Rattle.ct_generics.proofs.names.Names.truncate.Goals as goal

pub invariant_of-self : goal.invariant_of-self
invariant_of-self c =
    let es = c.self.inside.entries.entries in
    subst AreDistinct (take-map (λ e. e.0.items) c.args.len es ∙ sym (ap names_in c.truncate.ensures.entries)) (AreDistinct-take (names_in es) c.args.len c.self.invariant)

pub returns : goal.returns
returns c =
    record { first = ap names_in c.truncate.ensures.entries ∙ sym (take-map (λ e. e.0.items) c.args.len c.self.inside.entries.entries) ∙ ap (take c.args.len) c.self.view_is }
