use Rattle.std.proofs.Common.{ℕ, List, Some, None, slice_get, ap, sym, ◌∙◌}
use Rattle.std.specs.Str.{bytes_eq}
use Rattle.std.proofs.lemmas.Slice.Eq.{bytes_eq-Decides}
use Rattle.ct_lemmas.proofs.Lists.{slice_get-map_at, slice_get-map_source}
use Rattle.ct_generics.specs.Declarations.{Head}
use Rattle.ct_generics.proofs.PositionLemmas.{position-Some, position-None}
use Rattle.ct_generics.proofs.generics.Generics.head_named.Goals as goal

pub returns-in-Some-clause-some : goal.returns-in-Some-clause-some
returns-in-Some-clause-some c d is =
    let name = c.args.name.now in
    let at = position-Some name (bytes_eq name) (bytes_eq-Decides name) c.args.self.now.head_names (Some c.in-Some.h) (sym c.in-Some.is ∙ c.find.ensures.place) in
    slice_get-map_source (λ (head : Head). head.name) d.heads c.in-Some.h name (ap (λ (names : List (List ℕ)). slice_get names c.in-Some.h) (sym is.names_are) ∙ at)

pub returns-in-None-clause-none : goal.returns-in-None-clause-none
returns-in-None-clause-none c d is h head at named =
    let name = c.args.name.now in
    let absent = position-None name (bytes_eq name) (bytes_eq-Decides name) c.args.self.now.head_names None (sym c.in-None.is ∙ c.find.ensures.place) in
    absent h (ap (λ (names : List (List ℕ)). slice_get names h) is.names_are ∙ slice_get-map_at (λ (x : Head). x.name) d.heads h head at ∙ ap Some named)
