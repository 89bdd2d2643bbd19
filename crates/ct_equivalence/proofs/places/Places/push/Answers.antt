use Rattle.std.proofs.Common.{◌<◌, ◌∙◌, List, [], ◌∷◌, ◌++◌, length, map, ap, sym, arith}
use Rattle.std.proofs.lemmas.List.{length-map}
use Rattle.ct_equivalence.specs.declared.places.Place.{Place}
use Rattle.ct_equivalence.specs.Digests.{places_of}
use Rattle.ct_equivalence.proofs.PlaceLemmas.{places_of-read, places-written}
use Rattle.ct_equivalence.proofs.places.Places.push.Goals as goal

pub returns : goal.returns
returns c =
    let rows = c.self.inside.rows.items in
    let row = c.index_mut.result.now in
    let within : c.args.t.0 < length rows = omega (arith, c.requires.inside, ap length c.self.view_is, length-map rows (λ v. v.items)) in
    let read = places_of-read rows c.args.t row within c.index_mut.ensures.value in
    rw (← c.self.view_is)
    (record { pushed = places-written rows c.args.t.0 c.push.new.self (places_of (map (λ v. v.items) rows) c.args.t ++ c.args.place ∷ []) (c.in_ok-push.ensures.items ∙ ap (λ (xs : List Place). xs ++ c.args.place ∷ []) (sym read)) })
