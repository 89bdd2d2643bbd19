use Rattle.std.proofs.Common.{◌<◌, List, Option, IfSome, IfNone, length, refl, sym, subst}
use Rattle.ct_values.specs.declared.node.NodeId.{NodeId}
use Rattle.ct_card.specs.Nth.{IsNth}
use Rattle.ct_terms.specs.declared.ids.TermId.{TermId}
use Rattle.ct_build.specs.ClassValues.{AreApartWith, CollideWith}
use Rattle.ct_build.proofs.ChosenLemmas.{prepared_of_copy, chosen_of_copy, pushed_of_copy}
use Rattle.ct_build.proofs.KnownLemmas.{next_from, refused_next}
use Rattle.ct_build.proofs.choice.is_next.Goals as goal

pub push_value-requires-clause-more : goal.push_value-requires-clause-more
push_value-requires-clause-more c = subst (λ (l : List NodeId). length l < length c.args.unbuilt.now) (sym c.in_ok-next.ensures.nodes) c.requires.more

pub push_value-requires-clause-prepared : goal.push_value-requires-clause-prepared
push_value-requires-clause-prepared c = prepared_of_copy c.args.classes.now.declarations c.args.sizes.now c.args.chosen.now.graph c.in_ok-next.next.graph c.args.chosen.now.prepared c.in_ok-next.next.prepared c.in_ok-next.ensures.graph c.in_ok-next.ensures.prepared c.requires.prepared

pub collision-requires-clause-buildable : goal.collision-requires-clause-buildable
collision-requires-clause-buildable c = (c.args.sizes.now, c.requires.buildable)

pub collision-requires-clause-chosen : goal.collision-requires-clause-chosen
collision-requires-clause-chosen c = c.in_ok-push_value.ensures.chosen c.args.defaults.now (chosen_of_copy c.args.classes.now c.args.defaults.now c.args.unbuilt.now c.args.chosen.now.graph c.in_ok-next.next.graph c.args.chosen.now.nodes.items c.in_ok-next.next.nodes.items c.in_ok-next.ensures.graph c.in_ok-next.ensures.nodes c.requires.chosen)

pub returns-in-None : goal.returns-in-None
returns-in-None c =
    let state = c.args.classes.now in
    let next = c.push_value.new.chosen in
    let copy = c.in_ok-next.next in
    let chosen = c.args.chosen.now in
    let pushed = pushed_of_copy state (λ s n p. IsNth state.declarations c.args.sizes.now s.0 n p) c.args.unbuilt.now chosen.graph copy.graph chosen.nodes.items copy.nodes.items c.args.number next.graph next.nodes.items c.in_ok-next.ensures.graph c.in_ok-next.ensures.nodes c.in_ok-push_value.ensures.pushed in
    let are = c.in_ok-push_value.ensures.chosen c.args.defaults.now (chosen_of_copy state c.args.defaults.now c.args.unbuilt.now chosen.graph copy.graph chosen.nodes.items copy.nodes.items c.in_ok-next.ensures.graph c.in_ok-next.ensures.nodes c.requires.chosen) in
    record { prepared = c.in_ok-push_value.ensures.prepared; next = next_from state (λ s n p. IsNth state.declarations c.args.sizes.now s.0 n p) c.args.defaults.now c.args.unbuilt.now chosen.graph next.graph chosen.nodes.items next.nodes.items c.args.number pushed are (subst (λ (o : Option (TermId × TermId)). IfNone o (AreApartWith state next.graph c.args.defaults.now c.args.unbuilt.now next.nodes.items)) c.in-None.is c.in_ok-collision.ensures.none) }

pub returns-in-Some : goal.returns-in-Some
returns-in-Some c =
    let state = c.args.classes.now in
    let next = c.push_value.new.chosen in
    let copy = c.in_ok-next.next in
    let chosen = c.args.chosen.now in
    let pushed = pushed_of_copy state (λ s n p. IsNth state.declarations c.args.sizes.now s.0 n p) c.args.unbuilt.now chosen.graph copy.graph chosen.nodes.items copy.nodes.items c.args.number next.graph next.nodes.items c.in_ok-next.ensures.graph c.in_ok-next.ensures.nodes c.in_ok-push_value.ensures.pushed in
    record { prepared = c.requires.prepared; next = (refl, refused_next state (λ s n p. IsNth state.declarations c.args.sizes.now s.0 n p) c.args.defaults.now c.args.unbuilt.now chosen.graph next.graph chosen.nodes.items next.nodes.items c.args.number c.in-Some.field-0.0 c.in-Some.field-0.1 pushed (subst (λ (o : Option (TermId × TermId)). IfSome o (λ pair. CollideWith state next.graph c.args.defaults.now c.args.unbuilt.now next.nodes.items pair.0 pair.1)) c.in-Some.is c.in_ok-collision.ensures.some)) }
