use Rattle.std.proofs.Common.{Option, IfNone, inr, refl, subst}
use Rattle.ct_terms.specs.declared.ids.TermId.{TermId}
use Rattle.ct_build.specs.ClassValues.{AreApartWith}
use Rattle.ct_build.proofs.ChosenLemmas.{prepared_of_copy, chosen_of_copy}
use Rattle.ct_build.proofs.choice.is_all_at_once.Goals as goal

pub push_all-requires-clause-chosen : goal.push_all-requires-clause-chosen
push_all-requires-clause-chosen c = chosen_of_copy c.args.classes.now c.args.defaults.now c.args.unbuilt.now c.args.chosen.now.graph c.in_ok-next.next.graph c.args.chosen.now.nodes.items c.in_ok-next.next.nodes.items c.in_ok-next.ensures.graph c.in_ok-next.ensures.nodes c.requires.chosen

pub push_all-requires-clause-prepared : goal.push_all-requires-clause-prepared
push_all-requires-clause-prepared c = prepared_of_copy c.args.classes.now.declarations c.args.sizes.now c.args.chosen.now.graph c.in_ok-next.next.graph c.args.chosen.now.prepared c.in_ok-next.next.prepared c.in_ok-next.ensures.graph c.in_ok-next.ensures.prepared c.requires.prepared

pub collision-requires-clause-buildable : goal.collision-requires-clause-buildable
collision-requires-clause-buildable c = (c.args.sizes.now, c.requires.buildable)

pub returns-in-None : goal.returns-in-None
returns-in-None c =
    let next = c.push_all.new.chosen in
    record {
      done = record {
        are_chosen = c.in_ok-push_all.ensures.chosen;
        apart = inr (subst (λ (o : Option (TermId × TermId)). IfNone o (AreApartWith c.args.classes.now next.graph c.args.defaults.now c.args.unbuilt.now next.nodes.items)) c.in-None.is c.in_ok-collision.ensures.none);
        all = c.in_ok-push_all.ensures.all;
      };
    }

pub returns-in-Some : goal.returns-in-Some
returns-in-Some c = record { done = refl }
