use Rattle.std.proofs.Common.{Option, IfSome, subst}
use Rattle.ct_terms.specs.declared.ids.TermId.{TermId}
use Rattle.ct_build.specs.ClassValues.{CollideWith}
use Rattle.ct_build.proofs.KnownLemmas.{no_collision}
use Rattle.ct_build.proofs.choice.start.Goals as goal

pub collision-requires-clause-buildable : goal.collision-requires-clause-buildable
collision-requires-clause-buildable c = (c.args.sizes.now, c.requires.buildable)

pub unreachable-requires : goal.unreachable-requires
unreachable-requires c = no_collision c.args.classes.now c.known.ensures.known c.args.sizes.now c.requires.buildable c.args.defaults.now c.args.unbuilt.now c.requires.classes c.args.chosen.now.graph c.args.chosen.now.nodes.items c.in-Some.field-0.0 c.in-Some.field-0.1 c.requires.none c.requires.chosen (subst (λ (o : Option (TermId × TermId)). IfSome o (λ pair. CollideWith c.args.classes.now c.args.chosen.now.graph c.args.defaults.now c.args.unbuilt.now c.args.chosen.now.nodes.items pair.0 pair.1)) c.in-Some.is c.in_ok-collision.ensures.some)
