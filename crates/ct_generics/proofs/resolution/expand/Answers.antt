use Rattle.std.proofs.Common.{◌<◌, length, arith}
use Rattle.ct_lemmas.proofs.Each.{All-at}
use Rattle.ct_generics.specs.declared.nodes.ExprId.{ExprId}
use Rattle.ct_generics.proofs.NodeLemmas.{Stands-within}
use Rattle.ct_generics.proofs.resolution.expand.Goals as goal

pub image_at-requires : goal.image_at-requires
image_at-requires c =
    let body = c.args.synonym.now.body in
    record { within = rw c.as_slice.ensures.value (omega (arith, c.in_ok-images.ensures.long, Stands-within c.args.synonym.now.template body.0 c.requires.stored.0.body c.requires.stored.1.stands)) }

pub returns-clause-within : goal.returns-clause-within
returns-clause-within c =
    All-at (λ (id : ExprId). id.0 < length c.substitute.new.target) c.in_ok-images.images.items c.args.synonym.now.body.0 c.image_at.result c.in_ok-images.ensures.within (rw c.as_slice.ensures.value at c.image_at.ensures.value)
