use Rattle.std.proofs.Common.{arith}
use Rattle.ct_generics.proofs.NodeLemmas.{Stay-trans}
use Rattle.ct_generics.proofs.SubstitutionLemmas.{StandFor-stay, AreWithin-stay, AreWithin-push, AreImages-push, length-push}
use Rattle.ct_generics.proofs.substitution.substitute.Goals as goal

pub image-requires-clause-args : goal.image-requires-clause-args
image-requires-clause-args c = AreWithin-stay c.args.target.now c.loop-k.target c.args.args.now c.loop-k.invariant.stay c.requires.within

pub loop-k-preserved : goal.loop-k-preserved
loop-k-preserved c =
    let begin = c.args.target.now in
    let old = c.loop-k.target in
    let new = c.image.new.target in
    let ids = c.loop-k.images.items in
    let last = c.in_ok-image.image in
    let template = c.args.template.now in
    record {
      long = rw c.in_ok-push.ensures.items (omega (arith, c.loop-k.invariant.long, length-push ids last));
      stay = Stay-trans begin old new c.loop-k.invariant.stay c.image.ensures.stay;
      within = rw c.in_ok-push.ensures.items (AreWithin-push new ids last (AreWithin-stay old new ids c.image.ensures.stay c.loop-k.invariant.within) c.in_ok-image.ensures.within);
      images = λ es stand. rw c.in_ok-push.ensures.items (AreImages-push template old new ids last es c.image.ensures.stay (c.loop-k.invariant.images es stand) (λ e stands. c.in_ok-image.ensures.image template es e (StandFor-stay begin old c.args.args.now es c.loop-k.invariant.stay stand) (rw c.as_slice.ensures.value (c.loop-k.invariant.images es stand)) (rw (c.as_slice.ensures.value, c.loop-k.invariant.long) c.node.ensures.value) (rw c.as_slice.ensures.value stands)));
    }
