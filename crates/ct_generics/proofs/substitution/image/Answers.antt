use Rattle.std.proofs.Common.{◌<◌, length, sym, ◌∙◌}
use Rattle.ct_lemmas.proofs.Each.{All-at}
use Rattle.ct_lemmas.proofs.Options.{IfOk-map}
use Rattle.ct_generics.specs.declared.nodes.ExprId.{ExprId}
use Rattle.ct_generics.proofs.SubstitutionLemmas.{image-Some, image-None, image-Head, image-Apply}
use Rattle.ct_generics.proofs.substitution.image.Goals as goal

pub returns-in-Some-clause-image : goal.returns-in-Some-clause-image
returns-in-Some-clause-image c template es e stand known node stands =
    image-Some template c.args.target.now c.args.args.now es (length c.args.images.now) c.in-Param.i c.in-Some.id e stand (node ∙ cc) stands (sym c.in-Some.ensures.value)

pub returns-in-Some-clause-within : goal.returns-in-Some-clause-within
returns-in-Some-clause-within c =
    All-at (λ (id : ExprId). id.0 < length c.args.target.now) c.args.args.now c.in-Param.i c.in-Some.id c.requires.args (sym c.in-Some.ensures.value)

pub returns-in-None-clause-image : goal.returns-in-None-clause-image
returns-in-None-clause-image c =
    IfOk-map c.param.result _ _ (λ n param template es e stand known node stands. image-None template c.args.target.now c.param.new.self c.args.args.now es (length c.args.images.now) c.in-Param.i n.0 e stand (node ∙ cc) stands (sym c.in-None.ensures.value) param) c.param.ensures.ok

pub returns-in-Head-clause-image : goal.returns-in-Head-clause-image
returns-in-Head-clause-image c =
    IfOk-map c.head.result _ _ (λ n head template es e stand known node stands. image-Head template c.head.new.self es (length c.args.images.now) n.0 c.in-Head.h e (node ∙ cc) stands head) c.head.ensures.ok

pub returns-in-Apply-clause-image : goal.returns-in-Apply-clause-image
returns-in-Apply-clause-image c =
    IfOk-map c.apply.result _ _ (λ n makes template es e stand known node stands. image-Apply template c.args.target.now c.apply.new.self c.args.images.now es (length c.args.images.now) n.0 c.in-Apply.m c.in-Apply.k c.image_at-function.result c.image_at-argument.result e known (node ∙ cc) stands c.image_at-function.ensures.value c.image_at-argument.ensures.value makes) c.apply.ensures.ok
