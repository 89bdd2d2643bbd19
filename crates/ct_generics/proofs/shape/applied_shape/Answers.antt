use Rattle.std.proofs.Common.{refl, ap, ◌∙◌, ◌&&◌}
use Rattle.ct_generics.proofs.ShapeLemmas.{shape-applied, param_tells}
use Rattle.ct_generics.proofs.shape.applied_shape.Goals as goal

pub returns : goal.returns
returns c =
    record {
      shape = λ first nodes k f a at stands of_f of_a few. shape-applied first c.args.params c.args.function c.args.argument _ f a c.is_param-is_next.result of_f of_a (param_tells nodes k c.args.function.count c.args.node a c.is_param-is_next.result at stands c.is_param-is_next.ensures.param) refl c.both.ensures.value (c.next_count.ensures.next (rw of_f.counted few)) (c.both-2.ensures.value ∙ ap (λ b. c.args.function.inner && b) c.keeps-keeping.ensures.value);
    }
