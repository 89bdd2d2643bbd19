use Rattle.std.proofs.Common.{length, sym, subst, ◌∙◌, arith}
use Rattle.ct_generics.specs.Expression.{Expression}
use Rattle.ct_generics.specs.Shapes.{IsShape}
use Rattle.ct_generics.proofs.NodeLemmas.{Stands-param, Stands-head}
use Rattle.ct_generics.proofs.ShapeLemmas.{shape-node}
use Rattle.ct_generics.proofs.shape.node_shape.Goals as goal

pub node-argument-requires : goal.node-argument-requires
node-argument-requires c =
    let below = rw c.in-Apply.is at c.requires.below in
    record { within = omega (arith, below.1, c.requires.within) }

pub returns-in-Param : goal.returns-in-Param
returns-in-Param c =
    record {
      shape = λ e ordered known at stands. subst (λ (x : Expression). IsShape c.args.first c.args.params c.param_shape.result x) (sym (Stands-param c.args.table.now (length c.args.shapes.now) c.in-Param.field-0 e (at ∙ cc) stands)) (c.param_shape.ensures.shape c.args.first c.args.params c.in-Param.field-0);
    }

pub returns-in-Head : goal.returns-in-Head
returns-in-Head c =
    record {
      shape = λ e ordered known at stands. subst (λ (x : Expression). IsShape c.args.first c.args.params c.head_shape.result x) (sym (Stands-head c.args.table.now (length c.args.shapes.now) c.in-Head.h e (at ∙ cc) stands)) (c.head_shape.ensures.shape c.args.params);
    }

pub returns-in-Apply : goal.returns-in-Apply
returns-in-Apply c =
    record {
      shape = λ e ordered known at stands. shape-node c.args.first c.args.params c.args.table.now c.args.shapes.now (length c.args.shapes.now) c.in-Apply.m c.in-Apply.k c.shape_at.result c.shape_at-in-Apply.result c.applied_shape.result c.node-argument.result e ordered c.requires.small (rw c.in-Apply.is at c.requires.below).0 known c.shape_at.ensures.value c.shape_at-in-Apply.ensures.value c.node-argument.ensures.value (at ∙ cc) stands c.applied_shape.ensures.shape;
    }
