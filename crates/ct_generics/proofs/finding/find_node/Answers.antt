use Rattle.std.proofs.Common.{Some, ap, subst, ◌∙◌}
use Rattle.ct_generics.specs.declared.nodes.Node.{Node}
use Rattle.ct_generics.specs.declared.nodes.Node.TheVariants.{Apply}
use Rattle.ct_generics.proofs.FoundLemmas.{IsNodeFound, IsFoundAs-apply, IsFoundAs-head, IsFoundAs-no_argument, IsFoundAs-no_function, IsFoundAs-param, node_is_found}
use Rattle.ct_generics.proofs.finding.find_node.Goals as goal

pub returns-in-Param : goal.returns-in-Param
returns-in-Param c =
    let target = c.args.target.now in
    let is = node_is_found target c.args.node c.find.result c.find.ensures.some c.find.ensures.none in
    record {
      found = λ source k e at stands are.
          IsFoundAs-param target source k e c.in-Param.field-0 c.find.result (at ∙ ap (λ (x : Node). Some x) c.in-Param.is) stands (subst (λ (x : Node). IsNodeFound target x c.find.result) c.in-Param.is is);
    }

pub returns-in-Head : goal.returns-in-Head
returns-in-Head c =
    let target = c.args.target.now in
    let result = c.find-in-Head.result in
    let is = node_is_found target c.args.node result c.find-in-Head.ensures.some c.find-in-Head.ensures.none in
    record {
      found = λ source k e at stands are.
          IsFoundAs-head target source k e c.in-Head.field-0 result (at ∙ ap (λ (x : Node). Some x) c.in-Head.is) stands (subst (λ (x : Node). IsNodeFound target x result) c.in-Head.is is);
    }

pub returns-in-Some-Some : goal.returns-in-Some-Some
returns-in-Some-Some c =
    let target = c.args.target.now in
    let result = c.find-in-Some-Some.result in
    let is = node_is_found target (Apply c.in-Some-Some.f c.in-Some-Some.a) result c.find-in-Some-Some.ensures.some c.find-in-Some-Some.ensures.none in
    record {
      found = λ source k e at stands are.
          IsFoundAs-apply target source k e c.in-Apply.m c.in-Apply.k c.args.found.now (at ∙ ap (λ (x : Node). Some x) c.in-Apply.is) stands are c.in-Some-Some.f c.in-Some-Some.a result c.find-in-Some-Some.ensures.single (c.entry-function.ensures.value ∙ ap (λ o. Some o) c.in-Some-Some.is-0) (c.entry-argument.ensures.value ∙ ap (λ o. Some o) c.in-Some-Some.is-1) is;
    }

pub returns-in_default : goal.returns-in_default
returns-in_default c =
    record {
      found = λ source k e at stands are.
          IsFoundAs-no_argument c.args.target.now source k e c.in-Apply.m c.in-Apply.k c.args.found.now (at ∙ ap (λ (x : Node). Some x) c.in-Apply.is) stands are (c.entry-argument.ensures.value ∙ ap (λ o. Some o) c.in_default.is-1);
    }

pub returns-in_default-2 : goal.returns-in_default-2
returns-in_default-2 c =
    record {
      found = λ source k e at stands are.
          IsFoundAs-no_function c.args.target.now source k e c.in-Apply.m c.in-Apply.k c.args.found.now (at ∙ ap (λ (x : Node). Some x) c.in-Apply.is) stands are (c.entry-function.ensures.value ∙ ap (λ o. Some o) c.in_default.is-0);
    }
