use Rattle.std.proofs.Common.{◌≡◌, ◌<◌, ◌++◌, List, length, map, take, arith, ap, ◌∙◌}
use Rattle.std.proofs.lemmas.List.{take_all}
use Rattle.std.proofs.lemmas.Bool.Decides.{nat_tests}
use Rattle.ct_sexpr.specs.Written.{written_after}
use Rattle.ct_values.specs.declared.node.NodeId.{NodeId}
use Rattle.ct_values.specs.Value.{reference, values_of}
use Rattle.ct_value_text.specs.ValueText.{ctor_expression, expressions}
use Rattle.ct_value_text.proofs.TextLemmas.{names-more, written-constructor}
use Rattle.ct_value_text.proofs.graph_text.write_constructor.Goals as goal

pub loop-child-preserved : goal.loop-child-preserved
loop-child-preserved c =
    let loop = c.loop-child in
    let none : NodeId = record { 0 = 0 } in
    names-more c.args.sig.now c.args.children.now loop.child-index none c.write_ctor-2.new.out.items loop.out.items c.push-in-loop-child.new.self.items c.write_node_name.new.out.items
    c.loop-child-test.true loop.invariant c.in_ok-push-2.ensures.items c.in_ok-write_node_name.ensures.ok

pub returns : goal.returns
returns c =
    let d = c.args.sig.now in
    let ns = c.args.children.now in
    let some : 0 < length ns = grind (arith, nat_tests, c.if-is_empty.ensures) in
    let named = c.write_ctor-2.new.out.items in
    let all : take c.loop-child.child-index ns ≡ ns = take_all c.loop-child.child-index ns c.loop-child-test.false in
    let args_are : c.loop-child.out.items ≡ named ++ written_after (expressions d (values_of (map reference ns))) =
    c.loop-child.invariant ∙ ap (λ (ms : List NodeId). named ++ written_after (expressions d (values_of (map reference ms)))) all in
    record { ok = written-constructor d (ctor_expression d c.args.c) ns c.args.out.now.items c.push.new.self.items named c.loop-child.out.items c.push-2.new.self.items some c.in_ok-push.ensures.items c.in_ok-write_ctor.ensures.ok args_are c.in_ok-push-3.ensures.items }
