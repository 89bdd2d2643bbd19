use Rattle.std.proofs.Common.{◌≡◌, List, [], sym, subst, ◌∙◌, arith}
use Rattle.std.proofs.lemmas.List.{nil_from_length}
use Rattle.ct_sorts.specs.declared.ids.SelId.{SelId}
use Rattle.ct_values.specs.declared.node.NodeId.{NodeId}
use Rattle.ct_values.specs.Value.{no_values}
use Rattle.ct_names.specs.Symbols.{ctor_sort}
use Rattle.ct_readback.specs.TreeNode.{AreFieldsOf, HaveTrees}
use Rattle.ct_readback.proofs.AnswerLemmas.{ok_map}
use Rattle.ct_readback.proofs.ApplicationLemmas.{lone_found}
use Rattle.ct_readback.proofs.trees.push_lone.Goals as goal

pub push_constructor-requires-clause-children : goal.push_constructor-requires-clause-children
push_constructor-requires-clause-children c =
    let fields : c.ctor_sels.result.now ≡ [] = nil_from_length c.ctor_sels.result.now (omega (arith, c.if-ctor_sels-gt0.false)) in (
      [],
      no_values,
      subst (λ (ss : List SelId). AreFieldsOf c.args.sig.now c.args.c ss) fields c.ctor_sels.ensures.value,
      λ k s below. absurd (omega (arith, below)),
      subst (λ (ns : List NodeId). HaveTrees c.args.sig.now c.args.graph.now [] no_values ns) (sym (c.new-2.ensures.value ∙ c.new.ensures.items)) tt,
    )

pub returns-clause-node : goal.returns-clause-node
returns-clause-node c =
    let d = c.args.sig.now in
    let fields : c.ctor_sels.result.now ≡ [] = nil_from_length c.ctor_sels.result.now (omega (arith, c.if-ctor_sels-gt0.false)) in
    let are : AreFieldsOf d c.args.c [] = subst (λ (ss : List SelId). AreFieldsOf d c.args.c ss) fields c.ctor_sels.ensures.value in
    let have : HaveTrees d c.args.graph.now [] no_values c.new-2.result = subst (λ (ns : List NodeId). HaveTrees d c.args.graph.now [] no_values ns) (sym (c.new-2.ensures.value ∙ c.new.ensures.items)) tt in
    ok_map _ _ c.push_constructor.result
    (λ found h. lone_found d (ctor_sort d c.args.c) c.push_constructor.new.graph c.args.c found are (h [] no_values are have))
    c.push_constructor.ensures.node
