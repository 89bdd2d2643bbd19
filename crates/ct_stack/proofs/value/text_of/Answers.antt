use Rattle.std.proofs.Common.{[], map, sym}
use Rattle.std.proofs.lemmas.List.{append-nil}
use Rattle.ct_formulas.specs.TreeFormula.{formula_of}
use Rattle.ct_eval.specs.declared.interp.Valuation.{Valuation}
use Rattle.ct_eval.specs.Evaluator.{valuation_of}
use Rattle.ct_stack.specs.Stack.{cores}
use Rattle.ct_stack.specs.Held.{context_in}
use Rattle.ct_stack.proofs.ValueLemmas.{Meanings, all_meant, all_within, numbers_within, nodes_long, pairs_of_nodes}
use Rattle.ct_stack.proofs.value.text_of.Goals as goal

pub nodes_of-requires : goal.nodes_of-requires
nodes_of-requires c =
    let meanings : Meanings = record { tree = c.meanings.ensures.tree; compiled = c.meanings.ensures.compiled; chained = c.agreement.ensures.chained } in
    let v : Valuation = valuation_of c.extend.new.self in
    record {
      within =
          rw c.nodes.ensures.value
          (numbers_within meanings (context_in c.args.scope.now) c.args.interp.now c.args.model.now.table v c.sorts.ensures.consistent c.requires.proper c.requires.sound c.in-Ok.ensures.valuation c.args.numbers.now (cores (context_in c.args.scope.now) (map formula_of c.args.trees.now)) c.requires.numbers);
    }

pub pairs_text-requires-clause-one_each : goal.pairs_text-requires-clause-one_each
pairs_text-requires-clause-one_each c =
    let meanings : Meanings = record { tree = c.meanings.ensures.tree; compiled = c.meanings.ensures.compiled; chained = c.agreement.ensures.chained } in
    let v : Valuation = valuation_of c.extend.new.self in
    let at = rw c.nodes.ensures.value at c.in_ok-nodes.ensures.nodes in
    rw c.as_slice.ensures.value
    (nodes_long meanings (context_in c.args.scope.now) c.args.interp.now c.args.model.now.table v c.sorts.ensures.consistent c.requires.proper c.requires.sound c.in-Ok.ensures.valuation c.args.exprs.now c.args.trees.now c.args.numbers.now c.in_ok-nodes.nodes.items c.requires.one_each c.requires.numbers at)

pub pairs_text-requires-clause-within : goal.pairs_text-requires-clause-within
pairs_text-requires-clause-within c =
    let meanings : Meanings = record { tree = c.meanings.ensures.tree; compiled = c.meanings.ensures.compiled; chained = c.agreement.ensures.chained } in
    let v : Valuation = valuation_of c.extend.new.self in
    let at = rw c.nodes.ensures.value at c.in_ok-nodes.ensures.nodes in
    rw (c.as_slice.ensures.value, c.graph-graph.ensures.value)
    (all_within meanings (context_in c.args.scope.now) c.args.interp.now c.args.model.now.table v c.sorts.ensures.consistent c.requires.proper c.requires.sound c.in-Ok.ensures.valuation c.args.numbers.now c.in_ok-nodes.nodes.items at)

pub pairs_text-requires-clause-fits : goal.pairs_text-requires-clause-fits
pairs_text-requires-clause-fits c = rw c.graph-graph.ensures.value c.in-Ok.ensures.valuation.fits

pub returns-clause-values : goal.returns-clause-values
returns-clause-values c =
    let meanings : Meanings = record { tree = c.meanings.ensures.tree; compiled = c.meanings.ensures.compiled; chained = c.agreement.ensures.chained } in
    let v : Valuation = valuation_of c.extend.new.self in
    let context = context_in c.args.scope.now in
    let at = rw c.nodes.ensures.value at c.in_ok-nodes.ensures.nodes in
    let text = rw (c.as_slice.ensures.value, c.graph-graph.ensures.value) at c.in_ok-text.ensures.text in
    let numbers = c.args.numbers.now in
    let nodes = c.in_ok-nodes.nodes.items in
    let long = nodes_long meanings context c.args.interp.now c.args.model.now.table v c.sorts.ensures.consistent c.requires.proper c.requires.sound c.in-Ok.ensures.valuation c.args.exprs.now c.args.trees.now numbers nodes c.requires.one_each c.requires.numbers at in
    let meant = all_meant meanings context c.args.interp.now c.args.model.now.table v c.sorts.ensures.consistent c.requires.proper c.requires.sound c.in-Ok.ensures.valuation numbers nodes c.args.trees.now c.requires.numbers at c.requires.sorted in
    record {
      pairs = text.texts;
      pairs_are = pairs_of_nodes context c.args.interp.now v.graph c.in-Ok.ensures.valuation.fits c.args.exprs.now nodes (map formula_of c.args.trees.now) text.texts long meant text.pairs_are;
      text_is = text.text_is;
    }

pub returns-clause-valued : goal.returns-clause-valued
returns-clause-valued c =
    record {
      sorted = c.requires.valued.sorted;
      valued = c.args.model.now.table;
      first = ([], sym (append-nil c.args.model.now.table));
      found = c.in-Ok.ensures.evaluator;
    }
