use Rattle.std.proofs.Common.{◌≡◌, ◌<◌, ◌⊎◌, List, map, length, None, Some, refl, sym, subst, ◌∙◌}
use Rattle.std.specs.List.{AllByRecursion}
use Rattle.std.proofs.lemmas.List.Elements.{recursion_from_All}
use Rattle.std.proofs.lemmas.Option.{slice_get_within}
use Rattle.indexmap.specs.IndexMap.{get}
use Rattle.ct_values.specs.declared.node.NodeId.{NodeId}
use Rattle.ct_terms.specs.declared.ids.TermId.{TermId}
use Rattle.ct_eval.specs.declared.index.RowKey.{RowKey}
use Rattle.ct_eval.specs.declared.interp.Row.{Row}
use Rattle.ct_eval.specs.Index.{row_key, same_row_key}
use Rattle.ct_eval.specs.EvaluationStep.{node_under}
use Rattle.ct_trial.proofs.TrialLemmas.{row_known, tried_row, row_there}
use Rattle.ct_trial.proofs.rows.row_for.Goals as goal

pub nodes_of-requires : goal.nodes_of-requires
nodes_of-requires c = record { within = c.requires.ready.4 }

pub node_for-requires-clause-proper : goal.node_for-requires-clause-proper
node_for-requires-clause-proper c = c.requires.ready.2

pub node_for-requires-clause-declared : goal.node_for-requires-clause-declared
node_for-requires-clause-declared c =
    let applies = c.requires.ready.3 in slice_get_within c.args.sig.now.functions c.args.f.0 applies.function applies.declared

pub add_row-requires : goal.add_row-requires
add_row-requires c =
    let applies = c.requires.ready.3 in
    record { within = subst (λ k. c.args.f.0 < k) (sym c.requires.ready.2.functions.one_each) (slice_get_within c.args.sig.now.functions c.args.f.0 applies.function applies.declared) }

pub returns-then-has_row : goal.returns-then-has_row
returns-then-has_row c = record {
  graph = refl;
  offs = refl;
  tried = λ terms sort applies tried.
      let nodes = c.args.nodes.now in
      let args = c.args.args.now in
      let below : AllByRecursion (λ (t : TermId). t.0 < length nodes) args = recursion_from_All (λ (t : TermId). t.0 < length nodes) args c.requires.ready.4 in
      let found = c.has_row.ensures.found c.if-has_row.true in (
        tried,
        row_known c.growth_theorems.ensures.steps c.growth_theorems.ensures.growth c.args.sig.now terms c.args.interp.now c.args.funs.now nodes tried c.args.f args sort applies below found.0
            (subst (λ (l : List NodeId). get same_row_key c.args.funs.now (row_key c.args.f.0 l) ≡ Some found.0) c.in_ok-list.ensures.value found.1),
      );
}

pub returns : goal.returns
returns c = record {
  graph = refl;
  offs = refl;
  tried = λ terms sort applies tried.
      let steps = c.growth_theorems.ensures.steps in
      let growth = c.growth_theorems.ensures.growth in
      let d = c.args.sig.now in
      let i = c.args.interp.now in
      let funs = c.args.funs.now in
      let nodes = c.args.nodes.now in
      let f = c.args.f in
      let args = c.args.args.now in
      let below : AllByRecursion (λ (t : TermId). t.0 < length nodes) args = recursion_from_All (λ (t : TermId). t.0 < length nodes) args c.requires.ready.4 in
      let keys : List NodeId = map (node_under nodes) args in
      let list : c.in_ok-list.list ≡ keys = c.in_ok-list.ensures.value in
      let node = c.in_ok-node.node in
      let row : Row = record { args = c.in_ok-copy.copy; result = node } in
      let args_are : row.args ≡ keys = c.in_ok-copy.ensures.value ∙ c.as_slice.ensures.value ∙ list in
      let adds = c.in_ok-add_row.ensures.added in
      let fits = c.in_ok-node.ensures.sorted applies.function applies.declared in
      let more = c.insert_row.new.index in
      let done = c.in_ok-insert_row.ensures in (
        tried_row steps growth d terms i funs nodes tried f args sort applies below c.add_row.new.tables row adds args_are fits more done.stay
            (subst (λ (l : List NodeId). get same_row_key funs (row_key f.0 l) ≡ None → get same_row_key more (row_key f.0 l) ≡ Some node) list done.added)
            (subst (λ (l : List NodeId). (k : RowKey) (n : NodeId) → get same_row_key more k ≡ Some n → (get same_row_key funs k ≡ Some n) ⊎ ((k ≡ row_key f.0 l) × (n ≡ node))) list done.only),
        row_there steps growth d terms i funs nodes tried f args sort applies below c.add_row.new.tables row adds args_are fits,
      );
}
