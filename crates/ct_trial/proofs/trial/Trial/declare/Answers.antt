use Rattle.std.proofs.Common.{◌≡◌, List, ◌++◌, sym, subst, ◌∙◌}
use Rattle.ct_eval.specs.declared.interp.Table.{Table}
use Rattle.ct_eval.specs.Interpretation.{HasFunctions}
use Rattle.ct_trial.specs.Growth.{with_functions}
use Rattle.ct_trial.specs.Trial.{IsTried}
use Rattle.ct_trial.proofs.FollowLemmas.{few_more, functions_more, same_where_as_long}
use Rattle.ct_trial.proofs.TrialLemmas.{tried_in, tried_more}
use Rattle.ct_trial.proofs.trial.Trial.declare.Goals as goal

pub add_tables-requires-clause-few : goal.add_tables-requires-clause-few
add_tables-requires-clause-few c =
    let was = c.requires.trial in few_more was.0 c.args.sig.now c.args.interp.now was.4.tried.proper was.2

pub add_tables-requires-clause-fit : goal.add_tables-requires-clause-fit
add_tables-requires-clause-fit c =
    let was = c.requires.trial in functions_more c.growth_theorems.ensures.growth was.0 c.args.sig.now c.args.interp.now was.4.tried.proper was.2

pub returns : goal.returns
returns c =
    let was = c.requires.trial in
    let d = was.0 in
    let e = c.args.sig.now in
    let i = c.args.interp.now in
    let table = c.args.table.now in
    let trial = c.args.self.now in
    let tried = was.4.tried in
    let sels : d.sels ≡ e.sels = same_where_as_long d.sels e.sels was.2.sels (c.in_ok-have_selectors.ensures.many ∙ tried.proper.selectors.one_each) in
    let added = c.in_ok-add_tables.ensures.added in
    let in_table = tried_in d was.1 table i trial.funs trial.nodes.items was.3 c.len.ensures.ordered tried in
    let functions : HasFunctions e i.graph (i.funs ++ added.0) = subst (HasFunctions e i.graph) added.1 c.in_ok-add_tables.ensures.functions in
    record {
      trial = record {
        tried =
            subst (λ (fs : List Table). IsTried e table (with_functions i fs) trial.funs trial.nodes.items) (sym added.1)
            (tried_more c.growth_theorems.ensures.growth d e table i trial.funs trial.nodes.items in_table was.2 c.sorts.ensures.consistent (c.structure.ensures.of_their_constructors d tried.consistent) sels added.0 added.2 functions);
        selectors = was.4.selectors;
        shared = was.4.shared;
      };
    }
