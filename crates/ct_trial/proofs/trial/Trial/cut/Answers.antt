use Rattle.std.proofs.Common.{◌≡◌, List, length, take, sym, ap, subst, ◌∙◌}
use Rattle.ct_values.specs.declared.node.NodeId.{NodeId}
use Rattle.ct_eval.specs.declared.interp.Table.{Table}
use Rattle.ct_eval.specs.Index.{AreIndexed}
use Rattle.ct_trial.specs.Growth.{with_functions}
use Rattle.ct_trial.specs.Trial.{IsTried}
use Rattle.ct_trial.proofs.TrialLemmas.{tried_cut}
use Rattle.ct_trial.proofs.trial.Trial.cut.Goals as goal

pub returns : goal.returns
returns c = record {
  trial = λ d e terms cut many sorted was.
      let i = c.args.interp.now in
      let trial = c.args.self.now in
      let funs = c.cut_functions.new.funs in
      let index = c.cut_functions.new.index in
      let tables : funs ≡ take (length e.functions) i.funs = c.cut_functions.ensures.tables ∙ ap (λ n. take n i.funs) (sym many) in
      let indexed : AreIndexed i.graph (take (length e.functions) i.funs) index = subst (λ (l : List Table). AreIndexed i.graph l index) tables (c.cut_functions.ensures.index i.graph was.tried.functions) in
      record {
        tried =
            subst (λ (ns : List NodeId). IsTried e (take c.args.count terms) (with_functions i funs) index ns) (sym c.truncate.ensures.items)
            (subst (λ (l : List Table). IsTried e (take c.args.count terms) (with_functions i l) index (take c.args.count trial.nodes.items)) (sym tables)
            (tried_cut d e terms i trial.funs trial.nodes.items was.tried cut c.args.count sorted index indexed));
        selectors = was.selectors;
        shared = was.shared;
      };
}
