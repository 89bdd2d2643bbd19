use Rattle.std.proofs.Common.{◌<◌, sym, subst}
use Rattle.ct_values.specs.declared.node.NodeId.{NodeId}
use Rattle.ct_values.specs.Fitting.{HasNodeSort}
use Rattle.ct_eval.proofs.StepTables.{function_table}
use Rattle.ct_trial.proofs.rows.default.Goals as goal

pub default_of-requires : goal.default_of-requires
default_of-requires c = record { within = subst (λ k. c.args.f.0 < k) (sym c.requires.proper.1.functions.one_each) c.requires.proper.2 }

pub returns : goal.returns
returns c = record {
  sorted = λ d function proper at.
      let table = function_table d c.args.interp.now c.args.f.0 function proper at in
      subst (λ (n : NodeId). HasNodeSort d c.args.interp.now.graph n function.result) (sym (c.default_of.ensures.value table.0 table.1)) table.2.default_fits;
}
