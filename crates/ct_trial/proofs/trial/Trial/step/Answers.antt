use Rattle.std.proofs.Common.{◌≡◌, ℕ, ◌<◌, List, length, Some, slice_get, map, sym, ap, subst, ◌∙◌}
use Rattle.ct_sorts.specs.declared.ids.FunId.{FunId}
use Rattle.ct_sorts.specs.declared.ids.SortId.{SortId}
use Rattle.ct_values.specs.declared.node.NodeId.{NodeId}
use Rattle.ct_terms.specs.declared.ids.TermId.{TermId}
use Rattle.ct_terms.specs.declared.term.Core.TheVariants.{Apply}
use Rattle.ct_terms.specs.Terms.{IsOfSort, HasArgumentsBelow}
use Rattle.ct_eval.specs.Evaluation.{value_of}
use Rattle.ct_eval.specs.EvaluationStep.{HasValue}
use Rattle.ct_trial.specs.Growth.{HasRow}
use Rattle.ct_trial.specs.Trial.{IsTried}
use Rattle.ct_trial.proofs.TrialLemmas.{tried_next}
use Rattle.ct_trial.proofs.trial.Trial.step.Goals as goal

pub value-requires-clause-below : goal.value-requires-clause-below
value-requires-clause-below c = record {
  within = c.requires.within;
  below = λ core has.
      subst (λ (n : ℕ). HasArgumentsBelow n core) (c.requires.next ∙ ap (λ (ns : List NodeId). length ns) (sym c.in_ok-wanted.ensures.nodes))
      (c.in_ok-wanted.ensures.trial.tried.ordered c.args.t.0 core has);
}

pub returns-clause-trial : goal.returns-clause-trial
returns-clause-trial c =
    let d = c.args.sig.now in
    let i = c.value.new.interp in
    let terms = c.args.table.now in
    let trial = c.value.new.self in
    let nodes = trial.nodes.items in
    let node = c.in_ok-node.node in
    let had = c.in_ok-node.ensures in
    let long : c.args.t.0 ≡ length nodes = c.requires.next ∙ ap (λ (ns : List NodeId). length ns) (sym (had.nodes ∙ c.in_ok-wanted.ensures.nodes)) in
    let at : ℕ → TermId = λ k. record { 0 = k } in
    record {
      tried =
          subst (λ (ns : List NodeId). IsTried d terms i trial.funs ns) (sym c.in_ok-push.ensures.items)
          (tried_next c.growth_theorems.ensures.steps c.growth_theorems.ensures.growth d terms i trial.funs nodes had.trial.tried node
          (subst (λ (n : ℕ). n < length terms) long c.requires.within)
          (subst (λ (k : ℕ). (sort : SortId) → IsOfSort terms (at k) sort → HasValue d i i.graph (value_of d i terms (at k)) sort node) long had.value)
          (subst (λ (k : ℕ). (f : FunId) (args : List TermId) (sort : SortId) → slice_get terms k ≡ Some (Apply f args, sort) → HasRow i.graph (slice_get i.funs f.0) (map (value_of d i terms) args)) long had.rowed));
      selectors = had.trial.selectors;
      shared = had.trial.shared;
    }
