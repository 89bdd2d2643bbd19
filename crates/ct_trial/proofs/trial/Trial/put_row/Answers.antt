use Rattle.std.proofs.Common.{◌<◌, List, map, length, slice_get, All, refl, sym, subst, ◌∙◌}
use Rattle.std.proofs.lemmas.List.Elements.{All-from_recursion}
use Rattle.ct_values.specs.declared.node.NodeId.{NodeId}
use Rattle.ct_values.specs.Graph.{Nodes}
use Rattle.ct_terms.specs.declared.ids.TermId.{TermId}
use Rattle.ct_terms.specs.declared.term.Core.TheVariants.{Apply}
use Rattle.ct_terms.specs.Terms.{Has, Applies}
use Rattle.ct_eval.specs.declared.interp.Table.{Table}
use Rattle.ct_eval.specs.Index.{AreIndexed}
use Rattle.ct_eval.specs.Evaluation.{value_of}
use Rattle.ct_trial.specs.Growth.{HasRow}
use Rattle.ct_trial.specs.Trial.{IsTried}
use Rattle.ct_trial.proofs.TrialLemmas.{rowed_by, rowed_other}
use Rattle.ct_trial.proofs.trial.Trial.put_row.Goals as goal

pub row_for-requires : goal.row_for-requires
row_for-requires c =
    let d = c.args.sig.now in
    let terms = c.args.table.now in
    let f = c.in-Apply.f in
    let args = c.in-Apply.args in
    let nodes = c.args.self.now.nodes.items in
    let stands : Has terms (Apply f args) c.args.t.0 = rw (← c.in-Apply.is) c.core.ensures.value in
    let applies : Applies d terms f.0 args stands.0 = c.requires.sorted c.args.t.0 (Apply f args) stands.0 stands.1 in
    let below : All (λ (u : TermId). u.0 < length nodes) args = All-from_recursion (λ (u : TermId). u.0 < length nodes) args (c.requires.below.below (Apply f args) stands) in
    record {
      ready = (
        terms,
        stands.0,
        c.requires.trial.tried.proper,
        subst (λ (ts : List TermId). Applies d terms f.0 ts stands.0) (sym c.as_slice-in-Apply.ensures.value) applies,
        subst (λ (ns : List NodeId). All (λ (u : TermId). u.0 < length ns) c.as_slice-in-Apply.result.now) (sym c.as_slice.ensures.value)
            (subst (All (λ (u : TermId). u.0 < length nodes)) (sym c.as_slice-in-Apply.ensures.value) below),
      );
    }

pub returns-in_ok-row_for-in-Apply-clause-trial : goal.returns-in_ok-row_for-in-Apply-clause-trial
returns-in_ok-row_for-in-Apply-clause-trial c =
    let d = c.args.sig.now in
    let terms = c.args.table.now in
    let i = c.args.interp.now in
    let later = c.row_for.new.interp in
    let trial = c.args.self.now in
    let f = c.in-Apply.f in
    let stands : Has terms (Apply f c.in-Apply.args) c.args.t.0 = rw (← c.in-Apply.is) c.core.ensures.value in
    let applies : Applies d terms f.0 c.in-Apply.args stands.0 = c.requires.sorted c.args.t.0 (Apply f c.in-Apply.args) stands.0 stands.1 in
    let done = c.in_ok-row_for-in-Apply.ensures in
    let both =
    done.tried terms stands.0 (subst (λ (ts : List TermId). Applies d terms f.0 ts stands.0) (sym c.as_slice-in-Apply.ensures.value) applies)
    (subst (λ (ns : List NodeId). IsTried d terms i trial.funs ns) (sym c.as_slice.ensures.value) c.requires.trial.tried) in
    record {
      tried = subst (λ (ns : List NodeId). IsTried d terms later c.row_for.new.funs ns) c.as_slice.ensures.value both.0;
      selectors =
          subst (λ (g : Nodes). AreIndexed g later.offs trial.offs) (sym done.graph)
          (subst (λ (l : List Table). AreIndexed i.graph l trial.offs) (sym done.offs) c.requires.trial.selectors);
      shared = c.requires.trial.shared ∙ sym done.graph;
    }

pub returns-in_ok-row_for-in-Apply-clause-rowed : goal.returns-in_ok-row_for-in-Apply-clause-rowed
returns-in_ok-row_for-in-Apply-clause-rowed c =
    let d = c.args.sig.now in
    let terms = c.args.table.now in
    let i = c.args.interp.now in
    let later = c.row_for.new.interp in
    let trial = c.args.self.now in
    let f = c.in-Apply.f in
    let stands : Has terms (Apply f c.in-Apply.args) c.args.t.0 = rw (← c.in-Apply.is) c.core.ensures.value in
    let applies : Applies d terms f.0 c.in-Apply.args stands.0 = c.requires.sorted c.args.t.0 (Apply f c.in-Apply.args) stands.0 stands.1 in
    let both =
    c.in_ok-row_for-in-Apply.ensures.tried terms stands.0 (subst (λ (ts : List TermId). Applies d terms f.0 ts stands.0) (sym c.as_slice-in-Apply.ensures.value) applies)
    (subst (λ (ns : List NodeId). IsTried d terms i trial.funs ns) (sym c.as_slice.ensures.value) c.requires.trial.tried) in
    rowed_by d terms later c.args.t f c.in-Apply.args stands
    (subst (λ (ts : List TermId). HasRow later.graph (slice_get later.funs f.0) (map (value_of d later terms) ts)) c.as_slice-in-Apply.ensures.value both.1)

pub returns-in_default : goal.returns-in_default
returns-in_default c = record {
  trial = c.requires.trial;
  nodes = refl;
  rowed = rowed_other c.args.sig.now c.args.table.now c.args.interp.now c.args.t c.core.result.now c.core.ensures.value c.in_default.not-Apply;
}
