use Rattle.std.proofs.Common.{sym, subst, ◌∙◌}
use Rattle.std.proofs.lemmas.Option.{same_Some, slice_get_within}
use Rattle.ct_terms.specs.declared.ids.TermId.{TermId}
use Rattle.ct_rules.specs.Cycle.{LeadsTo}
use Rattle.ct_log.specs.Equations.{Gave}
use Rattle.ct_congr.specs.State.{AreEqual}
use Rattle.ct_theory.proofs.StepLemmas.{Adds-via, Adds-explained}
use Rattle.ct_theory.proofs.cycle.explain_hop.Goals as goal

pub argument_of-argument-requires : goal.argument_of-argument-requires
argument_of-argument-requires c =
    let leads = c.requires.leads in
    record { argument = (leads.ctor, leads.args, leads.stands, slice_get_within leads.args c.args.place leads.argument leads.at) }

pub explain-requires-clause-equal : goal.explain-requires-clause-equal
explain-requires-clause-equal c =
    let leads = c.requires.leads in
    let same = same_Some c.argument_of-argument.result leads.argument (sym (c.argument_of-argument.ensures.value leads.ctor leads.args leads.stands) ∙ leads.at) in
    subst (λ (t : TermId). AreEqual c.args.classes.now t c.args.next) (sym same) leads.equal

pub returns-clause-explained : goal.returns-clause-explained
returns-clause-explained c =
    let state = c.args.classes.now in
    let leads = c.requires.leads in
    let n = c.in_ok-step.step in
    let argument = c.argument_of-argument.result in
    let next = c.args.next in
    let old = c.args.proof.now.steps.items in
    let new = c.explain.new.into.steps.items in
    let same = same_Some argument leads.argument (sym (c.argument_of-argument.ensures.value leads.ctor leads.args leads.stands) ∙ leads.at) in
    Adds-via state old new (λ given. Gave given n argument next) (λ given. LeadsTo state.declarations state.terms (Gave given n) c.args.con c.args.place next)
    (λ given gave. record {
      ctor = leads.ctor;
      args = leads.args;
      argument = leads.argument;
      stands = leads.stands;
      datatype = leads.datatype;
      at = leads.at;
      equal = subst (λ (t : TermId). Gave given n t next) same gave;
    })
    (Adds-explained state old new n argument next c.in_ok-step.ensures.explained)
