use Rattle.std.proofs.Common.{◌+◌, List, sym, subst, ◌∙◌, true≢false}
use Rattle.ct_terms.specs.declared.ids.TermId.{TermId}
use Rattle.ct_acyclic.specs.Edges.{AreKept}
use Rattle.ct_acyclic.proofs.KeptLemmas.{AreKept-push, AreKept-skip}
use Rattle.ct_acyclic.proofs.classes.keep.Goals as goal

pub returns-then-is_data_class : goal.returns-then-is_data_class
returns-then-is_data_class c = record {
  kept = λ points count here old.
      subst (λ (list : List TermId). AreKept c.args.classes.now points (count + 1) list) (sym c.in_ok-push.ensures.items)
      (AreKept-push c.args.classes.now points count c.args.t c.args.reps.now.items here old (c.is_data_class.ensures.value.0 c.if-is_data_class.true));
}

pub returns : goal.returns
returns c = record {
  kept = λ points count here old. AreKept-skip c.args.classes.now points count c.args.t c.args.reps.now.items here old (λ is. true≢false (sym (c.is_data_class.ensures.value.1 is) ∙ c.if-is_data_class.false));
}
