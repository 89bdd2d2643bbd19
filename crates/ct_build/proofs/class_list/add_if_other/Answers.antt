use Rattle.std.proofs.Common.{◌+◌, List, sym, subst}
use Rattle.std.proofs.lemmas.Bool.{MatchBool-at_true, MatchBool-at_false}
use Rattle.ct_terms.specs.declared.ids.TermId.{TermId}
use Rattle.ct_build.specs.Nodes.{IsClassListBelow}
use Rattle.ct_build.proofs.ListedLemmas.{class_list_more, class_list_skip}
use Rattle.ct_build.proofs.class_list.add_if_other.Goals as goal

pub returns-then-is_other_class : goal.returns-then-is_other_class
returns-then-is_other_class c = record {
  list = λ order old.
      subst (λ (list : List TermId). IsClassListBelow c.args.classes.now (c.args.t.0 + 1) order list) (sym c.in_ok-push.ensures.items)
      (class_list_more c.args.classes.now order c.args.list.now.items c.args.t (MatchBool-at_true _ _ c.if-is_other_class.true c.is_other_class.ensures.other) old);
}

pub returns : goal.returns
returns c = record {
  list = λ order old. class_list_skip c.args.classes.now order c.args.list.now.items c.args.t (MatchBool-at_false _ _ c.if-is_other_class.false c.is_other_class.ensures.other) old;
}
