use Rattle.std.proofs.Common.{sym, ◌∙◌}
use Rattle.ct_build.proofs.AnswerLemmas.{other_term, not_own}
use Rattle.ct_build.proofs.class_list.is_other_class.Goals as goal

pub returns-then-ne : goal.returns-then-ne
returns-then-ne c = record {
  other = λ is. not_own c.args.classes.now c.args.t c.rep.result c.rep.ensures.value (other_term c.rep.result c.args.t (sym c.ne.ensures ∙ c.if-ne.true)) is.own;
}
