use Rattle.std.proofs.Common.{length, sym, ◌∙◌}
use Rattle.ct_sexpr.specs.View.{expression_of, expressions_of}
use Rattle.ct_readback.proofs.FormLemmas.{parts_formed}
use Rattle.ct_readback.proofs.RestLemmas.{count_of}
use Rattle.ct_readback.proofs.item_text.has_parts.Goals as goal

pub returns-then-is_sort_text : goal.returns-then-is_sort_text
returns-then-is_sort_text c = record {
  value = c.is_body.ensures.value
      ∙ parts_formed c.args.off (record { name = expression_of c.args.name.now; parameters = expressions_of c.args.parameters.now; result = expression_of c.args.sort.now; body = expression_of c.args.body.now }) (length c.args.parameters.now)
      (sym c.is_name.ensures.value ∙ c.if-not-is_name.false) (sym c.are_parameters.ensures.value ∙ c.if-not-are_parameters.false) (sym c.may_have.ensures.value ∙ c.if-not-may_have.false)
      (sym c.is_sort_text.ensures.value ∙ c.if-is_sort_text.true) (count_of c.args.parameters.now);
}
