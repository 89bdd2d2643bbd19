use Rattle.std.proofs.Common.{sym, ◌∙◌}
use Rattle.ct_sexpr.specs.View.{expression_of}
use Rattle.ct_readback.proofs.FormLemmas.{no_args, some_args}
use Rattle.ct_readback.proofs.graph_text.is_applied.Goals as goal

pub returns-in-empty : goal.returns-in-empty
returns-in-empty c = record { value = no_args c.args.nodes (expression_of c.args.head.now) c.args.args.now c.in-empty.len_below }

pub returns-then-is_constructor_head : goal.returns-then-is_constructor_head
returns-then-is_constructor_head c = record {
  value = c.are_references.ensures.value
      ∙ some_args c.args.nodes (expression_of c.args.head.now) c.args.args.now c.in-len1-up.len_at_least (sym c.is_constructor_head.ensures.value ∙ c.if-is_constructor_head.true);
}
