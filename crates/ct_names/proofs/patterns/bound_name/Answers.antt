use Rattle.std.proofs.Common.{sym, ap, ◌∙◌}
use Rattle.ct_sexpr.specs.View.{expressions_of}
use Rattle.ct_names.specs.Forms.{bound_name}
use Rattle.ct_names.specs.Elaboration.{parts_of, list_meaning}
use Rattle.ct_names.proofs.PartLemmas.{part_of_list}
use Rattle.ct_names.proofs.patterns.bound_name.Goals as goal

pub returns-in-List : goal.returns-in-List
returns-in-List c =
    record {
      held = λ d.
          c.first_name.ensures.held d (list_meaning d (parts_of d (expressions_of c.as_slice.result.now)))
          ∙ sym (ap (λ p. bound_name p) (part_of_list d c.args.expr.now c.in-List.items c.as_slice.result.now c.in-List.is c.as_slice.ensures.value));
    }
