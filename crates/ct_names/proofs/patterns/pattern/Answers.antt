use Rattle.std.proofs.Common.{ap}
use Rattle.ct_sexpr.specs.View.{expressions_of}
use Rattle.ct_names.specs.Bounds.{held_binding}
use Rattle.ct_names.specs.Patterns.{pattern}
use Rattle.ct_names.specs.Elaboration.{parts_of, list_meaning}
use Rattle.ct_names.proofs.AnswerLemmas.{answers_along}
use Rattle.ct_names.proofs.PartLemmas.{part_of_list}
use Rattle.ct_names.proofs.patterns.pattern.Goals as goal

pub returns-in-List : goal.returns-in-List
returns-in-List c =
    let d = c.args.sig.now in
    record {
      value = answers_along held_binding _ _ c.list_pattern.result
          (ap (λ p. pattern d c.args.side p) (part_of_list d c.args.expr.now c.in-List.items c.as_slice.result.now c.in-List.is c.as_slice.ensures.value))
          (c.list_pattern.ensures.value (list_meaning d (parts_of d (expressions_of c.as_slice.result.now))));
    }
