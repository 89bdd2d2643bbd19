use Rattle.ct_sexpr.specs.View.{expressions_of}
use Rattle.ct_readback.specs.ItemText.{due_function}
use Rattle.ct_readback.specs.ModelReads.{items_of}
use Rattle.std.proofs.Common.{slice_get, false}
use Rattle.ct_readback.proofs.AnswerLemmas.{ok_map}
use Rattle.ct_readback.proofs.DueLemmas.{due_by, read_at, function_due, function_refusal}
use Rattle.ct_readback.proofs.model.read_function.Goals as goal

pub returns-clause-read : goal.returns-clause-read
returns-clause-read c =
    let d = c.args.sig.now in
    let f = c.args.f.0 in
    let name = c.fun_name.result.now in
    let args = c.fun_args.result.now in
    let result = c.fun_result.result in
    ok_map _ _ c.table_at.result
    (λ table h. λ function at. read_at d c.table_at.new.graph (items_of (expressions_of c.args.items.now)) f (due_by false name args result) (due_function function) table
    (function_due d f function name args result at c.fun_name.ensures.value c.fun_args.ensures.value c.fun_result.ensures.value) h)
    c.table_at.ensures.read

pub returns-clause-refused : goal.returns-clause-refused
returns-clause-refused c = λ at code is.
    let d = c.args.sig.now in
    let f = c.args.f.0 in
    let refused = c.table_at.ensures.refused at code is in (
      refused.0,
      function_refusal d f c.fun_name.result.now c.fun_args.result.now c.fun_result.result (slice_get (items_of (expressions_of c.args.items.now)) f) code c.requires.declared
          c.fun_name.ensures.value c.fun_args.ensures.value c.fun_result.ensures.value refused.1,
    )
