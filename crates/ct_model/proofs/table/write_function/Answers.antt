use Rattle.std.proofs.Common.{◌≡◌, Some, slice_get, length, sym, ap, ◌∙◌, arith}
use Rattle.ct_model.proofs.TableLemmas.{function-within, function-parts}
use Rattle.ct_model.proofs.table.write_function.Goals as goal

pub table_at-table-requires : goal.table_at-table-requires
table_at-table-requires c =
    let tables = c.as_slice.ensures.value in
    record { within = omega (arith, ap length tables, c.requires.proper.functions.one_each, c.requires.declared) }

pub write_body-requires-clause-within : goal.write_body-requires-clause-within
write_body-requires-clause-within c =
    let i = c.args.interp.now in
    let at : slice_get i.funs c.args.f.0 ≡ Some c.table_at-table.result.now = ap (λ ts. slice_get ts c.args.f.0) (sym c.as_slice.ensures.value) ∙ c.table_at-table.ensures.value in
    function-within c.args.sig.now i c.requires.proper c.args.f.0 c.fun_args-sorts.result.now c.table_at-table.result.now c.requires.declared c.fun_args-sorts.ensures.value at

pub returns : goal.returns
returns c =
    let i = c.args.interp.now in
    let at : slice_get i.funs c.args.f.0 ≡ Some c.table_at-table.result.now = ap (λ ts. slice_get ts c.args.f.0) (sym c.as_slice.ensures.value) ∙ c.table_at-table.ensures.value in
    record {
      ok = function-parts c.args.sig.now i c.requires.proper c.args.f.0 c.fun_name.result.now c.fun_args-sorts.result.now c.fun_result.result c.table_at-table.result.now
          c.args.out.now.items c.extend_from_slice.new.self.items c.write_heading.new.out.items c.write_body.new.out.items c.push.new.self.items c.requires.declared
          c.fun_name.ensures.value c.fun_args-sorts.ensures.value c.fun_result.ensures.value at
          c.in_ok-extend_from_slice.ensures.items c.in_ok-write_heading.ensures.ok c.in_ok-write_body.ensures.ok c.in_ok-push.ensures.items;
    }
