use Rattle.std.proofs.Common.{◌≡◌, Some, slice_get, length, sym, ap, ◌∙◌, arith}
use Rattle.ct_model.proofs.TableLemmas.{selector-within, selector-parts}
use Rattle.ct_model.proofs.table.write_off.Goals as goal

pub table_at-table-requires : goal.table_at-table-requires
table_at-table-requires c =
    let tables = c.as_slice.ensures.value in
    record { within = omega (arith, ap length tables, c.requires.proper.selectors.one_each, c.requires.declared) }

pub write_body-requires-clause-within : goal.write_body-requires-clause-within
write_body-requires-clause-within c =
    let i = c.args.interp.now in
    let at : slice_get i.offs c.args.s.0 ≡ Some c.table_at-table.result.now = ap (λ ts. slice_get ts c.args.s.0) (sym c.as_slice.ensures.value) ∙ c.table_at-table.ensures.value in
    selector-within c.args.sig.now i c.requires.proper c.args.s.0 c.sel_ctor.result c.ctor_sort-of.result c.table_at-table.result.now c.requires.declared c.sel_ctor.ensures.value c.ctor_sort-of.ensures.value c.sel_ctor.ensures.ctor at

pub returns : goal.returns
returns c =
    let i = c.args.interp.now in
    let at : slice_get i.offs c.args.s.0 ≡ Some c.table_at-table.result.now = ap (λ ts. slice_get ts c.args.s.0) (sym c.as_slice.ensures.value) ∙ c.table_at-table.ensures.value in
    record {
      ok = selector-parts c.args.sig.now i c.requires.proper c.args.s.0 c.sel_name.result.now c.sel_ctor.result c.ctor_sort-of.result c.sel_sort.result c.table_at-table.result.now
          c.args.out.now.items c.extend_from_slice.new.self.items c.write_heading.new.out.items c.write_body.new.out.items c.push.new.self.items c.requires.declared
          c.sel_name.ensures.value c.sel_ctor.ensures.value c.sel_ctor.ensures.ctor c.ctor_sort-of.ensures.value c.sel_sort.ensures.value at
          c.in_ok-extend_from_slice.ensures.items c.in_ok-write_heading.ensures.ok c.in_ok-write_body.ensures.ok c.in_ok-push.ensures.items;
    }
