use Rattle.std.proofs.Common.{length}
use Rattle.ct_sexpr.specs.Expression.{more, none}
use Rattle.ct_sexpr.specs.Written.{written}
use Rattle.ct_log_text.specs.Written.{header_item, end_item, term_items, line_items, item_lines}
use Rattle.ct_log_text.proofs.WriteLemmas.{text_whole}
use Rattle.ct_log_text.proofs.text.put_derivation.Goals as goal

pub returns : goal.returns
returns c = record {
  ok =
      let lines = c.args.lines.now in
      let last = more (end_item (length lines)) none in
      let all = line_items 1 lines last in
      text_whole c.args.out.now.items c.extend_from_slice.new.self.items c.put_item.new.out.items c.put_term_items.new.out.items c.put_line_items.new.out.items c.put_item-2.new.out.items c.extend_from_slice-2.new.self.items
      (written (header_item c.args.number)) (item_lines (term_items c.args.sig.now 0 c.args.table.now all)) (item_lines all) (item_lines last)
      c.in_ok-extend_from_slice.ensures.items c.in_ok-put_item.ensures.ok (c.in_ok-put_term_items.ensures.ok all) (c.in_ok-put_line_items.ensures.ok last) c.in_ok-put_item-2.ensures.ok c.in_ok-extend_from_slice-2.ensures.items;
}
