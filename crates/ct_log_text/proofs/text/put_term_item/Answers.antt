use Rattle.ct_log_text.proofs.WriteLemmas.{named, term_line_more}
use Rattle.ct_log_text.proofs.text.put_term_item.Goals as goal

pub put_term-requires : goal.put_term-requires
put_term-requires c = record {
  named = named c.args.sig.now c.args.table.now c.core.result.now c.core.ensures.value.0 (c.requires.fits c.args.n c.core.result.now c.core.ensures.value.0 c.core.ensures.value.1);
}

pub returns : goal.returns
returns c = record {
  ok = λ after. term_line_more c.args.sig.now c.args.n c.args.table.now c.core.result.now c.core.ensures.value.0 after c.args.out.now.items c.put_term.new.out.items c.push.new.self.items
      c.core.ensures.value.1 c.in_ok-put_term.ensures.ok c.in_ok-push.ensures.items;
}
