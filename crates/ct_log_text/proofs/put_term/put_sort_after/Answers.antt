use Rattle.ct_log_text.proofs.WriteLemmas.{sort_put}
use Rattle.ct_log_text.proofs.put_term.put_sort_after.Goals as goal

pub returns : goal.returns
returns c = record {
  ok = sort_put c.args.sig.now c.args.s c.args.out.now.items c.push.new.self.items c.extend_from_slice.new.self.items c.sort_text.result.now c.in_ok-push.ensures.items c.in_ok-extend_from_slice.ensures.items c.sort_text.ensures.value;
}
