use Rattle.ct_log_text.proofs.TermSorts.{sort_of_is, sort_declared}
use Rattle.ct_log_text.proofs.named.sort_of.Goals as goal

pub returns : goal.returns
returns c = record {
  value = sort_of_is c.args.table.now c.args.t c.sort.result c.sort.ensures.value;
  inside = λ d consistent sorted. sort_declared d consistent c.args.table.now sorted c.len.ensures.ordered c.args.t c.sort.result c.sort.ensures.value;
}
