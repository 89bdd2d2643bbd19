use Rattle.ct_instances.proofs.OccurLemmas.{gen_determined_is}
use Rattle.ct_log_text.proofs.named.determines.Goals as goal

pub returns : goal.returns
returns c = record { value = gen_determined_is c.args.sig.now c.sorts.ensures.consistent c.args.g c.args.index c.requires.ctor c.gen_determined.result c.gen_determined.ensures.value }
