use Rattle.ct_ordering.proofs.OrderLemmas.{no-both}
use Rattle.ct_ordering.proofs.theorems.no_both.Goals as goal

pub returns : goal.returns
returns c = record { no_both = no-both }
