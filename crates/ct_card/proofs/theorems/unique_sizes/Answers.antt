use Rattle.ct_card.proofs.UniqueLemmas.{one_size}
use Rattle.ct_card.proofs.theorems.unique_sizes.Goals as goal

pub returns : goal.returns
returns c = record { one = one_size }
