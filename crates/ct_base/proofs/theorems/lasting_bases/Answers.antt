use Rattle.ct_base.proofs.BaseLemmas.{base_later}
use Rattle.ct_base.proofs.theorems.lasting_bases.Goals as goal

pub returns : goal.returns
returns c = record { later = λ d later base extends is. base_later d later base c.growth.ensures.further c.one_lasting_sort.ensures.table extends is }
