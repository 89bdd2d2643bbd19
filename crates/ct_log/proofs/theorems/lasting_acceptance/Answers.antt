use Rattle.ct_log.proofs.LastLemmas.{accepted_more}
use Rattle.ct_log.proofs.theorems.lasting_acceptance.Goals as goal

pub returns : goal.returns
returns c = record {
  lasting = λ d terms more asserts further earlier later line ordered accepted.
      accepted_more terms more ordered (λ t within. c.one_lasting_sort.ensures.literal terms more t ordered within) d asserts further earlier later line
      (λ hints rup. c.propagation_is_sound.ensures.longer earlier later hints line.clause rup) accepted;
}
