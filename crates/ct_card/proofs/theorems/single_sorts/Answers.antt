use Rattle.ct_card.proofs.SingleLemmas.{Known, values_agree}
use Rattle.ct_card.proofs.theorems.single_sorts.Goals as goal

pub returns : goal.returns
returns c =
    let known : Known = record { start = c.agreement.ensures.start; step = c.agreement.ensures.step; constructed = c.well_sorted_values.ensures.constructed } in
    record { same = λ d g h v w s consistent fits_g fits_h single sorted_v sorted_w k. values_agree known d (c.structure.ensures.of_their_sorts d consistent) single.0 single.1 g h fits_g fits_h k v w s single.2 sorted_v sorted_w }
