use Rattle.ct_build.proofs.small_values.push_numbers.Goals as goal

pub loop-chosen-init : goal.loop-chosen-init
loop-chosen-init c = record { prepared = c.requires.prepared; chosen = λ defaults are. are }

pub loop-chosen-preserved : goal.loop-chosen-preserved
loop-chosen-preserved c = record {
  prepared = c.in_ok-push_value.ensures.prepared;
  chosen = λ defaults are. c.in_ok-push_value.ensures.chosen defaults (c.loop-chosen.invariant.chosen defaults are);
}
