use Rattle.ct_congr.proofs.theorems.quiet_classes.Goals as goal

pub returns : goal.returns
returns c = record {
  derives = λ state quiet. quiet.closed.exact;
  follows = λ state quiet. quiet.closed.closed;
  one = λ state quiet. quiet.one;
}
