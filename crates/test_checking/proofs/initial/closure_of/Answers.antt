use Rattle.test_checking.proofs.AssertedLemmas.{booleans_stay}
use Rattle.test_checking.proofs.initial.closure_of.Goals as goal

pub returns-in-Ok : goal.returns-in-Ok
returns-in-Ok c = record {
  judges = record {
    sized = c.requires.sizes;
    sorted = c.in-Ok.ensures.sorted;
    booleans = booleans_stay c.args.table.now c.close.new.table c.args.asserts.now c.in-Ok.ensures.grown c.requires.asserted.boolean;
  };
  closed = c.in-Ok.ensures.closed;
  split = c.in-Ok.ensures.split;
  rising = c.in-Ok.ensures.rising;
}
