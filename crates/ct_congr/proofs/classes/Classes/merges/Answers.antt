use Rattle.std.proofs.Common.{arith}
use Rattle.ct_congr.proofs.MergeLemmas.{InOneClass-connected}
use Rattle.ct_congr.proofs.classes.Classes.merges.Goals as goal

pub returns : goal.returns
returns c =
    let s = c.self.inside in
    let sound = c.self.invariant.0.sound in
    rw (← c.self.view_is) (record {
      value = c.as_slice.ensures.value;
      long = sound.long;
      justified = sound.justified;
      connected = sound.connected;
      equal = λ x y inside h. InOneClass-connected s.progress.store.parts.now.reps s.progress.store.merges.items sound.held x y (omega (arith, inside, sound.long)) h;
      states = c.self.invariant.0.states;
      own = c.unions.ensures.whole.0.own;
    })
