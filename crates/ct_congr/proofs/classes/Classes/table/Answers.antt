use Rattle.std.proofs.Common.{refl}
use Rattle.ct_congr.proofs.classes.Classes.table.Goals as goal

pub returns : goal.returns
returns c =
    let s = c.self.inside in
    let held = c.self.invariant.0 in
    rw (← c.self.view_is) (record {
      value = refl;
      sorted = held.sorted;
      one_sort = λ x y sort equal. c.one_sort.ensures.one_sort s.hyps.items s.progress.store.merges.items held.sorted held.stripped held.sound.justified x y (held.sound.connected x y equal) sort;
    })
