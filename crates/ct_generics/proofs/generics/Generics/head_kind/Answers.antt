use Rattle.std.proofs.Common.{sym, arith}
use Rattle.ct_lemmas.proofs.Pairs.{AllZip-at_left, AllZip-one_length}
use Rattle.ct_generics.specs.Stored.{IsStored}
use Rattle.ct_generics.proofs.generics.Generics.head_kind.Goals as goal

pub stored_head-requires : goal.stored_head-requires
stored_head-requires c =
    let d = c.requires.within.0 in
    let long = AllZip-one_length IsStored c.args.self.now.heads d.heads c.requires.within.1.stored in
    record { within = rw c.as_slice.ensures.value (omega (arith, long, c.requires.within.2)) }

pub returns : goal.returns
returns c =
    record {
      kind = λ d is.
          let found = AllZip-at_left IsStored c.args.self.now.heads d.heads c.args.h.0 c.stored_head.result.now is.stored (rw c.as_slice.ensures.value at c.stored_head.ensures.value) in
          (found.0, found.1, sym found.2.kind_is);
    }
