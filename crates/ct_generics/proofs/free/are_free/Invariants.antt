use Rattle.std.proofs.Common.{◌≡◌, take}
use Rattle.ct_generics.specs.Stored.{AreFree}
use Rattle.ct_generics.proofs.FreeLemmas.{names_of}
use Rattle.ct_generics.proofs.free.are_free.Given as goal

abbrev pub invariant-loop-decl : goal.invariant-loop-decl
invariant-loop-decl l =
    record {
      seen_are : l.seen ≡ names_of (take l.decl-index l.block);
      free : AreFree l.g.head_names (names_of (take l.decl-index l.block));
    }
