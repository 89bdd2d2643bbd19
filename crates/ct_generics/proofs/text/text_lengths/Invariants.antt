use Rattle.std.proofs.Common.{◌≡◌, List, length}
use Rattle.ct_generics.specs.Declarations.{Head}
use Rattle.ct_generics.specs.Stored.{AreStored}
use Rattle.ct_generics.specs.Lengths.{AreCounts}
use Rattle.ct_generics.proofs.text.text_lengths.Given as goal

abbrev pub invariant-loop-k : goal.invariant-loop-k
invariant-loop-k l =
    record {
      long : length l.counts.items ≡ l.k;
      counts : (hs : List Head) → AreStored l.heads hs → AreCounts hs l.table l.counts.items;
    }
