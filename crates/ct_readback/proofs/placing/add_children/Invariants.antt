use Rattle.std.proofs.Common.{◌≡◌, ℕ, ◌<◌, ◌++◌, List, length, take, All}
use Rattle.ct_readback.specs.Placed.{AreDataChildren}
use Rattle.ct_readback.proofs.placing.add_children.Given as goal

abbrev pub invariant-loop-child : goal.invariant-loop-child
invariant-loop-child l =
    ((row : List ℕ) × AreDataChildren l.sig l.h (take l.child-index l.children) row × (l.kids.items ≡ l.fn.kids.items ++ row))
    × (All (λ kid. kid < length l.h) l.fn.kids.items → All (λ kid. kid < length l.h) l.kids.items)
