use Rattle.std.proofs.Common.{ℕ, List, ◌<◌, ◌≤◌, ◌≡◌, Some, slice_get}
use Rattle.ct_generics.specs.Declarations.{Head}
use Rattle.ct_generics.specs.Stored.{AreStored}
use Rattle.ct_generics.specs.Uniform.{IsUniform}
use Rattle.ct_generics.proofs.uniform.are_uniform.Given as goal

abbrev pub invariant-loop-h : goal.invariant-loop-h
invariant-loop-h l = (hs : List Head) (k : ℕ) (head : Head) → AreStored l.heads hs → l.first ≤ k → k < l.h → slice_get hs k ≡ Some head → IsUniform l.first head
