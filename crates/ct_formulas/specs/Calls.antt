-- Definitions: a body is read in the environment of its arguments alone, over the definitions before it.
use Rattle.std.specs.Prelude.{ℕ, zero, suc, ◌==◌, List, [], length, Option, Some, None, slice_get, if◌then◌else◌}
use Rattle.ct_sorts.specs.declared.ids.DefId.{DefId}
use Rattle.ct_formulas.specs.Formula.{Formula, bind}

-- what a formula is, in any sense of it: over what definitions give for arguments, and an environment
abbrev pub Reading : Type 0 → Type 0
Reading X = (DefId → List X → X) → List X → Formula → X

-- what a body gives for the arguments; `other` where there is none
abbrev pub body_call : {X : Type 0} → Reading X → X → (DefId → List X → X) → Option Formula → List X → X
body_call read other call None args = other
body_call read other call (Some body) args = read call (bind args []) body

-- what the definitions below a number give: each its body, read over the definitions below its own number
unfoldable pub calls_below : {X : Type 0} → Reading X → X → List Formula → ℕ → DefId → List X → X
calls_below read other bodies zero k args = other
calls_below read other bodies (suc n) k args = if k.0 == n then body_call read other (calls_below read other bodies n) (slice_get bodies n) args else calls_below read other bodies n k args

-- what the definitions give
abbrev pub calls : {X : Type 0} → Reading X → X → List Formula → DefId → List X → X
calls read other bodies = calls_below read other bodies (length bodies)
