-- What loops over formulas keep.
use Rattle.std.proofs.Common.{◌≡◌, List}
use Rattle.ct_scope.specs.declared.bound.Bound.{Bound}

-- what is said of all that was done so far, of the calls that are known and of the notes on what is left, and that the
-- environment is the one from the start
pub record Keeps (Done Known Notes : Type 0) (env start : List Bound) : Type 0 where
  pub done : Done
  pub state : Known
  pub noted : Notes
  pub same : env ≡ start
