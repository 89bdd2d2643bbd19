use Rattle.std.proofs.Common.{◌≡◌, ◌<◌, ℕ, Some, slice_get}
use Rattle.ct_generics.specs.declared.decl.SortDecl.{SortDecl}
use Rattle.ct_sorts.proofs.ParameterLemmas.{IsDeclBelow}
use Rattle.ct_sorts.proofs.parameters.are_block_parameters_below.Given as goal

abbrev pub invariant-loop-decl : goal.invariant-loop-decl
invariant-loop-decl l = (j : ℕ) (s : SortDecl) → j < l.decl-index → slice_get l.block j ≡ Some s → IsDeclBelow s
