use Rattle.std.proofs.Common.{[], ◌∷◌}
use Rattle.ct_sorts.specs.Availability.{IsUnavailableSort}
use Rattle.ct_sorts.specs.Declarations.{declared_names}
use Rattle.ct_sorts.specs.Lookup.{names_of}
use Rattle.ct_generics.specs.declared.decl.SortDecl.{SortDecl}
use Rattle.ct_sorts.proofs.AdmitLemmas.{IsAdmitted}
use Rattle.ct_sorts.proofs.admit.admit_sorts.Given as goal

abbrev pub invariant-loop-decl : goal.invariant-loop-decl
invariant-loop-decl l = IsAdmitted IsUnavailableSort (λ (s : SortDecl). s.name ∷ []) (declared_names l.sig) (names_of l.initial.own) (names_of l.own) l.block l.decl-index
