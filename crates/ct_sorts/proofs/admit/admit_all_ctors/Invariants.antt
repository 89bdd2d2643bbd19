use Rattle.ct_sorts.specs.Availability.{IsUnavailable}
use Rattle.ct_sorts.specs.Declarations.{symbol_names}
use Rattle.ct_sorts.specs.Lookup.{names_of}
use Rattle.ct_sorts.specs.Block.{ctor_symbols}
use Rattle.ct_generics.specs.declared.decl.SortDecl.{SortDecl}
use Rattle.ct_sorts.proofs.AdmitLemmas.{IsAdmitted}
use Rattle.ct_sorts.proofs.admit.admit_all_ctors.Given as goal

abbrev pub invariant-loop-decl : goal.invariant-loop-decl
invariant-loop-decl l = IsAdmitted IsUnavailable (λ (s : SortDecl). ctor_symbols s.ctors) (symbol_names l.sig) (names_of l.initial.seen) (names_of l.seen) l.block l.decl-index
