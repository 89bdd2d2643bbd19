use Rattle.std.proofs.Common.{◌∷◌, map}
use Rattle.ct_sorts.specs.Availability.{IsUnavailable}
use Rattle.ct_sorts.specs.Declarations.{symbol_names}
use Rattle.ct_sorts.specs.Lookup.{names_of}
use Rattle.ct_generics.specs.declared.decl.CtorDecl.{CtorDecl}
use Rattle.ct_sorts.proofs.AdmitLemmas.{IsAdmitted}
use Rattle.ct_sorts.proofs.admit.admit_ctors.Given as goal

abbrev pub invariant-loop-ctor : goal.invariant-loop-ctor
invariant-loop-ctor l = IsAdmitted IsUnavailable (λ (t : CtorDecl). t.name ∷ map (λ f. f.name) t.fields) (symbol_names l.sig) (names_of l.initial.seen) (names_of l.seen) l.ctors l.ctor-index
