use Rattle.std.proofs.Common.{[], ◌∷◌}
use Rattle.ct_sorts.specs.Availability.{IsUnavailable}
use Rattle.ct_sorts.specs.Declarations.{symbol_names}
use Rattle.ct_sorts.specs.Lookup.{names_of}
use Rattle.ct_generics.specs.declared.decl.Field.{Field}
use Rattle.ct_sorts.proofs.AdmitLemmas.{IsAdmitted}
use Rattle.ct_sorts.proofs.admit.admit_fields.Given as goal

abbrev pub invariant-loop-field : goal.invariant-loop-field
invariant-loop-field l = IsAdmitted IsUnavailable (λ (f : Field). f.name ∷ []) (symbol_names l.sig) (names_of l.initial.seen) (names_of l.seen) l.fields l.field-index
