-- What belongs to a generic, with arguments whose number is right: a constructor whose arguments determine its sort, a field, a test.
use Rattle.std.specs.Prelude.{ℕ, List, Ok}
use Rattle.ct_sorts.specs.declared.ids.GenId.{GenId}
use Rattle.ct_sorts.specs.declared.ids.Symbol.TheVariants.{GenCtor, GenSel}
use Rattle.ct_sorts.specs.Declarations.{Declarations}
use Rattle.ct_sorts.specs.Lookup.{IsSymbol}
use Rattle.ct_instances.specs.declared.among.NamedCtor.{NamedCtor}
use Rattle.ct_instances.specs.declared.among.NamedCtor.TheVariants.{Generic}
use Rattle.ct_instances.specs.Among.{ctor_among}
use Rattle.ct_instances.specs.Matching.{unmatched, sorts_for}
use Rattle.ct_instances.specs.Fields.{generic_fields, generic_params}
use Rattle.ct_names.specs.Outcome.{Elaborated, Sorted, and_then, step}
use Rattle.ct_names.specs.Parts.{Parts}
use Rattle.ct_names.specs.Sorts.{sort_there}
use Rattle.ct_names.specs.Variables.{Variable}
use Rattle.ct_names.specs.Elaboration.{matched_arguments, instance_of, constructed, generic_sel, tested_term}
use Rattle.ct_check.specs.declared.parts.Part.{Part}
use Rattle.ct_check.specs.declared.parts.Part.TheVariants.{Field, Test}

-- a constructor of a generic with these arguments
abbrev pub generic_term : Declarations → List Variable → GenId → ℕ → Parts → Elaborated Sorted
generic_term d scope g i ps =
    and_then (matched_arguments d scope (generic_fields d g i) ps (unmatched (generic_params d g))) (λ found.
    and_then (step (instance_of g (sorts_for found.1))) (λ e.
    and_then (sort_there d e) (λ s.
    Ok (constructed s found.0 (ctor_among d (Generic g i) s)))))

-- a field or a test of the one argument
abbrev pub part : Declarations → List Variable → Part → Parts → Elaborated Sorted
part d scope (Field g i k) ps = generic_sel d scope g i k ps
part d scope (Test g i) ps = tested_term d scope (Generic g i) ps

-- the constructor that the sort of the argument is to have
abbrev pub ctor_of_part : Part → NamedCtor
ctor_of_part (Field g i k) = Generic g i
ctor_of_part (Test g i) = Generic g i

-- it is declared
abbrev pub IsPartDeclared : Declarations → Part → Type 0
IsPartDeclared d (Field g i k) = IsSymbol d (GenSel g i k)
IsPartDeclared d (Test g i) = IsSymbol d (GenCtor g i)
