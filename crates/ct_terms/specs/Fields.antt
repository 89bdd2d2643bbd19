-- The fields of a term of a constructor as terms, and the constructors of a sort.
use Rattle.std.specs.Prelude.{List, [], map, option_map, unwrap_or, slice_get}
use Rattle.ct_sorts.specs.declared.ids.CtorId.{CtorId}
use Rattle.ct_sorts.specs.declared.ids.SortId.{SortId}
use Rattle.ct_sorts.specs.Declarations.{Declarations, Sort, Constructor}
use Rattle.ct_terms.specs.CoreTree.{CoreTree, sel}

-- the fields of a term of a constructor, in order
abbrev pub fields_of : Declarations → CtorId → CoreTree → List CoreTree
fields_of d c t = map (λ s. sel s t) (unwrap_or (option_map (λ (ctor : Constructor). ctor.sels) (slice_get d.ctors c.0)) [])

-- the constructors of a sort, in order
abbrev pub ctor_ids_of_sort : Declarations → SortId → List CtorId
ctor_ids_of_sort d s = unwrap_or (option_map (λ (sort : Sort). sort.ctors) (slice_get d.sorts s.0)) []
