-- What the program holds while fields are matched: those that are left, and what the parameters were matched with.
use Rattle.std.specs.Prelude.{◌≡◌, ◌∷◌, Bool, true, false, List, drop, length, Some, None}
use Rattle.ct_generics.specs.Expression.{Expression}
use Rattle.ct_sorts.specs.declared.ids.SortId.{SortId}
use Rattle.ct_sorts.specs.declared.ids.Symbol.TheVariants.{GenCtor}
use Rattle.ct_sorts.specs.Declarations.{Declarations}
use Rattle.ct_sorts.specs.Lookup.{IsSymbol}
use Rattle.ct_instances.specs.declared.matching.Matching.{Matching}
use Rattle.ct_instances.specs.Among.{origin_of}
use Rattle.ct_instances.specs.Pairs.{HoldSorts, assigned}
use Rattle.ct_instances.specs.Fields.{generic_fields, generic_params}
use Rattle.ct_instances.specs.Matching.{Assignment, matched}

-- the fields that are left
abbrev pub fields_left : Declarations → Matching → List Expression
fields_left d m = drop m.place (generic_fields d m.g m.index)

-- what the parameters were matched with
abbrev pub assignment_of : Declarations → Matching → Assignment
assignment_of d m = assigned d m.sorts.items

-- it is that of a generic's constructor, and parameters were matched with sorts in the list
pub record IsMatchingOf (d : Declarations) (m : Matching) : Type 0 where
  pub ctor : IsSymbol d (GenCtor m.g m.index)
  pub params : length m.sorts.items ≡ generic_params d m.g
  pub sorts : HoldSorts d m.sorts.items

-- whether the next field fits the sort, and what is left then
abbrev pub NextFits : Declarations → Matching → SortId → Matching → Bool → Type 0
NextFits d before s after true =
    (field : Expression) × (fields_left d before ≡ field ∷ fields_left d after) × (matched field (origin_of d s) (assignment_of d before) ≡ Some (assignment_of d after))
NextFits d before s after false =
    (field : Expression) (rest : List Expression) → fields_left d before ≡ field ∷ rest → matched field (origin_of d s) (assignment_of d before) ≡ None
