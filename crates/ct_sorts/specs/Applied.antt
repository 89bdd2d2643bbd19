-- Instances by their generic and the numbers of their arguments.
use Rattle.std.specs.Prelude.{◌≡◌, ℕ, List, length}
use Rattle.std.specs.List.{AllZip}
use Rattle.ct_generics.specs.Expression.{Expression, named, with_args}
use Rattle.ct_generics.specs.Declarations.{Head}
use Rattle.ct_sorts.specs.declared.ids.SortId.{SortId}
use Rattle.ct_sorts.specs.declared.ids.GenId.{GenId}
use Rattle.ct_sorts.specs.Declarations.{Declarations}
use Rattle.ct_sorts.specs.Instances.{IsOrigin}
use Rattle.ct_sorts.specs.Lookup.{IsGenericHead}

-- the generic at the sorts with these numbers
abbrev pub IsAt : Declarations → GenId → List SortId → Expression → Type 0
IsAt d g args e = (es : List Expression) × AllZip (IsOrigin d) args es × (e ≡ with_args (named g.0) es)

-- the generic takes as many arguments as there are
abbrev pub TakesAll : Declarations → GenId → List SortId → Type 0
TakesAll d g args = (head : Head) × IsGenericHead d g head × (length args ≡ head.params)
