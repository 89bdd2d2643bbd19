-- What sorts add to the lists of declarations.
use Rattle.std.specs.Prelude.{ℕ, ◌+◌, List, [], ◌∷◌, ◌++◌, length, map}
use Rattle.ct_sorts.specs.declared.ids.SortId.{SortId}
use Rattle.ct_generics.specs.Expression.{Expression}
use Rattle.ct_sorts.specs.Declarations.{Declarations, Sort, Constructor, Selector, ctor_ids, sel_ids}
use Rattle.ct_sorts.specs.Same.{sort_among}
use Rattle.ct_sorts.specs.Shapes.{FieldShape, CtorShape, SortShape, all_ctors, all_fields, shape_of}

-- sorts whose constructors have the numbers from `ctor` on
abbrev pub new_sorts : ℕ → List SortShape → List Sort
new_sorts ctor [] = []
new_sorts ctor (s ∷ rest) = record { name = s.name; kind = s.kind; ctors = ctor_ids ctor (length s.ctors) } ∷ new_sorts (ctor + length s.ctors) rest

-- the constructors of one sort, whose selectors have the numbers from `sel` on
abbrev pub ctors_of_sort : ℕ → ℕ → List CtorShape → List Constructor
ctors_of_sort sort sel [] = []
ctors_of_sort sort sel (c ∷ rest) = record { name = c.name; sort = record { 0 = sort }; sels = sel_ids sel (length c.fields) } ∷ ctors_of_sort sort (sel + length c.fields) rest

-- the constructors of sorts that have the numbers from `sort` on
abbrev pub new_ctors : ℕ → ℕ → List SortShape → List Constructor
new_ctors sort sel [] = []
new_ctors sort sel (s ∷ rest) = ctors_of_sort sort sel s.ctors ++ new_ctors (sort + 1) (sel + length (all_fields s.ctors)) rest

-- the selectors of one constructor, from the field at `index` on
abbrev pub sels_of_ctor : (Expression → SortId) → ℕ → ℕ → List FieldShape → List Selector
sels_of_ctor number ctor index [] = []
sels_of_ctor number ctor index (f ∷ rest) = record { name = f.name; ctor = record { 0 = ctor }; place = index; sort = number f.sort } ∷ sels_of_ctor number ctor (index + 1) rest

-- the selectors of constructors that have the numbers from `ctor` on
abbrev pub new_sels : (Expression → SortId) → ℕ → List CtorShape → List Selector
new_sels number ctor [] = []
new_sels number ctor (c ∷ rest) = sels_of_ctor number ctor 0 c.fields ++ new_sels number (ctor + 1) rest

-- what these sorts are made of
abbrev pub shapes_of : Declarations → List Expression → List SortShape
shapes_of d sorts = map (shape_of d.declared.heads d.spellings) sorts

-- the declarations with these sorts after those that are there, each with its constructors and selectors
abbrev pub with_sorts : Declarations → List Expression → Declarations
with_sorts d sorts =
    record d {
      sorts = d.sorts ++ new_sorts (length d.ctors) (shapes_of d sorts);
      ctors = d.ctors ++ new_ctors (length d.sorts) (length d.sels) (shapes_of d sorts);
      sels = d.sels ++ new_sels (sort_among (d.origins ++ sorts)) (length d.ctors) (all_ctors (shapes_of d sorts));
      origins = d.origins ++ sorts;
    }
