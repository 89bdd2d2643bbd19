-- What stands at the top of a value in a model: a constructor, alone, before its arguments or qualified as `(as C S)`, or an element
-- `(as @U_3 U)` of an uninterpreted sort (SMT-LIB 2.7, section 3.6; the symbols of elements are this project's choice).
use Rattle.std.specs.Prelude.{ℕ, Bool, false, not, ◌&&◌, ◌||◌, ◌==◌, nat_eq, List, [], ◌∷◌, ◌++◌, Option, is_some, option_and_then, codes}
use Rattle.ct_sorts.specs.declared.ids.SortId.{SortId}
use Rattle.ct_sorts.specs.declared.ids.CtorId.{CtorId}
use Rattle.ct_sorts.specs.Declarations.{Declarations}
use Rattle.ct_sexpr.specs.Expression.{Expression, Expressions}
use Rattle.ct_value_text.specs.ValueText.{bare_sort}
use Rattle.ct_instances.specs.Among.{ctor_among}
use Rattle.ct_instances.specs.Fields.{is_ctor_determined}
use Rattle.ct_card.specs.Defaults.{is_free_sort}
use Rattle.ct_names.specs.Symbols.{ctor_named}
use Rattle.ct_readback.specs.Words.{name_in, is_name, number_in, after}
use Rattle.ct_readback.specs.Parts.{holds, or_other, only_if, two_of, parts_after}
use Rattle.ct_readback.specs.SortText.{is_sort_text, says_sort}

-- an underscore in the name is followed by a number and nothing else; 95 is `_`
abbrev pub ends_numbered : List ℕ → Bool
ends_numbered [] = false
ends_numbered (b ∷ bs) = (b == 95 && is_some (number_in bs)) || ends_numbered bs

-- the name begins with `@`, which is 64, as names of elements do and no declared name does
abbrev pub is_own : List ℕ → Bool
is_own [] = false
is_own (b ∷ bs) = b == 64

-- the name has the form of an element's, `@U_3`
abbrev pub names_element : List ℕ → Bool
names_element [] = false
names_element (b ∷ bs) = b == 64 && ends_numbered bs

-- a name that is no element's, and one that may be qualified: such a name, or that of an element
abbrev pub is_foreign : List ℕ → Bool
is_foreign name = not (is_own name)

abbrev pub may_be_qualified : List ℕ → Bool
may_be_qualified name = is_foreign name || names_element name

-- a name and a sort, as after `as`
abbrev pub is_qualified : Expressions → Bool
is_qualified es = holds (λ parts. holds may_be_qualified (name_in parts.0) && is_sort_text parts.1) (two_of es)

-- and the name is no element's
abbrev pub is_qualified_constructor : Expressions → Bool
is_qualified_constructor es = holds (λ parts. holds is_foreign (name_in parts.0) && is_sort_text parts.1) (two_of es)

-- the expression has the form of a constructor or an element: a name, or one that is qualified
abbrev pub is_head : Expression → Bool
is_head e = is_name e || holds is_qualified (parts_after (codes "as") e)

-- it may stand before arguments
abbrev pub is_constructor_head : Expression → Bool
is_constructor_head e = is_name e || holds is_qualified_constructor (parts_after (codes "as") e)

-- the constructor of this sort with this name
abbrev pub constructor_of : Declarations → SortId → List ℕ → Option CtorId
constructor_of d s name = option_and_then (λ c. ctor_among d c s) (ctor_named d name)

-- the constructor of this sort that the expression names alone: its fields determine the sort
abbrev pub constructor_alone : Declarations → SortId → Expression → Option CtorId
constructor_alone d s e = option_and_then (λ c. only_if (is_ctor_determined d c) c) (option_and_then (constructor_of d s) (name_in e))

-- the one that a name and a sort say: its fields do not determine the sort
abbrev pub constructor_with : Declarations → SortId → Expression × Expression → Option CtorId
constructor_with d s parts =
    option_and_then (λ c. only_if (not (is_ctor_determined d c) && says_sort d s parts.1) c) (option_and_then (constructor_of d s) (name_in parts.0))

-- the constructor of this sort that the expression says, alone or as `(as C S)`
abbrev pub constructor_at : Declarations → SortId → Expression → Option CtorId
constructor_at d s e = or_other (constructor_alone d s e) (option_and_then (constructor_with d s) (option_and_then two_of (parts_after (codes "as") e)))

-- the number of the element of the sort U that has this name, `@U_3`, or of `(Arr E)` in `@(Arr E)_3`: the text of the sort without bars
abbrev pub element_named : List ℕ → List ℕ → Option ℕ
element_named sort name = option_and_then number_in (after (64 ∷ (sort ++ 95 ∷ [])) name)

-- the sort is uninterpreted, and the expression is its text
abbrev pub is_sort_of_elements : Declarations → SortId → Expression → Bool
is_sort_of_elements d s e = is_free_sort d s.0 && says_sort d s e

-- the number of the element of this sort that a name and a sort say
abbrev pub element_of : Declarations → SortId → Expression × Expression → Option ℕ
element_of d s parts =
    option_and_then (λ name. option_and_then (λ number. only_if (is_sort_of_elements d s parts.1) number) (element_named (bare_sort d s.0) name)) (name_in parts.0)

-- the same, by what stands after `as`
abbrev pub element_at : Declarations → SortId → Expressions → Option ℕ
element_at d s es = option_and_then (element_of d s) (two_of es)
