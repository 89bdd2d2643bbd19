-- What names stand for: sorts, symbols and operators (SMT-LIB 2.7, sections 3.6 and 3.7, and the theory Core).
use Rattle.std.specs.Prelude.{ℕ, nat_le, Bool, false, List, [], ◌∷◌, map, take, drop, Option, Some, None, option_map, unwrap_or, slice_get, position, codes, if◌then◌else◌}
use Rattle.std.specs.Str.{bytes_eq}
use Rattle.ct_sorts.specs.declared.ids.SortId.{SortId}
use Rattle.ct_sorts.specs.declared.ids.CtorId.{CtorId}
use Rattle.ct_sorts.specs.declared.ids.SelId.{SelId}
use Rattle.ct_sorts.specs.declared.ids.Symbol.{Symbol}
use Rattle.ct_sorts.specs.declared.ids.Symbol.TheVariants.{Ctor, Sel, Fun, Def, GenCtor, GenSel}
use Rattle.ct_sorts.specs.Declarations.{Declarations, Constructor, Selector, Function, function_names, definition_names}
use Rattle.ct_sorts.specs.Symbols.{all_symbols}
use Rattle.ct_instances.specs.declared.among.NamedCtor.{NamedCtor}
use Rattle.ct_instances.specs.declared.among.NamedCtor.TheVariants.{Plain, Generic}
use Rattle.ct_formulas.specs.Formula.{Formula, Formulas, Con, Apply, And as AndFormula, Def as DefFormula, Sel as SelFormula, no_formulas, with_formula}
use Rattle.ct_names.specs.declared.operator.CoreOperator.{CoreOperator}
use Rattle.ct_names.specs.declared.operator.CoreOperator.TheVariants.{Not, And, Or, Xor, Implies, Equal, Distinct, Ite}

-- what stands beside the name
abbrev pub beside : {X : Type 0} → List (List ℕ × X) → List ℕ → Option X
beside [] name = None
beside (entry ∷ entries) name = if bytes_eq name entry.0 then Some entry.1 else beside entries name

-- the first of the two that is there
abbrev pub or_other : {X : Type 0} → Option X → Option X → Option X
or_other (Some x) other = Some x
or_other None other = other

-- the constructor, selector, function or definition with this name: constructors and selectors of instances have no names of
-- their own, and no two of the others have one
abbrev pub symbol_of : Declarations → List ℕ → Option Symbol
symbol_of d name =
    or_other (beside (all_symbols d) name)
    (or_other (option_map (λ n. Fun (record { 0 = n })) (position (bytes_eq name) (function_names d)))
    (option_map (λ n. Def (record { 0 = n })) (position (bytes_eq name) (definition_names d))))

-- the symbol where it is a constructor
abbrev pub as_ctor : Option Symbol → Option NamedCtor
as_ctor (Some (Ctor c)) = Some (Plain c)
as_ctor (Some (GenCtor g i)) = Some (Generic g i)
as_ctor (Some (Sel s)) = None
as_ctor (Some (Fun f)) = None
as_ctor (Some (Def k)) = None
as_ctor (Some (GenSel g i k)) = None
as_ctor None = None

-- the constructor with this name
abbrev pub ctor_named : Declarations → List ℕ → Option NamedCtor
ctor_named d name = as_ctor (symbol_of d name)

-- the constructor is `true` or `false`
abbrev pub is_of_bool : NamedCtor → Bool
is_of_bool (Plain c) = nat_le c.0 1
is_of_bool (Generic g i) = false

-- the constructor that can be tested for, where it is one: neither `true` nor `false`
abbrev pub unless_of_bool : Option NamedCtor → Option NamedCtor
unless_of_bool None = None
unless_of_bool (Some c) = if is_of_bool c then None else Some c

-- the constructor that the tester with this name tests for: `is-C` is the tester of C, as other solvers have it beside `(_ is C)`
abbrev pub tester_named : Declarations → List ℕ → Option NamedCtor
tester_named d name = if bytes_eq (take 3 name) (codes "is-") then unless_of_bool (ctor_named d (drop 3 name)) else None

-- the operators by their words
abbrev pub operators : List (List ℕ × CoreOperator)
operators =
    (codes "not", Not) ∷ ((codes "and", And) ∷ ((codes "or", Or) ∷ ((codes "xor", Xor) ∷ ((codes "=>", Implies) ∷ ((codes "=", Equal) ∷ ((codes "distinct", Distinct) ∷ ((codes "ite", Ite) ∷ [])))))))

-- the operator that stands beside the word in the list
abbrev pub operator_in : List (List ℕ × CoreOperator) → List ℕ → Option CoreOperator
operator_in [] word = None
operator_in (entry ∷ entries) word = if bytes_eq entry.0 word then Some entry.1 else operator_in entries word

-- the operator that the word is
abbrev pub operator_of : List ℕ → Option CoreOperator
operator_of word = operator_in operators word

-- the sort of a field, and those of all fields of a constructor; every number that is asked for is declared
abbrev pub field_sort_id : Declarations → SelId → SortId
field_sort_id d s = unwrap_or (option_map (λ (sel : Selector). sel.sort) (slice_get d.sels s.0)) (record { 0 = 0 })

abbrev pub ctor_field_sorts : Declarations → CtorId → List SortId
ctor_field_sorts d c = map (field_sort_id d) (unwrap_or (option_map (λ (ctor : Constructor). ctor.sels) (slice_get d.ctors c.0)) [])

-- the sort of a constructor
abbrev pub ctor_sort : Declarations → CtorId → SortId
ctor_sort d c = unwrap_or (option_map (λ (ctor : Constructor). ctor.sort) (slice_get d.ctors c.0)) (record { 0 = 0 })

-- the sort to which a selector applies: that of its constructor
abbrev pub sel_argument : Declarations → SelId → SortId
sel_argument d s = unwrap_or (option_map (λ (sel : Selector). ctor_sort d sel.ctor) (slice_get d.sels s.0)) (record { 0 = 0 })

-- the sorts of the symbol's arguments; those of what belongs to a generic are matched instead
abbrev pub argument_sorts : Declarations → Symbol → List SortId
argument_sorts d (Ctor c) = ctor_field_sorts d c
argument_sorts d (Sel s) = sel_argument d s ∷ []
argument_sorts d (Fun f) = unwrap_or (option_map (λ (function : Function). function.args) (slice_get d.functions f.0)) []
argument_sorts d (Def k) = unwrap_or (option_map (λ (definition : Function). definition.args) (slice_get d.definitions k.0)) []
argument_sorts d (GenCtor g i) = []
argument_sorts d (GenSel g i k) = []

-- the sort of its result
abbrev pub result_sort : Declarations → Symbol → SortId
result_sort d (Ctor c) = ctor_sort d c
result_sort d (Sel s) = field_sort_id d s
result_sort d (Fun f) = unwrap_or (option_map (λ (function : Function). function.result) (slice_get d.functions f.0)) (record { 0 = 0 })
result_sort d (Def k) = unwrap_or (option_map (λ (definition : Function). definition.result) (slice_get d.definitions k.0)) (record { 0 = 0 })
result_sort d (GenCtor g i) = record { 0 = 0 }
result_sort d (GenSel g i k) = record { 0 = 0 }

-- a selector of the first of the formulas, which is the only one
abbrev pub selected : SelId → Formulas → Formula
selected s no_formulas = Con (record { 0 = 0 }) no_formulas
selected s (with_formula t ts) = SelFormula s t

-- the formula of a symbol with its arguments
abbrev pub symbol_applied : Symbol → Formulas → Formula
symbol_applied (Ctor c) ts = Con c ts
symbol_applied (Sel s) ts = selected s ts
symbol_applied (Fun f) ts = Apply f ts
symbol_applied (Def k) ts = DefFormula k ts
symbol_applied (GenCtor g i) ts = AndFormula ts
symbol_applied (GenSel g i k) ts = AndFormula ts
