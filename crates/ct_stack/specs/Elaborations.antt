-- What commands say once their names are looked up: blocks of sorts, functions, definitions, assertions and terms.
use Rattle.std.specs.Prelude.{◌≡◌, ℕ, Bool, true, false, not, ◌&&◌, ◌==◌, List, [], ◌∷◌, map, length, All, Some, Ok, if◌then◌else◌}
use Rattle.std.specs.List.{list_any, AllZip}
use Rattle.ct_generics.specs.declared.kind.Kind.TheVariants.{Free as OfFree}
use Rattle.ct_generics.specs.Expression.{Expression as SortExpression}
use Rattle.ct_generics.specs.Synonyms.{with_synonym}
use Rattle.ct_sexpr.specs.Expression.{Expression}
use Rattle.ct_sorts.specs.declared.ids.Kind.{Kind}
use Rattle.ct_sorts.specs.declared.ids.Kind.TheVariants as kind
use Rattle.ct_sorts.specs.declared.ids.Declared.{Declared as Given}
use Rattle.ct_generics.specs.declared.decl.Field.{Field}
use Rattle.ct_generics.specs.declared.decl.CtorDecl.{CtorDecl}
use Rattle.ct_generics.specs.declared.decl.SortDecl.{SortDecl}
use Rattle.ct_sorts.specs.Block.{IsWithBlock}
use Rattle.ct_sorts.specs.Written.{AreParametersBelow}
use Rattle.ct_sorts.specs.Declarations.{Declarations, Function, bool_sort, with_sort, with_head}
use Rattle.ct_formulas.specs.Formula.{Formula, bind}
use Rattle.ct_names.specs.Outcome.{Outcome, Elaborated, Sorted, and_then, unless_halted, is_sort}
use Rattle.ct_names.specs.Refusals.{wrong_sort, repeated_variable}
use Rattle.ct_names.specs.Variables.{variables, has_repeated}
use Rattle.ct_names.specs.Elaboration.{elaborated}
use Rattle.ct_names.specs.Sorts.{sort_of, written_sort, Writes}
use Rattle.ct_command.specs.declared.command.Family.{Family}
use Rattle.ct_command.specs.declared.command.Family.TheVariants as family
use Rattle.ct_command.specs.Command.{Named, SortHead, Constructor, Body}
use Rattle.ct_stack.specs.Numbers.{not_boolean}
use Rattle.ct_stack.specs.Outcomes.{each_of}

-- the kind of sorts that a block declares
abbrev pub kind_of : Family → Kind
kind_of family.Data = kind.Data
kind_of family.Codata = kind.Codata

-- there is a body for each sort, with as many type parameters as the sort has arguments
abbrev pub are_counted : List SortHead → List Body → Bool
are_counted [] [] = true
are_counted [] (body ∷ bodies) = false
are_counted (head ∷ heads) [] = false
are_counted (head ∷ heads) (body ∷ bodies) = (head.arity == length body.params) && are_counted heads bodies

-- a type parameter stands twice in one of the bodies
abbrev pub have_repeated_parameter : List Body → Bool
have_repeated_parameter bodies = list_any (λ (body : Body). has_repeated body.params) bodies

-- what a block declares: the sort of each field is the one that its expression writes over the type parameters
pub record IsFieldOf (params : List (List ℕ)) (written : Named) (field : Field) : Type 0 where
  pub name : field.name ≡ written.name
  pub sort : Writes params written.sort field.sort

pub record IsCtorOf (params : List (List ℕ)) (written : Constructor) (ctor : CtorDecl) : Type 0 where
  pub name : ctor.name ≡ written.name
  pub fields : AllZip (IsFieldOf params) written.fields ctor.fields

pub record IsDeclOf (head : SortHead) (body : Body) (decl : SortDecl) : Type 0 where
  pub name : decl.name ≡ head.name
  pub params : decl.params ≡ length body.params
  pub ctors : AllZip (IsCtorOf body.params) body.ctors decl.ctors

abbrev pub AreDecls : List SortHead → List Body → List SortDecl → Type 0
AreDecls [] [] [] = Unit {0}
AreDecls (head ∷ heads) (body ∷ bodies) (decl ∷ decls) = IsDeclOf head body decl × AreDecls heads bodies decls
AreDecls heads bodies decls = ⊥

-- the parameters in the sort of the field are so many, and so they are in those of a constructor
abbrev pub IsBelow : ℕ → Field → Type 0
IsBelow params field = AreParametersBelow params field.sort

abbrev pub HasFieldsBelow : ℕ → CtorDecl → Type 0
HasFieldsBelow params ctor = All (IsBelow params) ctor.fields

-- The later declarations have the block.
abbrev pub IsWithTypes : Declarations → Family → List SortHead → List Body → Declarations → Type 0
IsWithTypes d family heads bodies later = (block : List SortDecl) × (given : List Given) × AreDecls heads bodies block × IsWithBlock d (kind_of family) block given later

-- one more uninterpreted sort, with arguments or without
abbrev pub with_free : Declarations → List ℕ → ℕ → Declarations
with_free d name params =
    if params == 0 then with_sort d (record { name = name; kind = kind.Free; ctors = [] })
    else with_head d (record { name = name; kind = OfFree; params = params; ctors = [] }) []

-- one more synonym, of the sort that the expression writes over these parameters
abbrev pub synonym_body : Declarations → List (List ℕ) → Expression → Outcome SortExpression
synonym_body d params body = written_sort d.declared params body

abbrev pub with_synonym_of : Declarations → List ℕ → List (List ℕ) → SortExpression → Declarations
with_synonym_of d name params e = record d { declared = with_synonym d.declared (record { name = name; params = length params; body = e }) }

-- the function that is declared: the sorts of its arguments, in order, and then that of its result, as far as they are there
abbrev pub declared_function : Declarations → List ℕ → List Expression → Expression → Elaborated Function
declared_function d name args sort =
    and_then (each_of (sort_of d) args) (λ sorts.
    and_then (sort_of d sort) (λ result.
    Ok (record { name = name; args = sorts; result = result })))

-- the names and the sorts of parameters
abbrev pub parameter_names : List Named → List (List ℕ)
parameter_names params = map (λ (p : Named). p.name) params

abbrev pub parameter_sorts : List Named → List Expression
parameter_sorts params = map (λ (p : Named). p.sort) params

-- the body of a definition of this function over parameters of these names
abbrev pub body_of : Declarations → List (List ℕ) → Function → Expression → Elaborated Formula
body_of d names f t =
    and_then (elaborated d (bind (variables (map (λ name. Some name) names) f.args) []) t) (λ body.
    unless_halted (is_sort body.1 f.result) wrong_sort (Ok body.0))

-- the function that is defined, and its body: no parameter is repeated, sorts come first, and the body has the sort of the result
abbrev pub defined_function : Declarations → List ℕ → List Named → Expression → Expression → Elaborated (Function × Formula)
defined_function d name params sort t =
    unless_halted (not (has_repeated (parameter_names params))) repeated_variable
    (and_then (declared_function d name (parameter_sorts params) sort) (λ f.
    and_then (body_of d (parameter_names params) f t) (λ body.
    Ok (f, body))))

-- the formula of a term that is to be Boolean; a term of another sort is refused with this number
abbrev pub boolean_formula : ℕ → Declarations → Expression → Elaborated Formula
boolean_formula number d t =
    and_then (elaborated d [] t) (λ formula.
    unless_halted (is_sort formula.1 bool_sort) number (Ok formula.0))

-- the formula that is asserted
abbrev pub asserted_formula : Declarations → Expression → Elaborated Formula
asserted_formula d t = boolean_formula not_boolean d t

-- the terms of which the values are asked, in order, with their sorts
abbrev pub valued_terms : Declarations → List Expression → Elaborated (List Sorted)
valued_terms d ts = each_of (elaborated d []) ts
