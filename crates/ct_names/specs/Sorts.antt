-- Sorts as expressions write them (SMT-LIB 2.7, section 3.5): a name, or a list of a name and one sort or more. A parameter is a
-- name that stands alone, and hides a sort of its name. Errors come by place: in a list first its form, then the name, then the
-- number of arguments, and then the arguments from left to right.
use Rattle.std.specs.Prelude.{◌≡◌, ℕ, Bool, true, not, List, [], ◌∷◌, length, map, Option, Some, None, is_some, option_map, position, Ok, Err}
use Rattle.std.specs.Borrow.{Bor}
use Rattle.std.specs.Global.{Vec}
use Rattle.std.specs.List.{list_all}
use Rattle.std.specs.Str.{bytes_eq}
use Rattle.ct_generics.specs.declared.expr.SortExpr.{SortExpr, Param, App}
use Rattle.ct_generics.specs.Declarations.{Declared}
use Rattle.ct_generics.specs.Expression.{Expression, parameter}
use Rattle.ct_generics.specs.declared.expr.SortExpr.TheFolds.{fold-SortExpr}
use Rattle.ct_generics.specs.Outcome.{all_of}
use Rattle.ct_generics.specs.Resolved.{Meaning, params_of, meaning, with_meaning, resolved}
use Rattle.ct_generics.specs.WellFormed.{has_below}
use Rattle.ct_sexpr.specs.Expression.{Expression as Sexpr, Expressions as Sexprs, leaf, list, none, more}
use Rattle.ct_sexpr.specs.Readable.{name_of_atom}
use Rattle.ct_sorts.specs.declared.ids.SortId.{SortId}
use Rattle.ct_sorts.specs.Declarations.{Declarations}
use Rattle.ct_sorts.specs.Same.{number_among}
use Rattle.ct_names.specs.Refusals.{out_of_scope}
use Rattle.ct_names.specs.Outcome.{Outcome, Elaborated, and_then, unless_refused, step, missing}
use Rattle.ct_names.specs.Parts.{Part, expression_in}

-- the number of the parameter of this name
abbrev pub parameter_at : List (List ℕ) → List ℕ → Option ℕ
parameter_at params name = position (bytes_eq name) params

-- a name that stands alone: a parameter, and else a sort without arguments
abbrev pub lone_name_sort : Declared → List ℕ → Option ℕ → Outcome Expression
lone_name_sort d name (Some i) = Ok (parameter i)
lone_name_sort d name None = with_meaning (meaning d name) []

abbrev pub lone_sort : Declared → List (List ℕ) → Option (List ℕ) → Outcome Expression
lone_sort d params None = Err out_of_scope
lone_sort d params (Some name) = lone_name_sort d name (parameter_at params name)

-- a name with sorts, one at least, which is no parameter
abbrev pub headed_sort : Declared → List (List ℕ) → Option (List ℕ) → List (Outcome Expression) → Outcome Expression
headed_sort d params None args = Err out_of_scope
headed_sort d params (Some name) [] = Err out_of_scope
headed_sort d params (Some name) (arg ∷ args) = unless_refused (not (is_some (parameter_at params name))) out_of_scope (with_meaning (meaning d name) (arg ∷ args))

-- the name that the expression is: a symbol that is no reserved word
abbrev pub name_in : Sexpr → Option (List ℕ)
name_in (leaf a) = name_of_atom a
name_in (list es) = None

abbrev mutual
  -- the sort that an expression writes over parameters of these names, or its first error
  pub written_sort : Declared → List (List ℕ) → Sexpr → Outcome Expression
  written_sort d params (leaf a) = lone_sort d params (name_of_atom a)
  written_sort d params (list none) = Err out_of_scope
  written_sort d params (list (more head args)) = headed_sort d params (name_in head) (written_sorts d params args)

  pub written_sorts : Declared → List (List ℕ) → Sexprs → List (Outcome Expression)
  written_sorts d params none = []
  written_sorts d params (more e es) = written_sort d params e ∷ written_sorts d params es

-- the sort in the list, or else it is what is needed next
abbrev pub there : Expression → Option ℕ → Elaborated SortId
there e (Some n) = Ok (record { 0 = n })
there e None = Err (missing e)

abbrev pub sort_there : Declarations → Expression → Elaborated SortId
sort_there d e = there e (number_among d.origins e)

-- the sort that an expression writes, without parameters
abbrev pub sort_of : Declarations → Sexpr → Elaborated SortId
sort_of d e = and_then (step (written_sort d.declared [] e)) (sort_there d)

abbrev pub sort_of_part : Declarations → Part → Elaborated SortId
sort_of_part d p = sort_of d (expression_in p)

-- the written sort is this name with these arguments
abbrev pub IsApp : List ℕ → List SortExpr → SortExpr → Type 0
IsApp name args w = (items : Vec SortExpr) × (w ≡ App name items) × (items.items ≡ args)

-- The expression has the form of a sort over these parameters, and writes this one; names are not looked up.
mutual
  pub data Writes (params : List (List ℕ)) : Sexpr → SortExpr → Type 0 where
    a_parameter : (e : Sexpr) (name : List ℕ) (i : ℕ) → name_in e ≡ Some name → parameter_at params name ≡ Some i → Writes params e (Param i)
    a_name : (e : Sexpr) (name : List ℕ) (w : SortExpr) → name_in e ≡ Some name → parameter_at params name ≡ None → IsApp name [] w → Writes params e w
    an_instance : (head : Sexpr) (args : Sexprs) (name : List ℕ) (w arg : SortExpr) (rest : List SortExpr)
        → name_in head ≡ Some name → parameter_at params name ≡ None → AllWrite params args (arg ∷ rest) → IsApp name (arg ∷ rest) w
        → Writes params (list (more head args)) w

  pub data AllWrite (params : List (List ℕ)) : Sexprs → List SortExpr → Type 0 where
    all_written : AllWrite params none []
    and_written : (e : Sexpr) (es : Sexprs) (w : SortExpr) (ws : List SortExpr) → Writes params e w → AllWrite params es ws → AllWrite params (more e es) (w ∷ ws)

-- the expression has the form of no sort
abbrev pub HasNoSortForm : List (List ℕ) → Sexpr → Type 0
HasNoSortForm params e = (w : SortExpr) → Writes params e w → ⊥

-- the written sort is what the expression writes: names are looked up in what is declared, where this is known
abbrev pub IsReadAs : Option Declared → List (List ℕ) → Sexpr → SortExpr → Type 0
IsReadAs None params e w = Writes params e w
IsReadAs (Some d) params e w = (x : Expression) × (written_sort d params e ≡ Ok x) × (resolved d w ≡ Ok x)

-- these are what these expressions write
abbrev pub AreReadAs : Option Declared → List (List ℕ) → Sexprs → List SortExpr → Type 0
AreReadAs None params es ws = AllWrite params es ws
AreReadAs (Some d) params es ws = (xs : List Expression) × (all_of (written_sorts d params es) ≡ Ok xs) × (all_of (map (resolved d) ws) ≡ Ok xs)

-- the expression is refused with this number
abbrev pub IsNotRead : Option Declared → List (List ℕ) → Sexpr → ℕ → Type 0
IsNotRead None params e n = (n ≡ out_of_scope) × HasNoSortForm params e
IsNotRead (Some d) params e n = written_sort d params e ≡ Err n

-- so is the first of these that is refused
abbrev pub AreNotRead : Option Declared → List (List ℕ) → Sexprs → ℕ → Type 0
AreNotRead None params es n = (n ≡ out_of_scope) × ((ws : List SortExpr) → AllWrite params es ws → ⊥)
AreNotRead (Some d) params es n = all_of (written_sorts d params es) ≡ Err n

-- the name takes so many arguments, where it is known what is declared
abbrev pub IsKnown : Option Declared → List ℕ → ℕ → Type 0
IsKnown None name args = Unit {0}
IsKnown (Some d) name args = (m : Meaning) × (meaning d name ≡ Some m) × (params_of m ≡ args)

-- it is refused with this number at so many arguments
abbrev pub IsNotKnown : Option Declared → List ℕ → ℕ → ℕ → Type 0
IsNotKnown None name args n = ⊥
IsNotKnown (Some d) name args n = (xs : List (Outcome Expression)) → length xs ≡ args → with_meaning (meaning d name) xs ≡ Err n

-- what is declared, where it is known
abbrev pub declared_in : Option (Bor Declarations) → Option Declared
declared_in known = option_map (λ (d : Bor Declarations). d.now.declared) known

-- each parameter in these is one of so many
abbrev pub HaveBelow : ℕ → List SortExpr → Type 0
HaveBelow params ws = list_all (λ below. below) (map (fold-SortExpr Bool (has_below params)) ws) ≡ true
