-- What a written sort expression stands for: names are looked up, and synonyms expanded (SMT-LIB 2.7, sections 3.5 and 4.2.3,
-- on define-sort).
use Rattle.std.specs.Prelude.{ℕ, ◌==◌, List, length, Option, Some, None, Ok, Err, option_map, slice_get, position, if◌then◌else◌}
use Rattle.std.specs.Option.{option_and_then, option_or}
use Rattle.std.specs.Str.{bytes_eq}
use Rattle.ct_generics.specs.declared.expr.SortExpr.{SortExpr}
use Rattle.ct_generics.specs.declared.expr.SortExpr.TheOpen.{SortExpr-F}
use Rattle.ct_generics.specs.declared.expr.SortExpr.TheFolds.{fold-SortExpr}
use Rattle.ct_generics.specs.Expression.{Expression, parameter, named, with_args, substitute}
use Rattle.ct_generics.specs.Declarations.{Declared, Head, Synonym}
use Rattle.ct_generics.specs.Outcome.{Outcome, and_then, all_of}
use Rattle.ct_generics.specs.Refusals.{unknown_sort, wrong_count}

-- what a name stands for: a sort or generic with this number, or a synonym; each takes so many arguments
pub data Meaning : Type 0 where
  a_head : ℕ → ℕ → Meaning
  a_synonym : Synonym → Meaning

abbrev pub params_of : Meaning → ℕ
params_of (a_head h params) = params
params_of (a_synonym s) = s.params

-- the number of the sort or generic of a name
abbrev pub head_number : List Head → List ℕ → Option ℕ
head_number heads name = position (λ head. bytes_eq name head.name) heads

-- the sort or generic of a name
abbrev pub named_head : List Head → List ℕ → Option Meaning
named_head heads name = option_and_then (λ h. option_map (λ head. a_head h head.params) (slice_get heads h)) (head_number heads name)

-- the synonym of a name
abbrev pub named_synonym : List Synonym → List ℕ → Option Meaning
named_synonym synonyms name = option_map a_synonym (option_and_then (slice_get synonyms) (position (λ s. bytes_eq name s.name) synonyms))

-- what the name stands for
abbrev pub meaning : Declared → List ℕ → Option Meaning
meaning d name = option_or (named_head d.heads name) (named_synonym d.synonyms name)

-- a sort or generic with these arguments, or the body of a synonym with these in place of the parameters
abbrev pub instance : Meaning → List Expression → Expression
instance (a_head h params) args = with_args (named h) args
instance (a_synonym s) args = substitute args s.body

-- what a name with arguments stands for: the name is looked up first, then the arguments are counted, and then they are
-- gone through from left to right
abbrev pub with_meaning : Option Meaning → List (Outcome Expression) → Outcome Expression
with_meaning None args = Err unknown_sort
with_meaning (Some m) args = if length args == params_of m then and_then (all_of args) (λ es. Ok (instance m es)) else Err wrong_count

-- one layer of a written expression, over what the expressions right under it stand for
abbrev pub resolved_layer : Declared → SortExpr-F (Outcome Expression) → Outcome Expression
resolved_layer d (SortExpr-F.Param i) = Ok (parameter i)
resolved_layer d (SortExpr-F.App name args) = with_meaning (meaning d name) args.items

-- what a written expression stands for, or the first error by place
abbrev pub resolved : Declared → SortExpr → Outcome Expression
resolved d = fold-SortExpr (Outcome Expression) (resolved_layer d)
