-- What a command says (SMT-LIB 2.7, section 3.9; cvc5 for codatatypes), before any name in it is looked up.
use Rattle.std.specs.Prelude.{ℕ, List, Option}
use Rattle.ct_sexpr.specs.Expression.{Expression}
use Rattle.ct_command.specs.declared.command.Family.{Family}
use Rattle.ct_command.specs.declared.option.Setting.{Setting}
use Rattle.ct_command.specs.declared.option.OptionName.{OptionName}
use Rattle.ct_command.specs.declared.option.Info.{Info}

-- a name and the sort beside it: a field of a constructor, or a parameter of a definition
pub record Named : Type 0 where
  pub name : List ℕ
  pub sort : Expression

-- a sort of a block by its name and its number of arguments
pub record SortHead : Type 0 where
  pub name : List ℕ
  pub arity : ℕ

-- a constructor with its fields
pub record Constructor : Type 0 where
  pub name : List ℕ
  pub fields : List Named

-- what is declared of one sort of a block: the type parameters, none where `par` is not written, and the constructors
pub record Body : Type 0 where
  pub params : List (List ℕ)
  pub ctors : List Constructor

pub data Command : Type 0 where
  -- a logic by its name, whether or not there is one of that name
  set_logic : List ℕ → Command
  set_option : Setting → Command
  -- the diagnostic channel, by a string literal
  set_diagnostic_output : Expression → Command
  get_option : OptionName → Command
  set_info : Command
  get_info : Info → Command
  -- an uninterpreted sort with so many arguments
  declare_sort : List ℕ → ℕ → Command
  -- a synonym with its parameters, and the sort for which it stands
  define_sort : List ℕ → List (List ℕ) → Expression → Command
  declare_block : Family → List SortHead → List Body → Command
  -- a function with the sorts of its arguments and its result; a constant has no arguments
  declare_fun : List ℕ → List Expression → Expression → Command
  -- a definition with its parameters, the sort of its result, and its body
  define_fun : List ℕ → List Named → Expression → Expression → Command
  -- a term, and the name with which it is labelled, where it has one
  assert : Expression → Option (List ℕ) → Command
  check_sat : Command
  -- the terms that are assumed
  check_sat_assuming : List Expression → Command
  -- so many levels more, and so many fewer
  push : ℕ → Command
  pop : ℕ → Command
  reset_assertions : Command
  reset : Command
  get_model : Command
  get_value : List Expression → Command
  get_proof : Command
  get_unsat_core : Command
  get_unsat_assumptions : Command
  -- a string literal
  echo : Expression → Command
  exit : Command
  -- what is answered `unsupported`
  unsupported : Command
