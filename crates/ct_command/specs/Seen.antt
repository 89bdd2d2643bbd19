-- What the commands of the program stand for.
use Rattle.std.specs.Prelude.{ℕ, List, map, Option, option_map}
use Rattle.std.specs.Borrow.{Bor}
use Rattle.std.specs.Global.{Vec}
use Rattle.ct_sexpr.specs.declared.sexpr.Sexpr.{Sexpr}
use Rattle.ct_sexpr.specs.Expression.{Expression}
use Rattle.ct_sexpr.specs.View.{expression_of}
use Rattle.ct_command.specs.declared.command.Named.{Named as ReadNamed}
use Rattle.ct_command.specs.declared.command.SortHead.{SortHead as ReadHead}
use Rattle.ct_command.specs.declared.command.Constructor.{Constructor as ReadConstructor}
use Rattle.ct_command.specs.declared.command.Body.{Body as ReadBody}
use Rattle.ct_command.specs.declared.command.Command.{Command as ReadCommand}
use Rattle.ct_command.specs.declared.command.Command.TheVariants as command
use Rattle.ct_command.specs.Command.{Named, SortHead, Constructor, Body, Command, set_logic, set_option, set_diagnostic_output, get_option, set_info, get_info, declare_sort, define_sort, declare_block, declare_fun, define_fun, assert, check_sat, check_sat_assuming, push, pop, reset_assertions, reset, get_model, get_value, get_proof, get_unsat_core, get_unsat_assumptions, echo, exit, unsupported}

-- the bytes, where there are any
abbrev pub bytes_seen : Option (Bor (List ℕ)) → Option (List ℕ)
bytes_seen o = option_map (λ (b : Bor (List ℕ)). b.now) o

-- the expressions in memory
abbrev pub all_seen : List Sexpr → List Expression
all_seen es = map expression_of es

-- the items, where there are any
abbrev pub items_seen : Option (Bor (List Sexpr)) → Option (List Expression)
items_seen o = option_map (λ (es : Bor (List Sexpr)). all_seen es.now) o

abbrev pub named_seen : ReadNamed → Named
named_seen n = record { name = n.name.now; sort = expression_of n.sort.now }

abbrev pub head_seen : ReadHead → SortHead
head_seen h = record { name = h.name.now; arity = h.arity }

abbrev pub constructor_seen : ReadConstructor → Constructor
constructor_seen c = record { name = c.name.now; fields = map named_seen c.fields.items }

-- names in memory
abbrev pub name_seen : Bor (List ℕ) → List ℕ
name_seen name = name.now

abbrev pub names_seen : Vec (Bor (List ℕ)) → List (List ℕ)
names_seen names = map name_seen names.items

abbrev pub body_seen : ReadBody → Body
body_seen b = record { params = names_seen b.params; ctors = map constructor_seen b.ctors.items }

-- lists of these
abbrev pub nameds_seen : Vec ReadNamed → List Named
nameds_seen ns = map named_seen ns.items

abbrev pub heads_seen : Vec ReadHead → List SortHead
heads_seen hs = map head_seen hs.items

abbrev pub constructors_seen : Vec ReadConstructor → List Constructor
constructors_seen cs = map constructor_seen cs.items

abbrev pub bodies_seen : Vec ReadBody → List Body
bodies_seen bs = map body_seen bs.items

abbrev pub command_seen : ReadCommand → Command
command_seen (command.SetLogic name) = set_logic name.now
command_seen (command.SetOption s) = set_option s
command_seen (command.SetDiagnosticOutput s) = set_diagnostic_output (expression_of s.now)
command_seen (command.GetOption o) = get_option o
command_seen command.SetInfo = set_info
command_seen (command.GetInfo i) = get_info i
command_seen (command.DeclareSort name params) = declare_sort name.now params
command_seen (command.DefineSort name params sort) = define_sort name.now (names_seen params) (expression_of sort.now)
command_seen (command.DeclareBlock family hs bs) = declare_block family (heads_seen hs) (bodies_seen bs)
command_seen (command.DeclareFun name args sort) = declare_fun name.now (all_seen args.now) (expression_of sort.now)
command_seen (command.DefineFun name params sort t) = define_fun name.now (nameds_seen params) (expression_of sort.now) (expression_of t.now)
command_seen (command.Assert t label) = assert (expression_of t.now) (bytes_seen label)
command_seen command.CheckSat = check_sat
command_seen (command.CheckSatAssuming ts) = check_sat_assuming (all_seen ts.now)
command_seen (command.Push n) = push n
command_seen (command.Pop n) = pop n
command_seen command.ResetAssertions = reset_assertions
command_seen command.Reset = reset
command_seen command.GetModel = get_model
command_seen (command.GetValue ts) = get_value (all_seen ts.now)
command_seen command.GetProof = get_proof
command_seen command.GetUnsatCore = get_unsat_core
command_seen command.GetUnsatAssumptions = get_unsat_assumptions
command_seen (command.Echo s) = echo (expression_of s.now)
command_seen command.Exit = exit
command_seen command.Unsupported = unsupported
