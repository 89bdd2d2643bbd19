-- Which command an expression is, or the number of its error: an expression that begins with no word has no form, a word that
-- begins no command is unknown, and a command whose word it begins with may have another form.
use Rattle.std.specs.Prelude.{◌≡◌, ℕ, List, [], ◌∷◌, ◌++◌, Option, Some, None, option_map, Result, Ok, Err, codes}
use Rattle.ct_sexpr.specs.Expression.{Expression}
use Rattle.ct_command.specs.declared.command.Family.TheVariants.{Data, Codata}
use Rattle.ct_command.specs.declared.error.CommandError.{CommandError}
use Rattle.ct_command.specs.declared.error.CommandError.TheVariants.{Refused, NoMemory}
use Rattle.ct_command.specs.declared.words.Word.{Word}
use Rattle.ct_command.specs.declared.words.Word.TheVariants as w
use Rattle.ct_command.specs.Command.{Command, check_sat, push, pop, reset_assertions, reset, get_model, get_proof, get_unsat_core, get_unsat_assumptions, exit, unsupported}
use Rattle.ct_command.specs.Tables.{beside}
use Rattle.ct_command.specs.Items.{word_of, items_of}
use Rattle.ct_command.specs.Forms.{declared_sort, defined_sort, declared_type, declared_types, declared_const, declared_fun, defined_fun, defined_const, level_count, alone, valued, echoed}
use Rattle.ct_command.specs.Labels.{asserted, assumed}
use Rattle.ct_command.specs.OptionForms.{logic_set, option_set, option_asked, info_set, info_asked}

-- an expression that is no command of its word
abbrev pub wrong_form : ℕ
wrong_form = 57

-- a word that begins no command
abbrev pub unknown_command : ℕ
unknown_command = 56

-- the words that set and ask for options and infos
abbrev pub setting_words : List (List ℕ × Word)
setting_words = (codes "set-logic", w.SetLogic) ∷ ((codes "set-option", w.SetOption) ∷ ((codes "get-option", w.GetOption) ∷ ((codes "set-info", w.SetInfo) ∷ ((codes "get-info", w.GetInfo) ∷ []))))

-- the words that declare and define sorts
abbrev pub sort_words : List (List ℕ × Word)
sort_words = (codes "declare-sort", w.DeclareSort) ∷ ((codes "define-sort", w.DefineSort) ∷ ((codes "declare-datatype", w.DeclareDatatype) ∷ ((codes "declare-codatatype", w.DeclareCodatatype) ∷ ((codes "declare-datatypes", w.DeclareDatatypes) ∷ ((codes "declare-codatatypes", w.DeclareCodatatypes) ∷ [])))))

-- the words that declare and define functions
abbrev pub function_words : List (List ℕ × Word)
function_words = (codes "declare-const", w.DeclareConst) ∷ ((codes "declare-fun", w.DeclareFun) ∷ ((codes "define-fun", w.DefineFun) ∷ ((codes "define-const", w.DefineConst) ∷ [])))

-- the words that assert and check, and those that change levels
abbrev pub session_words : List (List ℕ × Word)
session_words = (codes "assert", w.Assert) ∷ ((codes "check-sat", w.CheckSat) ∷ ((codes "push", w.Push) ∷ ((codes "pop", w.Pop) ∷ ((codes "reset-assertions", w.ResetAssertions) ∷ ((codes "reset", w.Reset) ∷ [])))))

-- the words that ask for an answer, and the last word of a script
abbrev pub answer_words : List (List ℕ × Word)
answer_words = (codes "get-model", w.GetModel) ∷ ((codes "get-value", w.GetValue) ∷ ((codes "get-proof", w.GetProof) ∷ ((codes "echo", w.Echo) ∷ ((codes "exit", w.Exit) ∷ []))))

-- the words that are answered `unsupported`, whatever follows
abbrev pub unsupported_words : List (List ℕ × Word)
unsupported_words =
    (codes "define-fun-rec", w.Unsupported) ∷ ((codes "define-funs-rec", w.Unsupported) ∷ ((codes "declare-sort-parameter", w.Unsupported) ∷ ((codes "get-assertions", w.Unsupported) ∷ ((codes "get-assignment", w.Unsupported) ∷ []))))

-- the words that the table of commands has last: those of assumptions and of cores
abbrev pub last_words : List (List ℕ × Word)
last_words = (codes "check-sat-assuming", w.CheckSatAssuming) ∷ ((codes "get-unsat-core", w.GetUnsatCore) ∷ ((codes "get-unsat-assumptions", w.GetUnsatAssumptions) ∷ []))

-- the words of all commands
abbrev pub words : List (List ℕ × Word)
words = setting_words ++ (sort_words ++ (function_words ++ (session_words ++ (answer_words ++ (unsupported_words ++ last_words)))))

-- the command that the expressions after the word say
abbrev pub said : Word → List Expression → Option Command
said w.SetLogic es = logic_set es
said w.SetOption es = option_set es
said w.GetOption es = option_asked es
said w.SetInfo es = info_set es
said w.GetInfo es = info_asked es
said w.DeclareSort es = declared_sort es
said w.DefineSort es = defined_sort es
said w.DeclareDatatype es = declared_type Data es
said w.DeclareCodatatype es = declared_type Codata es
said w.DeclareDatatypes es = declared_types Data es
said w.DeclareCodatatypes es = declared_types Codata es
said w.DeclareConst es = declared_const es
said w.DeclareFun es = declared_fun es
said w.DefineFun es = defined_fun es
said w.DefineConst es = defined_const es
said w.Assert es = asserted es
said w.CheckSat es = alone check_sat es
said w.CheckSatAssuming es = assumed es
said w.Push es = option_map push (level_count es)
said w.Pop es = option_map pop (level_count es)
said w.ResetAssertions es = alone reset_assertions es
said w.Reset es = alone reset es
said w.GetModel es = alone get_model es
said w.GetValue es = valued es
said w.GetProof es = alone get_proof es
said w.GetUnsatCore es = alone get_unsat_core es
said w.GetUnsatAssumptions es = alone get_unsat_assumptions es
said w.Echo es = echoed es
said w.Exit es = alone exit es
said w.Unsupported es = Some unsupported

-- a command, or the number of the error
abbrev pub Read : Type 0
Read = Result Command ℕ

-- what is formed, or a wrong form
abbrev pub formed : Option Command → Read
formed None = Err wrong_form
formed (Some c) = Ok c

abbrev pub after_word : List ℕ → Option Word → List Expression → Read
after_word word None es = Err unknown_command
after_word word (Some known) es = formed (said known es)

abbrev pub after_head : Option (List ℕ) → List Expression → Read
after_head None es = Err wrong_form
after_head (Some word) es = after_word word (beside words word) es

abbrev pub of_items : Option (List Expression) → Read
of_items None = Err wrong_form
of_items (Some []) = Err wrong_form
of_items (Some (head ∷ es)) = after_head (word_of head) es

-- the command that the expression is, or the number of the error
abbrev pub command : Expression → Read
command e = of_items (items_of e)

-- what a call that may run out of memory says of a form: the program's value stands for what is formed, or the form is wrong
abbrev pub Reads : {X Y : Type 0} → (X → Y) → Option Y → Result X CommandError → Type 0
Reads seen form (Ok x) = form ≡ Some (seen x)
Reads seen form (Err (Refused n)) = (form ≡ None) × (n ≡ wrong_form)
Reads seen form (Err NoMemory) = Unit {0}

-- the same of a command or the number of its error
abbrev pub Gives : {X Y : Type 0} → (X → Y) → Result Y ℕ → Result X CommandError → Type 0
Gives seen read (Ok x) = read ≡ Ok (seen x)
Gives seen read (Err (Refused n)) = read ≡ Err n
Gives seen read (Err NoMemory) = Unit {0}
