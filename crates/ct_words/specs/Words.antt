-- The words and texts of the program, each list in the order of the tables.
--
-- A word has its index where it comes first in the description of the commands, or of the lines, the equality steps and the
-- items of a derivation. Names that a script chooses, and letters that stand for numbers, terms or a rule, are no words.
use Rattle.std.specs.Prelude.{ℕ, List, [], ◌∷◌, ◌++◌, codes}

-- the names of the commands (SMT-LIB 2.7, section 3.9, and the declarations of codatatypes as cvc5 has them), with those that are answered
-- `unsupported`
abbrev pub command_names : List (List ℕ)
command_names =
    codes "set-logic" ∷ (codes "set-option" ∷ (codes "get-option" ∷ (codes "set-info" ∷ (codes "get-info" ∷ (codes "declare-sort" ∷ (codes "define-sort" ∷ (codes "declare-datatype" ∷ (codes "declare-codatatype" ∷ (codes "declare-datatypes" ∷ (codes "declare-codatatypes" ∷ (codes "declare-const" ∷ (codes "declare-fun" ∷ (codes "define-fun" ∷ (codes "define-const" ∷ (codes "assert" ∷ (codes "check-sat" ∷ (codes "push" ∷ (codes "pop" ∷ (codes "reset-assertions" ∷ (codes "reset" ∷ (codes "get-model" ∷ (codes "get-value" ∷ (codes "get-proof" ∷ (codes "echo" ∷ (codes "exit" ∷ (codes "define-fun-rec" ∷ (codes "define-funs-rec" ∷ (codes "declare-sort-parameter" ∷ (codes "get-assertions" ∷ (codes "get-assignment" ∷ (codes "check-sat-assuming" ∷ (codes "get-unsat-core" ∷ (codes "get-unsat-assumptions" ∷ [])))))))))))))))))))))))))))))))))

-- the options that the solver has, with their colons (SMT-LIB 2.7, section 4.1.7, and the choice of small unsatisfiable cores as cvc5 has it); the
-- names of infos are no options
abbrev pub option_names : List (List ℕ)
option_names =
    codes ":print-success" ∷ (codes ":global-declarations" ∷ (codes ":reproducible-resource-limit" ∷ (codes ":produce-models" ∷ (codes ":produce-proofs" ∷ (codes ":produce-assertions" ∷ (codes ":produce-assignments" ∷ (codes ":produce-unsat-cores" ∷ (codes ":produce-unsat-assumptions" ∷ (codes ":verbosity" ∷ (codes ":minimal-unsat-cores" ∷ []))))))))))

-- options that clients set whatever the solver: the channels and the seed (SMT-LIB 2.7, section 4.1.7), and what follows an error, which
-- the standard has among the infos alone (section 4.1.8)
abbrev pub client_option_names : List (List ℕ)
client_option_names =
    codes ":diagnostic-output-channel" ∷ (codes ":regular-output-channel" ∷ (codes ":random-seed" ∷ (codes ":error-behavior" ∷ [])))

-- the words that are values of options and infos (SMT-LIB 2.7, sections 4.1.7 and 4.1.8; `resourceout` as cvc5 has it), strings
-- without their quotation marks: what follows an error, the channels, and why a check was answered `unknown`
abbrev pub value_names : List (List ℕ)
value_names =
    codes "continued-execution" ∷ (codes "immediate-exit" ∷ (codes "stderr" ∷ (codes "stdout" ∷ (codes "incomplete" ∷ (codes "resourceout" ∷ [])))))

-- the logics whose names have no parts: whatever the solver can do
abbrev pub unrestricted_logic_names : List (List ℕ)
unrestricted_logic_names =
    codes "ALL" ∷ (codes "ALL_SUPPORTED" ∷ [])

-- the parts of which the names of other logics of SMT-LIB are made, after `QF_` where formulas have no quantifiers: arrays, functions, bit
-- vectors, floating point, datatypes, strings, and kinds of arithmetic
abbrev pub logic_part_names : List (List ℕ)
logic_part_names =
    codes "A" ∷ (codes "AX" ∷ (codes "UF" ∷ (codes "BV" ∷ (codes "FP" ∷ (codes "DT" ∷ (codes "S" ∷ (codes "IDL" ∷ (codes "RDL" ∷ (codes "LIA" ∷ (codes "LRA" ∷ (codes "LIRA" ∷ (codes "NIA" ∷ (codes "NRA" ∷ (codes "NIRA" ∷ []))))))))))))))

-- the words of the rules of a line: the kinds of lines, and after `gate` the names of the gates
abbrev pub rule_names : List (List ℕ)
rule_names =
    codes "input" ∷ (codes "gate" ∷ (codes "true" ∷ (codes "false" ∷ (codes "and-pos" ∷ (codes "and-neg" ∷ (codes "or-pos" ∷ (codes "or-neg" ∷ (codes "iff-1" ∷ (codes "iff-2" ∷ (codes "iff-3" ∷ (codes "iff-4" ∷ (codes "ite-1" ∷ (codes "ite-2" ∷ (codes "ite-3" ∷ (codes "ite-4" ∷ (codes "then" ∷ (codes "else" ∷ (codes "exhaust" ∷ (codes "theory" ∷ (codes "learn" ∷ []))))))))))))))))))))

-- the words of a theory line that no rule has: the equality steps, then `pair`, then the two closing rules
abbrev pub step_names : List (List ℕ)
step_names =
    codes "hyp" ∷ (codes "refl" ∷ (codes "sym" ∷ (codes "trans" ∷ (codes "cong" ∷ (codes "inject" ∷ (codes "sel" ∷ (codes "test" ∷ (codes "expand" ∷ (codes "equal-in" ∷ (codes "equal-out" ∷ (codes "neg" ∷ (codes "single" ∷ (codes "unique" ∷ (codes "pair" ∷ (codes "clash" ∷ (codes "cycle" ∷ []))))))))))))))))

-- the words of a derivation's items that no rule and no step has: the head, the term lines with their kinds of terms,
-- where `sel` is the word of the step and `not` also negates a literal, the lines, the end, and what the head of a derivation
-- from assumptions has before their check's number
abbrev pub item_names : List (List ℕ)
item_names =
    codes "cosmt-derivation" ∷ (codes "t" ∷ (codes "con" ∷ (codes "app" ∷ (codes "is" ∷ (codes "=" ∷ (codes "not" ∷ (codes "and" ∷ (codes "or" ∷ (codes "iff" ∷ (codes "ite" ∷ (codes "s" ∷ (codes "end" ∷ (codes "assuming" ∷ [])))))))))))))

-- the words of a derivation
abbrev pub derivation_names : List (List ℕ)
derivation_names = rule_names ++ (step_names ++ item_names)

-- the texts of the errors 1 to 6, 11 to 31, 41 to 47 and 51 to 59, in the order of their numbers
abbrev pub error_names : List (List ℕ)
error_names =
    codes "byte begins no token" ∷ (codes "closing parenthesis without opening" ∷ (codes "input ends inside an expression" ∷ (codes "nesting above 1000" ∷ (codes "atom outside a command" ∷ (codes "numeral above 128 bits" ∷ (codes "name taken" ∷ (codes "unknown sort" ∷ (codes "no constructor" ∷ (codes "datatype is not well founded" ∷ (codes "counts differ" ∷ (codes "too many declarations" ∷ (codes "mixed recursion" ∷ (codes "non-uniform recursion" ∷ (codes "sort of constructor not determined" ∷ (codes "too many terms" ∷ (codes "unknown symbol" ∷ (codes "wrong number of arguments" ∷ (codes "wrong sort" ∷ (codes "assertion is not Bool" ∷ (codes "pattern of another sort" ∷ (codes "match not exhaustive" ∷ (codes "variable repeated" ∷ (codes "form out of scope" ∷ (codes "name taken by another symbol" ∷ (codes "closure too large" ∷ (codes "quantifier over too many values" ∷ (codes "derivation form" ∷ (codes "number not yet defined" ∷ (codes "term line does not fit the script" ∷ (codes "no such check-sat" ∷ (codes "model form" ∷ (codes "model does not fit the script" ∷ (codes "datatype value is cyclic" ∷ (codes "pop above the levels" ∷ (codes "no model" ∷ (codes "no derivation" ∷ (codes "option not allowed now" ∷ (codes "unknown logic" ∷ (codes "unknown command" ∷ (codes "wrong form" ∷ (codes "too many levels" ∷ (codes "form not built yet" ∷ []))))))))))))))))))))))))))))))))))))))))))
