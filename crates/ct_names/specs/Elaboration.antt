-- Elaboration: the formula that an expression writes and its sort, or the number of its first error (SMT-LIB 2.7, section
-- 3.6; the details of `match` and of `as` are this project's own profile). Errors come from left to right, but the number of
-- arguments before the arguments, a repeated variable of a `let` before its terms, one of a quantifier before the sorts, and the
-- forms of cases before the matched term. Variables are listed from the innermost outwards. Sorts with arguments are needed as they
-- are come to: those that are written, and that of a constructor term after its arguments.
use Rattle.std.specs.Prelude.{ℕ, Bool, true, false, not, ◌&&◌, ◌==◌, List, [], ◌∷◌, map, length, nat_le, Option, Some, None, is_some, Ok, Err, codes, if◌then◌else◌}
use Rattle.std.specs.Str.{bytes_eq}
use Rattle.ct_sorts.specs.declared.ids.SortId.{SortId}
use Rattle.ct_sorts.specs.declared.ids.CtorId.{CtorId}
use Rattle.ct_sorts.specs.declared.ids.Symbol.{Symbol}
use Rattle.ct_sorts.specs.declared.ids.GenId.{GenId}
use Rattle.ct_sorts.specs.declared.ids.Symbol.TheVariants.{Ctor, Sel, Fun, Def, GenCtor, GenSel}
use Rattle.ct_sorts.specs.Declarations.{Declarations, bool_sort}
use Rattle.ct_sexpr.specs.Atom.{Atom, symbol, quoted, keyword, text, numeral, decimal, binary, hexadecimal}
use Rattle.ct_sexpr.specs.Expression.{Expression as Sexpr, Expressions as Sexprs, leaf, list, none, more}
use Rattle.ct_generics.specs.Expression.{Expression, named, with_args}
use Rattle.ct_sexpr.specs.Written.{is_reserved}
use Rattle.ct_sexpr.specs.Readable.{name_of_atom}
use Rattle.ct_listing.specs.Listable.{is_listable}
use Rattle.ct_formulas.specs.declared.tree.Pattern.{Pattern}
use Rattle.ct_formulas.specs.declared.tree.Quantifier.{Quantifier}
use Rattle.ct_formulas.specs.declared.tree.Quantifier.TheVariants.{Forall, Exists}
use Rattle.ct_formulas.specs.Choices.{choices_of, most_choices}
use Rattle.ct_formulas.specs.Formula as formula
use Rattle.ct_formulas.specs.Formula.{Formula, Formulas, Cases, no_formulas, with_formula, no_cases, with_case, bind}
use Rattle.ct_names.specs.declared.operator.CoreOperator.{CoreOperator}
use Rattle.ct_names.specs.declared.operator.CoreOperator.TheVariants.{Not, And, Or, Xor, Implies, Equal, Distinct, Ite}
use Rattle.ct_names.specs.Refusals.{undetermined, unknown_symbol, wrong_count, wrong_sort, not_exhaustive, repeated_variable, too_many_values, out_of_scope}
use Rattle.ct_names.specs.Outcome.{Outcome, Elaborated, Sorted, and_then, unless_refused, unless_halted, step, refused, is_sort, of_sort}
use Rattle.ct_names.specs.Parts.{Part, Parts, atom_part, list_part, no_parts, with_part, count, name_of}
use Rattle.ct_names.specs.Symbols.{symbol_of, ctor_named, tester_named, is_of_bool, operator_of, argument_sorts, result_sort, symbol_applied, field_sort_id}
use Rattle.ct_names.specs.Sorts.{sort_of_part, sort_there}
use Rattle.ct_instances.specs.declared.among.NamedCtor.{NamedCtor}
use Rattle.ct_instances.specs.declared.among.NamedCtor.TheVariants.{Plain, Generic}
use Rattle.ct_instances.specs.Among.{origin_of, ctor_among, field_among}
use Rattle.ct_instances.specs.Matching.{Assignment, unmatched, matched, sorts_for}
use Rattle.ct_instances.specs.Fields.{generic_fields, generic_params, is_determined}
use Rattle.ct_names.specs.Variables.{Variable, find, has_repeated, variables, present_names}
use Rattle.ct_names.specs.Forms.{is_word, are_bindings, bound_names, are_cases, are_attributes}
use Rattle.ct_names.specs.Patterns.{pattern, matchable, are_exhaustive}

-- with which error a symbol without arguments is refused: it takes some, or its sort is not determined
abbrev pub lone_generic : Bool → ℕ
lone_generic true = wrong_count
lone_generic false = undetermined

abbrev pub lone_refusal : Declarations → Symbol → Option ℕ
lone_refusal d (GenCtor g i) = Some (lone_generic (is_determined d g i))
lone_refusal d (GenSel g i k) = Some wrong_count
lone_refusal d s = if length (argument_sorts d s) == 0 then None else Some wrong_count

-- the value, where there is no such reason
abbrev pub unless_for : {X : Type 0} → Option ℕ → X → Elaborated X
unless_for None x = Ok x
unless_for (Some error) x = Err (refused error)

-- a symbol with no argument, where it takes none
abbrev pub lone_symbol : Declarations → Symbol → Elaborated Sorted
lone_symbol d s = unless_for (lone_refusal d s) (symbol_applied s no_formulas, result_sort d s)

-- a name that is no variable and no symbol: operators and testers take arguments
abbrev pub lone_operator : Option CoreOperator → Option NamedCtor → Elaborated Sorted
lone_operator None None = Err (refused unknown_symbol)
lone_operator None (Some c) = Err (refused wrong_count)
lone_operator (Some o) tested = Err (refused wrong_count)

-- a name that is no variable, where it stands alone
abbrev pub lone_global : Declarations → List ℕ → Option Symbol → Elaborated Sorted
lone_global d name None = lone_operator (operator_of name) (tester_named d name)
lone_global d name (Some s) = lone_symbol d s

-- a name that stands alone: the innermost variable of this name, and else a symbol
abbrev pub lone_name : Declarations → List ℕ → Option (ℕ × SortId) → Elaborated Sorted
lone_name d name (Some v) = Ok (formula.Var v.0, v.1)
lone_name d name None = lone_global d name (symbol_of d name)

-- an atom that stands alone: a name
abbrev pub lone : Declarations → List Variable → Option (List ℕ) → Elaborated Sorted
lone d scope None = Err (refused out_of_scope)
lone d scope (Some name) = lone_name d name (find scope name)

-- the fewest and the most arguments of an operator; none where there may be any number
abbrev pub fewest : CoreOperator → ℕ
fewest Not = 1
fewest And = 1
fewest Or = 1
fewest Xor = 2
fewest Implies = 2
fewest Equal = 2
fewest Distinct = 2
fewest Ite = 3

abbrev pub takes_at_most : CoreOperator → ℕ → Bool
takes_at_most Not n = nat_le n 1
takes_at_most Ite n = nat_le n 3
takes_at_most And n = true
takes_at_most Or n = true
takes_at_most Xor n = true
takes_at_most Implies n = true
takes_at_most Equal n = true
takes_at_most Distinct n = true

abbrev pub takes : CoreOperator → ℕ → Bool
takes o n = nat_le (fewest o) n && takes_at_most o n

-- a negation of the first of the formulas, which is the only one
abbrev pub negated : Formulas → Formula
negated no_formulas = formula.And no_formulas
negated (with_formula t ts) = formula.Not t

-- the formula of a Boolean operator
abbrev pub connected : CoreOperator → Formulas → Formula
connected Not ts = negated ts
connected And ts = formula.And ts
connected Or ts = formula.Or ts
connected Xor ts = formula.Xor ts
connected Implies ts = formula.Implies ts
connected Equal ts = formula.Equal ts
connected Distinct ts = formula.Distinct ts
connected Ite ts = formula.And ts

-- the formulas of several, and their sorts
abbrev pub without_sorts : List Sorted → Formulas
without_sorts [] = no_formulas
without_sorts (t ∷ ts) = with_formula t.0 (without_sorts ts)

abbrev pub sorts_of : List Sorted → List SortId
sorts_of ts = map (λ (t : Sorted). t.1) ts

-- the sort is the one that earlier cases had, where there are any
abbrev pub goes_with : Option SortId → SortId → Bool
goes_with None s = true
goes_with (Some first) s = is_sort s first

-- the cases of a `match`, with their patterns and their common sort, where there is one
pub record Checked : Type 0 where
  pub cases : Cases
  pub patterns : List Pattern
  pub sort : Option SortId

abbrev pub no_more : Option SortId → Checked
no_more sort = record { cases = no_cases; patterns = []; sort = sort }

abbrev pub with_case_before : Pattern → Formula → Checked → Checked
with_case_before p body checked = record { cases = with_case p body checked.cases; patterns = p ∷ checked.patterns; sort = checked.sort }

-- a `match` is exhaustive, and so has a case that gives its sort
abbrev pub matched_cases : Formula → Checked → Option SortId → Elaborated Sorted
matched_cases subject checked None = Err (refused not_exhaustive)
matched_cases subject checked (Some sort) = Ok (formula.Match subject checked.cases, sort)

abbrev pub exhausted : Declarations → Sorted → Checked → Elaborated Sorted
exhausted d subject checked = unless_halted (are_exhaustive d subject.1 checked.patterns) not_exhaustive (matched_cases subject.0 checked checked.sort)

-- what the head of `(as f S)` stands for: no variable, and no selector
abbrev pub may_qualify : Option Symbol → Outcome Symbol
may_qualify None = Err unknown_symbol
may_qualify (Some (Sel s)) = Err unknown_symbol
may_qualify (Some (Ctor c)) = Ok (Ctor c)
may_qualify (Some (Fun f)) = Ok (Fun f)
may_qualify (Some (Def k)) = Ok (Def k)
may_qualify (Some (GenCtor g i)) = Ok (GenCtor g i)
may_qualify (Some (GenSel g i k)) = Err unknown_symbol

-- the symbol, where its result has this sort: for a constructor of a generic that of the instance
abbrev pub of_instance : Option CtorId → Outcome Symbol
of_instance None = Err wrong_sort
of_instance (Some c) = Ok (Ctor c)

abbrev pub of_result : Declarations → Symbol → SortId → Outcome Symbol
of_result d (GenCtor g i) t = of_instance (ctor_among d (Generic g i) t)
of_result d s t = unless_refused (is_sort (result_sort d s) t) wrong_sort (Ok s)

-- the symbol that `(as f S)` qualifies: S is the sort of its result
abbrev pub qualified_name : Declarations → List Variable → Option (List ℕ) → Part → Elaborated Symbol
qualified_name d scope None sort = Err (refused out_of_scope)
qualified_name d scope (Some name) sort =
    unless_halted (not (is_some (find scope name))) unknown_symbol
    (and_then (step (may_qualify (symbol_of d name))) (λ s.
    and_then (sort_of_part d sort) (λ t.
    step (of_result d s t))))

-- the same of the three items of `(as f S)`, without `as`
abbrev pub qualified_symbol : Declarations → List Variable → Parts → Elaborated Symbol
qualified_symbol d scope (with_part f (with_part sort no_parts)) = qualified_name d scope (name_of f) sort
qualified_symbol d scope ps = Err (refused out_of_scope)

-- the constructor that a tester tests for: one that is neither `true` nor `false`
abbrev pub testable : Option NamedCtor → Outcome NamedCtor
testable None = Err unknown_symbol
testable (Some c) = unless_refused (not (is_of_bool c)) out_of_scope (Ok c)

abbrev pub tested_name : Declarations → Option (List ℕ) → Outcome NamedCtor
tested_name d None = Err out_of_scope
tested_name d (Some name) = testable (ctor_named d name)

-- the name is this text
abbrev pub is_text_of_name : List ℕ → Option (List ℕ) → Bool
is_text_of_name wanted None = false
is_text_of_name wanted (Some name) = bytes_eq name wanted

-- the constructor of `(_ is C)`, by its items without `_`
abbrev pub tester : Declarations → Parts → Outcome NamedCtor
tester d (with_part word (with_part c no_parts)) = unless_refused (is_text_of_name (codes "is") (name_of word)) out_of_scope (tested_name d (name_of c))
tester d ps = Err out_of_scope

-- what a part means where these variables are in scope
abbrev pub meaning_of_part : Declarations → List Variable → Part → Elaborated Sorted
meaning_of_part d scope (atom_part a) = lone d scope (name_of_atom a)
meaning_of_part d scope (list_part ps m) = m scope

-- arguments of these sorts, one for one
abbrev pub arguments : Declarations → List Variable → List SortId → Parts → Elaborated Formulas
arguments d scope [] no_parts = Ok no_formulas
arguments d scope [] (with_part p ps) = Err (refused wrong_count)
arguments d scope (s ∷ sorts) no_parts = Err (refused wrong_count)
arguments d scope (s ∷ sorts) (with_part p ps) =
    and_then (of_sort s (meaning_of_part d scope p)) (λ t.
    and_then (arguments d scope sorts ps) (λ ts.
    Ok (with_formula t ts)))

-- arguments of one sort
abbrev pub all_of_sort : Declarations → List Variable → SortId → Parts → Elaborated Formulas
all_of_sort d scope s no_parts = Ok no_formulas
all_of_sort d scope s (with_part p ps) =
    and_then (of_sort s (meaning_of_part d scope p)) (λ t.
    and_then (all_of_sort d scope s ps) (λ ts.
    Ok (with_formula t ts)))

-- arguments that have the sort of the first
abbrev pub of_one_sort : Declarations → List Variable → Parts → Elaborated Formulas
of_one_sort d scope no_parts = Err (refused wrong_count)
of_one_sort d scope (with_part p ps) =
    and_then (meaning_of_part d scope p) (λ t.
    and_then (all_of_sort d scope t.1 ps) (λ ts.
    Ok (with_formula t.0 ts)))

-- a condition and two of one sort
abbrev pub choice_form : Declarations → List Variable → Parts → Elaborated Sorted
choice_form d scope (with_part c (with_part t (with_part u no_parts))) =
    and_then (of_sort bool_sort (meaning_of_part d scope c)) (λ condition.
    and_then (meaning_of_part d scope t) (λ first.
    and_then (of_sort first.1 (meaning_of_part d scope u)) (λ second.
    Ok (formula.Ite condition first.0 second, first.1))))
choice_form d scope ps = Err (refused wrong_count)

-- a connective of Boolean arguments
abbrev pub connective : Declarations → List Variable → CoreOperator → Parts → Elaborated Sorted
connective d scope o ps = and_then (all_of_sort d scope bool_sort ps) (λ ts. Ok (connected o ts, bool_sort))

-- an operator, of as many arguments as it takes
abbrev pub operated : Declarations → List Variable → CoreOperator → Parts → Elaborated Sorted
operated d scope Not ps = connective d scope Not ps
operated d scope And ps = connective d scope And ps
operated d scope Or ps = connective d scope Or ps
operated d scope Xor ps = connective d scope Xor ps
operated d scope Implies ps = connective d scope Implies ps
operated d scope Equal ps = and_then (of_one_sort d scope ps) (λ ts. Ok (formula.Equal ts, bool_sort))
operated d scope Distinct ps = and_then (of_one_sort d scope ps) (λ ts. Ok (formula.Distinct ts, bool_sort))
operated d scope Ite ps = choice_form d scope ps

-- the constructor or the field, where the sort of the argument has it
abbrev pub own : {X : Type 0} → Option X → Outcome X
own None = Err wrong_sort
own (Some x) = Ok x

-- arguments matched one for one with the fields of a generic's constructor, from left to right: what the parameters stand for
abbrev pub fitting : Option Assignment → Outcome Assignment
fitting None = Err wrong_sort
fitting (Some m) = Ok m

abbrev pub matched_arguments : Declarations → List Variable → List Expression → Parts → Assignment → Elaborated (Formulas × Assignment)
matched_arguments d scope [] no_parts m = Ok (no_formulas, m)
matched_arguments d scope [] (with_part p ps) m = Err (refused wrong_count)
matched_arguments d scope (field ∷ fields) no_parts m = Err (refused wrong_count)
matched_arguments d scope (field ∷ fields) (with_part p ps) m =
    and_then (meaning_of_part d scope p) (λ t.
    and_then (step (fitting (matched field (origin_of d t.1) m))) (λ more.
    and_then (matched_arguments d scope fields ps more) (λ rest.
    Ok (with_formula t.0 rest.0, rest.1))))

-- the sort of a generic's constructor where its parameters stand for these; of one that is determined every parameter was matched
abbrev pub instance_of : GenId → Option (List Expression) → Outcome Expression
instance_of g None = Err undetermined
instance_of g (Some es) = Ok (with_args (named g.0) es)

-- constructor `i` of the instance, with arguments
abbrev pub constructed : SortId → Formulas → Option CtorId → Sorted
constructed s ts None = (formula.And ts, s)
constructed s ts (Some c) = (formula.Con c ts, s)

-- A constructor of a generic with arguments, which determine the sort; this is needed after them.
abbrev pub generic_ctor : Declarations → List Variable → GenId → ℕ → Parts → Elaborated Sorted
generic_ctor d scope g i ps =
    unless_halted (is_determined d g i) undetermined
    (unless_halted (length (generic_fields d g i) == count ps) wrong_count
    (and_then (matched_arguments d scope (generic_fields d g i) ps (unmatched (generic_params d g))) (λ found.
    and_then (step (instance_of g (sorts_for found.1))) (λ e.
    and_then (sort_there d e) (λ s.
    Ok (constructed s found.0 (ctor_among d (Generic g i) s)))))))

-- a field of a generic's constructor, of the one argument, which is of an instance
abbrev pub generic_sel : Declarations → List Variable → GenId → ℕ → ℕ → Parts → Elaborated Sorted
generic_sel d scope g i k (with_part t no_parts) =
    and_then (meaning_of_part d scope t) (λ u.
    and_then (step (own (field_among d g i k u.1))) (λ s.
    Ok (formula.Sel s u.0, field_sort_id d s)))
generic_sel d scope g i k ps = Err (refused wrong_count)

-- a symbol of stated sorts at the head of a list: `(f)` where f takes no argument has no form
abbrev pub applied_plain : Declarations → List Variable → Symbol → Parts → Elaborated Sorted
applied_plain d scope s ps =
    unless_halted (not (length (argument_sorts d s) == 0 && count ps == 0)) out_of_scope
    (unless_halted (length (argument_sorts d s) == count ps) wrong_count
    (and_then (arguments d scope (argument_sorts d s) ps) (λ ts.
    Ok (symbol_applied s ts, result_sort d s))))

-- a symbol at the head of a list
abbrev pub applied_symbol : Declarations → List Variable → Symbol → Parts → Elaborated Sorted
applied_symbol d scope (GenCtor g i) ps = generic_ctor d scope g i ps
applied_symbol d scope (GenSel g i k) ps = generic_sel d scope g i k ps
applied_symbol d scope s ps = applied_plain d scope s ps

-- a test of the one argument, which is of a sort that has the constructor
abbrev pub tested_term : Declarations → List Variable → NamedCtor → Parts → Elaborated Sorted
tested_term d scope ctor (with_part t no_parts) =
    and_then (meaning_of_part d scope t) (λ u.
    and_then (step (own (ctor_among d ctor u.1))) (λ c.
    Ok (formula.Test c u.0, bool_sort)))
tested_term d scope ctor ps = Err (refused wrong_count)

-- what is no operator and no symbol, with arguments: a tester by its name
abbrev pub tested_by_name : Declarations → List Variable → Option NamedCtor → Parts → Elaborated Sorted
tested_by_name d scope None ps = Err (refused unknown_symbol)
tested_by_name d scope (Some c) ps = tested_term d scope c ps

-- an operator, a symbol or a tester, with arguments
abbrev pub global : Declarations → List Variable → List ℕ → Option CoreOperator → Option Symbol → Parts → Elaborated Sorted
global d scope name (Some o) s ps = unless_halted (takes o (count ps)) wrong_count (operated d scope o ps)
global d scope name None None ps = tested_by_name d scope (tester_named d name) ps
global d scope name None (Some s) ps = applied_symbol d scope s ps

-- a name with arguments, which is no variable
abbrev pub application : Declarations → List Variable → List ℕ → Parts → Elaborated Sorted
application d scope name ps =
    unless_halted (not (is_some (find scope name))) unknown_symbol
    (global d scope name (operator_of name) (symbol_of d name) ps)

-- the terms of bindings, in order
abbrev pub bound_terms : Declarations → List Variable → Parts → Elaborated (List Sorted)
bound_terms d scope no_parts = Ok []
bound_terms d scope (with_part (list_part (with_part x (with_part t no_parts)) m) bs) =
    and_then (meaning_of_part d scope t) (λ first.
    and_then (bound_terms d scope bs) (λ ts.
    Ok (first ∷ ts)))
bound_terms d scope (with_part b bs) = Err (refused out_of_scope)

-- bindings and a body: one binding or more, no variable twice; the terms do not see the variables
abbrev pub let_of : Declarations → List Variable → Parts → Part → Elaborated Sorted
let_of d scope bindings body =
    unless_halted (are_bindings bindings && not (count bindings == 0)) out_of_scope
    (unless_halted (not (has_repeated (present_names (bound_names bindings)))) repeated_variable
    (and_then (bound_terms d scope bindings) (λ ts.
    and_then (meaning_of_part d (bind (variables (bound_names bindings) (sorts_of ts)) scope) body) (λ u.
    Ok (formula.Let (without_sorts ts) u.0, u.1)))))

-- `(let ((x t) ..) u)`
abbrev pub let_form : Declarations → List Variable → Parts → Elaborated Sorted
let_form d scope (with_part (list_part bindings m) (with_part body no_parts)) = let_of d scope bindings body
let_form d scope ps = Err (refused out_of_scope)

-- the sort of a variable of a quantifier, which is listable
abbrev pub listable_sort : Declarations → Part → Elaborated SortId
listable_sort d (list_part (with_part x (with_part sort no_parts)) m) =
    and_then (sort_of_part d sort) (λ s.
    unless_halted (is_listable d s) out_of_scope (Ok s))
listable_sort d p = Err (refused out_of_scope)

-- the sorts of its variables, in order
abbrev pub listable_sorts : Declarations → Parts → Elaborated (List SortId)
listable_sorts d no_parts = Ok []
listable_sorts d (with_part b bs) =
    and_then (listable_sort d b) (λ s.
    and_then (listable_sorts d bs) (λ sorts.
    Ok (s ∷ sorts)))

-- variables with their sorts and a body: one variable or more, none twice; there are at most 4,096 lists of values for them, and the
-- body is Boolean
abbrev pub quantified_of : Declarations → List Variable → Quantifier → Parts → Part → Elaborated Sorted
quantified_of d scope q bindings body =
    unless_halted (are_bindings bindings && not (count bindings == 0)) out_of_scope
    (unless_halted (not (has_repeated (present_names (bound_names bindings)))) repeated_variable
    (and_then (listable_sorts d bindings) (λ sorts.
    unless_halted (nat_le (length (choices_of d sorts)) most_choices) too_many_values
    (and_then (of_sort bool_sort (meaning_of_part d (bind (variables (bound_names bindings) sorts) scope) body)) (λ t.
    Ok (formula.Quantified q sorts t, bool_sort))))))

-- `(forall ((x S) ..) t)` and `(exists ((x S) ..) t)`
abbrev pub quantified_form : Declarations → List Variable → Quantifier → Parts → Elaborated Sorted
quantified_form d scope q (with_part (list_part bindings m) (with_part body no_parts)) = quantified_of d scope q bindings body
quantified_form d scope q ps = Err (refused out_of_scope)

-- `(! t K v ..)`: the term, whatever its attributes say
abbrev pub annotated : Declarations → List Variable → Parts → Elaborated Sorted
annotated d scope no_parts = Err (refused out_of_scope)
annotated d scope (with_part t attributes) = unless_halted (are_attributes attributes) out_of_scope (meaning_of_part d scope t)

-- the cases in order: each has a pattern against the sort of the subject, and a term of the sort of the first
abbrev pub checked_cases : Declarations → List Variable → SortId → Option SortId → Parts → Elaborated Checked
checked_cases d scope side sort no_parts = Ok (no_more sort)
checked_cases d scope side sort (with_part (list_part (with_part p (with_part body no_parts)) m) cases) =
    and_then (step (pattern d side p)) (λ binding.
    and_then (meaning_of_part d (bind binding.1 scope) body) (λ u.
    unless_halted (goes_with sort u.1) wrong_sort
    (and_then (checked_cases d scope side (Some u.1) cases) (λ checked.
    Ok (with_case_before binding.0 u.0 checked)))))
checked_cases d scope side sort (with_part c cases) = Err (refused out_of_scope)

-- a subject and cases: first the forms of all patterns, then the subject, then the cases in order, and then whether they
-- are exhaustive
abbrev pub match_of : Declarations → List Variable → Part → Parts → Elaborated Sorted
match_of d scope t cases =
    unless_halted (are_cases cases) out_of_scope
    (and_then (meaning_of_part d scope t) (λ subject.
    and_then (step (matchable d subject.1)) (λ side.
    and_then (checked_cases d scope side None cases) (λ checked.
    exhausted d subject checked))))

-- `(match t ((p u) ..))`
abbrev pub match_form : Declarations → List Variable → Parts → Elaborated Sorted
match_form d scope (with_part t (with_part (list_part cases m) no_parts)) = match_of d scope t cases
match_form d scope ps = Err (refused out_of_scope)

-- a list that begins with a list: a tester, or a qualified symbol, with its arguments
abbrev pub qualified : Declarations → List Variable → Parts → Parts → Elaborated Sorted
qualified d scope no_parts ps = Err (refused out_of_scope)
qualified d scope (with_part word head) ps =
    if is_word (codes "_") word then and_then (step (tester d head)) (λ c. tested_term d scope c ps) else
    (if is_word (codes "as") word then and_then (qualified_symbol d scope head) (λ s. applied_symbol d scope s ps) else Err (refused out_of_scope))

-- a form by its reserved word
abbrev pub reserved : Declarations → List Variable → List ℕ → Parts → Elaborated Sorted
reserved d scope w ps =
    if bytes_eq w (codes "let") then let_form d scope ps else
    (if bytes_eq w (codes "match") then match_form d scope ps else
    (if bytes_eq w (codes "!") then annotated d scope ps else
    (if bytes_eq w (codes "as") then and_then (qualified_symbol d scope ps) (lone_symbol d) else
    (if bytes_eq w (codes "forall") then quantified_form d scope Forall ps else
    (if bytes_eq w (codes "exists") then quantified_form d scope Exists ps else Err (refused out_of_scope))))))

-- a list that begins with an atom: a form with a reserved word, or an application
abbrev pub headed : Declarations → List Variable → Atom → Parts → Elaborated Sorted
headed d scope (symbol w) ps = if is_reserved w then reserved d scope w ps else application d scope w ps
headed d scope (quoted w) ps = application d scope w ps
headed d scope (keyword w) ps = Err (refused out_of_scope)
headed d scope (text w) ps = Err (refused out_of_scope)
headed d scope (numeral n) ps = Err (refused out_of_scope)
headed d scope (decimal w) ps = Err (refused out_of_scope)
headed d scope (binary w) ps = Err (refused out_of_scope)
headed d scope (hexadecimal w) ps = Err (refused out_of_scope)

-- what a list means, by the parts right under it
abbrev pub list_meaning : Declarations → Parts → List Variable → Elaborated Sorted
list_meaning d no_parts scope = Err (refused out_of_scope)
list_meaning d (with_part (atom_part a) ps) scope = headed d scope a ps
list_meaning d (with_part (list_part head m) ps) scope = qualified d scope head ps

abbrev mutual
  -- the expression with what each list of it means
  pub part_of : Declarations → Sexpr → Part
  part_of d (leaf a) = atom_part a
  part_of d (list es) = list_part (parts_of d es) (list_meaning d (parts_of d es))

  pub parts_of : Declarations → Sexprs → Parts
  parts_of d none = no_parts
  parts_of d (more e es) = with_part (part_of d e) (parts_of d es)

-- the formula and the sort of an expression where these variables are in scope, or its first error, or the sort that it needs first
-- of those that are not there
abbrev pub elaborated : Declarations → List Variable → Sexpr → Elaborated Sorted
elaborated d scope e = meaning_of_part d scope (part_of d e)
