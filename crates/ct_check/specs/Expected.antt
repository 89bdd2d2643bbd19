-- Arguments one after the other, each of the sort that is expected at its place.
use Rattle.std.specs.Prelude.{◌≡◌, ℕ, List, [], ◌∷◌, drop, map, All, Option, Some, None, IfSome, option_map, Ok, Err, if◌then◌else◌}
use Rattle.ct_generics.specs.Expression.{Expression}
use Rattle.ct_sorts.specs.declared.ids.SortId.{SortId}
use Rattle.ct_sorts.specs.Declarations.{Declarations, IsSort, bool_sort}
use Rattle.ct_formulas.specs.Formula as formula
use Rattle.ct_formulas.specs.Formula.{Formula, Formulas, no_formulas, with_formula}
use Rattle.ct_formulas.specs.TreeFormula.{formulas_of_trees}
use Rattle.ct_instances.specs.declared.among.NamedCtor.{NamedCtor}
use Rattle.ct_instances.specs.Among.{origin_of, ctor_among, IsNamedCtor}
use Rattle.ct_instances.specs.Matching.{Assignment, matched}
use Rattle.ct_instances.specs.Left.{fields_left, assignment_of, IsMatchingOf}
use Rattle.ct_names.specs.Outcome.{Outcome, Elaborated, Sorted, and_then, unless_refused, step, is_sort}
use Rattle.ct_names.specs.Refusals.{wrong_sort}
use Rattle.ct_names.specs.Variables.{Variable}
use Rattle.ct_names.specs.Parts.{Parts, no_parts, with_part}
use Rattle.ct_names.specs.Elaboration.{meaning_of_part}
use Rattle.ct_names.specs.Symbols.{argument_sorts, ctor_sort}
use Rattle.ct_check.specs.declared.callees.Callee.{Callee}
use Rattle.ct_check.specs.declared.callees.Callee.TheVariants.{Symbol, Tester, Connective}
use Rattle.ct_check.specs.declared.expected.Expected.{Expected}
use Rattle.ct_check.specs.declared.expected.Expected.TheVariants as program
use Rattle.ct_check.specs.declared.arguments.Arguments.{Arguments}

-- what is expected of the arguments that come: these sorts; one sort of all; Bool and then two of one sort; the sorts of fields, over
-- what parameters were matched with; or one that has the constructor, as had the last
pub data Expectation : Type 0 where
  these : List SortId → Expectation
  same : Option SortId → Expectation
  choice : Expectation
  fields : List Expression → Assignment → Expectation
  owner : NamedCtor → Option SortId → Expectation

-- the expectation, where the sort meets it
abbrev pub if_met : {X : Type 0} → Option X → Outcome X
if_met None = Err wrong_sort
if_met (Some x) = Ok x

-- one sort of all, after an argument of this sort
abbrev pub next_same : Option SortId → SortId → Outcome Expectation
next_same None s = Ok (same (Some s))
next_same (Some first) s = unless_refused (is_sort s first) wrong_sort (Ok (same (Some s)))

-- what is expected after an argument of this sort
abbrev pub next_expected : Declarations → Expectation → SortId → Outcome Expectation
next_expected d (these []) s = Err wrong_sort
next_expected d (these (first ∷ sorts)) s = unless_refused (is_sort s first) wrong_sort (Ok (these sorts))
next_expected d (same first) s = next_same first s
next_expected d choice s = unless_refused (is_sort s bool_sort) wrong_sort (Ok (same None))
next_expected d (fields [] m) s = Err wrong_sort
next_expected d (fields (field ∷ rest) m) s = if_met (option_map (fields rest) (matched field (origin_of d s) m))
next_expected d (owner ctor last) s = if_met (option_map (λ c. owner ctor (Some s)) (ctor_among d ctor s))

-- the formulas of arguments that are expected, in order, and what is expected then
abbrev pub expected_terms : Declarations → List Variable → Expectation → Parts → Elaborated (Formulas × Expectation)
expected_terms d scope expected no_parts = Ok (no_formulas, expected)
expected_terms d scope expected (with_part p ps) =
    and_then (meaning_of_part d scope p) (λ t.
    and_then (step (next_expected d expected t.1)) (λ next.
    and_then (expected_terms d scope next ps) (λ rest.
    Ok (with_formula t.0 rest.0, rest.1))))

-- what is expected by a symbol, a tester or a connective
abbrev pub expected_by : Declarations → Callee → ℕ → Expectation
expected_by d (Symbol s) n = these (argument_sorts d s)
expected_by d (Tester c) n = same (Some (ctor_sort d c))
expected_by d (Connective o) n = same (Some bool_sort)

-- what the program expects
abbrev pub expectation_of : Declarations → Expected → Expectation
expectation_of d (program.These sorts place) = these (drop place sorts.items)
expectation_of d (program.Same first) = same first
expectation_of d program.Choice = choice
expectation_of d (program.Fields matching) = fields (fields_left d matching) (assignment_of d matching)
expectation_of d (program.Owner ctor last) = owner ctor last

-- it is about what is declared
abbrev pub IsExpectation : Declarations → Expected → Type 0
IsExpectation d (program.These sorts place) = Unit {0}
IsExpectation d (program.Same first) = Unit {0}
IsExpectation d program.Choice = Unit {0}
IsExpectation d (program.Fields matching) = IsMatchingOf d matching
IsExpectation d (program.Owner ctor last) = IsNamedCtor d ctor × IfSome last (IsSort d)

-- the program holds these formulas and what is expected
abbrev pub arguments_of : Declarations → Arguments → Formulas × Expectation
arguments_of d args = (formulas_of_trees args.trees.items, expectation_of d args.met)

-- the choice by the first of the formulas, which are three
abbrev pub chosen : Formulas → Formula
chosen no_formulas = formula.And no_formulas
chosen (with_formula c no_formulas) = formula.And no_formulas
chosen (with_formula c (with_formula t no_formulas)) = formula.And no_formulas
chosen (with_formula c (with_formula t (with_formula u ts))) = formula.Ite c t u
