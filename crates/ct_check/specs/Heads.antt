-- What a list means, by what stands at its head.
use Rattle.std.specs.Prelude.{◌≡◌, ◌≤◌, ◌∷◌, ℕ, List, [], length, Option, Some, None, Result, Ok, Err}
use Rattle.ct_generics.specs.Expression.{Expression}
use Rattle.ct_sorts.specs.declared.ids.SortId.{SortId}
use Rattle.ct_sorts.specs.declared.ids.Symbol.TheVariants.{GenCtor, Sel}
use Rattle.ct_sorts.specs.Declarations.{Declarations, bool_sort}
use Rattle.ct_sorts.specs.Lookup.{IsSymbol}
use Rattle.ct_formulas.specs.Formula.{Formulas}
use Rattle.ct_instances.specs.declared.among.NamedCtor.TheVariants.{Generic}
use Rattle.ct_instances.specs.Among.{ctor_among, field_among}
use Rattle.ct_instances.specs.Fields.{generic_fields, generic_params}
use Rattle.ct_instances.specs.Matching.{Assignment, unmatched, sorts_for}
use Rattle.ct_names.specs.declared.needs.Needs.{Needs}
use Rattle.ct_names.specs.declared.stop.Stop.{Stop}
use Rattle.ct_names.specs.declared.stop.Stop.TheVariants as stop
use Rattle.ct_names.specs.Needs.{Grows, CannotHave}
use Rattle.ct_names.specs.Outcome.{Elaborated, Sorted, and_then, step, refused, missing}
use Rattle.ct_names.specs.Refusals.{wrong_count}
use Rattle.ct_names.specs.Parts.{Parts}
use Rattle.ct_names.specs.Sorts.{sort_there}
use Rattle.ct_names.specs.Symbols.{argument_sorts, symbol_applied, field_sort_id}
use Rattle.ct_names.specs.Variables.{Variable}
use Rattle.ct_names.specs.Elaboration.{let_form, match_form, annotated, quantified_form, lone_symbol, of_one_sort, connected, choice_form, instance_of, constructed, own}
use Rattle.ct_check.specs.declared.callees.Callee.{Callee}
use Rattle.ct_check.specs.declared.callees.Callee.TheVariants.{Symbol, Tester, Connective}
use Rattle.ct_check.specs.declared.heads.Head.{Head}
use Rattle.ct_check.specs.declared.heads.Head.TheVariants.{Let, Match, Annotation, Quantified, Whole, Call, GenericCtor, Part, Equation, Choice}
use Rattle.ct_check.specs.declared.parts.Part.{Part as PartOf}
use Rattle.ct_check.specs.declared.parts.Part.TheVariants.{Field, Test}
use Rattle.ct_check.specs.Callees.{called, callee_formula, callee_result, tester_formula, IsCallee}
use Rattle.ct_check.specs.Expected.{Expectation, these, same, choice, fields, owner, expected_by, chosen}
use Rattle.ct_check.specs.GenericTerms.{generic_term, part, ctor_of_part, IsPartDeclared}

-- the list means this, where its other items are these
abbrev pub headed_by : Declarations → List Variable → Head → Parts → Elaborated Sorted
headed_by d scope Let ps = let_form d scope ps
headed_by d scope Match ps = match_form d scope ps
headed_by d scope Annotation ps = annotated d scope ps
headed_by d scope (Quantified q) ps = quantified_form d scope q ps
headed_by d scope (Whole s) ps = lone_symbol d s
headed_by d scope (Call f) ps = called d scope f ps
headed_by d scope (GenericCtor g i) ps = generic_term d scope g i ps
headed_by d scope (Part p) ps = part d scope p ps
headed_by d scope (Equation o) ps = and_then (of_one_sort d scope ps) (λ ts. Ok (connected o ts, bool_sort))
headed_by d scope Choice ps = choice_form d scope ps

-- it takes so many arguments
abbrev pub TakesMany : Declarations → Callee → ℕ → Type 0
TakesMany d (Symbol s) n = length (argument_sorts d s) ≡ n
TakesMany d (Tester c) n = n ≡ 1
TakesMany d (Connective o) n = Unit {0}

abbrev pub HasCount : Declarations → Head → ℕ → Type 0
HasCount d Let n = Unit {0}
HasCount d Match n = Unit {0}
HasCount d Annotation n = Unit {0}
HasCount d (Quantified q) n = Unit {0}
HasCount d (Whole s) n = Unit {0}
HasCount d (Call f) n = TakesMany d f n
HasCount d (GenericCtor g i) n = length (generic_fields d g i) ≡ n
HasCount d (Part p) n = n ≡ 1
HasCount d (Equation o) n = 1 ≤ n
HasCount d Choice n = n ≡ 3

-- what is expected of its arguments
abbrev pub expected_at : Declarations → Head → ℕ → Expectation
expected_at d (Call f) n = expected_by d f n
expected_at d (GenericCtor g i) n = fields (generic_fields d g i) (unmatched (generic_params d g))
expected_at d (Part p) n = owner (ctor_of_part p) None
expected_at d (Equation o) n = same None
expected_at d Choice n = choice
expected_at d Let n = choice
expected_at d Match n = choice
expected_at d Annotation n = choice
expected_at d (Quantified q) n = choice
expected_at d (Whole s) n = choice

-- what the arguments that are met say: the sort that they have, that of the last of them, what parameters were matched with
abbrev pub common_in : Expectation → Elaborated SortId
common_in (same (Some s)) = Ok s
common_in (same None) = Err (refused wrong_count)
common_in (these sorts) = Err (refused wrong_count)
common_in choice = Err (refused wrong_count)
common_in (fields rest m) = Err (refused wrong_count)
common_in (owner ctor last) = Err (refused wrong_count)

abbrev pub owner_in : Expectation → Elaborated SortId
owner_in (owner ctor (Some s)) = Ok s
owner_in (owner ctor None) = Err (refused wrong_count)
owner_in (these sorts) = Err (refused wrong_count)
owner_in choice = Err (refused wrong_count)
owner_in (fields rest m) = Err (refused wrong_count)
owner_in (same s) = Err (refused wrong_count)

abbrev pub assignment_in : Expectation → Assignment
assignment_in (fields rest m) = m
assignment_in (these sorts) = None ∷ []
assignment_in (same s) = None ∷ []
assignment_in choice = None ∷ []
assignment_in (owner ctor last) = None ∷ []

-- for a constructor of a generic there is a place for each parameter
abbrev pub HasPlaces : Declarations → Head → Expectation → Type 0
HasPlaces d (GenericCtor g i) x = length (assignment_in x) ≡ generic_params d g
HasPlaces d Let x = Unit {0}
HasPlaces d Match x = Unit {0}
HasPlaces d Annotation x = Unit {0}
HasPlaces d (Quantified q) x = Unit {0}
HasPlaces d (Whole s) x = Unit {0}
HasPlaces d (Call f) x = Unit {0}
HasPlaces d (Part p) x = Unit {0}
HasPlaces d (Equation o) x = Unit {0}
HasPlaces d Choice x = Unit {0}

-- a field or a test of the one argument that is met
abbrev pub part_with : Declarations → PartOf → Formulas → SortId → Elaborated Sorted
part_with d (Field g i k) ts s = and_then (step (own (field_among d g i k s))) (λ n. Ok (symbol_applied (Sel n) ts, field_sort_id d n))
part_with d (Test g i) ts s = and_then (step (own (ctor_among d (Generic g i) s))) (λ c. Ok (tester_formula c ts, bool_sort))

-- it with arguments that are met
abbrev pub finished : Declarations → Head → Formulas × Expectation → Elaborated Sorted
finished d (Call f) r = Ok (callee_formula f r.0, callee_result d f)
finished d (GenericCtor g i) r =
    and_then (step (instance_of g (sorts_for (assignment_in r.1)))) (λ e.
    and_then (sort_there d e) (λ s.
    Ok (constructed s r.0 (ctor_among d (Generic g i) s))))
finished d (Part p) r = and_then (owner_in r.1) (part_with d p r.0)
finished d (Equation o) r = Ok (connected o r.0, bool_sort)
finished d Choice r = and_then (common_in r.1) (λ s. Ok (chosen r.0, s))
finished d Let r = Err (refused wrong_count)
finished d Match r = Err (refused wrong_count)
finished d Annotation r = Err (refused wrong_count)
finished d (Quantified q) r = Err (refused wrong_count)
finished d (Whole s) r = Err (refused wrong_count)

-- what the head is, or what stands first, leads to what the whole comes to, also where more sorts are there then
abbrev pub LeadsTo : {X : Type 0} → Needs → Declarations → (Declarations → Elaborated Sorted) → (Declarations → X → Elaborated Sorted) → Result X Stop → Type 0
LeadsTo needs d whole next (Ok h) = (later : Declarations) → Grows later d → whole later ≡ next later h
LeadsTo needs d whole next (Err (stop.Refused n)) = whole d ≡ Err (refused n)
LeadsTo needs d whole next (Err stop.Missing) = (e : Expression) × CannotHave needs d e × (whole d ≡ Err (missing e))
LeadsTo needs d whole next (Err stop.NoMemory) = Unit {0}

-- the symbol at the head is declared
abbrev pub IsHeadDeclared : Declarations → Head → Type 0
IsHeadDeclared d Let = Unit {0}
IsHeadDeclared d Match = Unit {0}
IsHeadDeclared d Annotation = Unit {0}
IsHeadDeclared d (Quantified q) = Unit {0}
IsHeadDeclared d (Whole s) = IsSymbol d s
IsHeadDeclared d (Call f) = IsCallee d f
IsHeadDeclared d (GenericCtor g i) = IsSymbol d (GenCtor g i)
IsHeadDeclared d (Part p) = IsPartDeclared d p
IsHeadDeclared d (Equation o) = Unit {0}
IsHeadDeclared d Choice = Unit {0}

-- it has arguments of expected sorts
abbrev pub TakesArguments : Head → Type 0
TakesArguments Let = ⊥
TakesArguments Match = ⊥
TakesArguments Annotation = ⊥
TakesArguments (Quantified q) = ⊥
TakesArguments (Whole s) = ⊥
TakesArguments (Call f) = Unit {0}
TakesArguments (GenericCtor g i) = Unit {0}
TakesArguments (Part p) = Unit {0}
TakesArguments (Equation o) = Unit {0}
TakesArguments Choice = Unit {0}
