-- The variables of a quantifier, step by step: the sort of one, the sorts one after the other, and what the whole comes to then.
use Rattle.std.proofs.Common.{◌≡◌, ℕ, ◌+◌, ◌<◌, Bool, true, false, not, ◌&&◌, ◌==◌, List, [], ◌∷◌, ◌++◌, length, map, take, drop, get_or, nat_le, Option, Result, Vec, Global, Ok, Err, refl, sym, ◌∙◌, ap, subst}
use Rattle.ct_sexpr.specs.declared.sexpr.Sexpr.{Sexpr, List as list_in_memory}
use Rattle.ct_sexpr.specs.Expression.{Expression}
use Rattle.ct_sexpr.specs.View.{expression_of, expressions_of}
use Rattle.ct_sorts.specs.declared.ids.SortId.{SortId}
use Rattle.ct_sorts.specs.Consistent.{IsConsistent}
use Rattle.ct_sorts.specs.Declarations.{Declarations, bool_sort}
use Rattle.ct_listing.specs.Closed.{ClosedValue}
use Rattle.ct_listing.specs.Listable.{is_listable}
use Rattle.ct_formulas.specs.declared.tree.Quantifier.{Quantifier}
use Rattle.ct_formulas.specs.Choices.{choices_of, most_choices}
use Rattle.ct_formulas.specs.Formula as formula
use Rattle.ct_formulas.specs.Formula.{Formula, bind}
use Rattle.ct_names.specs.declared.needs.Needs.{Needs}
use Rattle.ct_names.specs.declared.stop.Stop.{Stop}
use Rattle.ct_names.specs.declared.stop.Stop.TheVariants as stop
use Rattle.ct_names.specs.Answer.{StopsAt, ContinuesTo, as_it_is}
use Rattle.ct_names.specs.Forms.{are_bindings, bound_names}
use Rattle.ct_names.specs.Needs.{Grows, Reaches}
use Rattle.ct_names.specs.Outcome.{Elaborated, Halt, Sorted, and_then, unless_halted, of_sort, is_sort, refused, missing}
use Rattle.ct_names.specs.Bounds.{variable_of}
use Rattle.ct_names.specs.declared.variables.BoundVariable.{BoundVariable}
use Rattle.ct_names.specs.Parts.{Part, Parts, list_part, with_part, no_parts, count}
use Rattle.ct_names.specs.Refusals.{repeated_variable, too_many_values, wrong_sort, out_of_scope}
use Rattle.ct_names.specs.Sorts.{sort_of}
use Rattle.ct_names.specs.Variables.{Variable, variables, present_names, has_repeated}
use Rattle.ct_names.specs.Elaboration.{part_of, parts_of, list_meaning, meaning_of_part, elaborated, listable_sort, listable_sorts, quantified_of, quantified_form}
use Rattle.ct_names.proofs.NeedLemmas.{reaches_grows, reaches_first, reaches_same, reaches_further}
use Rattle.ct_names.proofs.PartLemmas.{part_of_list, take_item}
use Rattle.ct_names.proofs.StayLemmas.{Stays, stays_ok, stays_then, stays_unless, expression_same}
use Rattle.ct_names.proofs.StayListable.{AreVariableSorts, choices_stay, listable_sorts_stay}
use Rattle.ct_check.specs.declared.quantifiers.QuantifiedVariables.{QuantifiedVariables}
use Rattle.ct_check.specs.Binders.{with_names}
use Rattle.ct_check.specs.Heads.{LeadsTo}
use Rattle.ct_check.specs.Quantifiers.{few_listable_sorts, quantified_with, quantified_of_names}
use Rattle.ct_check.proofs.ArgumentSteps.{with_next}
use Rattle.ct_check.proofs.StepLemmas.{Stands, next_is, next_reaches, stops_with, reaches_with}

-- ---- one variable

abbrev pub if_listable : Declarations → SortId → Elaborated SortId
if_listable d s = unless_halted (is_listable d s) out_of_scope (Ok s)

pub pair_sort : (d : Declarations) (binding : Sexpr) (items : Vec Sexpr Global) (slice : List Sexpr) → binding ≡ list_in_memory items → slice ≡ items.items → (x t : Sexpr) → slice ≡ x ∷ (t ∷ []) → listable_sort d (part_of d (expression_of binding)) ≡ and_then (sort_of d (expression_of t)) (if_listable d)
pair_sort d binding items slice is same x t two =
    ap (λ (p : Part). listable_sort d p) (part_of_list d binding items slice is same)
    ∙ ap (λ (xs : List Sexpr). listable_sort d (list_part (parts_of d (expressions_of xs)) (list_meaning d (parts_of d (expressions_of xs))))) two
    ∙ ap (λ (e : Expression). and_then (sort_of d e) (if_listable d)) (expression_same d (expression_of t))

-- ---- the sorts one after the other

abbrev pub so_far : List Sexpr → Declarations → Elaborated (List SortId)
so_far xs n = listable_sorts n (parts_of n (expressions_of xs))

abbrev sort_at : Declarations → Sexpr → Elaborated SortId
sort_at n b = listable_sort n (part_of n (expression_of b))

abbrev with_last : Declarations → Sexpr → List SortId → Elaborated (List SortId)
with_last n b sorts = and_then (sort_at n b) (λ s. Ok (sorts ++ s ∷ []))

one_before : (o : Elaborated SortId) (r : Elaborated (List SortId)) (p : Elaborated SortId) → and_then o (λ s. and_then (and_then r (λ ss. and_then p (λ t. Ok (ss ++ t ∷ [])))) (λ ss. Ok (s ∷ ss))) ≡ and_then (and_then o (λ s. and_then r (λ ss. Ok (s ∷ ss)))) (λ ss. and_then p (λ t. Ok (ss ++ t ∷ [])))
one_before (Err h) r p = refl
one_before (Ok s) (Err h) p = refl
one_before (Ok s) (Ok ss) (Err h) = refl
one_before (Ok s) (Ok ss) (Ok t) = refl

first_stops : {X Y : Type 0} (r : Elaborated X) (f : X → Y) (h : Halt) → and_then r (λ x. Ok (f x)) ≡ Err h → r ≡ Err h
first_stops (Ok x) f h e = absurd cc
first_stops (Err k) f h e = let same : k ≡ h = cc in ap (λ (z : Halt). Err z) same

module _ (n : Declarations) where
  push : (xs : List Sexpr) (b : Sexpr) → so_far (xs ++ b ∷ []) n ≡ and_then (so_far xs n) (with_last n b)
  push [] b = refl
  push (x ∷ xs) b =
      ap (λ (rest : Elaborated (List SortId)). and_then (sort_at n x) (λ s. and_then rest (λ ss. Ok (s ∷ ss)))) (push xs b)
      ∙ one_before (sort_at n x) (so_far xs n) (sort_at n b)

  pub stop_before : (xs ys : List Sexpr) (h : Halt) → so_far xs n ≡ Err h → so_far (xs ++ ys) n ≡ Err h
  stop_before [] ys h e = absurd cc
  stop_before (x ∷ xs) ys h e = by (sort_at n x) e (λ f. stop_before xs ys h f)
    where
      by : (o : Elaborated SortId) → and_then o (λ s. and_then (so_far xs n) (λ ss. Ok (s ∷ ss))) ≡ Err h → (so_far xs n ≡ Err h → so_far (xs ++ ys) n ≡ Err h) → and_then o (λ s. and_then (so_far (xs ++ ys) n) (λ ss. Ok (s ∷ ss))) ≡ Err h
      by (Err k) f further = f
      by (Ok s) f further = ap (λ (r : Elaborated (List SortId)). and_then r (λ ss. Ok (s ∷ ss))) (further (first_stops (so_far xs n) (λ ss. s ∷ ss) h f))

module _ (needs : Needs) (first now : Declarations) (c : IsConsistent now) (all : List Sexpr) (i : ℕ) (b : Sexpr) (h : i < length all) (at : b ≡ get_or all i b) (sorts : List SortId)
    (value : so_far (take i all) now ≡ Ok sorts) (reaches : Reaches (so_far (take i all)) first now) (later : Declarations) (next : Reaches (λ n. listable_sort n (part_of n (expression_of b))) now later) where
  stands : Stands (so_far (take i all)) first now sorts
  stands = record { reaches = reaches; stays = λ n grows. (listable_sorts_stay n now grows c (expressions_of (take i all)) sorts value).0 }

  reached : Reaches (so_far (take i all ++ b ∷ [])) first later
  reached =
      reaches_same (λ n. and_then (so_far (take i all) n) (with_last n b)) (so_far (take i all ++ b ∷ [])) first later (λ n _. push n (take i all) b)
      (next_reaches (so_far (take i all)) (λ n. with_last n b) first now sorts stands later (reaches_first (λ n. sort_at n b) (λ n s. Ok (sorts ++ s ∷ [])) now later next))

  stop_all : (d : Declarations) (k : Halt) → so_far (take i all ++ b ∷ []) d ≡ Err k → so_far all d ≡ Err k
  stop_all d k f = ap (λ (xs : List Sexpr). so_far xs d) (with_next all i b h at) ∙ stop_before d (take i all ++ b ∷ []) (drop (i + 1) all) k f

  pub sorts_reach : Reaches (so_far all) first later
  sorts_reach = reaches_with (so_far (take i all ++ b ∷ [])) (so_far all) first later (λ d k _ f. stop_all d k f) reached

  more_is : so_far (take i all ++ b ∷ []) later ≡ with_last later b sorts
  more_is = push later (take i all) b ∙ next_is (so_far (take i all)) (λ n. with_last n b) first now sorts stands later (reaches_grows (λ n. sort_at n b) now later next)

  pub sort_stops : (error : Stop) → StopsAt needs later (as_it_is {X = SortId}) (sort_at later b) (Err error) → StopsAt needs later (λ (found : Vec SortId Global). found.items) (so_far all later) (Err error)
  sort_stops error stops =
      stops_with needs later (as_it_is {X = SortId}) (λ (found : Vec SortId Global). found.items) (sort_at later b) (so_far all later) error
      (λ k f. stop_all later k (more_is ∙ ap (λ (o : Elaborated SortId). and_then o (λ s. Ok (sorts ++ s ∷ []))) f)) stops

  pub sort_met : (s : SortId) → sort_at later b ≡ Ok s → so_far (take (i + 1) all) later ≡ Ok (sorts ++ s ∷ [])
  sort_met s f =
      ap (λ (xs : List Sexpr). so_far xs later) (take_item all i b h at) ∙ more_is
      ∙ ap (λ (o : Elaborated SortId). and_then o (λ t. Ok (sorts ++ t ∷ []))) f

  pub sort_reaches : Reaches (so_far (take (i + 1) all)) first later
  sort_reaches = subst (λ (xs : List Sexpr). Reaches (so_far xs) first later) (sym (take_item all i b h at)) reached

-- ---- where there are few lists of values

abbrev pub if_few : Declarations → List SortId → Elaborated (List SortId)
if_few d sorts = unless_halted (nat_le (length (choices_of d sorts)) most_choices) too_many_values (Ok sorts)

pub few_stays : (later d : Declarations) → Grows later d → IsConsistent d → (xs : List Sexpr) → Stays (AreVariableSorts d) (few_listable_sorts d (parts_of d (expressions_of xs))) (few_listable_sorts later (parts_of later (expressions_of xs)))
few_stays later d grows c xs =
    stays_then (AreVariableSorts d) (AreVariableSorts d) (so_far xs d) (so_far xs later) (if_few d) (if_few later) (listable_sorts_stay later d grows c (expressions_of xs))
    (λ sorts all. stays_unless (AreVariableSorts d) (nat_le (length (choices_of d sorts)) most_choices) (nat_le (length (choices_of later sorts)) most_choices) too_many_values (Ok sorts) (Ok sorts)
    (ap (λ (vss : List (List ClosedValue)). nat_le (length vss) most_choices) (choices_stay later d grows c sorts all)) (stays_ok (AreVariableSorts d) sorts all))

-- ---- the names, and what follows

module _ (d : Declarations) (scope : List Variable) (q : Quantifier) (bindings : Parts) (body : Part) where
  -- what follows the names
  abbrev by_names : List (Option (List ℕ)) → Elaborated Sorted
  by_names names =
      and_then (listable_sorts d bindings) (λ sorts.
      unless_halted (nat_le (length (choices_of d sorts)) most_choices) too_many_values
      (and_then (of_sort bool_sort (meaning_of_part d (bind (variables names sorts) scope) body)) (λ t. Ok (formula.Quantified q sorts t, bool_sort))))

  after : (sorts : List SortId) (o : Elaborated Sorted) → and_then (of_sort bool_sort o) (λ t. Ok (formula.Quantified q sorts t, bool_sort)) ≡ and_then o (quantified_with q sorts)
  after sorts (Ok t) = refl
  after sorts (Err h) = refl

  same_after : (names : List (Option (List ℕ))) → by_names names ≡ quantified_of_names d scope q names bindings body
  same_after names = by (listable_sorts d bindings)
    where
      tested : (sorts : List SortId) (few : Bool) → unless_halted few too_many_values (and_then (of_sort bool_sort (meaning_of_part d (bind (variables names sorts) scope) body)) (λ t. Ok (formula.Quantified q sorts t, bool_sort))) ≡ and_then (unless_halted few too_many_values (Ok sorts)) (λ ss. and_then (meaning_of_part d (bind (variables names ss) scope) body) (quantified_with q ss))
      tested sorts true = after sorts (meaning_of_part d (bind (variables names sorts) scope) body)
      tested sorts false = refl

      by : (o : Elaborated (List SortId)) → and_then o (λ sorts. unless_halted (nat_le (length (choices_of d sorts)) most_choices) too_many_values (and_then (of_sort bool_sort (meaning_of_part d (bind (variables names sorts) scope) body)) (λ t. Ok (formula.Quantified q sorts t, bool_sort)))) ≡ and_then (and_then o (if_few d)) (λ ss. and_then (meaning_of_part d (bind (variables names ss) scope) body) (quantified_with q ss))
      by (Ok sorts) = tested sorts (nat_le (length (choices_of d sorts)) most_choices)
      by (Err h) = refl

  pub quantified-names : quantified_of d scope q bindings body ≡ with_names bindings (λ names. quantified_of_names d scope q names bindings body)
  quantified-names = ap (λ (o : Elaborated Sorted). unless_halted (are_bindings bindings && not (count bindings == 0)) out_of_scope (unless_halted (not (has_repeated (present_names (bound_names bindings)))) repeated_variable o)) (same_after (bound_names bindings))

-- what stops before
pub leads_before : {X Y : Type 0} (needs : Needs) (d : Declarations) (whole : Declarations → Elaborated Sorted) (part : Elaborated Sorted) (next : Declarations → X → Elaborated Sorted) (other : Y → Elaborated Sorted) (e : Stop) → whole d ≡ part → ContinuesTo needs d part other (Err e) → LeadsTo needs d whole next (Err e)
leads_before needs d whole part next other (stop.Refused n) same h = same ∙ h
leads_before needs d whole part next other stop.Missing same h = (h.0, h.1, same ∙ h.2)
leads_before needs d whole part next other stop.NoMemory same h = tt

pub leads_stop : {X Y Z : Type 0} (needs : Needs) (d : Declarations) (whole : Declarations → Elaborated Sorted) (part : Elaborated Z) (next : Declarations → X → Elaborated Sorted) (view : Y → Z) (e : Stop) → ((h : Halt) → part ≡ Err h → whole d ≡ Err h) → StopsAt needs d view part (Err e) → LeadsTo needs d whole next (Err e)
leads_stop needs d whole part next view (stop.Refused n) on h = on (refused n) h
leads_stop needs d whole part next view stop.Missing on h = (h.0, h.1, on (missing h.0) h.2)
leads_stop needs d whole part next view stop.NoMemory on h = tt

pub leads_memory : {X : Type 0} (needs : Needs) (d : Declarations) (whole : Declarations → Elaborated Sorted) (next : Declarations → X → Elaborated Sorted) (e : Stop) → e ≡ stop.NoMemory → LeadsTo needs d whole next (Err e)
leads_memory needs d whole next (stop.Refused n) is = absurd cc
leads_memory needs d whole next stop.Missing is = absurd cc
leads_memory needs d whole next stop.NoMemory is = tt

-- the list of variables has its names, and what follows are their sorts
module _ (whole : Declarations → Elaborated Sorted) (scope : List Variable) (q : Quantifier) (xs : List Sexpr) (body : Expression) (names : List (Option (List ℕ)))
    (named : (n : Declarations) → whole n ≡ quantified_of_names n scope q names (parts_of n (expressions_of xs)) (part_of n body)) (first now : Declarations) (reaches : Reaches (λ n. few_listable_sorts n (parts_of n (expressions_of xs))) first now) where
  abbrev then_body : Declarations → List SortId → Elaborated Sorted
  then_body n sorts = and_then (meaning_of_part n (bind (variables names sorts) scope) (part_of n body)) (quantified_with q sorts)

  pub variables_reach : Reaches whole first now
  variables_reach =
      reaches_same (λ n. and_then (few_listable_sorts n (parts_of n (expressions_of xs))) (then_body n)) whole first now (λ n _. named n)
      (reaches_first (λ n. few_listable_sorts n (parts_of n (expressions_of xs))) then_body first now reaches)

  pub variables_stop : (h : Halt) → few_listable_sorts now (parts_of now (expressions_of xs)) ≡ Err h → whole now ≡ Err h
  variables_stop h e = named now ∙ ap (λ (o : Elaborated (List SortId)). and_then o (then_body now)) e

  pub variables_met : IsConsistent now → (sorts : List SortId) → few_listable_sorts now (parts_of now (expressions_of xs)) ≡ Ok sorts → (later : Declarations) → Grows later now → whole later ≡ then_body later sorts
  variables_met c sorts e later grows = named later ∙ ap (λ (o : Elaborated (List SortId)). and_then o (then_body later)) (few_stays later now grows c xs sorts e).0

-- ---- the body

-- a quantifier by its list of variables and its body
abbrev pub with_list : List Variable → Quantifier → Sexpr → Expression → Declarations → Elaborated Sorted
with_list scope q list body d = quantified_form d scope q (with_part (part_of d (expression_of list)) (with_part (part_of d body) no_parts))

-- what follows its variables
abbrev pub with_body : List Variable → Quantifier → Expression → QuantifiedVariables → Declarations → Elaborated Sorted
with_body scope q body r d = and_then (elaborated d (bind (map variable_of r.variables.items) scope) body) (quantified_with q r.sorts.items)

module _ (whole : Declarations → Elaborated Sorted) (scope : List Variable) (q : Quantifier) (list : Sexpr) (body : Expression) (items : (n : Declarations) → whole n ≡ with_list scope q list body n) (r : QuantifiedVariables) (first now : Declarations)
    (leads : (n : Declarations) → Grows n now → with_list scope q list body n ≡ with_body scope q body r n) (reaches : Reaches (with_list scope q list body) first now) (bound : List BoundVariable) (same : bound ≡ r.variables.items) where
  pub body_variables : Reaches whole first now
  body_variables = reaches_same (with_list scope q list body) whole first now (λ n _. items n) reaches

  abbrev inner : List Variable
  inner = bind (map variable_of bound) scope

  whole_is : (n : Declarations) → Grows n now → whole n ≡ and_then (elaborated n inner body) (quantified_with q r.sorts.items)
  whole_is n grows = items n ∙ leads n grows ∙ ap (λ (bs : List BoundVariable). and_then (elaborated n (bind (map variable_of bs) scope) body) (quantified_with q r.sorts.items)) (sym same)

  module _ (later : Declarations) (next : Reaches (λ n. elaborated n inner body) now later) where
    pub body_reached : Reaches whole first later
    body_reached =
        reaches_further whole first now later body_variables
        (reaches_same (λ n. and_then (elaborated n inner body) (quantified_with q r.sorts.items)) whole now later whole_is
        (reaches_first (λ n. elaborated n inner body) (λ n. quantified_with q r.sorts.items) now later next))

    pub body_stop : (h : Halt) → elaborated later inner body ≡ Err h → whole later ≡ Err h
    body_stop h e = whole_is later (reaches_grows (λ n. elaborated n inner body) now later next) ∙ ap (λ (o : Elaborated Sorted). and_then o (quantified_with q r.sorts.items)) e

    pub body_met : (t : Sorted) → elaborated later inner body ≡ Ok t → whole later ≡ quantified_with q r.sorts.items t
    body_met t e = whole_is later (reaches_grows (λ n. elaborated n inner body) now later next) ∙ ap (λ (o : Elaborated Sorted). and_then o (quantified_with q r.sorts.items)) e

module _ (q : Quantifier) (sorts : List SortId) (t : Formula) (s : SortId) where
  abbrev by_sort : Bool → Elaborated Sorted
  by_sort is = and_then (unless_halted is wrong_sort (Ok t)) (λ u. Ok (formula.Quantified q sorts u, bool_sort))

  pub body_is : (is : Bool) → is_sort s bool_sort ≡ is → quantified_with q sorts (t, s) ≡ by_sort is
  body_is is e = ap by_sort e
