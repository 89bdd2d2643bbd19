-- What lists mean by their heads.
use Rattle.std.proofs.Common.{◌≡◌, ℕ, ◌<◌, ◌≤◌, ◌==◌, ◌&&◌, Bool, true, false, not, List, [], ◌∷◌, length, slice_get, unwrap_or, option_map, Option, Some, None, is_some, Result, Ok, Err, Decides, codes, if◌then◌else◌, refl, sym, ◌∙◌, ap, ap₂, arith}
use Rattle.std.proofs.lemmas.Bool.Decides.{Decides-eqb}
use Rattle.ct_lemmas.proofs.Lists.{slice_get-there}
use Rattle.ct_sexpr.specs.declared.sexpr.Sexpr.{Sexpr}
use Rattle.ct_sexpr.specs.View.{expression_of, expressions_of}
use Rattle.ct_sexpr.specs.Atom.{symbol}
use Rattle.ct_sexpr.specs.Written.{is_reserved}
use Rattle.ct_sorts.specs.declared.ids.SortId.{SortId}
use Rattle.ct_sorts.specs.declared.ids.CtorId.{CtorId}
use Rattle.ct_sorts.specs.declared.ids.Symbol.{Symbol}
use Rattle.ct_sorts.specs.Declarations.{Declarations, Constructor, IsConstructor, bool_sort}
use Rattle.ct_formulas.specs.Formula as formula
use Rattle.ct_formulas.specs.Formula.{Formula, Formulas, with_formula, no_formulas}
use Rattle.ct_instances.specs.declared.among.NamedCtor.TheVariants.{Plain}
use Rattle.ct_instances.specs.Among.{if_of}
use Rattle.ct_names.specs.declared.needs.Needs.{Needs}
use Rattle.ct_names.specs.declared.operator.CoreOperator.{CoreOperator}
use Rattle.ct_names.specs.declared.stop.Stop.{Stop}
use Rattle.ct_names.specs.declared.stop.Stop.TheVariants as stop
use Rattle.ct_names.specs.declared.variables.Found.{Found}
use Rattle.ct_names.specs.Answer.{StopsAt}
use Rattle.ct_names.specs.Needs.{Grows}
use Rattle.ct_names.specs.Outcome.{Elaborated, Sorted, and_then, unless_halted, step, refused, is_sort, of_sort}
use Rattle.ct_names.specs.Refusals.{unknown_symbol, wrong_count, wrong_sort, out_of_scope}
use Rattle.ct_names.specs.Symbols.{symbol_of, operator_of, ctor_sort, argument_sorts}
use Rattle.ct_names.specs.Variables.{Variable, find}
use Rattle.ct_names.specs.Parts.{Part, Parts, with_part, no_parts, count}
use Rattle.ct_names.specs.Forms.{is_word}
use Rattle.ct_names.specs.Elaboration.{part_of, parts_of, meaning_of_part, list_meaning, connective, connected, takes, operated, application, global, headed, reserved, applied_symbol, applied_plain, tested_term, own, qualified, qualified_symbol, tester}
use Rattle.ct_names.proofs.NeedLemmas.{grows_itself}
use Rattle.ct_check.specs.declared.callees.Callee.TheVariants.{Symbol as SymbolOf, Tester, Connective}
use Rattle.ct_check.specs.declared.heads.Head.{Head}
use Rattle.ct_check.specs.Callees.{called, tester_formula}
use Rattle.ct_check.specs.Heads.{LeadsTo}
use Rattle.ct_check.proofs.ExpectedLemmas.{replicated_are}

-- ---- from one whole to another

pub leads_along : (needs : Needs) (d : Declarations) (whole other : Declarations → Elaborated Sorted) (next : Declarations → Head → Elaborated Sorted) (r : Result Head Stop) → ((n : Declarations) → Grows n d → whole n ≡ other n) → LeadsTo needs d other next r → LeadsTo needs d whole next r
leads_along needs d whole other next (Ok h) same leads = λ later grows. same later grows ∙ leads later grows
leads_along needs d whole other next (Err (stop.Refused n)) same leads = same d (grows_itself d) ∙ leads
leads_along needs d whole other next (Err stop.Missing) same leads = (leads.0, leads.1, same d (grows_itself d) ∙ leads.2)
leads_along needs d whole other next (Err stop.NoMemory) same leads = tt

-- a step that stops before the head is known
pub leads_stop : {X Y : Type 0} (needs : Needs) (d : Declarations) (view : X → Y) (first : Elaborated Y) (rest : Y → Elaborated Sorted) (whole : Declarations → Elaborated Sorted) (next : Declarations → Head → Elaborated Sorted) (e : Stop) → whole d ≡ and_then first rest → StopsAt needs d view first (Err e) → LeadsTo needs d whole next (Err e)
leads_stop needs d view first rest whole next (stop.Refused n) same stops = same ∙ ap (λ o. and_then o rest) stops
leads_stop needs d view first rest whole next stop.Missing same stops = (stops.0, stops.1, same ∙ ap (λ o. and_then o rest) stops.2)
leads_stop needs d view first rest whole next stop.NoMemory same stops = tt

-- ---- testers

equal_back : (a b : ℕ) → (a == b) ≡ (b == a)
equal_back a b = by (a == b) (b == a) (Decides-eqb a b) (Decides-eqb b a)
  where
    by : (x y : Bool) → Decides x (a ≡ b) → Decides y (b ≡ a) → x ≡ y
    by true true p q = refl
    by true false p q = sym (q.1 (sym (p.0 refl)))
    by false true p q = p.1 (sym (q.0 refl))
    by false false p q = refl

abbrev test_of : Formula → CtorId → Elaborated Sorted
test_of t k = Ok (formula.Test k t, bool_sort)

abbrev tests_of : CtorId → Formulas → Elaborated Sorted
tests_of c ts = Ok (tester_formula c ts, bool_sort)

-- one of a sort declared without parameters
pub tester-called : (d : Declarations) (scope : List Variable) (c : CtorId) (ps : Parts) → IsConstructor d c → count ps ≡ 1 → tested_term d scope (Plain c) ps ≡ called d scope (Tester c) ps
tester-called d scope c no_parts is h = absurd (omega (arith, h))
tester-called d scope c (with_part p (with_part q ps)) is h = absurd (omega (arith, h))
tester-called d scope c (with_part p no_parts) is h = by (meaning_of_part d scope p)
  where
    tested : (u : Sorted) (b : Bool) → and_then (step (own (if b then Some c else None))) (test_of u.0) ≡ and_then (and_then (unless_halted b wrong_sort (Ok u.0)) (λ t. and_then (Ok no_formulas) (λ ts. Ok (with_formula t ts)))) (tests_of c)
    tested u true = refl
    tested u false = refl

    by : (o : Elaborated Sorted) → and_then o (λ u. and_then (step (own (if_of u.1 c (slice_get d.ctors c.0)))) (test_of u.0)) ≡ and_then (and_then (of_sort (ctor_sort d c) o) (λ t. and_then (Ok no_formulas) (λ ts. Ok (with_formula t ts)))) (tests_of c)
    by (Err h) = refl
    by (Ok u) =
        ap (λ (x : Option Constructor). and_then (step (own (if_of u.1 c x))) (test_of u.0)) (slice_get-there d.ctors c.0 is).1
        ∙ tested u ((slice_get-there d.ctors c.0 is).0.sort.0 == u.1.0)
        ∙ ap (λ (b : Bool). and_then (and_then (unless_halted b wrong_sort (Ok u.0)) (λ t. and_then (Ok no_formulas) (λ ts. Ok (with_formula t ts)))) (tests_of c))
        (equal_back (slice_get-there d.ctors c.0 is).0.sort.0 u.1.0 ∙ ap (λ (x : Option Constructor). is_sort u.1 (unwrap_or (option_map (λ (k : Constructor). k.sort) x) (record { 0 = 0 }))) (sym (slice_get-there d.ctors c.0 is).1))

-- ---- names

-- a name that is no variable
abbrev pair_of : Found → ℕ × SortId
pair_of f = (f.number, f.sort)

unfound-map : (o : Option Found) → is_some (option_map pair_of o) ≡ is_some o
unfound-map None = refl
unfound-map (Some x) = refl

pub unfound : (r : Option Found) (v : Option (ℕ × SortId)) → option_map pair_of r ≡ v → is_some r ≡ false → is_some v ≡ false
unfound r v e n = ap (λ (o : Option (ℕ × SortId)). is_some o) (sym e) ∙ unfound-map r ∙ n

pub application-operator : (d : Declarations) (scope : List Variable) (name : List ℕ) (ps : Parts) (o : CoreOperator) → is_some (find scope name) ≡ false → operator_of name ≡ Some o → application d scope name ps ≡ unless_halted (takes o (count ps)) wrong_count (operated d scope o ps)
application-operator d scope name ps o none is =
    ap (λ b. unless_halted (not b) unknown_symbol (global d scope name (operator_of name) (symbol_of d name) ps)) none ∙ ap (λ x. global d scope name x (symbol_of d name) ps) is

pub application-global : (d : Declarations) (scope : List Variable) (name : List ℕ) (ps : Parts) → is_some (find scope name) ≡ false → operator_of name ≡ None → application d scope name ps ≡ global d scope name None (symbol_of d name) ps
application-global d scope name ps none is =
    ap (λ b. unless_halted (not b) unknown_symbol (global d scope name (operator_of name) (symbol_of d name) ps)) none ∙ ap (λ x. global d scope name x (symbol_of d name) ps) is

-- a list at the head of a list
pub qualified-tester : (d : Declarations) (scope : List Variable) (w : Part) (head ps : Parts) → is_word (codes "_") w ≡ true → qualified d scope (with_part w head) ps ≡ and_then (step (tester d head)) (λ k. tested_term d scope k ps)
qualified-tester d scope w head ps is_tester = ap (λ (b : Bool). if b then and_then (step (tester d head)) (λ k. tested_term d scope k ps) else (if is_word (codes "as") w then and_then (qualified_symbol d scope head) (λ s. applied_symbol d scope s ps) else Err (refused out_of_scope))) is_tester

pub qualified-as : (d : Declarations) (scope : List Variable) (w : Part) (head ps : Parts) → is_word (codes "_") w ≡ false → is_word (codes "as") w ≡ true → qualified d scope (with_part w head) ps ≡ and_then (qualified_symbol d scope head) (λ s. applied_symbol d scope s ps)
qualified-as d scope w head ps not_tester is_as =
    ap (λ (b : Bool). if b then and_then (step (tester d head)) (λ k. tested_term d scope k ps) else (if is_word (codes "as") w then and_then (qualified_symbol d scope head) (λ s. applied_symbol d scope s ps) else Err (refused out_of_scope))) not_tester
    ∙ ap (λ (b : Bool). if b then and_then (qualified_symbol d scope head) (λ s. applied_symbol d scope s ps) else Err (refused out_of_scope)) is_as

-- items of `as` and of a tester that are not two
pub tester-fewer : (d : Declarations) (items : List Sexpr) → length items < 2 → tester d (parts_of d (expressions_of items)) ≡ Err out_of_scope
tester-fewer d [] h = refl
tester-fewer d (a ∷ []) h = refl
tester-fewer d (a ∷ (b ∷ items)) h = absurd (omega arith)

pub tester-more : (d : Declarations) (items : List Sexpr) → 3 ≤ length items → tester d (parts_of d (expressions_of items)) ≡ Err out_of_scope
tester-more d [] h = absurd (omega arith)
tester-more d (a ∷ []) h = absurd (omega arith)
tester-more d (a ∷ (b ∷ [])) h = absurd (omega arith)
tester-more d (a ∷ (b ∷ (c ∷ items))) h = refl

pub qualified_symbol-fewer : (d : Declarations) (scope : List Variable) (items : List Sexpr) → length items < 2 → qualified_symbol d scope (parts_of d (expressions_of items)) ≡ Err (refused out_of_scope)
qualified_symbol-fewer d scope [] h = refl
qualified_symbol-fewer d scope (a ∷ []) h = refl
qualified_symbol-fewer d scope (a ∷ (b ∷ items)) h = absurd (omega arith)

pub qualified_symbol-more : (d : Declarations) (scope : List Variable) (items : List Sexpr) → 3 ≤ length items → qualified_symbol d scope (parts_of d (expressions_of items)) ≡ Err (refused out_of_scope)
qualified_symbol-more d scope [] h = absurd (omega arith)
qualified_symbol-more d scope (a ∷ []) h = absurd (omega arith)
qualified_symbol-more d scope (a ∷ (b ∷ [])) h = absurd (omega arith)
qualified_symbol-more d scope (a ∷ (b ∷ (c ∷ items))) h = refl

-- a name at the head of a list
pub headed-name : (d : Declarations) (scope : List Variable) (w : List ℕ) (ps : Parts) → is_reserved w ≡ false → headed d scope (symbol w) ps ≡ application d scope w ps
headed-name d scope w ps e = ap (λ b. if b then reserved d scope w ps else application d scope w ps) e

-- a connective with as many arguments as it takes
pub connective-called : (d : Declarations) (scope : List Variable) (o : CoreOperator) (ps : Parts) → connective d scope o ps ≡ called d scope (Connective o) ps
connective-called d scope o ps = ap (λ (all : Elaborated Formulas). and_then all (λ ts. Ok (connected o ts, bool_sort))) (sym (replicated_are d scope bool_sort ps))

pub operator-enough : (d : Declarations) (scope : List Variable) (o : CoreOperator) (ps : Parts) → takes o (count ps) ≡ true → unless_halted (takes o (count ps)) wrong_count (operated d scope o ps) ≡ operated d scope o ps
operator-enough d scope o ps enough = ap (λ (b : Bool). unless_halted b wrong_count (operated d scope o ps)) enough

-- what a list means, by what stands at its head, where this was found
pub list-headed : (d : Declarations) (scope : List Variable) (items : List Sexpr) (first : Sexpr) (others : List Sexpr) → items ≡ first ∷ others → list_meaning d (parts_of d (expressions_of items)) scope ≡ list_meaning d (with_part (part_of d (expression_of first)) (parts_of d (expressions_of others))) scope
list-headed d scope items first others e = ap (λ xs. list_meaning d (parts_of d (expressions_of xs)) scope) e

-- ---- a symbol of stated sorts

module _ (d : Declarations) (scope : List Variable) (s : Symbol) (ps : Parts) where
  plain_by : (b c : Bool) → (length (argument_sorts d s) == 0 && count ps == 0) ≡ b → (length (argument_sorts d s) == count ps) ≡ c → applied_plain d scope s ps ≡ unless_halted (not b) out_of_scope (unless_halted c wrong_count (called d scope (SymbolOf s) ps))
  plain_by b c p q = ap₂ (λ (x y : Bool). unless_halted (not x) out_of_scope (unless_halted y wrong_count (called d scope (SymbolOf s) ps))) p q

  pub plain-called : ((length (argument_sorts d s) == 0 && count ps == 0) ≡ false) → length (argument_sorts d s) ≡ count ps → applied_plain d scope s ps ≡ called d scope (SymbolOf s) ps
  plain-called some same = plain_by false true some ((Decides-eqb (length (argument_sorts d s)) (count ps)).1 same)
