-- Where sorts were added, names and patterns that stood for something stand for it still.
use Rattle.std.proofs.Common.{◌≡◌, ℕ, not, ◌||◌, ◌==◌, if◌then◌else◌, List, [], length, unwrap_or, option_map, slice_get, Option, Some, None, Ok, Err, refl, sym, ap, ap₂, subst}
use Rattle.std.specs.List.{list_all, list_any}
use Rattle.ct_generics.specs.Declarations.{Declared}
use Rattle.ct_generics.specs.Expression.{Expression}
use Rattle.ct_sexpr.specs.Expression.{Expression as Sexpr, leaf, list, none, more}
use Rattle.ct_sexpr.specs.Readable.{name_of_atom}
use Rattle.ct_sorts.specs.declared.ids.SortId.{SortId}
use Rattle.ct_sorts.specs.declared.ids.CtorId.{CtorId}
use Rattle.ct_sorts.specs.declared.ids.Kind.{Kind}
use Rattle.ct_sorts.specs.declared.ids.Kind.TheVariants.{Bool as BoolKind, Free, Data, Codata}
use Rattle.ct_sorts.specs.declared.ids.Symbol.{Symbol}
use Rattle.ct_sorts.specs.declared.ids.Symbol.TheVariants.{Ctor, Sel, Fun, Def, GenCtor, GenSel}
use Rattle.ct_sorts.specs.Consistent.{IsConsistent}
use Rattle.ct_sorts.specs.Declarations.{Declarations, Sort, IsSort, IsConstructor}
use Rattle.ct_sorts.specs.Lookup.{IsSymbol}
use Rattle.ct_formulas.specs.Formula as formula
use Rattle.ct_formulas.specs.Formula.{no_formulas}
use Rattle.ct_formulas.specs.declared.tree.Pattern.{Pattern}
use Rattle.ct_formulas.specs.declared.tree.Pattern.TheVariants as pattern_of
use Rattle.ct_instances.specs.declared.among.NamedCtor.{NamedCtor}
use Rattle.ct_instances.specs.declared.among.NamedCtor.TheVariants.{Generic}
use Rattle.ct_instances.specs.Among.{ctor_among, IsNamedCtor}
use Rattle.ct_names.specs.declared.operator.CoreOperator.{CoreOperator}
use Rattle.ct_names.specs.Refusals.{unknown_symbol, wrong_count, wrong_sort, foreign_pattern, repeated_variable, out_of_scope}
use Rattle.ct_names.specs.Outcome.{Sorted, unless_refused, step, refused, is_sort}
use Rattle.ct_names.specs.Parts.{name_of}
use Rattle.ct_names.specs.Patterns.{Binding, variable_names, any_pattern, own_ctor, lone_ctor, lone_pattern, ctor_with, headed_pattern, leaf_pattern, ctor_at, pattern, matchable_kind, matchable, is_of_ctor, fits_all, are_exhaustive}
use Rattle.ct_names.specs.Sorts.{written_sort, sort_of, sort_there, sort_of_part}
use Rattle.ct_names.specs.Symbols.{symbol_of, operator_of, ctor_named, tester_named, is_of_bool, ctor_field_sorts, result_sort, symbol_applied}
use Rattle.ct_names.specs.Variables.{Variable, ScopeIn, find, has_repeated, present_names, variables}
use Rattle.ct_names.specs.Elaboration.{lone_generic, lone_refusal, unless_for, lone_symbol, lone_operator, lone_global, lone_name, lone, may_qualify, of_instance, of_result, testable, tested_name, part_of, parts_of}
use Rattle.ct_names.specs.Needs.{Grows}
use Rattle.ct_names.proofs.LastingLemmas.{AreSorts, sort_at_same, symbol_same, ctor_same, tester_same, ctors_same, fields_same, fields_inside, determined_same, among_same, among_inside, arguments_same, result_same, result_inside, symbol_inside, named_inside, there_stays}
use Rattle.ct_names.proofs.StayLemmas.{Stays, Any, stays_ok, stays_err, stays_same, stays_then, stays_step, stays_unless_refused, ScopeIn-variables, find_inside, name_same, variable_names_same, expression_same}

-- a formula with a sort that is there
abbrev pub IsIn : Declarations → Sorted → Type 0
IsIn d t = IsSort d t.1

module _ (later d : Declarations) (grows : Grows later d) (c : IsConsistent d) where
  -- ---- names that stand alone

  refusal_same : (s : Symbol) → IsSymbol d s → lone_refusal later s ≡ lone_refusal d s
  refusal_same (GenCtor g i) is = ap (λ b. Some (lone_generic b)) (determined_same later d grows c g i)
  refusal_same (GenSel g i k) is = refl
  refusal_same (Ctor k) is = ap (λ (sorts : List SortId). if length sorts == 0 then None else Some wrong_count) (arguments_same later d grows c (Ctor k) is)
  refusal_same (Sel s) is = ap (λ (sorts : List SortId). if length sorts == 0 then None else Some wrong_count) (arguments_same later d grows c (Sel s) is)
  refusal_same (Fun f) is = ap (λ (sorts : List SortId). if length sorts == 0 then None else Some wrong_count) (arguments_same later d grows c (Fun f) is)
  refusal_same (Def k) is = ap (λ (sorts : List SortId). if length sorts == 0 then None else Some wrong_count) (arguments_same later d grows c (Def k) is)

  unless_for_inside : (o : Option ℕ) (t : Sorted) → IsIn d t → (u : Sorted) → unless_for o t ≡ Ok u → IsIn d u
  unless_for_inside None t inside u e = let same : t ≡ u = cc in subst (IsIn d) same inside
  unless_for_inside (Some n) t inside u e = absurd cc

  pub lone_symbol_stays : (s : Symbol) → IsSymbol d s → Stays (IsIn d) (lone_symbol d s) (lone_symbol later s)
  lone_symbol_stays s is =
      stays_same (IsIn d) (lone_symbol d s) (lone_symbol later s)
      (ap₂ (λ (o : Option ℕ) (t : SortId). unless_for o (symbol_applied s no_formulas, t)) (refusal_same s is) (result_same later d grows c s is))
      (unless_for_inside (lone_refusal d s) (symbol_applied s no_formulas, result_sort d s) (result_inside later d grows c s is))

  operator_stays : (o : Option CoreOperator) (k : Option NamedCtor) → Stays (IsIn d) (lone_operator o k) (lone_operator o k)
  operator_stays None None = stays_err (IsIn d) (refused unknown_symbol) (Err (refused unknown_symbol))
  operator_stays None (Some k) = stays_err (IsIn d) (refused wrong_count) (Err (refused wrong_count))
  operator_stays (Some o) k = stays_err (IsIn d) (refused wrong_count) (Err (refused wrong_count))

  lone_global_stays : (name : List ℕ) → Stays (IsIn d) (lone_global d name (symbol_of d name)) (lone_global later name (symbol_of later name))
  lone_global_stays name = subst (λ (o : Option Symbol). Stays (IsIn d) (lone_global d name (symbol_of d name)) (lone_global later name o)) (sym (symbol_same later d grows c name)) (by (symbol_of d name) refl)
    where
      by : (o : Option Symbol) → symbol_of d name ≡ o → Stays (IsIn d) (lone_global d name o) (lone_global later name o)
      by None is =
          subst (λ (k : Option NamedCtor). Stays (IsIn d) (lone_operator (operator_of name) (tester_named d name)) (lone_operator (operator_of name) k)) (sym (tester_same later d grows c name))
          (operator_stays (operator_of name) (tester_named d name))
      by (Some s) is = lone_symbol_stays s (symbol_inside later d grows c name s is)

  pub lone_stays : (scope : List Variable) → ScopeIn d scope → (name : Option (List ℕ)) → Stays (IsIn d) (lone d scope name) (lone later scope name)
  lone_stays scope inside None = stays_err (IsIn d) (refused out_of_scope) (Err (refused out_of_scope))
  lone_stays scope inside (Some name) = by (find scope name) refl
    where
      by : (v : Option (ℕ × SortId)) → find scope name ≡ v → Stays (IsIn d) (lone_name d name v) (lone_name later name v)
      by None is = lone_global_stays name
      by (Some v) is = stays_ok (IsIn d) (formula.Var v.0, v.1) (find_inside d scope name v inside is)

  -- ---- sorts

  pub sort_stays : (e : Sexpr) → Stays (IsSort d) (sort_of d e) (sort_of later e)
  sort_stays e =
      stays_then (Any {X = Expression}) (IsSort d) (step (written_sort d.declared [] e)) (step (written_sort later.declared [] e)) (sort_there d) (sort_there later)
      (stays_step (Any {X = Expression}) (written_sort d.declared [] e) (written_sort later.declared [] e) (stays_same (Any {X = Expression}) (written_sort d.declared [] e) (written_sort later.declared [] e) (ap (λ (x : Declared). written_sort x [] e) grows.declared) (λ _ _. tt)))
      (λ x _. there_stays later d grows c x)

  pub sort_part_stays : (e : Sexpr) → Stays (IsSort d) (sort_of_part d (part_of d e)) (sort_of_part later (part_of later e))
  sort_part_stays e = subst (λ (x : Sexpr). Stays (IsSort d) (sort_of d x) (sort_of_part later (part_of later e))) (sym (expression_same d e)) (subst (λ (x : Sexpr). Stays (IsSort d) (sort_of d e) (sort_of later x)) (sym (expression_same later e)) (sort_stays e))

  -- ---- qualified symbols

  pub qualify_stays : (name : List ℕ) → Stays (IsSymbol d) (may_qualify (symbol_of d name)) (may_qualify (symbol_of later name))
  qualify_stays name = subst (λ (o : Option Symbol). Stays (IsSymbol d) (may_qualify (symbol_of d name)) (may_qualify o)) (sym (symbol_same later d grows c name)) (by (symbol_of d name) refl)
    where
      by : (o : Option Symbol) → symbol_of d name ≡ o → Stays (IsSymbol d) (may_qualify o) (may_qualify o)
      by None is = stays_err (IsSymbol d) unknown_symbol (Err unknown_symbol)
      by (Some (Sel s)) is = stays_err (IsSymbol d) unknown_symbol (Err unknown_symbol)
      by (Some (Ctor k)) is = stays_ok (IsSymbol d) (Ctor k) (symbol_inside later d grows c name (Ctor k) is)
      by (Some (Fun f)) is = stays_ok (IsSymbol d) (Fun f) (symbol_inside later d grows c name (Fun f) is)
      by (Some (Def k)) is = stays_ok (IsSymbol d) (Def k) (symbol_inside later d grows c name (Def k) is)
      by (Some (GenCtor g i)) is = stays_ok (IsSymbol d) (GenCtor g i) (symbol_inside later d grows c name (GenCtor g i) is)
      by (Some (GenSel g i k)) is = stays_err (IsSymbol d) unknown_symbol (Err unknown_symbol)

  -- a symbol whose result is to have a sort
  result_stays : (s : Symbol) → IsSymbol d s → (t : SortId) → Stays (IsSymbol d) (unless_refused (is_sort (result_sort d s) t) wrong_sort (Ok s)) (unless_refused (is_sort (result_sort later s) t) wrong_sort (Ok s))
  result_stays s is t =
      stays_unless_refused (IsSymbol d) (is_sort (result_sort d s) t) (is_sort (result_sort later s) t) wrong_sort (Ok s) (Ok s)
      (ap (λ (x : SortId). is_sort x t) (result_same later d grows c s is)) (stays_ok (IsSymbol d) s is)

  pub of_result_stays : (s : Symbol) → IsSymbol d s → (t : SortId) → IsSort d t → Stays (IsSymbol d) (of_result d s t) (of_result later s t)
  of_result_stays (GenCtor g i) is t sort =
      subst (λ (o : Option CtorId). Stays (IsSymbol d) (of_instance (ctor_among d (Generic g i) t)) (of_instance o)) (sym (among_same later d grows c (Generic g i) is t sort)) (by (ctor_among d (Generic g i) t) refl)
    where
      by : (o : Option CtorId) → ctor_among d (Generic g i) t ≡ o → Stays (IsSymbol d) (of_instance o) (of_instance o)
      by None e = stays_err (IsSymbol d) wrong_sort (Err wrong_sort)
      by (Some k) e = stays_ok (IsSymbol d) (Ctor k) (among_inside later d grows c (Generic g i) is t k e)
  of_result_stays (GenSel g i k) is t sort = result_stays (GenSel g i k) is t
  of_result_stays (Ctor k) is t sort = result_stays (Ctor k) is t
  of_result_stays (Sel s) is t sort = result_stays (Sel s) is t
  of_result_stays (Fun f) is t sort = result_stays (Fun f) is t
  of_result_stays (Def k) is t sort = result_stays (Def k) is t

  -- ---- testers

  testable_stays : (name : List ℕ) → Stays (IsNamedCtor d) (testable (ctor_named d name)) (testable (ctor_named later name))
  testable_stays name = subst (λ (o : Option NamedCtor). Stays (IsNamedCtor d) (testable (ctor_named d name)) (testable o)) (sym (ctor_same later d grows c name)) (by (ctor_named d name) refl)
    where
      by : (o : Option NamedCtor) → ctor_named d name ≡ o → Stays (IsNamedCtor d) (testable o) (testable o)
      by None is = stays_err (IsNamedCtor d) unknown_symbol (Err unknown_symbol)
      by (Some k) is = stays_unless_refused (IsNamedCtor d) (not (is_of_bool k)) (not (is_of_bool k)) out_of_scope (Ok k) (Ok k) refl (stays_ok (IsNamedCtor d) k (named_inside later d grows c name k is))

  pub tested_name_stays : (name : Option (List ℕ)) → Stays (IsNamedCtor d) (tested_name d name) (tested_name later name)
  tested_name_stays None = stays_err (IsNamedCtor d) out_of_scope (Err out_of_scope)
  tested_name_stays (Some name) = testable_stays name

  -- ---- patterns

  abbrev pub IsBound : Binding → Type 0
  IsBound b = ScopeIn d b.1

  own_stays : (k : NamedCtor) → IsNamedCtor d k → (side : SortId) → IsSort d side → Stays (IsConstructor d) (own_ctor (ctor_among d k side)) (own_ctor (ctor_among later k side))
  own_stays k is side sort = subst (λ (o : Option CtorId). Stays (IsConstructor d) (own_ctor (ctor_among d k side)) (own_ctor o)) (sym (among_same later d grows c k is side sort)) (by (ctor_among d k side) refl)
    where
      by : (o : Option CtorId) → ctor_among d k side ≡ o → Stays (IsConstructor d) (own_ctor o) (own_ctor o)
      by None e = stays_err (IsConstructor d) foreign_pattern (Err foreign_pattern)
      by (Some n) e = stays_ok (IsConstructor d) n (among_inside later d grows c k is side n e)

  lone_ctor_stays : (side : SortId) → IsSort d side → (k : NamedCtor) → IsNamedCtor d k → Stays IsBound (lone_ctor d side k) (lone_ctor later side k)
  lone_ctor_stays side sort k is =
      stays_then (IsConstructor d) IsBound (own_ctor (ctor_among d k side)) (own_ctor (ctor_among later k side)) _ _ (own_stays k is side sort)
      (λ n declared. stays_unless_refused IsBound (length (ctor_field_sorts d n) == 0) (length (ctor_field_sorts later n) == 0) wrong_count (Ok (pattern_of.Ctor n, [])) (Ok (pattern_of.Ctor n, [])) (ap (λ (sorts : List SortId). length sorts == 0) (fields_same later d grows c n declared)) (stays_ok IsBound (pattern_of.Ctor n, []) tt))

  ctor_with_stays : (side : SortId) → IsSort d side → (names : List (Option (List ℕ))) (k : NamedCtor) → IsNamedCtor d k → Stays IsBound (ctor_with d side names k) (ctor_with later side names k)
  ctor_with_stays side sort names k is =
      stays_then (IsConstructor d) IsBound (own_ctor (ctor_among d k side)) (own_ctor (ctor_among later k side)) _ _ (own_stays k is side sort) (λ n declared. with_fields n (ctor_field_sorts later n) (fields_same later d grows c n declared) (fields_inside later d grows c n declared))
    where
      with_fields : (n : CtorId) (sorts : List SortId) → sorts ≡ ctor_field_sorts d n → AreSorts d (ctor_field_sorts d n)
          → Stays IsBound (unless_refused (length names == length (ctor_field_sorts d n)) wrong_count (unless_refused (not (length names == 0)) out_of_scope (unless_refused (not (has_repeated (present_names names))) repeated_variable (Ok (pattern_of.Ctor n, variables names (ctor_field_sorts d n))))))
          (unless_refused (length names == length sorts) wrong_count (unless_refused (not (length names == 0)) out_of_scope (unless_refused (not (has_repeated (present_names names))) repeated_variable (Ok (pattern_of.Ctor n, variables names sorts)))))
      with_fields n sorts same all =
          subst (λ (ss : List SortId). Stays IsBound (unless_refused (length names == length (ctor_field_sorts d n)) wrong_count (unless_refused (not (length names == 0)) out_of_scope (unless_refused (not (has_repeated (present_names names))) repeated_variable (Ok (pattern_of.Ctor n, variables names (ctor_field_sorts d n))))))
          (unless_refused (length names == length ss) wrong_count (unless_refused (not (length names == 0)) out_of_scope (unless_refused (not (has_repeated (present_names names))) repeated_variable (Ok (pattern_of.Ctor n, variables names ss)))))) (sym same)
          (stays_unless_refused IsBound (length names == length (ctor_field_sorts d n)) (length names == length (ctor_field_sorts d n)) wrong_count _ _ refl
          (stays_unless_refused IsBound (not (length names == 0)) (not (length names == 0)) out_of_scope _ _ refl
          (stays_unless_refused IsBound (not (has_repeated (present_names names))) (not (has_repeated (present_names names))) repeated_variable _ _ refl
          (stays_ok IsBound (pattern_of.Ctor n, variables names (ctor_field_sorts d n)) (ScopeIn-variables d names (ctor_field_sorts d n) all)))))

  lone_pattern_stays : (side : SortId) → IsSort d side → (name : List ℕ) → Stays IsBound (lone_pattern d side name (ctor_named d name)) (lone_pattern later side name (ctor_named later name))
  lone_pattern_stays side sort name = subst (λ (o : Option NamedCtor). Stays IsBound (lone_pattern d side name (ctor_named d name)) (lone_pattern later side name o)) (sym (ctor_same later d grows c name)) (by (ctor_named d name) refl)
    where
      by : (o : Option NamedCtor) → ctor_named d name ≡ o → Stays IsBound (lone_pattern d side name o) (lone_pattern later side name o)
      by None is = stays_ok IsBound (any_pattern side (Some name)) (sort, tt)
      by (Some k) is = lone_ctor_stays side sort k (named_inside later d grows c name k is)

  leaf_pattern_stays : (side : SortId) → IsSort d side → (name : Option (List ℕ)) → Stays IsBound (leaf_pattern d side name) (leaf_pattern later side name)
  leaf_pattern_stays side sort None = stays_ok IsBound (any_pattern side None) (sort, tt)
  leaf_pattern_stays side sort (Some name) = lone_pattern_stays side sort name

  headed_pattern_stays : (side : SortId) → IsSort d side → (names : List (Option (List ℕ))) (name : Option (List ℕ)) → Stays IsBound (headed_pattern d side names (ctor_at d name)) (headed_pattern later side names (ctor_at later name))
  headed_pattern_stays side sort names None = stays_err IsBound unknown_symbol (Err unknown_symbol)
  headed_pattern_stays side sort names (Some name) = subst (λ (o : Option NamedCtor). Stays IsBound (headed_pattern d side names (ctor_named d name)) (headed_pattern later side names o)) (sym (ctor_same later d grows c name)) (by (ctor_named d name) refl)
    where
      by : (o : Option NamedCtor) → ctor_named d name ≡ o → Stays IsBound (headed_pattern d side names o) (headed_pattern later side names o)
      by None is = stays_err IsBound unknown_symbol (Err unknown_symbol)
      by (Some k) is = ctor_with_stays side sort names k (named_inside later d grows c name k is)

  pub pattern_stays : (side : SortId) → IsSort d side → (e : Sexpr) → Stays IsBound (pattern d side (part_of d e)) (pattern later side (part_of later e))
  pattern_stays side sort (leaf a) = leaf_pattern_stays side sort (name_of_atom a)
  pattern_stays side sort (list none) = stays_err IsBound out_of_scope (Err out_of_scope)
  pattern_stays side sort (list (more k xs)) =
      subst (λ (names : List (Option (List ℕ))). Stays IsBound (headed_pattern d side (variable_names (parts_of d xs)) (ctor_at d (name_of (part_of d k)))) (headed_pattern later side names (ctor_at later (name_of (part_of later k))))) (sym (variable_names_same later d xs))
      (subst (λ (name : Option (List ℕ)). Stays IsBound (headed_pattern d side (variable_names (parts_of d xs)) (ctor_at d (name_of (part_of d k)))) (headed_pattern later side (variable_names (parts_of d xs)) (ctor_at later name))) (sym (name_same later d k))
      (headed_pattern_stays side sort (variable_names (parts_of d xs)) (name_of (part_of d k))))

  -- ---- subjects and cases

  pub matchable_stays : (side : SortId) → IsSort d side → Stays (IsSort d) (matchable d side) (matchable later side)
  matchable_stays side sort =
      stays_same (IsSort d) (matchable d side) (matchable later side)
      (ap (λ (o : Option Sort). matchable_kind side (unwrap_or (option_map (λ (s : Sort). s.kind) o) BoolKind)) (sort_at_same later d grows c side sort))
      (by (unwrap_or (option_map (λ (s : Sort). s.kind) (slice_get d.sorts side.0)) BoolKind))
    where
      by : (k : Kind) (t : SortId) → matchable_kind side k ≡ Ok t → IsSort d t
      by BoolKind t e = absurd cc
      by Free t e = absurd cc
      by Data t e = let same : side ≡ t = cc in subst (IsSort d) same sort
      by Codata t e = let same : side ≡ t = cc in subst (IsSort d) same sort

  pub exhaustive_same : (side : SortId) → IsSort d side → (patterns : List Pattern) → are_exhaustive later side patterns ≡ are_exhaustive d side patterns
  exhaustive_same side sort patterns = ap (λ (ctors : List CtorId). list_any fits_all patterns || list_all (λ k. list_any (is_of_ctor k) patterns) ctors) (ctors_same later d grows c side sort)
