-- Where sorts were added, the formula of an expression and its sort are as they were.
use Rattle.std.proofs.Common.{◌≡◌, ℕ, Bool, not, ◌&&◌, ◌==◌, is_some, codes, List, [], ◌∷◌, length, nat_le, Option, Some, None, IfSome, Ok, Err, refl, sym, ap, ap₂, subst}
use Rattle.std.specs.Str.{bytes_eq}
use Rattle.ct_generics.specs.Expression.{Expression}
use Rattle.ct_sexpr.specs.Atom.{Atom, symbol, quoted, keyword, text, numeral, decimal, binary, hexadecimal}
use Rattle.ct_sexpr.specs.Expression.{Expression as Sexpr, Expressions as Sexprs, leaf, list, none, more}
use Rattle.ct_sexpr.specs.Readable.{name_of_atom}
use Rattle.ct_sexpr.specs.Written.{is_reserved}
use Rattle.ct_sorts.specs.declared.ids.SortId.{SortId}
use Rattle.ct_sorts.specs.declared.ids.CtorId.{CtorId}
use Rattle.ct_sorts.specs.declared.ids.SelId.{SelId}
use Rattle.ct_sorts.specs.declared.ids.GenId.{GenId}
use Rattle.ct_sorts.specs.declared.ids.Symbol.{Symbol}
use Rattle.ct_sorts.specs.declared.ids.Symbol.TheVariants.{Ctor, Sel, Fun, Def, GenCtor, GenSel}
use Rattle.ct_sorts.specs.Consistent.{IsConsistent}
use Rattle.ct_sorts.specs.Declarations.{Declarations, IsSort, IsSelector, IsConstructor, bool_sort}
use Rattle.ct_sorts.specs.Lookup.{IsSymbol}
use Rattle.ct_listing.specs.Closed.{ClosedValue}
use Rattle.ct_formulas.specs.declared.tree.Quantifier.{Quantifier}
use Rattle.ct_formulas.specs.declared.tree.Quantifier.TheVariants.{Forall, Exists}
use Rattle.ct_formulas.specs.Choices.{choices_of, most_choices}
use Rattle.ct_formulas.specs.Formula as formula
use Rattle.ct_formulas.specs.Formula.{Formula, Formulas, no_formulas, with_formula, bind}
use Rattle.ct_instances.specs.declared.among.NamedCtor.{NamedCtor}
use Rattle.ct_instances.specs.declared.among.NamedCtor.TheVariants.{Generic}
use Rattle.ct_instances.specs.Among.{origin_of, ctor_among, field_among, IsNamedCtor}
use Rattle.ct_instances.specs.Fields.{generic_fields, generic_params, is_determined}
use Rattle.ct_instances.specs.Matching.{Assignment, unmatched, matched, sorts_for}
use Rattle.ct_names.specs.declared.operator.CoreOperator.{CoreOperator}
use Rattle.ct_names.specs.declared.operator.CoreOperator.TheVariants.{Not, And, Or, Xor, Implies, Equal, Distinct, Ite}
use Rattle.ct_names.specs.Refusals.{undetermined, unknown_symbol, wrong_count, wrong_sort, not_exhaustive, repeated_variable, too_many_values, out_of_scope}
use Rattle.ct_names.specs.Outcome.{Elaborated, Sorted, and_then, unless_halted, step, refused, is_sort, of_sort}
use Rattle.ct_names.specs.Parts.{count, name_of}
use Rattle.ct_names.specs.Forms.{is_word, are_bindings, bound_names, are_cases, are_attributes}
use Rattle.ct_names.specs.Patterns.{pattern, matchable, are_exhaustive}
use Rattle.ct_names.specs.Sorts.{sort_there, sort_of_part}
use Rattle.ct_names.specs.Symbols.{symbol_of, operator_of, tester_named, argument_sorts, result_sort, symbol_applied, field_sort_id}
use Rattle.ct_names.specs.Variables.{Variable, ScopeIn, find, variables, present_names, has_repeated}
use Rattle.ct_names.specs.Elaboration.{Checked, tested_by_name, elaborated, part_of, parts_of, meaning_of_part, list_meaning, arguments, all_of_sort, of_one_sort, choice_form, connective, operated, connected, takes, fitting, matched_arguments, instance_of, constructed, own, generic_ctor, generic_sel, applied_plain, applied_symbol, global, application, bound_terms, without_sorts, sorts_of, let_of, let_form, listable_sorts, quantified_of, quantified_form, annotated, no_more, goes_with, with_case_before, checked_cases, matched_cases, match_of, match_form, tested_term, tested_name, is_text_of_name, tester, qualified, qualified_name, qualified_symbol, may_qualify, of_result, reserved, headed, lone_symbol}
use Rattle.ct_names.specs.Needs.{Grows}
use Rattle.ct_names.proofs.LastingLemmas.{AreSorts, symbol_same, tester_same, tester_inside, origin_same, field_same, field_inside, generic_fields_same, generic_params_same, determined_same, among_same, among_inside, field_among_same, field_among_inside, arguments_same, result_same, has_bool, result_inside, symbol_inside, there_stays}
use Rattle.ct_names.proofs.StayLemmas.{Stays, Any, stays_ok, stays_err, stays_same, stays_then, stays_step, stays_unless, stays_unless_refused, stays_if, ScopeIn-bind, ScopeIn-variables, name_same, word_same, count_same, bindings_same, bound_names_same, cases_same, attributes_same}
use Rattle.ct_names.proofs.StayListable.{AreVariableSorts, variable_sorts_there, choices_stay, listable_sorts_stay}
use Rattle.ct_names.proofs.StayPatterns.{IsIn, IsBound, lone_symbol_stays, lone_stays, sort_part_stays, qualify_stays, of_result_stays, tested_name_stays, pattern_stays, matchable_stays, exhaustive_same}

module _ (later d : Declarations) (grows : Grows later d) (c : IsConsistent d) where
  -- each list of the expression means what it meant
  abbrev mutual
    Lasts : Sexpr → Type 0
    Lasts (leaf a) = Unit {0}
    Lasts (list es) = AllLast es × ((scope : List Variable) → ScopeIn d scope → Stays (IsIn d) (list_meaning d (parts_of d es) scope) (list_meaning later (parts_of later es) scope))

    AllLast : Sexprs → Type 0
    AllLast none = Unit {0}
    AllLast (more e es) = Lasts e × AllLast es

  module _ (scope : List Variable) (inside : ScopeIn d scope) where
    meaning : (e : Sexpr) → Lasts e → Stays (IsIn d) (meaning_of_part d scope (part_of d e)) (meaning_of_part later scope (part_of later e))
    meaning (leaf a) lasts = lone_stays later d grows c scope inside (name_of_atom a)
    meaning (list es) lasts = lasts.1 scope inside

    of_sort_stays : (s : SortId) (first second : Elaborated Sorted) → Stays (IsIn d) first second → Stays (Any {X = Formula}) (of_sort s first) (of_sort s second)
    of_sort_stays s first second h = stays_then (IsIn d) (Any {X = Formula}) first second _ _ h (λ t is. stays_same (Any {X = Formula}) (unless_halted (is_sort t.1 s) wrong_sort (Ok t.0)) (unless_halted (is_sort t.1 s) wrong_sort (Ok t.0)) refl (λ _ _. tt))

    -- ---- arguments

    arguments_stay : (sorts : List SortId) (es : Sexprs) → AllLast es → Stays (Any {X = Formulas}) (arguments d scope sorts (parts_of d es)) (arguments later scope sorts (parts_of later es))
    arguments_stay [] none lasts = stays_ok (Any {X = Formulas}) no_formulas tt
    arguments_stay [] (more e es) lasts = stays_err (Any {X = Formulas}) (refused wrong_count) (Err (refused wrong_count))
    arguments_stay (s ∷ sorts) none lasts = stays_err (Any {X = Formulas}) (refused wrong_count) (Err (refused wrong_count))
    arguments_stay (s ∷ sorts) (more e es) lasts =
        stays_then (Any {X = Formula}) (Any {X = Formulas}) _ _ _ _ (of_sort_stays s (meaning_of_part d scope (part_of d e)) (meaning_of_part later scope (part_of later e)) (meaning e lasts.0))
        (λ t _. stays_then (Any {X = Formulas}) (Any {X = Formulas}) (arguments d scope sorts (parts_of d es)) (arguments later scope sorts (parts_of later es)) _ _ (arguments_stay sorts es lasts.1) (λ ts _. stays_ok (Any {X = Formulas}) (with_formula t ts) tt))

    all_stay : (s : SortId) (es : Sexprs) → AllLast es → Stays (Any {X = Formulas}) (all_of_sort d scope s (parts_of d es)) (all_of_sort later scope s (parts_of later es))
    all_stay s none lasts = stays_ok (Any {X = Formulas}) no_formulas tt
    all_stay s (more e es) lasts =
        stays_then (Any {X = Formula}) (Any {X = Formulas}) _ _ _ _ (of_sort_stays s (meaning_of_part d scope (part_of d e)) (meaning_of_part later scope (part_of later e)) (meaning e lasts.0))
        (λ t _. stays_then (Any {X = Formulas}) (Any {X = Formulas}) (all_of_sort d scope s (parts_of d es)) (all_of_sort later scope s (parts_of later es)) _ _ (all_stay s es lasts.1) (λ ts _. stays_ok (Any {X = Formulas}) (with_formula t ts) tt))

    one_sort_stays : (es : Sexprs) → AllLast es → Stays (Any {X = Formulas}) (of_one_sort d scope (parts_of d es)) (of_one_sort later scope (parts_of later es))
    one_sort_stays none lasts = stays_err (Any {X = Formulas}) (refused wrong_count) (Err (refused wrong_count))
    one_sort_stays (more e es) lasts =
        stays_then (IsIn d) (Any {X = Formulas}) (meaning_of_part d scope (part_of d e)) (meaning_of_part later scope (part_of later e)) _ _ (meaning e lasts.0)
        (λ t _. stays_then (Any {X = Formulas}) (Any {X = Formulas}) (all_of_sort d scope t.1 (parts_of d es)) (all_of_sort later scope t.1 (parts_of later es)) _ _ (all_stay t.1 es lasts.1) (λ ts _. stays_ok (Any {X = Formulas}) (with_formula t.0 ts) tt))

    choice_stays : (es : Sexprs) → AllLast es → Stays (IsIn d) (choice_form d scope (parts_of d es)) (choice_form later scope (parts_of later es))
    choice_stays none lasts = stays_err (IsIn d) (refused wrong_count) (Err (refused wrong_count))
    choice_stays (more k none) lasts = stays_err (IsIn d) (refused wrong_count) (Err (refused wrong_count))
    choice_stays (more k (more t none)) lasts = stays_err (IsIn d) (refused wrong_count) (Err (refused wrong_count))
    choice_stays (more k (more t (more u (more v es)))) lasts = stays_err (IsIn d) (refused wrong_count) (Err (refused wrong_count))
    choice_stays (more k (more t (more u none))) lasts =
        stays_then (Any {X = Formula}) (IsIn d) _ _ _ _ (of_sort_stays bool_sort (meaning_of_part d scope (part_of d k)) (meaning_of_part later scope (part_of later k)) (meaning k lasts.0))
        (λ condition _. stays_then (IsIn d) (IsIn d) (meaning_of_part d scope (part_of d t)) (meaning_of_part later scope (part_of later t)) _ _ (meaning t lasts.1.0)
        (λ first is. stays_then (Any {X = Formula}) (IsIn d) _ _ _ _ (of_sort_stays first.1 (meaning_of_part d scope (part_of d u)) (meaning_of_part later scope (part_of later u)) (meaning u lasts.1.1.0))
        (λ second _. stays_ok (IsIn d) (formula.Ite condition first.0 second, first.1) is)))

    connective_stays : (o : CoreOperator) (es : Sexprs) → AllLast es → Stays (IsIn d) (connective d scope o (parts_of d es)) (connective later scope o (parts_of later es))
    connective_stays o es lasts =
        stays_then (Any {X = Formulas}) (IsIn d) (all_of_sort d scope bool_sort (parts_of d es)) (all_of_sort later scope bool_sort (parts_of later es)) _ _ (all_stay bool_sort es lasts) (λ ts _. stays_ok (IsIn d) (connected o ts, bool_sort) (has_bool later d grows c))

    operated_stays : (o : CoreOperator) (es : Sexprs) → AllLast es → Stays (IsIn d) (operated d scope o (parts_of d es)) (operated later scope o (parts_of later es))
    operated_stays Not es lasts = connective_stays Not es lasts
    operated_stays And es lasts = connective_stays And es lasts
    operated_stays Or es lasts = connective_stays Or es lasts
    operated_stays Xor es lasts = connective_stays Xor es lasts
    operated_stays Implies es lasts = connective_stays Implies es lasts
    operated_stays Equal es lasts = stays_then (Any {X = Formulas}) (IsIn d) (of_one_sort d scope (parts_of d es)) (of_one_sort later scope (parts_of later es)) _ _ (one_sort_stays es lasts) (λ ts _. stays_ok (IsIn d) (formula.Equal ts, bool_sort) (has_bool later d grows c))
    operated_stays Distinct es lasts = stays_then (Any {X = Formulas}) (IsIn d) (of_one_sort d scope (parts_of d es)) (of_one_sort later scope (parts_of later es)) _ _ (one_sort_stays es lasts) (λ ts _. stays_ok (IsIn d) (formula.Distinct ts, bool_sort) (has_bool later d grows c))
    operated_stays Ite es lasts = choice_stays es lasts

    -- ---- generics

    matched_stay : (fields : List Expression) (es : Sexprs) → AllLast es → (m : Assignment) → Stays (Any {X = Formulas × Assignment}) (matched_arguments d scope fields (parts_of d es) m) (matched_arguments later scope fields (parts_of later es) m)
    matched_stay [] none lasts m = stays_ok (Any {X = Formulas × Assignment}) (no_formulas, m) tt
    matched_stay [] (more e es) lasts m = stays_err (Any {X = Formulas × Assignment}) (refused wrong_count) (Err (refused wrong_count))
    matched_stay (field ∷ fields) none lasts m = stays_err (Any {X = Formulas × Assignment}) (refused wrong_count) (Err (refused wrong_count))
    matched_stay (field ∷ fields) (more e es) lasts m =
        stays_then (IsIn d) (Any {X = Formulas × Assignment}) (meaning_of_part d scope (part_of d e)) (meaning_of_part later scope (part_of later e)) _ _ (meaning e lasts.0)
        (λ t is. stays_then (Any {X = Assignment}) (Any {X = Formulas × Assignment}) (step (fitting (matched field (origin_of d t.1) m))) (step (fitting (matched field (origin_of later t.1) m))) _ _
        (stays_same (Any {X = Assignment}) (step (fitting (matched field (origin_of d t.1) m))) (step (fitting (matched field (origin_of later t.1) m))) (ap (λ (x : Expression). step (fitting (matched field x m))) (origin_same later d grows c t.1 is)) (λ _ _. tt))
        (λ n _. stays_then (Any {X = Formulas × Assignment}) (Any {X = Formulas × Assignment}) (matched_arguments d scope fields (parts_of d es) n) (matched_arguments later scope fields (parts_of later es) n) _ _ (matched_stay fields es lasts.1 n)
        (λ rest _. stays_ok (Any {X = Formulas × Assignment}) (with_formula t.0 rest.0, rest.1) tt)))

    constructed_sort : (s : SortId) (ts : Formulas) (o : Option CtorId) → (constructed s ts o).1 ≡ s
    constructed_sort s ts None = refl
    constructed_sort s ts (Some k) = refl

    -- a constructor of a generic with arguments whose number is right
    pub generic_term_stays : (g : GenId) (i : ℕ) → IsSymbol d (GenCtor g i) → (es : Sexprs) → AllLast es
        → Stays (IsIn d) (and_then (matched_arguments d scope (generic_fields d g i) (parts_of d es) (unmatched (generic_params d g))) (λ found. and_then (step (instance_of g (sorts_for found.1))) (λ e. and_then (sort_there d e) (λ s. Ok (constructed s found.0 (ctor_among d (Generic g i) s))))))
        (and_then (matched_arguments later scope (generic_fields later g i) (parts_of later es) (unmatched (generic_params later g))) (λ found. and_then (step (instance_of g (sorts_for found.1))) (λ e. and_then (sort_there later e) (λ s. Ok (constructed s found.0 (ctor_among later (Generic g i) s))))))
    generic_term_stays g i is es lasts =
        stays_then (Any {X = Formulas × Assignment}) (IsIn d) _ _ _ _
        (subst (λ (fields : List Expression). Stays (Any {X = Formulas × Assignment}) (matched_arguments d scope (generic_fields d g i) (parts_of d es) (unmatched (generic_params d g))) (matched_arguments later scope fields (parts_of later es) (unmatched (generic_params later g)))) (sym (generic_fields_same later d grows c g i))
        (subst (λ (n : ℕ). Stays (Any {X = Formulas × Assignment}) (matched_arguments d scope (generic_fields d g i) (parts_of d es) (unmatched (generic_params d g))) (matched_arguments later scope (generic_fields d g i) (parts_of later es) (unmatched n))) (sym (generic_params_same later d grows c g))
        (matched_stay (generic_fields d g i) es lasts (unmatched (generic_params d g)))))
        (λ found _. stays_then (Any {X = Expression}) (IsIn d) (step (instance_of g (sorts_for found.1))) (step (instance_of g (sorts_for found.1))) _ _ (stays_same (Any {X = Expression}) (step (instance_of g (sorts_for found.1))) (step (instance_of g (sorts_for found.1))) refl (λ _ _. tt))
        (λ e _. stays_then (IsSort d) (IsIn d) (sort_there d e) (sort_there later e) _ _ (there_stays later d grows c e)
        (λ s sort. stays_same (IsIn d) (Ok (constructed s found.0 (ctor_among d (Generic g i) s))) (Ok (constructed s found.0 (ctor_among later (Generic g i) s)))
        (ap (λ (o : Option CtorId). Ok (constructed s found.0 o)) (among_same later d grows c (Generic g i) is s sort))
        (λ t ok. let same : constructed s found.0 (ctor_among d (Generic g i) s) ≡ t = cc in subst (IsIn d) same (subst (IsSort d) (sym (constructed_sort s found.0 (ctor_among d (Generic g i) s))) sort)))))

    generic_ctor_stays : (g : GenId) (i : ℕ) → IsSymbol d (GenCtor g i) → (es : Sexprs) → AllLast es → Stays (IsIn d) (generic_ctor d scope g i (parts_of d es)) (generic_ctor later scope g i (parts_of later es))
    generic_ctor_stays g i is es lasts =
        stays_unless (IsIn d) (is_determined d g i) (is_determined later g i) undetermined _ _ (determined_same later d grows c g i)
        (stays_unless (IsIn d) (length (generic_fields d g i) == count (parts_of d es)) (length (generic_fields later g i) == count (parts_of later es)) wrong_count _ _ (ap₂ (λ (fields : List Expression) (n : ℕ). length fields == n) (generic_fields_same later d grows c g i) (count_same later d es))
        (generic_term_stays g i is es lasts))

    own_field_stays : (g : GenId) (i k : ℕ) → IsNamedCtor d (Generic g i) → (s : SortId) → IsSort d s → Stays (IsSelector d) (own (field_among d g i k s)) (own (field_among later g i k s))
    own_field_stays g i k is s sort = subst (λ (o : Option SelId). Stays (IsSelector d) (own (field_among d g i k s)) (own o)) (sym (field_among_same later d grows c g i k is s sort)) (by (field_among d g i k s) refl)
      where
        by : (o : Option SelId) → field_among d g i k s ≡ o → Stays (IsSelector d) (own o) (own o)
        by None e = stays_err (IsSelector d) wrong_sort (Err wrong_sort)
        by (Some n) e = stays_ok (IsSelector d) n (field_among_inside later d grows c g i k is s n e)

    own_ctor_stays : (k : NamedCtor) → IsNamedCtor d k → (s : SortId) → IsSort d s → Stays (IsConstructor d) (own (ctor_among d k s)) (own (ctor_among later k s))
    own_ctor_stays k is s sort = subst (λ (o : Option CtorId). Stays (IsConstructor d) (own (ctor_among d k s)) (own o)) (sym (among_same later d grows c k is s sort)) (by (ctor_among d k s) refl)
      where
        by : (o : Option CtorId) → ctor_among d k s ≡ o → Stays (IsConstructor d) (own o) (own o)
        by None e = stays_err (IsConstructor d) wrong_sort (Err wrong_sort)
        by (Some n) e = stays_ok (IsConstructor d) n (among_inside later d grows c k is s n e)

    pub generic_sel_stays : (g : GenId) (i k : ℕ) → IsNamedCtor d (Generic g i) → (es : Sexprs) → AllLast es → Stays (IsIn d) (generic_sel d scope g i k (parts_of d es)) (generic_sel later scope g i k (parts_of later es))
    generic_sel_stays g i k is none lasts = stays_err (IsIn d) (refused wrong_count) (Err (refused wrong_count))
    generic_sel_stays g i k is (more t (more u es)) lasts = stays_err (IsIn d) (refused wrong_count) (Err (refused wrong_count))
    generic_sel_stays g i k is (more t none) lasts =
        stays_then (IsIn d) (IsIn d) (meaning_of_part d scope (part_of d t)) (meaning_of_part later scope (part_of later t)) _ _ (meaning t lasts.0)
        (λ u sort. stays_then (IsSelector d) (IsIn d) (step (own (field_among d g i k u.1))) (step (own (field_among later g i k u.1))) _ _ (stays_step (IsSelector d) (own (field_among d g i k u.1)) (own (field_among later g i k u.1)) (own_field_stays g i k is u.1 sort))
        (λ s sel. stays_same (IsIn d) (Ok (formula.Sel s u.0, field_sort_id d s)) (Ok (formula.Sel s u.0, field_sort_id later s)) (ap (λ (x : SortId). Ok (formula.Sel s u.0, x)) (field_same later d grows c s sel))
        (λ v e. let same : (let w : Sorted = (formula.Sel s u.0, field_sort_id d s) in w) ≡ v = cc in subst (IsIn d) same (field_inside later d grows c s sel))))

    pub tested_term_stays : (k : NamedCtor) → IsNamedCtor d k → (es : Sexprs) → AllLast es → Stays (IsIn d) (tested_term d scope k (parts_of d es)) (tested_term later scope k (parts_of later es))
    tested_term_stays k is none lasts = stays_err (IsIn d) (refused wrong_count) (Err (refused wrong_count))
    tested_term_stays k is (more t (more u es)) lasts = stays_err (IsIn d) (refused wrong_count) (Err (refused wrong_count))
    tested_term_stays k is (more t none) lasts =
        stays_then (IsIn d) (IsIn d) (meaning_of_part d scope (part_of d t)) (meaning_of_part later scope (part_of later t)) _ _ (meaning t lasts.0)
        (λ u sort. stays_then (IsConstructor d) (IsIn d) (step (own (ctor_among d k u.1))) (step (own (ctor_among later k u.1))) _ _ (stays_step (IsConstructor d) (own (ctor_among d k u.1)) (own (ctor_among later k u.1)) (own_ctor_stays k is u.1 sort))
        (λ n _. stays_ok (IsIn d) (formula.Test n u.0, bool_sort) (has_bool later d grows c)))

    -- ---- symbols with arguments

    applied_plain_stays : (s : Symbol) → IsSymbol d s → (es : Sexprs) → AllLast es → Stays (IsIn d) (applied_plain d scope s (parts_of d es)) (applied_plain later scope s (parts_of later es))
    applied_plain_stays s is es lasts =
        let sorts = arguments_same later d grows c s is in
        let number = count_same later d es in
        stays_unless (IsIn d) (not (length (argument_sorts d s) == 0 && count (parts_of d es) == 0)) (not (length (argument_sorts later s) == 0 && count (parts_of later es) == 0)) out_of_scope _ _ (ap₂ (λ (ss : List SortId) (n : ℕ). not (length ss == 0 && n == 0)) sorts number)
        (stays_unless (IsIn d) (length (argument_sorts d s) == count (parts_of d es)) (length (argument_sorts later s) == count (parts_of later es)) wrong_count _ _ (ap₂ (λ (ss : List SortId) (n : ℕ). length ss == n) sorts number)
        (stays_then (Any {X = Formulas}) (IsIn d) (arguments d scope (argument_sorts d s) (parts_of d es)) (arguments later scope (argument_sorts later s) (parts_of later es)) _ _
        (subst (λ (ss : List SortId). Stays (Any {X = Formulas}) (arguments d scope (argument_sorts d s) (parts_of d es)) (arguments later scope ss (parts_of later es))) (sym sorts) (arguments_stay (argument_sorts d s) es lasts))
        (λ ts _. stays_same (IsIn d) (Ok (symbol_applied s ts, result_sort d s)) (Ok (symbol_applied s ts, result_sort later s)) (ap (λ (x : SortId). Ok (symbol_applied s ts, x)) (result_same later d grows c s is))
        (λ v e. let same : (let w : Sorted = (symbol_applied s ts, result_sort d s) in w) ≡ v = cc in subst (IsIn d) same (result_inside later d grows c s is)))))

    applied_stays : (s : Symbol) → IsSymbol d s → (es : Sexprs) → AllLast es → Stays (IsIn d) (applied_symbol d scope s (parts_of d es)) (applied_symbol later scope s (parts_of later es))
    applied_stays (GenCtor g i) is es lasts = generic_ctor_stays g i is es lasts
    applied_stays (GenSel g i k) is es lasts = generic_sel_stays g i k (is.0, is.1) es lasts
    applied_stays (Ctor k) is es lasts = applied_plain_stays (Ctor k) is es lasts
    applied_stays (Sel s) is es lasts = applied_plain_stays (Sel s) is es lasts
    applied_stays (Fun f) is es lasts = applied_plain_stays (Fun f) is es lasts
    applied_stays (Def k) is es lasts = applied_plain_stays (Def k) is es lasts

    by_name_stays : (name : List ℕ) (k : Option NamedCtor) → tester_named d name ≡ k → (es : Sexprs) → AllLast es → Stays (IsIn d) (tested_by_name d scope k (parts_of d es)) (tested_by_name later scope k (parts_of later es))
    by_name_stays name None is es lasts = stays_err (IsIn d) (refused unknown_symbol) (Err (refused unknown_symbol))
    by_name_stays name (Some k) is es lasts = tested_term_stays k (tester_inside later d grows c name k is) es lasts

    global_stays : (o : Option CoreOperator) (name : List ℕ) (s : Option Symbol) → symbol_of d name ≡ s → (es : Sexprs) → AllLast es → Stays (IsIn d) (global d scope name o s (parts_of d es)) (global later scope name o s (parts_of later es))
    global_stays (Some o) name s is es lasts = stays_unless (IsIn d) (takes o (count (parts_of d es))) (takes o (count (parts_of later es))) wrong_count _ _ (ap (takes o) (count_same later d es)) (operated_stays o es lasts)
    global_stays None name None is es lasts =
        subst (λ (k : Option NamedCtor). Stays (IsIn d) (tested_by_name d scope (tester_named d name) (parts_of d es)) (tested_by_name later scope k (parts_of later es))) (sym (tester_same later d grows c name))
        (by_name_stays name (tester_named d name) refl es lasts)
    global_stays None name (Some s) is es lasts = applied_stays s (symbol_inside later d grows c name s is) es lasts

    application_stays : (name : List ℕ) (es : Sexprs) → AllLast es → Stays (IsIn d) (application d scope name (parts_of d es)) (application later scope name (parts_of later es))
    application_stays name es lasts =
        stays_unless (IsIn d) (not (is_some (find scope name))) (not (is_some (find scope name))) unknown_symbol _ _ refl
        (subst (λ (s : Option Symbol). Stays (IsIn d) (global d scope name (operator_of name) (symbol_of d name) (parts_of d es)) (global later scope name (operator_of name) s (parts_of later es))) (sym (symbol_same later d grows c name)) (global_stays (operator_of name) name (symbol_of d name) refl es lasts))

    -- ---- qualified symbols

    qualified_name_stays : (name : Option (List ℕ)) (e : Sexpr) → Stays (IsSymbol d) (qualified_name d scope name (part_of d e)) (qualified_name later scope name (part_of later e))
    qualified_name_stays None e = stays_err (IsSymbol d) (refused out_of_scope) (Err (refused out_of_scope))
    qualified_name_stays (Some name) e =
        stays_unless (IsSymbol d) (not (is_some (find scope name))) (not (is_some (find scope name))) unknown_symbol _ _ refl
        (stays_then (IsSymbol d) (IsSymbol d) (step (may_qualify (symbol_of d name))) (step (may_qualify (symbol_of later name))) _ _ (stays_step (IsSymbol d) (may_qualify (symbol_of d name)) (may_qualify (symbol_of later name)) (qualify_stays later d grows c name))
        (λ s is. stays_then (IsSort d) (IsSymbol d) (sort_of_part d (part_of d e)) (sort_of_part later (part_of later e)) _ _ (sort_part_stays later d grows c e)
        (λ t sort. stays_step (IsSymbol d) (of_result d s t) (of_result later s t) (of_result_stays later d grows c s is t sort))))

    pub qualified_symbol_stays : (es : Sexprs) → Stays (IsSymbol d) (qualified_symbol d scope (parts_of d es)) (qualified_symbol later scope (parts_of later es))
    qualified_symbol_stays none = stays_err (IsSymbol d) (refused out_of_scope) (Err (refused out_of_scope))
    qualified_symbol_stays (more f none) = stays_err (IsSymbol d) (refused out_of_scope) (Err (refused out_of_scope))
    qualified_symbol_stays (more f (more s (more t es))) = stays_err (IsSymbol d) (refused out_of_scope) (Err (refused out_of_scope))
    qualified_symbol_stays (more f (more s none)) = subst (λ (n : Option (List ℕ)). Stays (IsSymbol d) (qualified_name d scope (name_of (part_of d f)) (part_of d s)) (qualified_name later scope n (part_of later s))) (sym (name_same later d f)) (qualified_name_stays (name_of (part_of d f)) s)

    tester_stays : (es : Sexprs) → Stays (IsNamedCtor d) (tester d (parts_of d es)) (tester later (parts_of later es))
    tester_stays none = stays_err (IsNamedCtor d) out_of_scope (Err out_of_scope)
    tester_stays (more w none) = stays_err (IsNamedCtor d) out_of_scope (Err out_of_scope)
    tester_stays (more w (more k (more t es))) = stays_err (IsNamedCtor d) out_of_scope (Err out_of_scope)
    tester_stays (more w (more k none)) =
        stays_unless_refused (IsNamedCtor d) (is_text_of_name (codes "is") (name_of (part_of d w))) (is_text_of_name (codes "is") (name_of (part_of later w))) out_of_scope _ _ (ap (is_text_of_name (codes "is")) (name_same later d w))
        (subst (λ (n : Option (List ℕ)). Stays (IsNamedCtor d) (tested_name d (name_of (part_of d k))) (tested_name later n)) (sym (name_same later d k)) (tested_name_stays later d grows c (name_of (part_of d k))))

    qualified_stays : (head es : Sexprs) → AllLast es → Stays (IsIn d) (qualified d scope (parts_of d head) (parts_of d es)) (qualified later scope (parts_of later head) (parts_of later es))
    qualified_stays none es lasts = stays_err (IsIn d) (refused out_of_scope) (Err (refused out_of_scope))
    qualified_stays (more w head) es lasts =
        stays_if (IsIn d) (is_word (codes "_") (part_of d w)) (is_word (codes "_") (part_of later w)) _ _ _ _ (word_same later d (codes "_") w)
        (stays_then (IsNamedCtor d) (IsIn d) (step (tester d (parts_of d head))) (step (tester later (parts_of later head))) _ _ (stays_step (IsNamedCtor d) (tester d (parts_of d head)) (tester later (parts_of later head)) (tester_stays head)) (λ k is. tested_term_stays k is es lasts))
        (stays_if (IsIn d) (is_word (codes "as") (part_of d w)) (is_word (codes "as") (part_of later w)) _ _ _ _ (word_same later d (codes "as") w)
        (stays_then (IsSymbol d) (IsIn d) (qualified_symbol d scope (parts_of d head)) (qualified_symbol later scope (parts_of later head)) _ _ (qualified_symbol_stays head) (λ s is. applied_stays s is es lasts))
        (stays_err (IsIn d) (refused out_of_scope) (Err (refused out_of_scope))))

  -- ---- binders

  abbrev pub HaveSorts : List Sorted → Type 0
  HaveSorts ts = AreSorts d (sorts_of ts)

  module _ (scope : List Variable) (inside : ScopeIn d scope) where
    pub bound_terms_stay : (es : Sexprs) → AllLast es → Stays HaveSorts (bound_terms d scope (parts_of d es)) (bound_terms later scope (parts_of later es))
    bound_terms_stay none lasts = stays_ok HaveSorts [] tt
    bound_terms_stay (more (leaf a) es) lasts = stays_err HaveSorts (refused out_of_scope) (Err (refused out_of_scope))
    bound_terms_stay (more (list none) es) lasts = stays_err HaveSorts (refused out_of_scope) (Err (refused out_of_scope))
    bound_terms_stay (more (list (more x none)) es) lasts = stays_err HaveSorts (refused out_of_scope) (Err (refused out_of_scope))
    bound_terms_stay (more (list (more x (more t (more u rest)))) es) lasts = stays_err HaveSorts (refused out_of_scope) (Err (refused out_of_scope))
    bound_terms_stay (more (list (more x (more t none))) es) lasts =
        stays_then (IsIn d) HaveSorts (meaning_of_part d scope (part_of d t)) (meaning_of_part later scope (part_of later t)) _ _ (meaning scope inside t lasts.0.0.1.0)
        (λ first is. stays_then HaveSorts HaveSorts (bound_terms d scope (parts_of d es)) (bound_terms later scope (parts_of later es)) _ _ (bound_terms_stay es lasts.1) (λ ts all. stays_ok HaveSorts (first ∷ ts) (is, all)))

    let_stays : (bs : Sexprs) (body : Sexpr) → AllLast bs → Lasts body → Stays (IsIn d) (let_of d scope (parts_of d bs) (part_of d body)) (let_of later scope (parts_of later bs) (part_of later body))
    let_stays bs body lasts_bs lasts =
        let names = bound_names_same later d bs in
        stays_unless (IsIn d) (are_bindings (parts_of d bs) && not (count (parts_of d bs) == 0)) (are_bindings (parts_of later bs) && not (count (parts_of later bs) == 0)) out_of_scope _ _ (ap₂ (λ (b : Bool) (n : ℕ). b && not (n == 0)) (bindings_same later d bs) (count_same later d bs))
        (stays_unless (IsIn d) (not (has_repeated (present_names (bound_names (parts_of d bs))))) (not (has_repeated (present_names (bound_names (parts_of later bs))))) repeated_variable _ _ (ap (λ (ns : List (Option (List ℕ))). not (has_repeated (present_names ns))) names)
        (stays_then HaveSorts (IsIn d) (bound_terms d scope (parts_of d bs)) (bound_terms later scope (parts_of later bs)) _ _ (bound_terms_stay bs lasts_bs)
        (λ ts all. stays_then (IsIn d) (IsIn d) (meaning_of_part d (bind (variables (bound_names (parts_of d bs)) (sorts_of ts)) scope) (part_of d body)) (meaning_of_part later (bind (variables (bound_names (parts_of later bs)) (sorts_of ts)) scope) (part_of later body)) _ _
        (subst (λ (ns : List (Option (List ℕ))). Stays (IsIn d) (meaning_of_part d (bind (variables (bound_names (parts_of d bs)) (sorts_of ts)) scope) (part_of d body)) (meaning_of_part later (bind (variables ns (sorts_of ts)) scope) (part_of later body))) (sym names)
        (meaning (bind (variables (bound_names (parts_of d bs)) (sorts_of ts)) scope) (ScopeIn-bind d (variables (bound_names (parts_of d bs)) (sorts_of ts)) scope (ScopeIn-variables d (bound_names (parts_of d bs)) (sorts_of ts) all) inside) body lasts))
        (λ u is. stays_ok (IsIn d) (formula.Let (without_sorts ts) u.0, u.1) is))))

    pub let_form_stays : (es : Sexprs) → AllLast es → Stays (IsIn d) (let_form d scope (parts_of d es)) (let_form later scope (parts_of later es))
    let_form_stays none lasts = stays_err (IsIn d) (refused out_of_scope) (Err (refused out_of_scope))
    let_form_stays (more (leaf a) es) lasts = stays_err (IsIn d) (refused out_of_scope) (Err (refused out_of_scope))
    let_form_stays (more (list bs) none) lasts = stays_err (IsIn d) (refused out_of_scope) (Err (refused out_of_scope))
    let_form_stays (more (list bs) (more body (more x es))) lasts = stays_err (IsIn d) (refused out_of_scope) (Err (refused out_of_scope))
    let_form_stays (more (list bs) (more body none)) lasts = let_stays bs body lasts.0.0 lasts.1.0

    quantified_stays : (q : Quantifier) (bs : Sexprs) (body : Sexpr) → Lasts body → Stays (IsIn d) (quantified_of d scope q (parts_of d bs) (part_of d body)) (quantified_of later scope q (parts_of later bs) (part_of later body))
    quantified_stays q bs body lasts =
        let names = bound_names_same later d bs in
        stays_unless (IsIn d) (are_bindings (parts_of d bs) && not (count (parts_of d bs) == 0)) (are_bindings (parts_of later bs) && not (count (parts_of later bs) == 0)) out_of_scope _ _ (ap₂ (λ (b : Bool) (n : ℕ). b && not (n == 0)) (bindings_same later d bs) (count_same later d bs))
        (stays_unless (IsIn d) (not (has_repeated (present_names (bound_names (parts_of d bs))))) (not (has_repeated (present_names (bound_names (parts_of later bs))))) repeated_variable _ _ (ap (λ (ns : List (Option (List ℕ))). not (has_repeated (present_names ns))) names)
        (stays_then (AreVariableSorts d) (IsIn d) (listable_sorts d (parts_of d bs)) (listable_sorts later (parts_of later bs)) _ _ (listable_sorts_stay later d grows c bs)
        (λ sorts all. stays_unless (IsIn d) (nat_le (length (choices_of d sorts)) most_choices) (nat_le (length (choices_of later sorts)) most_choices) too_many_values _ _ (ap (λ (vss : List (List ClosedValue)). nat_le (length vss) most_choices) (choices_stay later d grows c sorts all))
        (stays_then (Any {X = Formula}) (IsIn d) _ _ _ _
        (of_sort_stays scope inside bool_sort (meaning_of_part d (bind (variables (bound_names (parts_of d bs)) sorts) scope) (part_of d body)) (meaning_of_part later (bind (variables (bound_names (parts_of later bs)) sorts) scope) (part_of later body))
        (subst (λ (ns : List (Option (List ℕ))). Stays (IsIn d) (meaning_of_part d (bind (variables (bound_names (parts_of d bs)) sorts) scope) (part_of d body)) (meaning_of_part later (bind (variables ns sorts) scope) (part_of later body))) (sym names)
        (meaning (bind (variables (bound_names (parts_of d bs)) sorts) scope) (ScopeIn-bind d (variables (bound_names (parts_of d bs)) sorts) scope (ScopeIn-variables d (bound_names (parts_of d bs)) sorts (variable_sorts_there d sorts all)) inside) body lasts)))
        (λ t _. stays_ok (IsIn d) (formula.Quantified q sorts t, bool_sort) (has_bool later d grows c))))))

    pub quantified_form_stays : (q : Quantifier) (es : Sexprs) → AllLast es → Stays (IsIn d) (quantified_form d scope q (parts_of d es)) (quantified_form later scope q (parts_of later es))
    quantified_form_stays q none lasts = stays_err (IsIn d) (refused out_of_scope) (Err (refused out_of_scope))
    quantified_form_stays q (more (leaf a) es) lasts = stays_err (IsIn d) (refused out_of_scope) (Err (refused out_of_scope))
    quantified_form_stays q (more (list bs) none) lasts = stays_err (IsIn d) (refused out_of_scope) (Err (refused out_of_scope))
    quantified_form_stays q (more (list bs) (more body (more x es))) lasts = stays_err (IsIn d) (refused out_of_scope) (Err (refused out_of_scope))
    quantified_form_stays q (more (list bs) (more body none)) lasts = quantified_stays q bs body lasts.1.0

    pub annotated_stays : (es : Sexprs) → AllLast es → Stays (IsIn d) (annotated d scope (parts_of d es)) (annotated later scope (parts_of later es))
    annotated_stays none lasts = stays_err (IsIn d) (refused out_of_scope) (Err (refused out_of_scope))
    annotated_stays (more t es) lasts =
        stays_unless (IsIn d) (are_attributes (parts_of d es)) (are_attributes (parts_of later es)) out_of_scope _ _ (attributes_same later d es) (meaning scope inside t lasts.0)

    -- the common sort of cases is there
    abbrev HasCommon : Checked → Type 0
    HasCommon checked = IfSome checked.sort (IsSort d)

    pub cases_stay : (side : SortId) → IsSort d side → (sort : Option SortId) → IfSome sort (IsSort d) → (es : Sexprs) → AllLast es → Stays HasCommon (checked_cases d scope side sort (parts_of d es)) (checked_cases later scope side sort (parts_of later es))
    cases_stay side there sort is none lasts = stays_ok HasCommon (no_more sort) is
    cases_stay side there sort is (more (leaf a) es) lasts = stays_err HasCommon (refused out_of_scope) (Err (refused out_of_scope))
    cases_stay side there sort is (more (list none) es) lasts = stays_err HasCommon (refused out_of_scope) (Err (refused out_of_scope))
    cases_stay side there sort is (more (list (more p none)) es) lasts = stays_err HasCommon (refused out_of_scope) (Err (refused out_of_scope))
    cases_stay side there sort is (more (list (more p (more t (more u rest)))) es) lasts = stays_err HasCommon (refused out_of_scope) (Err (refused out_of_scope))
    cases_stay side there sort is (more (list (more p (more body none))) es) lasts =
        stays_then (IsBound later d grows c) HasCommon (step (pattern d side (part_of d p))) (step (pattern later side (part_of later p))) _ _ (stays_step (IsBound later d grows c) (pattern d side (part_of d p)) (pattern later side (part_of later p)) (pattern_stays later d grows c side there p))
        (λ binding bound. stays_then (IsIn d) HasCommon (meaning_of_part d (bind binding.1 scope) (part_of d body)) (meaning_of_part later (bind binding.1 scope) (part_of later body)) _ _ (meaning (bind binding.1 scope) (ScopeIn-bind d binding.1 scope bound inside) body lasts.0.0.1.0)
        (λ u sorted. stays_unless HasCommon (goes_with sort u.1) (goes_with sort u.1) wrong_sort _ _ refl
        (stays_then HasCommon HasCommon (checked_cases d scope side (Some u.1) (parts_of d es)) (checked_cases later scope side (Some u.1) (parts_of later es)) _ _ (cases_stay side there (Some u.1) sorted es lasts.1)
        (λ checked common. stays_ok HasCommon (with_case_before binding.0 u.0 checked) common))))

    matched_cases_stay : (subject : Formula) (checked : Checked) (sort : Option SortId) → IfSome sort (IsSort d) → Stays (IsIn d) (matched_cases subject checked sort) (matched_cases subject checked sort)
    matched_cases_stay subject checked None is = stays_err (IsIn d) (refused not_exhaustive) (Err (refused not_exhaustive))
    matched_cases_stay subject checked (Some sort) is = stays_ok (IsIn d) (formula.Match subject checked.cases, sort) is

    match_stays : (t : Sexpr) (cases : Sexprs) → Lasts t → AllLast cases → Stays (IsIn d) (match_of d scope (part_of d t) (parts_of d cases)) (match_of later scope (part_of later t) (parts_of later cases))
    match_stays t cases lasts lasts_cases =
        stays_unless (IsIn d) (are_cases (parts_of d cases)) (are_cases (parts_of later cases)) out_of_scope _ _ (cases_same later d cases)
        (stays_then (IsIn d) (IsIn d) (meaning_of_part d scope (part_of d t)) (meaning_of_part later scope (part_of later t)) _ _ (meaning scope inside t lasts)
        (λ subject sorted. stays_then (IsSort d) (IsIn d) (step (matchable d subject.1)) (step (matchable later subject.1)) _ _ (stays_step (IsSort d) (matchable d subject.1) (matchable later subject.1) (matchable_stays later d grows c subject.1 sorted))
        (λ side there. stays_then HasCommon (IsIn d) (checked_cases d scope side None (parts_of d cases)) (checked_cases later scope side None (parts_of later cases)) _ _ (cases_stay side there None tt cases lasts_cases)
        (λ checked common. stays_unless (IsIn d) (are_exhaustive d subject.1 checked.patterns) (are_exhaustive later subject.1 checked.patterns) not_exhaustive _ _ (exhaustive_same later d grows c subject.1 sorted checked.patterns) (matched_cases_stay subject.0 checked checked.sort common)))))

    pub match_form_stays : (es : Sexprs) → AllLast es → Stays (IsIn d) (match_form d scope (parts_of d es)) (match_form later scope (parts_of later es))
    match_form_stays none lasts = stays_err (IsIn d) (refused out_of_scope) (Err (refused out_of_scope))
    match_form_stays (more t none) lasts = stays_err (IsIn d) (refused out_of_scope) (Err (refused out_of_scope))
    match_form_stays (more t (more (leaf a) es)) lasts = stays_err (IsIn d) (refused out_of_scope) (Err (refused out_of_scope))
    match_form_stays (more t (more (list cases) (more x es))) lasts = stays_err (IsIn d) (refused out_of_scope) (Err (refused out_of_scope))
    match_form_stays (more t (more (list cases) none)) lasts = match_stays t cases lasts.0 lasts.1.0.0

    -- ---- lists

    reserved_stays : (w : List ℕ) (es : Sexprs) → AllLast es → Stays (IsIn d) (reserved d scope w (parts_of d es)) (reserved later scope w (parts_of later es))
    reserved_stays w es lasts =
        stays_if (IsIn d) (bytes_eq w (codes "let")) (bytes_eq w (codes "let")) _ _ _ _ refl (let_form_stays es lasts)
        (stays_if (IsIn d) (bytes_eq w (codes "match")) (bytes_eq w (codes "match")) _ _ _ _ refl (match_form_stays es lasts)
        (stays_if (IsIn d) (bytes_eq w (codes "!")) (bytes_eq w (codes "!")) _ _ _ _ refl (annotated_stays es lasts)
        (stays_if (IsIn d) (bytes_eq w (codes "as")) (bytes_eq w (codes "as")) _ _ _ _ refl
        (stays_then (IsSymbol d) (IsIn d) (qualified_symbol d scope (parts_of d es)) (qualified_symbol later scope (parts_of later es)) (lone_symbol d) (lone_symbol later) (qualified_symbol_stays scope inside es) (λ s is. lone_symbol_stays later d grows c s is))
        (stays_if (IsIn d) (bytes_eq w (codes "forall")) (bytes_eq w (codes "forall")) _ _ _ _ refl (quantified_form_stays Forall es lasts)
        (stays_if (IsIn d) (bytes_eq w (codes "exists")) (bytes_eq w (codes "exists")) _ _ _ _ refl (quantified_form_stays Exists es lasts)
        (stays_err (IsIn d) (refused out_of_scope) (Err (refused out_of_scope))))))))

    headed_stays : (a : Atom) (es : Sexprs) → AllLast es → Stays (IsIn d) (headed d scope a (parts_of d es)) (headed later scope a (parts_of later es))
    headed_stays (symbol w) es lasts = stays_if (IsIn d) (is_reserved w) (is_reserved w) _ _ _ _ refl (reserved_stays w es lasts) (application_stays scope inside w es lasts)
    headed_stays (quoted w) es lasts = application_stays scope inside w es lasts
    headed_stays (keyword w) es lasts = stays_err (IsIn d) (refused out_of_scope) (Err (refused out_of_scope))
    headed_stays (text w) es lasts = stays_err (IsIn d) (refused out_of_scope) (Err (refused out_of_scope))
    headed_stays (numeral n) es lasts = stays_err (IsIn d) (refused out_of_scope) (Err (refused out_of_scope))
    headed_stays (decimal w) es lasts = stays_err (IsIn d) (refused out_of_scope) (Err (refused out_of_scope))
    headed_stays (binary w) es lasts = stays_err (IsIn d) (refused out_of_scope) (Err (refused out_of_scope))
    headed_stays (hexadecimal w) es lasts = stays_err (IsIn d) (refused out_of_scope) (Err (refused out_of_scope))

    list_stays : (es : Sexprs) → AllLast es → Stays (IsIn d) (list_meaning d (parts_of d es) scope) (list_meaning later (parts_of later es) scope)
    list_stays none lasts = stays_err (IsIn d) (refused out_of_scope) (Err (refused out_of_scope))
    list_stays (more (leaf a) es) lasts = headed_stays a es lasts.1
    list_stays (more (list head) es) lasts = qualified_stays scope inside head es lasts.1

  mutual
    pub lasts_all : (e : Sexpr) → Lasts e
    lasts_all (leaf a) = tt
    lasts_all (list es) = (all_last es, λ scope inside. list_stays scope inside es (all_last es))

    pub all_last : (es : Sexprs) → AllLast es
    all_last none = tt
    all_last (more e es) = (lasts_all e, all_last es)

  -- the formula of an expression and its sort stay
  pub elaborated_stays : (scope : List Variable) → ScopeIn d scope → (e : Sexpr) → Stays (IsIn d) (elaborated d scope e) (elaborated later scope e)
  elaborated_stays scope inside e = meaning scope inside e (lasts_all e)
