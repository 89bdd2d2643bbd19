-- A list with arguments is what its head makes of the arguments that are met.
use Rattle.std.proofs.Common.{◌≡◌, ℕ, zero, suc, ◌+◌, ◌≤◌, Bool, true, false, List, [], ◌∷◌, length, replicate, option_map, Option, Some, None, Result, Ok, Err, refl, sym, ◌∙◌, ap, ap₂, subst, arith}
use Rattle.std.specs.Option.{option_and_then}
use Rattle.ct_generics.specs.Expression.{Expression}
use Rattle.ct_sorts.specs.declared.ids.SortId.{SortId}
use Rattle.ct_sorts.specs.declared.ids.CtorId.{CtorId}
use Rattle.ct_sorts.specs.declared.ids.SelId.{SelId}
use Rattle.ct_sorts.specs.declared.ids.GenId.{GenId}
use Rattle.ct_sorts.specs.Declarations.{Declarations, bool_sort}
use Rattle.ct_formulas.specs.Formula as formula
use Rattle.ct_formulas.specs.Formula.{Formula, Formulas, no_formulas, with_formula}
use Rattle.ct_instances.specs.declared.among.NamedCtor.TheVariants.{Generic}
use Rattle.ct_instances.specs.Among.{ctor_among, field_among, nth_sel}
use Rattle.ct_instances.specs.Fields.{generic_fields, generic_params}
use Rattle.ct_instances.specs.Matching.{Assignment, unmatched, sorts_for}
use Rattle.ct_names.specs.declared.operator.CoreOperator.{CoreOperator}
use Rattle.ct_names.specs.Outcome.{Elaborated, Sorted, and_then, unless_refused, unless_halted, step, is_sort, of_sort}
use Rattle.ct_names.specs.Refusals.{wrong_sort}
use Rattle.ct_names.specs.Parts.{Part as PartIn, Parts, no_parts, with_part, count}
use Rattle.ct_names.specs.Sorts.{sort_there}
use Rattle.ct_names.specs.Symbols.{argument_sorts, symbol_applied, ctor_sort, field_sort_id}
use Rattle.ct_names.specs.Variables.{Variable}
use Rattle.ct_names.specs.Elaboration.{meaning_of_part, arguments, of_one_sort, connected, choice_form, matched_arguments, instance_of, constructed, own, generic_sel, tested_term}
use Rattle.ct_check.specs.declared.callees.Callee.{Callee}
use Rattle.ct_check.specs.declared.callees.Callee.TheVariants.{Symbol, Tester, Connective}
use Rattle.ct_check.specs.declared.heads.Head.{Head}
use Rattle.ct_check.specs.declared.heads.Head.TheVariants.{Call, GenericCtor, Part, Equation, Choice}
use Rattle.ct_check.specs.declared.parts.Part.TheVariants.{Field, Test}
use Rattle.ct_check.specs.Callees.{called, callee_sorts, callee_formula, callee_result}
use Rattle.ct_check.specs.Expected.{Expectation, these, same, choice, fields, owner, if_met, expected_by, expected_terms, chosen}
use Rattle.ct_check.specs.GenericTerms.{part, generic_term, ctor_of_part}
use Rattle.ct_check.specs.Heads.{headed_by, TakesMany, expected_at, assignment_in, finished}
use Rattle.ct_check.proofs.ExpectedLemmas.{one_sort, with_first, terms_of, matched_of, and_then-ok, these_are, all_are, one_are, replicated_are, fields_are}

module _ (d : Declarations) (scope : List Variable) where
  -- what has the sorts of its arguments stated
  called_with : (f : Callee) (ps : Parts) (x : Expectation) → arguments d scope (callee_sorts d f (count ps)) ps ≡ and_then (expected_terms d scope x ps) terms_of → called d scope f ps ≡ and_then (expected_terms d scope x ps) (finished d (Call f))
  called_with f ps x e =
      ap (λ (o : Elaborated Formulas). and_then o (λ ts. Ok (callee_formula f ts, callee_result d f))) e
      ∙ and_then-ok (expected_terms d scope x ps) (λ r. r.0) (λ ts. Ok (callee_formula f ts, callee_result d f))

  pub called_are : (f : Callee) (ps : Parts) → TakesMany d f (count ps) → headed_by d scope (Call f) ps ≡ and_then (expected_terms d scope (expected_at d (Call f) (count ps)) ps) (finished d (Call f))
  called_are (Symbol s) ps many = called_with (Symbol s) ps (these (argument_sorts d s)) (these_are d scope (argument_sorts d s) ps many)
  called_are (Tester c) ps many =
      called_with (Tester c) ps (same (Some (ctor_sort d c)))
      (ap (λ (n : ℕ). arguments d scope (replicate n (ctor_sort d c)) ps) (sym many) ∙ replicated_are d scope (ctor_sort d c) ps ∙ all_are d scope (ctor_sort d c) ps)
  called_are (Connective o) ps many = called_with (Connective o) ps (same (Some bool_sort)) (replicated_are d scope bool_sort ps ∙ all_are d scope bool_sort ps)

  pub generic_are : (g : GenId) (i : ℕ) (ps : Parts) → length (generic_fields d g i) ≡ count ps → headed_by d scope (GenericCtor g i) ps ≡ and_then (expected_terms d scope (expected_at d (GenericCtor g i) (count ps)) ps) (finished d (GenericCtor g i))
  generic_are g i ps many =
      ap (λ (o : Elaborated (Formulas × Assignment)). and_then o (λ found. and_then (step (instance_of g (sorts_for found.1))) (λ e. and_then (sort_there d e) (λ s. Ok (constructed s found.0 (ctor_among d (Generic g i) s)))))) (fields_are d scope (generic_fields d g i) ps (unmatched (generic_params d g)) many)
      ∙ and_then-ok (expected_terms d scope (fields (generic_fields d g i) (unmatched (generic_params d g))) ps) (λ r. (r.0, assignment_in r.1)) (λ found. and_then (step (instance_of g (sorts_for found.1))) (λ e. and_then (sort_there d e) (λ s. Ok (constructed s found.0 (ctor_among d (Generic g i) s)))))

  pub field_is : (g : GenId) (i k : ℕ) (ps : Parts) → count ps ≡ 1 → headed_by d scope (Part (Field g i k)) ps ≡ and_then (expected_terms d scope (owner (Generic g i) None) ps) (finished d (Part (Field g i k)))
  field_is g i k no_parts one = absurd (omega (arith, one))
  field_is g i k (with_part p (with_part q ps)) one = absurd (omega (arith, one))
  field_is g i k (with_part p no_parts) one = by (meaning_of_part d scope p)
    where
      at : (u : Sorted) (o : Option CtorId) → ctor_among d (Generic g i) u.1 ≡ o → and_then (step (own (field_among d g i k u.1))) (λ s. Ok (formula.Sel s u.0, field_sort_id d s)) ≡ and_then (and_then (step (if_met (option_map (λ (c : CtorId). owner (Generic g i) (Some u.1)) o))) (λ next. and_then (expected_terms d scope next no_parts) (with_first u.0))) (finished d (Part (Field g i k)))
      at u None e = ap (λ (o : Option CtorId). and_then (step (own (option_and_then (nth_sel d k) o))) (λ s. Ok (formula.Sel s u.0, field_sort_id d s))) e
      at u (Some c) e = refl

      by : (o : Elaborated Sorted) → and_then o (λ u. and_then (step (own (field_among d g i k u.1))) (λ s. Ok (formula.Sel s u.0, field_sort_id d s))) ≡ and_then (and_then o (λ u. and_then (step (if_met (option_map (λ (c : CtorId). owner (Generic g i) (Some u.1)) (ctor_among d (Generic g i) u.1)))) (λ next. and_then (expected_terms d scope next no_parts) (with_first u.0)))) (finished d (Part (Field g i k)))
      by (Err h) = refl
      by (Ok u) = at u (ctor_among d (Generic g i) u.1) refl

  pub test_is : (g : GenId) (i : ℕ) (ps : Parts) → count ps ≡ 1 → headed_by d scope (Part (Test g i)) ps ≡ and_then (expected_terms d scope (owner (Generic g i) None) ps) (finished d (Part (Test g i)))
  test_is g i no_parts one = absurd (omega (arith, one))
  test_is g i (with_part p (with_part q ps)) one = absurd (omega (arith, one))
  test_is g i (with_part p no_parts) one = by (meaning_of_part d scope p)
    where
      at : (u : Sorted) (o : Option CtorId) → ctor_among d (Generic g i) u.1 ≡ o → and_then (step (own (ctor_among d (Generic g i) u.1))) (λ c. Ok (formula.Test c u.0, bool_sort)) ≡ and_then (and_then (step (if_met (option_map (λ (c : CtorId). owner (Generic g i) (Some u.1)) o))) (λ next. and_then (expected_terms d scope next no_parts) (with_first u.0))) (finished d (Part (Test g i)))
      at u None e = ap (λ (o : Option CtorId). and_then (step (own o)) (λ c. Ok (formula.Test c u.0, bool_sort))) e
      at u (Some c) e = refl

      by : (o : Elaborated Sorted) → and_then o (λ u. and_then (step (own (ctor_among d (Generic g i) u.1))) (λ c. Ok (formula.Test c u.0, bool_sort))) ≡ and_then (and_then o (λ u. and_then (step (if_met (option_map (λ (c : CtorId). owner (Generic g i) (Some u.1)) (ctor_among d (Generic g i) u.1)))) (λ next. and_then (expected_terms d scope next no_parts) (with_first u.0)))) (finished d (Part (Test g i)))
      by (Err h) = refl
      by (Ok u) = at u (ctor_among d (Generic g i) u.1) refl

  pub equation_is : (o : CoreOperator) (ps : Parts) → 1 ≤ count ps → headed_by d scope (Equation o) ps ≡ and_then (expected_terms d scope (same None) ps) (finished d (Equation o))
  equation_is o ps some =
      ap (λ (x : Elaborated Formulas). and_then x (λ ts. Ok (connected o ts, bool_sort))) (one_are d scope ps some)
      ∙ and_then-ok (expected_terms d scope (same None) ps) (λ r. r.0) (λ ts. Ok (connected o ts, bool_sort))

  pub choice_is : (ps : Parts) → count ps ≡ 3 → headed_by d scope Choice ps ≡ and_then (expected_terms d scope choice ps) (finished d Choice)
  choice_is no_parts three = absurd (omega (arith, three))
  choice_is (with_part p no_parts) three = absurd (omega (arith, three))
  choice_is (with_part p (with_part q no_parts)) three = absurd (omega (arith, three))
  choice_is (with_part p (with_part q (with_part r (with_part s ps)))) three = absurd (omega (arith, three))
  choice_is (with_part p (with_part q (with_part r no_parts))) three = by_first (meaning_of_part d scope p)
    where
      by_third : (x y : Sorted) (o : Elaborated Sorted) → and_then (of_sort y.1 o) (λ second. Ok (formula.Ite x.0 y.0 second, y.1)) ≡ and_then (and_then (and_then (and_then o (λ z. and_then (step (unless_refused (is_sort z.1 y.1) wrong_sort (Ok (same (Some z.1))))) (λ next. and_then (expected_terms d scope next no_parts) (with_first z.0)))) (with_first y.0)) (with_first x.0)) (finished d Choice)
      by_third x y (Err h) = refl
      by_third x y (Ok z) = at (is_sort z.1 y.1) refl
        where
          at : (b : Bool) → is_sort z.1 y.1 ≡ b → and_then (unless_halted b wrong_sort (Ok z.0)) (λ second. Ok (formula.Ite x.0 y.0 second, y.1)) ≡ and_then (and_then (and_then (and_then (step (unless_refused b wrong_sort (Ok (same (Some z.1))))) (λ next. and_then (expected_terms d scope next no_parts) (with_first z.0))) (with_first y.0)) (with_first x.0)) (finished d Choice)
          at true e = ap (λ (s : SortId). Ok (formula.Ite x.0 y.0 z.0, s)) (sym (one_sort z.1 y.1 e))
          at false e = refl

      by_second : (x : Sorted) (o : Elaborated Sorted) → and_then o (λ first. and_then (of_sort first.1 (meaning_of_part d scope r)) (λ second. Ok (formula.Ite x.0 first.0 second, first.1))) ≡ and_then (and_then (and_then o (λ y. and_then (expected_terms d scope (same (Some y.1)) (with_part r no_parts)) (with_first y.0))) (with_first x.0)) (finished d Choice)
      by_second x (Err h) = refl
      by_second x (Ok y) = by_third x y (meaning_of_part d scope r)

      by_condition : (x : Sorted) (b : Bool) → and_then (unless_halted b wrong_sort (Ok x.0)) (λ condition. and_then (meaning_of_part d scope q) (λ first. and_then (of_sort first.1 (meaning_of_part d scope r)) (λ second. Ok (formula.Ite condition first.0 second, first.1)))) ≡ and_then (and_then (step (unless_refused b wrong_sort (Ok (same None)))) (λ next. and_then (expected_terms d scope next (with_part q (with_part r no_parts))) (with_first x.0))) (finished d Choice)
      by_condition x true = by_second x (meaning_of_part d scope q)
      by_condition x false = refl

      by_first : (o : Elaborated Sorted) → and_then (of_sort bool_sort o) (λ condition. and_then (meaning_of_part d scope q) (λ first. and_then (of_sort first.1 (meaning_of_part d scope r)) (λ second. Ok (formula.Ite condition first.0 second, first.1)))) ≡ and_then (and_then o (λ x. and_then (step (unless_refused (is_sort x.1 bool_sort) wrong_sort (Ok (same None)))) (λ next. and_then (expected_terms d scope next (with_part q (with_part r no_parts))) (with_first x.0)))) (finished d Choice)
      by_first (Err h) = refl
      by_first (Ok x) = by_condition x (is_sort x.1 bool_sort)
