-- The forms with terms that are well sorted are well sorted: operators, symbols, bindings.
use Rattle.std.proofs.Common.{◌≡◌, ℕ, suc, ◌≤◌, Bool, true, not, ◌&&◌, ◌==◌, List, [], ◌∷◌, length, map, nat_le, Option, Ok, refl, sym, ◌∙◌, ap, subst, arith}
use Rattle.std.proofs.lemmas.Bool.Decides.{nat_tests}
use Rattle.std.proofs.lemmas.List.{length-map}
use Rattle.ct_sorts.specs.declared.ids.SortId.{SortId}
use Rattle.ct_sorts.specs.declared.ids.Symbol.{Symbol}
use Rattle.ct_sorts.specs.Declarations.{Declarations, bool_sort}
use Rattle.ct_sorts.specs.Lookup.{IsSymbol}
use Rattle.ct_formulas.specs.Formula as formula
use Rattle.ct_formulas.specs.Formula.{Formulas, no_formulas, with_formula, bind}
use Rattle.ct_formulas.specs.FormulaSorts.{IsSorted, AllSorted, AreOfSort, HasFormula, AreAtLeastTwo}
use Rattle.ct_names.specs.declared.operator.CoreOperator.{CoreOperator}
use Rattle.ct_names.specs.declared.operator.CoreOperator.TheVariants.{Not, And, Or, Xor, Implies, Equal, Distinct, Ite}
use Rattle.ct_names.specs.Refusals.{wrong_count, repeated_variable, out_of_scope}
use Rattle.ct_names.specs.Outcome.{Sorted, and_then, unless_halted, of_sort}
use Rattle.ct_names.specs.Symbols.{argument_sorts, result_sort, symbol_applied}
use Rattle.ct_names.specs.Variables.{Variable, ScopeIn, variables, variable_sorts, has_repeated, present_names}
use Rattle.ct_names.specs.Forms.{are_bindings, bound_names}
use Rattle.ct_names.specs.Parts.{Part, Parts, atom_part, list_part, no_parts, with_part, count}
use Rattle.ct_names.specs.Elaboration.{meaning_of_part, arguments, all_of_sort, of_one_sort, connective, choice_form, takes, operated, applied_plain, connected, bound_terms, let_of, without_sorts, sorts_of}
use Rattle.ct_check.proofs.Inversions.{and_then-inverse, halted-inverse, same_value, of_sort-inverse}
use Rattle.ct_names.proofs.LastingLemmas.{AreSorts}
use Rattle.ct_names.proofs.StayLemmas.{ScopeIn-bind, ScopeIn-variables}
use Rattle.ct_check.proofs.SymbolSorts.{Theorems, IsPlain, applied_sorted}
use Rattle.ct_check.proofs.SoundLemmas.{IsSoundPart, AreSoundParts, HasOwnSort, carried, meaning_sound, meaning_inside, arguments_sound, all_sound, all_some, all_several}

-- an operator of one or more, and of two or more
abbrev HasEnough : CoreOperator → Formulas → Type 0
HasEnough Not ts = HasFormula ts
HasEnough And ts = HasFormula ts
HasEnough Or ts = HasFormula ts
HasEnough Xor ts = AreAtLeastTwo ts
HasEnough Implies ts = AreAtLeastTwo ts
HasEnough Equal ts = AreAtLeastTwo ts
HasEnough Distinct ts = AreAtLeastTwo ts
HasEnough Ite ts = HasFormula ts

connected_sorted : (d : Declarations) (env : List SortId) (o : CoreOperator) (ts : Formulas) → HasEnough o ts → AreOfSort d env ts bool_sort → IsSorted d env (connected o ts) bool_sort
connected_sorted d env Not no_formulas some all = absurd some
connected_sorted d env Not (with_formula t ts) some all = (all.0, refl)
connected_sorted d env And ts some all = (some, all, refl)
connected_sorted d env Or ts some all = (some, all, refl)
connected_sorted d env Xor ts some all = (some, all, refl)
connected_sorted d env Implies ts some all = (some, all, refl)
connected_sorted d env Equal ts some all = (bool_sort, some, all, refl)
connected_sorted d env Distinct ts some all = (bool_sort, some, all, refl)
connected_sorted d env Ite ts some all = (some, all, refl)

at_least : (a n : ℕ) (b : Bool) → (nat_le a n && b) ≡ true → a ≤ n
at_least a n b e = grind (arith, nat_tests)

-- sorts of variables that are bound
pub map-bind : {X Y : Type 0} (f : X → Y) (xs env : List X) → map f (bind xs env) ≡ bind (map f xs) (map f env)
map-bind f [] env = refl
map-bind f (x ∷ xs) env = map-bind f xs (x ∷ env)

pub sorts-variables : (names : List (Option (List ℕ))) (sorts : List SortId) → length names ≡ length sorts → variable_sorts (variables names sorts) ≡ sorts
sorts-variables [] [] e = refl
sorts-variables [] (s ∷ sorts) e = absurd (omega (arith, e))
sorts-variables (n ∷ names) [] e = absurd (omega (arith, e))
sorts-variables (n ∷ names) (s ∷ sorts) e = ap (λ rest. s ∷ rest) (sorts-variables names sorts (omega (arith, e)))

pub bound_sorts : (names : List (Option (List ℕ))) (sorts : List SortId) (scope : List Variable) → length names ≡ length sorts → variable_sorts (bind (variables names sorts) scope) ≡ bind sorts (variable_sorts scope)
bound_sorts names sorts scope e =
    map-bind (λ (v : Variable). v.sort) (variables names sorts) scope ∙ ap (λ ss. bind ss (variable_sorts scope)) (sorts-variables names sorts e)

module _ (d : Declarations) (theorems : Theorems d) (scope : List Variable) (inside : ScopeIn d scope) where
  enough : (o : CoreOperator) (ps : Parts) (ts : Formulas) → all_of_sort d scope bool_sort ps ≡ Ok ts → takes o (count ps) ≡ true → HasEnough o ts
  enough Not ps ts e h = all_some d theorems scope bool_sort ps ts e (at_least 1 (count ps) (nat_le (count ps) 1) h)
  enough And ps ts e h = all_some d theorems scope bool_sort ps ts e (at_least 1 (count ps) true h)
  enough Or ps ts e h = all_some d theorems scope bool_sort ps ts e (at_least 1 (count ps) true h)
  enough Xor ps ts e h = all_several d theorems scope bool_sort ps ts e (at_least 2 (count ps) true h)
  enough Implies ps ts e h = all_several d theorems scope bool_sort ps ts e (at_least 2 (count ps) true h)
  enough Equal ps ts e h = all_several d theorems scope bool_sort ps ts e (at_least 2 (count ps) true h)
  enough Distinct ps ts e h = all_several d theorems scope bool_sort ps ts e (at_least 2 (count ps) true h)
  enough Ite ps ts e h = all_some d theorems scope bool_sort ps ts e (let three : 3 ≤ count ps = at_least 3 (count ps) (nat_le (count ps) 3) h in omega arith)

  connective_sound : (o : CoreOperator) (ps : Parts) → AreSoundParts d ps → takes o (count ps) ≡ true → (t : Sorted) → connective d scope o ps ≡ Ok t → HasOwnSort d (variable_sorts scope) t
  connective_sound o ps sound h t e =
      let step = and_then-inverse (all_of_sort d scope bool_sort ps) (λ ts. Ok (connected o ts, bool_sort)) t e in
      carried d (variable_sorts scope) (connected o step.0, bool_sort) t step.2
      (connected_sorted d (variable_sorts scope) o step.0 (enough o ps step.0 step.1 h) (all_sound d theorems scope inside bool_sort ps sound step.0 step.1))

  -- two or more of one sort
  pub record OfOneSort (ts : Formulas) : Type 0 where
    pub side : SortId
    pub several : AreAtLeastTwo ts
    pub all : AreOfSort d (variable_sorts scope) ts side

  one_sort_sound : (ps : Parts) → AreSoundParts d ps → 2 ≤ count ps → (ts : Formulas) → of_one_sort d scope ps ≡ Ok ts → OfOneSort ts
  one_sort_sound no_parts sound h ts e = absurd (omega arith)
  one_sort_sound (with_part p ps) sound h ts e =
      let one = and_then-inverse (meaning_of_part d scope p) (λ t. and_then (all_of_sort d scope t.1 ps) (λ us. Ok (with_formula t.0 us))) ts e in
      let rest = and_then-inverse (all_of_sort d scope one.0.1 ps) (λ us. Ok (with_formula one.0.0 us)) ts one.2 in
      let same : with_formula one.0.0 rest.0 ≡ ts = same_value (with_formula one.0.0 rest.0) ts rest.2 in
      record {
        side = one.0.1;
        several = subst (λ (us : Formulas). AreAtLeastTwo us) same (all_some d theorems scope one.0.1 ps rest.0 rest.1 (omega arith));
        all = subst (λ (us : Formulas). AreOfSort d (variable_sorts scope) us one.0.1) same (meaning_sound d theorems scope inside p sound.0 one.0 one.1, all_sound d theorems scope inside one.0.1 ps sound.1 rest.0 rest.1);
      }

  choice_sound : (ps : Parts) → AreSoundParts d ps → (t : Sorted) → choice_form d scope ps ≡ Ok t → HasOwnSort d (variable_sorts scope) t
  choice_sound no_parts sound t e = absurd cc
  choice_sound (with_part c no_parts) sound t e = absurd cc
  choice_sound (with_part c (with_part a no_parts)) sound t e = absurd cc
  choice_sound (with_part c (with_part a (with_part b no_parts))) sound t e =
      let first = and_then-inverse (of_sort bool_sort (meaning_of_part d scope c)) (λ k. and_then (meaning_of_part d scope a) (λ x. and_then (of_sort x.1 (meaning_of_part d scope b)) (λ y. Ok (formula.Ite k x.0 y, x.1)))) t e in
      let second = and_then-inverse (meaning_of_part d scope a) (λ x. and_then (of_sort x.1 (meaning_of_part d scope b)) (λ y. Ok (formula.Ite first.0 x.0 y, x.1))) t first.2 in
      let third = and_then-inverse (of_sort second.0.1 (meaning_of_part d scope b)) (λ y. Ok (formula.Ite first.0 second.0.0 y, second.0.1)) t second.2 in
      carried d (variable_sorts scope) (formula.Ite first.0 second.0.0 third.0, second.0.1) t third.2 (
        meaning_sound d theorems scope inside c sound.0 (first.0, bool_sort) (of_sort-inverse bool_sort (meaning_of_part d scope c) first.0 first.1),
        meaning_sound d theorems scope inside a sound.1.0 second.0 second.1,
        meaning_sound d theorems scope inside b sound.1.1.0 (third.0, second.0.1) (of_sort-inverse second.0.1 (meaning_of_part d scope b) third.0 third.1),
      )
  choice_sound (with_part c (with_part a (with_part b (with_part x ps)))) sound t e = absurd cc

  equation_sound : (o : CoreOperator) → ((ts : Formulas) → OfOneSort ts → IsSorted d (variable_sorts scope) (connected o ts) bool_sort) → (ps : Parts) → AreSoundParts d ps → 2 ≤ count ps → (t : Sorted) → and_then (of_one_sort d scope ps) (λ ts. Ok (connected o ts, bool_sort)) ≡ Ok t → HasOwnSort d (variable_sorts scope) t
  equation_sound o of ps sound h t e =
      let step = and_then-inverse (of_one_sort d scope ps) (λ ts. Ok (connected o ts, bool_sort)) t e in
      carried d (variable_sorts scope) (connected o step.0, bool_sort) t step.2 (of step.0 (one_sort_sound ps sound h step.0 step.1))

  pub operated_sound : (o : CoreOperator) (ps : Parts) → AreSoundParts d ps → takes o (count ps) ≡ true → (t : Sorted) → operated d scope o ps ≡ Ok t → HasOwnSort d (variable_sorts scope) t
  operated_sound Not ps sound h t e = connective_sound Not ps sound h t e
  operated_sound And ps sound h t e = connective_sound And ps sound h t e
  operated_sound Or ps sound h t e = connective_sound Or ps sound h t e
  operated_sound Xor ps sound h t e = connective_sound Xor ps sound h t e
  operated_sound Implies ps sound h t e = connective_sound Implies ps sound h t e
  operated_sound Equal ps sound h t e = equation_sound Equal (λ ts one. (one.side, one.several, one.all, refl)) ps sound (at_least 2 (count ps) true h) t e
  operated_sound Distinct ps sound h t e = equation_sound Distinct (λ ts one. (one.side, one.several, one.all, refl)) ps sound (at_least 2 (count ps) true h) t e
  operated_sound Ite ps sound h t e = choice_sound ps sound t e

  pub applied_sound : (s : Symbol) → IsPlain s → IsSymbol d s → (ps : Parts) → AreSoundParts d ps → (t : Sorted) → applied_plain d scope s ps ≡ Ok t → HasOwnSort d (variable_sorts scope) t
  applied_sound s plain is ps sound t e =
      let form = halted-inverse (not (length (argument_sorts d s) == 0 && count ps == 0)) out_of_scope (unless_halted (length (argument_sorts d s) == count ps) wrong_count (and_then (arguments d scope (argument_sorts d s) ps) (λ ts. Ok (symbol_applied s ts, result_sort d s)))) t e in
      let enough_are = halted-inverse (length (argument_sorts d s) == count ps) wrong_count (and_then (arguments d scope (argument_sorts d s) ps) (λ ts. Ok (symbol_applied s ts, result_sort d s))) t form.1 in
      let step = and_then-inverse (arguments d scope (argument_sorts d s) ps) (λ ts. Ok (symbol_applied s ts, result_sort d s)) t enough_are.1 in
      carried d (variable_sorts scope) (symbol_applied s step.0, result_sort d s) t step.2
      (applied_sorted d theorems (variable_sorts scope) s plain is step.0 (arguments_sound d theorems scope inside (argument_sorts d s) ps sound step.0 step.1))

  -- the terms of bindings are well sorted, as many as there are bindings, and their sorts are there
  pub record AreTerms (bs : Parts) (ts : List Sorted) : Type 0 where
    pub sorted : AllSorted d (variable_sorts scope) (without_sorts ts) (sorts_of ts)
    pub long : length ts ≡ count bs
    pub there : AreSorts d (sorts_of ts)

  pub terms_sound : (bs : Parts) → AreSoundParts d bs → (ts : List Sorted) → bound_terms d scope bs ≡ Ok ts → AreTerms bs ts
  terms_sound no_parts sound ts e = subst (λ (us : List Sorted). AreTerms no_parts us) (same_value [] ts e) (record { sorted = tt; long = refl; there = tt })
  terms_sound (with_part (list_part (with_part x (with_part b no_parts)) m) bs) sound ts e =
      let one = and_then-inverse (meaning_of_part d scope b) (λ u. and_then (bound_terms d scope bs) (λ us. Ok (u ∷ us))) ts e in
      let rest = and_then-inverse (bound_terms d scope bs) (λ us. Ok (one.0 ∷ us)) ts one.2 in
      let others = terms_sound bs sound.1 rest.0 rest.1 in
      subst (λ (us : List Sorted). AreTerms (with_part (list_part (with_part x (with_part b no_parts)) m) bs) us) (same_value (one.0 ∷ rest.0) ts rest.2)
      (record {
        sorted = (meaning_sound d theorems scope inside b sound.0.0.1.0 one.0 one.1, others.sorted);
        long = ap suc others.long;
        there = (meaning_inside d theorems scope inside b sound.0.0.1.0 one.0 one.1, others.there);
      })
  terms_sound (with_part (atom_part a) bs) sound ts e = absurd cc
  terms_sound (with_part (list_part no_parts m) bs) sound ts e = absurd cc
  terms_sound (with_part (list_part (with_part x no_parts) m) bs) sound ts e = absurd cc
  terms_sound (with_part (list_part (with_part x (with_part b (with_part y ps))) m) bs) sound ts e = absurd cc

  pub names-count : (bs : Parts) → length (bound_names bs) ≡ count bs
  names-count no_parts = refl
  names-count (with_part b bs) = ap suc (names-count bs)

  some-terms : (ts : List Sorted) (bs : Parts) → length ts ≡ count bs → (are_bindings bs && not (count bs == 0)) ≡ true → HasFormula (without_sorts ts)
  some-terms [] bs e h = absurd (grind (arith, nat_tests))
  some-terms (t ∷ ts) bs e h = tt

  pub bound_sound : (bs : Parts) (body : Part) → AreSoundParts d bs → IsSoundPart d body → (t : Sorted) → let_of d scope bs body ≡ Ok t → HasOwnSort d (variable_sorts scope) t
  bound_sound bs body sound_bs sound_body t e =
      let form = halted-inverse (are_bindings bs && not (count bs == 0)) out_of_scope _ t e in
      let fresh = halted-inverse (not (has_repeated (present_names (bound_names bs)))) repeated_variable _ t form.1 in
      let terms = and_then-inverse (bound_terms d scope bs) _ t fresh.1 in
      let are = terms_sound bs sound_bs terms.0 terms.1 in
      let inner = bind (variables (bound_names bs) (sorts_of terms.0)) scope in
      let whole = and_then-inverse (meaning_of_part d inner body) (λ u. Ok (formula.Let (without_sorts terms.0) u.0, u.1)) t terms.2 in
      let long : length (bound_names bs) ≡ length (sorts_of terms.0) = names-count bs ∙ sym are.long ∙ sym (length-map terms.0 (λ (u : Sorted). u.1)) in
      let inner_inside : ScopeIn d inner = ScopeIn-bind d (variables (bound_names bs) (sorts_of terms.0)) scope (ScopeIn-variables d (bound_names bs) (sorts_of terms.0) are.there) inside in
      carried d (variable_sorts scope) (formula.Let (without_sorts terms.0) whole.0.0, whole.0.1) t whole.2 (
        sorts_of terms.0,
        some-terms terms.0 bs are.long form.0,
        are.sorted,
        subst (λ (env : List SortId). IsSorted d env whole.0.0 whole.0.1) (bound_sorts (bound_names bs) (sorts_of terms.0) scope long) (meaning_sound d theorems inner inner_inside body sound_body whole.0 whole.1),
      )
