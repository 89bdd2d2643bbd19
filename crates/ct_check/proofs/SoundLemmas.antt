-- A formula that elaboration gives is well sorted.
use Rattle.std.proofs.Common.{◌≡◌, ℕ, suc, ◌+◌, ◌≤◌, Bool, true, false, if◌then◌else◌, ◌==◌, List, [], ◌∷◌, length, Option, Some, None, slice_get, Ok, refl, sym, ◌∙◌, ap, subst, arith}
use Rattle.std.proofs.lemmas.Bool.Decides.{nat_tests}
use Rattle.ct_sorts.specs.declared.ids.SortId.{SortId}
use Rattle.ct_sorts.specs.declared.ids.Symbol.{Symbol}
use Rattle.ct_sorts.specs.declared.ids.Symbol.TheVariants.{Ctor, Sel, Fun, Def, GenCtor, GenSel}
use Rattle.ct_sorts.specs.Declarations.{Declarations, IsSort}
use Rattle.ct_sorts.specs.Lookup.{IsSymbol}
use Rattle.ct_sexpr.specs.Readable.{name_of_atom}
use Rattle.ct_formulas.specs.Formula as formula
use Rattle.ct_formulas.specs.Formula.{Formulas, no_formulas, with_formula}
use Rattle.ct_formulas.specs.FormulaSorts.{IsSorted, AllSorted, AreOfSort, HasFormula, AreAtLeastTwo}
use Rattle.ct_names.specs.declared.operator.CoreOperator.{CoreOperator}
use Rattle.ct_names.specs.Refusals.{wrong_count}
use Rattle.ct_names.specs.Outcome.{Elaborated, Sorted, and_then, of_sort}
use Rattle.ct_instances.specs.declared.among.NamedCtor.{NamedCtor}
use Rattle.ct_names.specs.Symbols.{symbol_of, operator_of, tester_named, argument_sorts, result_sort, symbol_applied}
use Rattle.ct_names.specs.Variables.{Variable, ScopeIn, is_named, find_from, find, variable_sorts}
use Rattle.ct_names.specs.Parts.{Part, Parts, atom_part, list_part, no_parts, with_part, count}
use Rattle.ct_names.specs.Elaboration.{lone, lone_name, lone_global, unless_for, lone_symbol, lone_operator, meaning_of_part, arguments, all_of_sort}
use Rattle.ct_check.proofs.Inversions.{and_then-inverse, same_value, of_sort-inverse}
use Rattle.ct_names.proofs.LastingLemmas.{symbol_inside}
use Rattle.ct_names.proofs.NeedLemmas.{grows_itself}
use Rattle.ct_names.proofs.StayPatterns.{lone_stays}
use Rattle.ct_check.proofs.SymbolSorts.{Theorems, IsPlain, applied_sorted}

-- what a list means is well sorted, at every scope, and its sort is there
abbrev pub IsSoundMeaning : Declarations → (List Variable → Elaborated Sorted) → Type 0
IsSoundMeaning d m = (scope : List Variable) → ScopeIn d scope → (t : Sorted) → m scope ≡ Ok t → IsSorted d (variable_sorts scope) t.0 t.1 × IsSort d t.1

-- so is what each list inside means
abbrev mutual
  pub IsSoundPart : Declarations → Part → Type 0
  IsSoundPart d (atom_part a) = Unit {0}
  IsSoundPart d (list_part ps m) = AreSoundParts d ps × IsSoundMeaning d m

  pub AreSoundParts : Declarations → Parts → Type 0
  AreSoundParts d no_parts = Unit {0}
  AreSoundParts d (with_part p ps) = IsSoundPart d p × AreSoundParts d ps

-- a value that is well sorted, and another that is the same
abbrev pub HasOwnSort : Declarations → List SortId → Sorted → Type 0
HasOwnSort d env t = IsSorted d env t.0 t.1

pub carried : (d : Declarations) (env : List SortId) (t u : Sorted) → (let o : Elaborated Sorted = Ok t in o) ≡ Ok u → HasOwnSort d env t → HasOwnSort d env u
carried d env t u e h = subst (λ (x : Sorted). HasOwnSort d env x) (same_value t u e) h

-- a variable that is found has its sort at its number
pub record StandsAt (n : ℕ) (scope : List Variable) (v : ℕ × SortId) : Type 0 where
  pub index : ℕ
  pub number : v.0 ≡ n + index
  pub sort : slice_get (variable_sorts scope) index ≡ Some v.1

find_sorted : (n : ℕ) (scope : List Variable) (name : List ℕ) (v : ℕ × SortId) → find_from n scope name ≡ Some v → StandsAt n scope v
find_sorted n [] name v e = absurd cc
find_sorted n (x ∷ scope) name v e = by (is_named name x.name) refl (find_sorted (suc n) scope name v)
  where
    by : (b : Bool) → is_named name x.name ≡ b → (find_from (suc n) scope name ≡ Some v → StandsAt (suc n) scope v) → StandsAt n (x ∷ scope) v
    by true is further =
        let here : (let o : Option (ℕ × SortId) = Some (n, x.sort) in o) ≡ Some v = rw is at e in
        let same : (let w : ℕ × SortId = (n, x.sort) in w) ≡ v = cc in
        let number : n ≡ v.0 = ap (λ (w : ℕ × SortId). w.0) same in
        record { index = 0; number = omega (arith, number); sort = ap (λ (w : ℕ × SortId). Some w.1) same }
    by false is further =
        let there : find_from (suc n) scope name ≡ Some v = rw is at e in
        let at = further there in
        record { index = suc at.index; number = omega (arith, at.number); sort = at.sort }

pub empty_from : (xs : List SortId) → (length xs == 0) ≡ true → xs ≡ []
empty_from [] e = refl
empty_from (x ∷ xs) e = absurd (grind (arith, nat_tests))

module _ (d : Declarations) (theorems : Theorems d) where
  plain_symbol_sound : (env : List SortId) (s : Symbol) → IsPlain s → IsSymbol d s → (t : Sorted) (none : Bool) → (length (argument_sorts d s) == 0) ≡ none → unless_for (if none then None else Some wrong_count) (symbol_applied s no_formulas, result_sort d s) ≡ Ok t → HasOwnSort d env t
  plain_symbol_sound env s plain inside t false is e = absurd cc
  plain_symbol_sound env s plain inside t true is e =
      carried d env (symbol_applied s no_formulas, result_sort d s) t e
      (applied_sorted d theorems env s plain inside no_formulas (subst (λ (sorts : List SortId). AllSorted d env no_formulas sorts) (sym (empty_from (argument_sorts d s) is)) tt))

  pub lone_symbol_sound : (env : List SortId) (s : Symbol) → IsSymbol d s → (t : Sorted) → lone_symbol d s ≡ Ok t → HasOwnSort d env t
  lone_symbol_sound env (Ctor c) inside t e = plain_symbol_sound env (Ctor c) tt inside t (length (argument_sorts d (Ctor c)) == 0) refl e
  lone_symbol_sound env (Sel s) inside t e = plain_symbol_sound env (Sel s) tt inside t (length (argument_sorts d (Sel s)) == 0) refl e
  lone_symbol_sound env (Fun f) inside t e = plain_symbol_sound env (Fun f) tt inside t (length (argument_sorts d (Fun f)) == 0) refl e
  lone_symbol_sound env (Def k) inside t e = plain_symbol_sound env (Def k) tt inside t (length (argument_sorts d (Def k)) == 0) refl e
  lone_symbol_sound env (GenCtor g i) inside t e = absurd cc
  lone_symbol_sound env (GenSel g i k) inside t e = absurd cc

  operator_refused : (o : Option CoreOperator) (k : Option NamedCtor) (t : Sorted) → lone_operator o k ≡ Ok t → ⊥
  operator_refused None None t e = cc
  operator_refused None (Some k) t e = cc
  operator_refused (Some o) k t e = cc

  lone_global_sound : (env : List SortId) (name : List ℕ) (s : Option Symbol) → symbol_of d name ≡ s → (t : Sorted) → lone_global d name s ≡ Ok t → HasOwnSort d env t
  lone_global_sound env name None is t e = absurd (operator_refused (operator_of name) (tester_named d name) t e)
  lone_global_sound env name (Some s) is t e = lone_symbol_sound env s (symbol_inside d d (grows_itself d) theorems.consistent name s is) t e

  lone_name_sound : (scope : List Variable) (name : List ℕ) (v : Option (ℕ × SortId)) → find scope name ≡ v → (t : Sorted) → lone_name d name v ≡ Ok t → HasOwnSort d (variable_sorts scope) t
  lone_name_sound scope name (Some v) is t e =
      let at = find_sorted 0 scope name v is in
      let number : v.0 ≡ at.index = omega (arith, at.number) in
      carried d (variable_sorts scope) (formula.Var v.0, v.1) t e (ap (λ (n : ℕ). slice_get (variable_sorts scope) n) number ∙ at.sort)
  lone_name_sound scope name None is t e = lone_global_sound (variable_sorts scope) name (symbol_of d name) refl t e

  pub lone_sound : (scope : List Variable) (name : Option (List ℕ)) (t : Sorted) → lone d scope name ≡ Ok t → HasOwnSort d (variable_sorts scope) t
  lone_sound scope None t e = absurd cc
  lone_sound scope (Some name) t e = lone_name_sound scope name (find scope name) refl t e

  pub meaning_sound : (scope : List Variable) → ScopeIn d scope → (p : Part) → IsSoundPart d p → (t : Sorted) → meaning_of_part d scope p ≡ Ok t → HasOwnSort d (variable_sorts scope) t
  meaning_sound scope inside (atom_part a) sound t e = lone_sound scope (name_of_atom a) t e
  meaning_sound scope inside (list_part ps m) sound t e = (sound.1 scope inside t e).0

  -- and its sort is there
  pub meaning_inside : (scope : List Variable) → ScopeIn d scope → (p : Part) → IsSoundPart d p → (t : Sorted) → meaning_of_part d scope p ≡ Ok t → IsSort d t.1
  meaning_inside scope inside (atom_part a) sound t e = (lone_stays d d (grows_itself d) theorems.consistent scope inside (name_of_atom a) t e).1
  meaning_inside scope inside (list_part ps m) sound t e = (sound.1 scope inside t e).1

  -- arguments of stated sorts
  pub arguments_sound : (scope : List Variable) → ScopeIn d scope → (sorts : List SortId) (ps : Parts) → AreSoundParts d ps → (ts : Formulas) → arguments d scope sorts ps ≡ Ok ts → AllSorted d (variable_sorts scope) ts sorts
  arguments_sound scope inside [] no_parts sound ts e = subst (λ (us : Formulas). AllSorted d (variable_sorts scope) us []) (same_value no_formulas ts e) tt
  arguments_sound scope inside [] (with_part p ps) sound ts e = absurd cc
  arguments_sound scope inside (s ∷ sorts) no_parts sound ts e = absurd cc
  arguments_sound scope inside (s ∷ sorts) (with_part p ps) sound ts e =
      let one = and_then-inverse (of_sort s (meaning_of_part d scope p)) (λ t. and_then (arguments d scope sorts ps) (λ us. Ok (with_formula t us))) ts e in
      let rest = and_then-inverse (arguments d scope sorts ps) (λ us. Ok (with_formula one.0 us)) ts one.2 in
      subst (λ (us : Formulas). AllSorted d (variable_sorts scope) us (s ∷ sorts)) (same_value (with_formula one.0 rest.0) ts rest.2)
      (meaning_sound scope inside p sound.0 (one.0, s) (of_sort-inverse s (meaning_of_part d scope p) one.0 one.1), arguments_sound scope inside sorts ps sound.1 rest.0 rest.1)

  -- arguments of one sort
  pub all_sound : (scope : List Variable) → ScopeIn d scope → (s : SortId) (ps : Parts) → AreSoundParts d ps → (ts : Formulas) → all_of_sort d scope s ps ≡ Ok ts → AreOfSort d (variable_sorts scope) ts s
  all_sound scope inside s no_parts sound ts e = subst (λ (us : Formulas). AreOfSort d (variable_sorts scope) us s) (same_value no_formulas ts e) tt
  all_sound scope inside s (with_part p ps) sound ts e =
      let one = and_then-inverse (of_sort s (meaning_of_part d scope p)) (λ t. and_then (all_of_sort d scope s ps) (λ us. Ok (with_formula t us))) ts e in
      let rest = and_then-inverse (all_of_sort d scope s ps) (λ us. Ok (with_formula one.0 us)) ts one.2 in
      subst (λ (us : Formulas). AreOfSort d (variable_sorts scope) us s) (same_value (with_formula one.0 rest.0) ts rest.2)
      (meaning_sound scope inside p sound.0 (one.0, s) (of_sort-inverse s (meaning_of_part d scope p) one.0 one.1), all_sound scope inside s ps sound.1 rest.0 rest.1)

  -- as many as there are parts
  pub all_some : (scope : List Variable) (s : SortId) (ps : Parts) (ts : Formulas) → all_of_sort d scope s ps ≡ Ok ts → 1 ≤ count ps → HasFormula ts
  all_some scope s no_parts ts e h = absurd (omega arith)
  all_some scope s (with_part p ps) ts e h =
      let one = and_then-inverse (of_sort s (meaning_of_part d scope p)) (λ t. and_then (all_of_sort d scope s ps) (λ us. Ok (with_formula t us))) ts e in
      let rest = and_then-inverse (all_of_sort d scope s ps) (λ us. Ok (with_formula one.0 us)) ts one.2 in
      subst (λ (us : Formulas). HasFormula us) (same_value (with_formula one.0 rest.0) ts rest.2) tt

  pub all_several : (scope : List Variable) (s : SortId) (ps : Parts) (ts : Formulas) → all_of_sort d scope s ps ≡ Ok ts → 2 ≤ count ps → AreAtLeastTwo ts
  all_several scope s no_parts ts e h = absurd (omega arith)
  all_several scope s (with_part p ps) ts e h =
      let one = and_then-inverse (of_sort s (meaning_of_part d scope p)) (λ t. and_then (all_of_sort d scope s ps) (λ us. Ok (with_formula t us))) ts e in
      let rest = and_then-inverse (all_of_sort d scope s ps) (λ us. Ok (with_formula one.0 us)) ts one.2 in
      subst (λ (us : Formulas). AreAtLeastTwo us) (same_value (with_formula one.0 rest.0) ts rest.2) (all_some scope s ps rest.0 rest.1 (omega arith))
