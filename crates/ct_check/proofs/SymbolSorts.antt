-- Symbols with arguments of their sorts are well sorted.
use Rattle.std.proofs.Common.{◌≡◌, ℕ, suc, ◌<◌, List, [], ◌∷◌, length, map, Option, Some, option_map, unwrap_or, slice_get, refl, sym, ◌∙◌, ap, subst}
use Rattle.std.specs.List.{AllZip}
use Rattle.ct_lemmas.proofs.Lists.{slice_get-there}
use Rattle.ct_sorts.specs.declared.ids.SortId.{SortId}
use Rattle.ct_sorts.specs.declared.ids.CtorId.{CtorId}
use Rattle.ct_sorts.specs.declared.ids.SelId.{SelId}
use Rattle.ct_sorts.specs.declared.ids.Symbol.{Symbol}
use Rattle.ct_sorts.specs.declared.ids.Symbol.TheVariants.{Ctor, Sel, Fun, Def, GenCtor, GenSel}
use Rattle.ct_sorts.specs.Declarations.{Declarations, Constructor, Selector, Function}
use Rattle.ct_sorts.specs.Consistent.{IsConsistent}
use Rattle.ct_sorts.specs.Lookup.{IsSymbol}
use Rattle.ct_sorts.specs.Structure.{HaveOwnConstructors, AreOfTheirSorts, HaveOwnSelectors, AreOfTheirConstructors}
use Rattle.ct_instances.proofs.InstanceLemmas.{AreMade}
use Rattle.ct_terms.specs.CoreSorts.{IsFieldSort, AreFieldSorts}
use Rattle.ct_formulas.specs.Formula.{Formula, Formulas, no_formulas, with_formula, Sel as SelFormula}
use Rattle.ct_formulas.specs.FormulaSorts.{IsSorted, AllSorted}
use Rattle.ct_names.specs.Symbols.{field_sort_id, ctor_field_sorts, ctor_sort, sel_argument, argument_sorts, result_sort, symbol_applied}

-- what holds of consistent declarations
pub record Theorems (d : Declarations) : Type 0 where
  pub own_constructors : HaveOwnConstructors d
  pub of_their_sorts : AreOfTheirSorts d
  pub own_selectors : HaveOwnSelectors d
  pub of_their_constructors : AreOfTheirConstructors d
  pub consistent : IsConsistent d
  pub made : AreMade d

-- a symbol of stated sorts
abbrev pub IsPlain : Symbol → Type 0
IsPlain (Ctor c) = Unit {0}
IsPlain (Sel s) = Unit {0}
IsPlain (Fun f) = Unit {0}
IsPlain (Def k) = Unit {0}
IsPlain (GenCtor g i) = ⊥
IsPlain (GenSel g i k) = ⊥

abbrev sort_at : Option Selector → SortId
sort_at o = unwrap_or (option_map (λ (sel : Selector). sel.sort) o) (record { 0 = 0 })

abbrev sels_at : Option Constructor → List SelId
sels_at o = unwrap_or (option_map (λ (ctor : Constructor). ctor.sels) o) []

abbrev pub owner_at : Option Constructor → SortId
owner_at o = unwrap_or (option_map (λ (ctor : Constructor). ctor.sort) o) (record { 0 = 0 })

-- the sorts of fields
fields_are : (d : Declarations) (sels : List SelId) → ((i : ℕ) (s : SelId) → slice_get sels i ≡ Some s → (sel : Selector) × (slice_get d.sels s.0 ≡ Some sel)) → AllZip (IsFieldSort d) sels (map (field_sort_id d) sels)
fields_are d [] at = tt
fields_are d (s ∷ sels) at =
    let here = at 0 s refl in
    ((here.0, here.1, sym (ap sort_at here.1)), fields_are d sels (λ i t e. at (suc i) t e))

pub field_sorts : (d : Declarations) → Theorems d → (c : CtorId) (ctor : Constructor) → slice_get d.ctors c.0 ≡ Some ctor → AreFieldSorts d ctor.sels (ctor_field_sorts d c)
field_sorts d theorems c ctor at =
    subst (λ (sels : List SelId). AreFieldSorts d ctor.sels (map (field_sort_id d) sels)) (sym (ap sels_at at))
    (fields_are d ctor.sels (λ i s e. let own = theorems.own_selectors c.0 i ctor s at e in (own.0, own.1)))

abbrev function_args : Option Function → List SortId
function_args o = unwrap_or (option_map (λ (f : Function). f.args) o) []

abbrev function_result : Option Function → SortId
function_result o = unwrap_or (option_map (λ (f : Function). f.result) o) (record { 0 = 0 })

module _ (d : Declarations) (theorems : Theorems d) (env : List SortId) where
  selected_sorted : (s : SelId) → s.0 < length d.sels → (t : Formula) → IsSorted d env t (sel_argument d s) → IsSorted d env (SelFormula s t) (field_sort_id d s)
  selected_sorted s h t sorted =
      let sel = slice_get-there d.sels s.0 h in
      let own = theorems.of_their_constructors s.0 sel.0 sel.1 in
      let side : sel_argument d s ≡ own.0.sort =
      ap (λ (o : Option Selector). unwrap_or (option_map (λ (x : Selector). ctor_sort d x.ctor) o) (record { 0 = 0 })) sel.1 ∙ ap owner_at own.1 in
      (sel.0, own.0, sel.1, own.1, subst (λ (r : SortId). IsSorted d env t r) side sorted, sym (ap sort_at sel.1))

  pub applied_sorted : (s : Symbol) → IsPlain s → IsSymbol d s → (ts : Formulas) → AllSorted d env ts (argument_sorts d s) → IsSorted d env (symbol_applied s ts) (result_sort d s)
  applied_sorted (Ctor c) plain h ts sorted =
      let ctor = slice_get-there d.ctors c.0 h in
      (ctor.0, ctor_field_sorts d c, ctor.1, field_sorts d theorems c ctor.0 ctor.1, sorted, sym (ap owner_at ctor.1))
  applied_sorted (Sel s) plain h no_formulas sorted = absurd sorted
  applied_sorted (Sel s) plain h (with_formula t no_formulas) sorted = selected_sorted s h t sorted.0
  applied_sorted (Sel s) plain h (with_formula t (with_formula u ts)) sorted = absurd sorted.1
  applied_sorted (Fun f) plain h ts sorted =
      let function = slice_get-there d.functions f.0 h in
      (function.0, function.1, subst (λ (r : List SortId). AllSorted d env ts r) (ap function_args function.1) sorted, sym (ap function_result function.1))
  applied_sorted (Def k) plain h ts sorted =
      let definition = slice_get-there d.definitions k.0 h in
      (definition.0, definition.1, subst (λ (r : List SortId). AllSorted d env ts r) (ap function_args definition.1) sorted, sym (ap function_result definition.1))
  applied_sorted (GenCtor g i) plain h ts sorted = absurd plain
  applied_sorted (GenSel g i k) plain h ts sorted = absurd plain
