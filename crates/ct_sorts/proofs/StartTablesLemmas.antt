-- What every signature begins with is kept in the tables as it should be.
use Rattle.std.proofs.Common.{◌≡◌, ◌↔◌, ℕ, zero, suc, ◌+◌, ◌≤◌, Bool, true, IsTrue, List, [], ◌∷◌, ◌++◌, length, map, slice_get, Some, Result, Ok, Err, OnOk, codes, refl, sym, ◌∙◌, ap, ap₂, subst, subst₂, arith}
use Rattle.std.specs.List.{AllZip}
use Rattle.std.proofs.lemmas.Option.{none-some, same_Some}
use Rattle.ct_lemmas.proofs.Lists.{slice_get-map_at}
use Rattle.ct_generics.specs.declared.generics.Generics.{Generics}
use Rattle.ct_generics.specs.declared.sort_table.SortTable.{SortTable}
use Rattle.ct_generics.specs.Declarations.{Declared, Head}
use Rattle.ct_generics.specs.Denoted.{declared_of, sorts_of}
use Rattle.ct_generics.specs.Expression.{Expression, named}
use Rattle.ct_generics.specs.SortTable.{AreCounted, AreSorts}
use Rattle.ct_generics.specs.Stored.{AreDeclared}
use Rattle.ct_sorts.specs.declared.entries.CtorEntry.{CtorEntry}
use Rattle.ct_sorts.specs.declared.entries.SelEntry.{SelEntry}
use Rattle.ct_sorts.specs.declared.entries.SortEntry.{SortEntry}
use Rattle.ct_sorts.specs.declared.spelling.Home.{Home}
use Rattle.ct_sorts.specs.declared.spelling.Spelling.{Spelling}
use Rattle.ct_sorts.specs.declared.tables.Tables.{Tables}
use Rattle.ct_sorts.specs.Declarations.{Constructor, Declarations, bool, head_symbols, start}
use Rattle.ct_sorts.specs.Determined.{AreMarked, DetermineArguments, IsCtorAt}
use Rattle.ct_sorts.specs.Facts.{Facts}
use Rattle.ct_sorts.specs.Lookup.{names_of}
use Rattle.ct_sorts.specs.SortText.{sort_text}
use Rattle.ct_sorts.specs.Stored.{sort_of_entry, ctor_of, sel_of}
use Rattle.ct_sorts.specs.Symbols.{all_symbols}
use Rattle.ct_sorts.specs.Tabled.{of_tables, IsEntryOf, HaveHomes, AreAtHome, IsTabled}

-- the tables keep the start
pub record IsStart (t : Tables) : Type 0 where
  pub declared : AreDeclared t.generics start.declared
  pub stand : AreSorts t.table start.origins
  pub counted : AreCounted t.generics t.table
  pub spellings : t.spellings ≡ start.spellings
  pub determined : t.determined ≡ (true ∷ (true ∷ [])) ∷ []
  pub symbols : t.symbols ≡ all_symbols start
  pub sorts : map sort_of_entry t.sorts ≡ start.sorts
  pub texts : names_of t.sorts ≡ codes "Bool" ∷ []
  pub entries : AllZip (IsEntryOf start.origins) (map (λ (e : List ℕ × SortEntry). e.1) t.sorts) start.origins
  pub ctors : map (ctor_of start.spellings) t.ctors ≡ start.ctors
  pub homes : map (λ (e : CtorEntry). e.home) t.ctors ≡ record { head = 0; ctor = 0 } ∷ (record { head = 0; ctor = 1 } ∷ [])
  pub sels : t.sels ≡ []

marked : AreMarked start.declared.heads ((true ∷ (true ∷ [])) ∷ [])
marked = record {
  one_each = refl;
  enough = λ h head ctors at marks. few h head (length ctors) at;
  right = λ h i head ctors mark at marks at_i. right h i head ctors mark at marks at_i;
}
  where
    few : (h : ℕ) (head : Head) (n : ℕ) → slice_get start.declared.heads h ≡ Some head → length head.ctors ≤ n
    few zero head n at = subst (λ (x : Head). length x.ctors ≤ n) (same_Some _ _ at) (omega arith)
    few (suc h) head n at = absurd (none-some _ at)

    all_true : (i : ℕ) (mark : Bool) → slice_get (true ∷ (true ∷ [])) i ≡ Some mark → IsTrue mark
    all_true zero mark at = subst IsTrue (same_Some _ _ at) refl
    all_true (suc zero) mark at = subst IsTrue (same_Some _ _ at) refl
    all_true (suc (suc i)) mark at = absurd (none-some _ at)

    right : (h i : ℕ) (head : Head) (ctors : List Bool) (mark : Bool) → slice_get start.declared.heads h ≡ Some head → slice_get ((true ∷ (true ∷ [])) ∷ []) h ≡ Some ctors → slice_get ctors i ≡ Some mark → IsTrue mark ↔ DetermineArguments head i
    right zero i head ctors mark at marks at_i = (
      λ holds row at_row. absurd (none-some _ (subst (λ (x : Head). slice_get x.ctors i ≡ Some row) (sym (same_Some _ _ at)) at_row)),
      λ holds. all_true i mark (subst (λ (xs : List Bool). slice_get xs i ≡ Some mark) (sym (same_Some _ _ marks)) at_i),
    )
    right (suc h) i head ctors mark at marks at_i = absurd (none-some _ at)

-- the homes of `true` and `false`
start_homes : (ctors : List CtorEntry) → map (λ (e : CtorEntry). e.home) ctors ≡ record { head = 0; ctor = 0 } ∷ (record { head = 0; ctor = 1 } ∷ []) → HaveHomes start ctors
start_homes ctors homes k entry at = by k (sym (ap (λ (xs : List Home). slice_get xs k) homes) ∙ slice_get-map_at (λ (e : CtorEntry). e.home) ctors k entry at)
  where
    own : (k : ℕ) (home : Home) → ◌≡◌ {A = Home} (record { head = 0; ctor = k }) home → slice_get bool.ctors k ≡ Some (record { 0 = k }) → IsCtorAt start (record { 0 = k }) home.head home.ctor
    own k home same there = subst (λ (x : Home). IsCtorAt start (record { 0 = k }) x.head x.ctor) same (record { s = 0; sort = bool; origin = named 0; sort_at = refl; origin_at = refl; head_is = refl; at = there })

    by : (k : ℕ) → slice_get (record { head = 0; ctor = 0 } ∷ (record { head = 0; ctor = 1 } ∷ [])) k ≡ Some entry.home → IsCtorAt start (record { 0 = k }) entry.home.head entry.home.ctor
    by zero e = own 0 entry.home (same_Some _ _ e) refl
    by (suc zero) e = own 1 entry.home (same_Some _ _ e) refl
    by (suc (suc k)) e = absurd (none-some _ e)

module _ (facts : Facts) (t : Tables) (s : IsStart t) where
  declared_is : declared_of t.generics ≡ start.declared
  declared_is = facts.declared t.generics start.declared s.declared

  origins_are : sorts_of t.table ≡ start.origins
  origins_are = facts.sorts t.table start.origins s.stand

  pub start_is : of_tables t [] [] ≡ start
  start_is i = record {
    sorts = s.sorts i;
    ctors = (ap (λ x. map (ctor_of x) t.ctors) s.spellings ∙ s.ctors) i;
    sels = ap₂ (λ x y. map (sel_of x) y) s.spellings s.sels i;
    functions = [];
    definitions = [];
    declared = declared_is i;
    spellings = s.spellings i;
    origins = origins_are i;
  }

  pub start_tabled : IsTabled t
  start_tabled = record {
    declared = subst (AreDeclared t.generics) (sym declared_is) s.declared;
    stand = subst (AreSorts t.table) (sym origins_are) s.stand;
    counted = s.counted;
    texts = s.texts ∙ ap₂ (λ (d : Declared) (es : List Expression). map (sort_text d.heads) es) (sym declared_is) (sym origins_are);
    entries = subst (λ (o : List Expression). AllZip (IsEntryOf o) (map (λ (e : List ℕ × SortEntry). e.1) t.sorts) o) (sym origins_are) s.entries;
    symbols = ap names_of s.symbols ∙ ap head_symbols (sym s.spellings);
    resolved = s.symbols ∙ ap all_symbols (sym start_is);
    determined = subst₂ (λ (d : Declared) (m : List (List Bool)). AreMarked d.heads m) (sym declared_is) (sym s.determined) marked;
    homes = subst (λ (d : Declarations). HaveHomes d t.ctors) (sym start_is) (start_homes t.ctors s.homes);
    sel_homes = λ k entry at. absurd (none-some _ (ap (λ (xs : List SelEntry). slice_get xs k) (sym s.sels) ∙ at));
  }

-- what follows from eight things that hold where it is a value
pub on_all : {T E A₁ A₂ A₃ A₄ A₅ A₆ A₇ A₈ B : Type 0} (result : Result T E) → (A₁ → A₂ → A₃ → A₄ → A₅ → A₆ → A₇ → A₈ → B) → OnOk result A₁ → OnOk result A₂ → OnOk result A₃ → OnOk result A₄ → OnOk result A₅ → OnOk result A₆ → OnOk result A₇ → OnOk result A₈ → OnOk result B
on_all (Ok value) f a b c d e g h i = f a b c d e g h i
on_all (Err error) f a b c d e g h i = tt
