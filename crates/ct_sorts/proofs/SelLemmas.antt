-- The selectors of a constructor, and the constructors of a sort, as they were pushed.
use Rattle.std.proofs.Common.{◌≡◌, ℕ, zero, suc, ◌+◌, ◌<◌, ◌⊎◌, List, [], ◌∷◌, ◌++◌, length, map, take, get_or, slice_get, Option, Some, option_map, unwrap_or, refl, sym, ◌∙◌, ap, subst, inl, inr, ⊎_elim, arith, length-append}
use Rattle.std.specs.Option.{option_and_then}
use Rattle.std.proofs.lemmas.List.{append_assoc, append-nil, map-append}
use Rattle.std.proofs.lemmas.Option.{none-some, same_Some, slice_get_within}
use Rattle.ct_lemmas.proofs.Lists.{slice_get-append_cases, slice_get-there}
use Rattle.ct_generics.specs.declared.nodes.ExprId.{ExprId}
use Rattle.ct_generics.specs.Expression.{Expression}
use Rattle.ct_sorts.specs.declared.entries.CtorEntry.{CtorEntry}
use Rattle.ct_sorts.specs.declared.entries.SelEntry.{SelEntry}
use Rattle.ct_sorts.specs.declared.ids.CtorId.{CtorId}
use Rattle.ct_sorts.specs.declared.ids.SortId.{SortId}
use Rattle.ct_sorts.specs.declared.spelling.Home.{Home}
use Rattle.ct_sorts.specs.declared.spelling.Spelling.{Spelling}
use Rattle.ct_sorts.specs.Declarations.{Selector}
use Rattle.ct_sorts.specs.Growing.{AreNumbered}
use Rattle.ct_sorts.specs.Heads.{NamesEach}
use Rattle.ct_sorts.specs.Made.{sels_of_ctor}
use Rattle.ct_sorts.specs.Same.{sort_among}
use Rattle.ct_sorts.specs.Shapes.{field_shapes}
use Rattle.ct_sorts.specs.Stored.{field_name_at, sel_of, spelling_at}

-- entry k of a constructor is that of its field k, of the sort that stands at its number
pub record IsSelEntry (sorts row : List ExprId) (home : Home) (ctor : CtorId) (k : ℕ) (entry : SelEntry) : Type 0 where
  pub home_is : entry.home ≡ home
  pub ctor_is : entry.ctor ≡ ctor
  pub place_is : entry.place ≡ k
  pub sort_is : (id : ExprId) → slice_get row k ≡ Some id → slice_get sorts entry.sort.0 ≡ Some id

-- entries of the first so many fields came after those that were there
pub record ArePushed (sorts row : List ExprId) (home : Home) (ctor : CtorId) (old now : List SelEntry) (count : ℕ) : Type 0 where
  pub more : List SelEntry
  pub now_is : now ≡ old ++ more
  pub long : length more ≡ count
  pub each : (k : ℕ) (entry : SelEntry) → slice_get more k ≡ Some entry → IsSelEntry sorts row home ctor k entry

pub pushed_none : (sorts row : List ExprId) (home : Home) (ctor : CtorId) (old : List SelEntry) → ArePushed sorts row home ctor old old 0
pushed_none sorts row home ctor old = record { more = []; now_is = sym (append-nil old); long = refl; each = λ k entry at. absurd (none-some _ at) }

pub pushed_more : (sorts row : List ExprId) (home : Home) (ctor : CtorId) (old now then' : List SelEntry) (count : ℕ) (entry : SelEntry) → ArePushed sorts row home ctor old now count → IsSelEntry sorts row home ctor count entry → then' ≡ now ++ entry ∷ [] → ArePushed sorts row home ctor old then' (count + 1)
pushed_more sorts row home ctor old now then' count entry p one is = record {
  more = p.more ++ entry ∷ [];
  now_is = is ∙ ap (λ xs. xs ++ entry ∷ []) p.now_is ∙ append_assoc old p.more (entry ∷ []);
  long = omega (arith, length-append p.more (entry ∷ []), p.long);
  each = λ k e at.
      ⊎_elim
      (λ here. p.each k e here)
      (λ last. subst (λ n. IsSelEntry sorts row home ctor n e) (sym (last.0 ∙ p.long)) (subst (IsSelEntry sorts row home ctor count) (sym last.1) one))
      (last_or_here p.more entry k e at);
}
  where
    last_or_here : (xs : List SelEntry) (x : SelEntry) (k : ℕ) (e : SelEntry) → slice_get (xs ++ x ∷ []) k ≡ Some e → (slice_get xs k ≡ Some e) ⊎ ((k ≡ length xs) × (e ≡ x))
    last_or_here [] x zero e at = inr (refl, sym (same_Some _ _ at))
    last_or_here [] x (suc k) e at = absurd (none-some _ at)
    last_or_here (y ∷ xs) x zero e at = inl at
    last_or_here (y ∷ xs) x (suc k) e at = ⊎_elim (λ h. inl h) (λ h. inr (ap suc h.0, h.1)) (last_or_here xs x k e at)

-- each entry was there before, or is of this constructor
pub pushed_homes : (sorts row : List ExprId) (home : Home) (ctor : CtorId) (old now : List SelEntry) (count : ℕ) → ArePushed sorts row home ctor old now count → (s : ℕ) (entry : SelEntry) → slice_get now s ≡ Some entry → (slice_get old s ≡ Some entry) ⊎ ((entry.home ≡ home) × (entry.ctor ≡ ctor))
pushed_homes sorts row home ctor old now count p s entry at =
    ⊎_elim (λ here. inl here) (λ new. let one = p.each new.0 entry new.2 in inr (one.home_is, one.ctor_is))
    (slice_get-append_cases old p.more s entry (ap (λ (xs : List SelEntry). slice_get xs s) (sym p.now_is) ∙ at))

-- what they stand for
module _ (spellings : List (List Spelling)) (origins : List Expression) (home : Home) (ctor : CtorId) where
  stand_for : (place : ℕ) (names : List (List ℕ)) (es : List Expression) (more : List SelEntry) → length names ≡ length es → length more ≡ length es
      → ((k : ℕ) (name : List ℕ) → slice_get names k ≡ Some name → field_name_at spellings home (place + k) ≡ name)
      → ((k : ℕ) (entry : SelEntry) (e : Expression) → slice_get more k ≡ Some entry → slice_get es k ≡ Some e → (entry.home ≡ home) × (entry.ctor ≡ ctor) × (entry.place ≡ place + k) × (sort_among origins e ≡ entry.sort))
      → map (sel_of spellings) more ≡ sels_of_ctor (sort_among origins) ctor.0 place (field_shapes names es)
  stand_for place [] [] [] same long named each = refl
  stand_for place [] [] (entry ∷ more) same long named each = absurd (omega (arith, long))
  stand_for place [] (e ∷ es) more same long named each = absurd (omega (arith, same))
  stand_for place (name ∷ names) [] more same long named each = absurd (omega (arith, same))
  stand_for place (name ∷ names) (e ∷ es) [] same long named each = absurd (omega (arith, long))
  stand_for place (name ∷ names) (e ∷ es) (entry ∷ more) same long named each =
      let here : place + 0 ≡ place = omega arith in
      let next : (k : ℕ) → place + 1 + k ≡ place + suc k = λ k. omega arith in
      let one = each 0 entry e refl refl in
      let first : field_name_at spellings entry.home entry.place ≡ name = (λ i. field_name_at spellings (one.0 i) (one.2 i)) ∙ named 0 name refl in
      let rest = stand_for (place + 1) names es more (omega (arith, same)) (omega (arith, long)) (λ k n at. ap (field_name_at spellings home) (next k) ∙ named (suc k) n at) (λ k x f at also. let later = each (suc k) x f at also in (later.0, later.1, later.2 ∙ sym (next k), later.3)) in
      let place_is : entry.place ≡ place = one.2 ∙ here in
      λ i. record { name = first i; ctor = one.1 i; place = place_is i; sort = sym one.3 i } ∷ rest i

  pub pushed_stand : (sorts row : List ExprId) (old now : List SelEntry) (es : List Expression) (ctors : List Spelling) (names : Spelling) → ArePushed sorts row home ctor old now (length row) → AreNumbered sorts row origins es → slice_get spellings home.head ≡ Some ctors → slice_get ctors home.ctor ≡ Some names → NamesEach names es
      → map (sel_of spellings) now ≡ map (sel_of spellings) old ++ sels_of_ctor (sort_among origins) ctor.0 0 (field_shapes names.fields es)
  pushed_stand sorts row old now es ctors names p numbered at_head at_ctor named =
      let spelled : spelling_at spellings home ≡ Some names = ap (option_and_then (λ (cs : List Spelling). slice_get cs home.ctor)) at_head ∙ at_ctor in
      let zero_plus : (k : ℕ) → 0 + k ≡ k = λ k. omega arith in
      ap (map (sel_of spellings)) p.now_is
      ∙ map-append (sel_of spellings) old p.more
      ∙ ap (λ xs. map (sel_of spellings) old ++ xs)
      (stand_for 0 names.fields es p.more named (p.long ∙ numbered.0)
      (λ k name at. ap (λ (o : Option Spelling). unwrap_or (option_and_then (λ (s : Spelling). slice_get s.fields (0 + k)) o) []) spelled ∙ ap (λ n. unwrap_or (slice_get names.fields n) []) (zero_plus k) ∙ ap (λ (o : Option (List ℕ)). unwrap_or o []) at)
      (λ k entry e at also.
      let one = p.each k entry at in
      let id = slice_get-there row k (omega (arith, slice_get_within es k e also, numbered.0)) in
      let number = numbered.1 k entry.sort.0 id.0 e id.1 also (one.sort_is id.0 id.1) in
      (one.home_is, one.ctor_is, one.place_is ∙ sym (zero_plus k), ap (λ (o : Option ℕ). record { 0 = unwrap_or o 0 }) number)))
