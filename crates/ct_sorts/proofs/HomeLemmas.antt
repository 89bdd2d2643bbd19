-- Where the names of constructors and selectors stand, when the constructors of one more sort were pushed.
use Rattle.std.proofs.Common.{◌≡◌, ℕ, ◌+◌, ◌<◌, ◌⊎◌, List, [], ◌∷◌, ◌++◌, length, map, slice_get, Some, refl, sym, ◌∙◌, ap, subst, ⊎_elim, arith}
use Rattle.std.specs.List.{range_with_len}
use Rattle.std.proofs.lemmas.List.{length-map, map-append}
use Rattle.ct_lemmas.proofs.Lists.{slice_get-append_after, slice_get-append_cases, slice_get-append_left, slice_get-map_at, slice_get-map_source}
use Rattle.ct_generics.specs.Denoted.{sorts_of}
use Rattle.ct_generics.specs.Expression.{Expression, head_of}
use Rattle.ct_sorts.specs.declared.entries.CtorEntry.{CtorEntry}
use Rattle.ct_sorts.specs.declared.entries.SelEntry.{SelEntry}
use Rattle.ct_sorts.specs.declared.entries.SortEntry.{SortEntry}
use Rattle.ct_sorts.specs.declared.ids.CtorId.{CtorId}
use Rattle.ct_sorts.specs.declared.spelling.Home.{Home}
use Rattle.ct_sorts.specs.declared.tables.Tables.{Tables}
use Rattle.ct_sorts.specs.Declarations.{ctor_ids}
use Rattle.ct_sorts.specs.Determined.{IsCtorAt}
use Rattle.ct_sorts.specs.Grown.{Begins}
use Rattle.ct_sorts.specs.Stored.{sort_of_entry}
use Rattle.ct_sorts.specs.Tabled.{of_tables, HaveHomes, AreAtHome}
use Rattle.ct_sorts.proofs.Lists.{slice_get-range, range-slice_get}

at_longer : {X : Type 0} (first second : List X) → Begins first second → (i : ℕ) (x : X) → slice_get first i ≡ Some x → slice_get second i ≡ Some x
at_longer first second b i x at = ap (λ xs. slice_get xs i) b.1 ∙ slice_get-append_left first b.0 i x at

-- a constructor stays where it is
pub ctor_stays : (old new : Tables) → Begins old.sorts new.sorts → sorts_of new.table ≡ sorts_of old.table → (k : CtorId) (h i : ℕ) → IsCtorAt (of_tables old [] []) k h i → IsCtorAt (of_tables new [] []) k h i
ctor_stays old new b same k h i own =
    let entry = slice_get-map_source sort_of_entry old.sorts own.s own.sort own.sort_at in
    record {
      s = own.s;
      sort = own.sort;
      origin = own.origin;
      sort_at = slice_get-map_at sort_of_entry new.sorts own.s entry.0 (at_longer old.sorts new.sorts b own.s entry.0 entry.1) ∙ ap Some entry.2;
      origin_at = ap (λ (xs : List Expression). slice_get xs own.s) same ∙ own.origin_at;
      head_is = own.head_is;
      at = own.at;
    }

-- with one sort more and its constructors each has its home
pub homes_after : (old new : Tables) (e : Expression) (entry : List ℕ × SortEntry) (h n : ℕ) → new.sorts ≡ old.sorts ++ entry ∷ [] → entry.1.ctors ≡ ctor_ids (length old.ctors) n → sorts_of new.table ≡ sorts_of old.table
    → slice_get (sorts_of old.table) (length old.sorts) ≡ Some e → head_of e ≡ Some h → Begins old.ctors new.ctors
    → map (λ (c : CtorEntry). c.home) new.ctors ≡ map (λ (c : CtorEntry). c.home) old.ctors ++ map (λ (i : ℕ). record { head = h; ctor = i }) (range_with_len 0 n)
    → HaveHomes (of_tables old [] []) old.ctors → HaveHomes (of_tables new [] []) new.ctors
homes_after old new e entry h n sorts ids same origin head_is ctors homes have k c at =
    ⊎_elim
    (λ here. ctor_stays old new (entry ∷ [], sorts) same (record { 0 = k }) c.home.head c.home.ctor (have k c here))
    (λ later. last later.0 later.1)
    (slice_get-append_cases old.ctors ctors.0 k c (ap (λ (xs : List CtorEntry). slice_get xs k) (sym ctors.1) ∙ at))
  where
    last : (j : ℕ) → k ≡ length old.ctors + j → IsCtorAt (of_tables new [] []) (record { 0 = k }) c.home.head c.home.ctor
    last j is =
        let row = map (λ (i : ℕ). record { head = h; ctor = i }) (range_with_len 0 n) in
        let index : k ≡ length (map (λ (x : CtorEntry). x.home) old.ctors) + j = omega (arith, is, length-map old.ctors (λ (x : CtorEntry). x.home)) in
        let there : slice_get row j ≡ Some c.home =
        sym (slice_get-append_after (map (λ (x : CtorEntry). x.home) old.ctors) row j)
        ∙ ap (slice_get (map (λ (x : CtorEntry). x.home) old.ctors ++ row)) (sym index)
        ∙ ap (λ (xs : List Home). slice_get xs k) (sym homes)
        ∙ slice_get-map_at (λ (x : CtorEntry). x.home) new.ctors k c at in
        let found = slice_get-range (λ (i : ℕ). record { head = h; ctor = i }) 0 n j c.home there in
        let zero_plus : 0 + j ≡ j = omega arith in
        let own : IsCtorAt (of_tables new [] []) (record { 0 = k }) h j = record {
          s = length old.sorts;
          sort = sort_of_entry entry;
          origin = e;
          sort_at = slice_get-map_at sort_of_entry new.sorts (length old.sorts) entry (ap (λ (xs : List (List ℕ × SortEntry)). slice_get xs (length old.sorts)) sorts ∙ last_is old.sorts entry);
          origin_at = ap (λ (xs : List Expression). slice_get xs (length old.sorts)) same ∙ origin;
          head_is = head_is;
          at = ap (λ (xs : List CtorId). slice_get xs j) ids ∙ range-slice_get (λ (m : ℕ). record { 0 = m }) (length old.ctors) n j found.0 ∙ ap (λ (m : ℕ). Some (record { 0 = m })) (sym is);
        } in
        let home_is : c.home ≡ record { head = h; ctor = j } = found.1 ∙ ap (λ (m : ℕ). record { head = h; ctor = m }) zero_plus in
        subst (λ (x : Home). IsCtorAt (of_tables new [] []) (record { 0 = k }) x.head x.ctor) (sym home_is) own
      where
        last_is : {X : Type 0} (xs : List X) (x : X) → slice_get (xs ++ x ∷ []) (length xs) ≡ Some x
        last_is [] x = refl
        last_is (y ∷ xs) x = last_is xs x

-- selectors of one constructor more are at its home
pub at_home_after : (ctors : List CtorEntry) (sels new : List SelEntry) (entry : CtorEntry) → AreAtHome ctors sels
    → ((s : ℕ) (sel : SelEntry) → slice_get new s ≡ Some sel → (slice_get sels s ≡ Some sel) ⊎ ((sel.home ≡ entry.home) × (sel.ctor ≡ record { 0 = length ctors })))
    → AreAtHome (ctors ++ entry ∷ []) new
at_home_after ctors sels new entry have pushed s sel at =
    ⊎_elim
    (λ old. let own = have s sel old in (own.0, slice_get-append_left ctors (entry ∷ []) sel.ctor.0 own.0 own.1, own.2))
    (λ one. (entry, ap (λ (k : CtorId). slice_get (ctors ++ entry ∷ []) k.0) one.1 ∙ end ctors entry, one.0))
    (pushed s sel at)
  where
    end : {X : Type 0} (xs : List X) (x : X) → slice_get (xs ++ x ∷ []) (length xs) ≡ Some x
    end [] x = refl
    end (y ∷ xs) x = end xs x
