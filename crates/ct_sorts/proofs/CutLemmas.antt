-- Tables that were cut to a mark that splits nothing keep the first declarations.
use Rattle.std.proofs.Common.{◌≡◌, ℕ, zero, suc, ◌+◌, ◌<◌, ◌≤◌, Bool, List, [], ◌∷◌, ◌++◌, length, map, take, drop, slice_get, Option, Some, option_map, unwrap_or, refl, sym, ◌∙◌, ap, ap₂, subst, subst₂, arith}
use Rattle.std.specs.List.{AllZip}
use Rattle.std.specs.Option.{option_and_then}
use Rattle.std.proofs.lemmas.List.{length-map, length-take, length-take-le, take-append-drop, take-map, take_at}
use Rattle.std.proofs.lemmas.List.Concat.{flat_map-append}
use Rattle.std.proofs.lemmas.Option.{none-some, same_Some, slice_get_within}
use Rattle.ct_lemmas.proofs.Lists.{slice_get-map_at, slice_get-there}
use Rattle.ct_lemmas.proofs.Prefixes.{slice_get-take}
use Rattle.ct_generics.specs.Declarations.{Declared, Head, IsExpression}
use Rattle.ct_generics.specs.Denoted.{declared_of, sorts_of}
use Rattle.ct_generics.specs.Expression.{Expression, args_of, head_of}
use Rattle.ct_generics.specs.SortTable.{AreCounted}
use Rattle.ct_sorts.specs.declared.entries.CtorEntry.{CtorEntry}
use Rattle.ct_sorts.specs.declared.entries.SelEntry.{SelEntry}
use Rattle.ct_sorts.specs.declared.entries.SortEntry.{SortEntry}
use Rattle.ct_sorts.specs.declared.ids.CtorId.{CtorId}
use Rattle.ct_sorts.specs.declared.ids.SelId.{SelId}
use Rattle.ct_sorts.specs.declared.ids.SortId.{SortId}
use Rattle.ct_sorts.specs.declared.ids.Symbol.{Symbol}
use Rattle.ct_sorts.specs.declared.spelling.Home.{Home}
use Rattle.ct_sorts.specs.declared.spelling.Spelling.{Spelling}
use Rattle.ct_sorts.specs.declared.tables.Tables.{Tables}
use Rattle.ct_sorts.specs.Consistent.{IsConsistent}
use Rattle.ct_sorts.specs.Declarations.{Declarations, Sort, Constructor, Selector, Function, head_symbols, spelled}
use Rattle.ct_sorts.specs.Determined.{AreMarked, IsCtorAt}
use Rattle.ct_sorts.specs.Grown.{Begins, Extends}
use Rattle.ct_sorts.specs.Growing.{IsCutTo, IsStanding}
use Rattle.ct_sorts.specs.Lengths.{Lengths}
use Rattle.ct_sorts.specs.Lookup.{names_of}
use Rattle.ct_sorts.specs.Marks.{CanCut, cut, lengths}
use Rattle.ct_sorts.specs.SortText.{sort_text}
use Rattle.ct_sorts.specs.Stored.{sort_of_entry, ctor_of, sel_of, spelling_at, ctor_name_at, field_name_at}
use Rattle.ct_sorts.specs.Symbols.{all_symbols, symbols_from}
use Rattle.ct_sorts.specs.Tabled.{of_tables, IsEntryOf, IsNumberOf, HaveHomes, AreAtHome, IsTabled}
use Rattle.ct_sorts.proofs.AllSymbolsLemmas.{symbols_longer}
use Rattle.ct_sorts.proofs.ConsistentLemmas.{IsConsistent-cut}
use Rattle.ct_sorts.proofs.HeadLemmas.{head_of_closed}
use Rattle.ct_sorts.proofs.Lists.{take-slice_get}
use Rattle.ct_sorts.proofs.MoreHeadsLemmas.{text_same}
use Rattle.ct_sorts.proofs.StructureLemmas.{own_constructors, of_their_sorts, own_selectors, of_their_constructors}
use Rattle.ct_sorts.proofs.SymbolNamesLemmas.{names_all}

-- a list begins with its first elements
take-begins : {X : Type 0} (n : ℕ) (xs : List X) → Begins (take n xs) xs
take-begins n xs = (drop n xs, sym (take-append-drop n xs))

-- functions that agree on a list make one list of it
pub map_same : {X Y : Type 0} (f g : X → Y) (xs : List X) → ((i : ℕ) (x : X) → slice_get xs i ≡ Some x → f x ≡ g x) → map f xs ≡ map g xs
map_same f g [] same = refl
map_same f g (x ∷ xs) same = λ i. same 0 x refl i ∷ map_same f g xs (λ j y at. same (suc j) y at) i

pub AllZip-take : {X Y : Type 0} (R : X → Y → Type 0) (n : ℕ) (xs : List X) (ys : List Y) → AllZip R xs ys → AllZip R (take n xs) (take n ys)
AllZip-take R zero xs ys all = tt
AllZip-take R (suc n) [] [] all = tt
AllZip-take R (suc n) [] (y ∷ ys) all = absurd all
AllZip-take R (suc n) (x ∷ xs) [] all = absurd all
AllZip-take R (suc n) (x ∷ xs) (y ∷ ys) all = (all.0, AllZip-take R n xs ys all.1)

pub AllZip-at : {X Y : Type 0} (R S : X → Y → Type 0) (xs : List X) (ys : List Y) → AllZip R xs ys → ((i : ℕ) (x : X) (y : Y) → slice_get xs i ≡ Some x → slice_get ys i ≡ Some y → R x y → S x y) → AllZip S xs ys
AllZip-at R S [] [] all each = tt
AllZip-at R S [] (y ∷ ys) all each = absurd all
AllZip-at R S (x ∷ xs) [] all each = absurd all
AllZip-at R S (x ∷ xs) (y ∷ ys) all each = (each 0 x y refl refl all.0, AllZip-at R S xs ys all.1 (λ i z w at also h. each (suc i) z w at also h))

pub AllZip-source : {X Y : Type 0} (R : X → Y → Type 0) (xs : List X) (ys : List Y) (i : ℕ) (x : X) → AllZip R xs ys → slice_get xs i ≡ Some x → (y : Y) × (slice_get ys i ≡ Some y) × R x y
AllZip-source R [] ys i x all at = absurd (none-some _ at)
AllZip-source R (z ∷ xs) [] i x all at = absurd all
AllZip-source R (z ∷ xs) (y ∷ ys) zero x all at = (y, refl, subst (λ w. R w y) (same_Some _ _ at) all.0)
AllZip-source R (z ∷ xs) (y ∷ ys) (suc i) x all at = AllZip-source R xs ys i x all.1 at

-- beginnings of one length are one
same_length : {X : Type 0} (n k : ℕ) (xs : List X) → length (take n xs) ≡ length (take k xs) → take n xs ≡ take k xs
same_length zero zero xs e = refl
same_length zero (suc k) [] e = refl
same_length zero (suc k) (x ∷ xs) e = absurd (omega (arith, e))
same_length (suc n) zero [] e = refl
same_length (suc n) zero (x ∷ xs) e = absurd (omega (arith, e))
same_length (suc n) (suc k) [] e = refl
same_length (suc n) (suc k) (x ∷ xs) e = ap (λ ys. x ∷ ys) (same_length n k xs (omega (arith, e)))

module _ (old left : Tables) (m : Lengths) (fs ds : List Function) (c : IsConsistent (of_tables old fs ds)) (t : IsTabled old) (can : CanCut (of_tables old fs ds) m) (some : 1 ≤ m.sorts) (h : IsCutTo m old left) (origins : sorts_of left.table ≡ take m.origins (sorts_of old.table)) where
  ce : IsConsistent (cut (of_tables old fs ds) m)
  ce = IsConsistent-cut (of_tables old fs ds) m c can some

  extends : Extends (of_tables old fs ds) (cut (of_tables old fs ds) m)
  extends = record {
    sorts = take-begins m.sorts (of_tables old fs ds).sorts;
    ctors = take-begins m.ctors (of_tables old fs ds).ctors;
    sels = take-begins m.sels (of_tables old fs ds).sels;
    functions = take-begins m.functions fs;
    definitions = take-begins m.definitions ds;
    heads = take-begins m.heads (declared_of old.generics).heads;
    synonyms = take-begins m.synonyms (declared_of old.generics).synonyms;
    spellings = take-begins m.spellings old.spellings;
    origins = take-begins m.origins (sorts_of old.table);
  }

  -- the home of a constructor that is left is left
  home : (k : ℕ) (entry : CtorEntry) → slice_get old.ctors k ≡ Some entry → k < length (take m.ctors old.ctors) → IsCtorAt (cut (of_tables old fs ds) m) (record { 0 = k }) entry.home.head entry.home.ctor
  home k entry at within =
      let d = of_tables old fs ds in
      let e = cut d m in
      let own = t.homes k entry at in
      let below : k < length e.ctors = omega (arith, within, length-take m.ctors old.ctors, length-take m.ctors d.ctors, length-map old.ctors (ctor_of old.spellings)) in
      let ctor = slice_get-there e.ctors k below in
      let sort = of_their_sorts e ce k ctor.0 ctor.1 in
      let known = own_constructors d c own.s entry.home.ctor own.sort (record { 0 = k }) own.sort_at own.at in
      let same : ctor.0 ≡ known.0 = same_Some _ _ (sym (slice_get-take m.ctors d.ctors k ctor.0 ctor.1) ∙ known.1) in
      let number : ctor.0.sort.0 ≡ own.s = ap (λ (x : Constructor). x.sort.0) same ∙ known.2 in
      let inside : own.s < length e.sorts = subst (λ n. n < length e.sorts) number (slice_get_within e.sorts ctor.0.sort.0 sort.0 sort.2) in
      record {
        s = own.s;
        sort = own.sort;
        origin = own.origin;
        sort_at = take-slice_get m.sorts d.sorts own.s own.sort inside own.sort_at;
        origin_at = take-slice_get m.origins (sorts_of old.table) own.s own.origin (subst (λ n. own.s < n) (sym ce.origins.one_each) inside) own.origin_at;
        head_is = own.head_is;
        at = own.at;
      }

  -- so are its names
  names_left : (k : ℕ) (entry : CtorEntry) → slice_get old.ctors k ≡ Some entry → k < length (take m.ctors old.ctors) → spelling_at (take m.spellings old.spellings) entry.home ≡ spelling_at old.spellings entry.home
  names_left k entry at within =
      let e = cut (of_tables old fs ds) m in
      let own = home k entry at within in
      let head = head_of_closed e.declared.heads own.origin 0 (ce.origins.sorts own.s own.origin own.origin_at) in
      let number : head.0 ≡ entry.home.head = same_Some _ _ (sym head.2 ∙ own.head_is) in
      let below : entry.home.head < length (take m.spellings old.spellings) = subst₂ (λ (x y : ℕ). x < y) number (sym ce.heads.one_each) (slice_get_within e.declared.heads head.0 head.1 head.3) in
      let row = slice_get-there (take m.spellings old.spellings) entry.home.head below in
      ap (option_and_then (λ (ctors : List Spelling). slice_get ctors entry.home.ctor)) (row.1 ∙ sym (slice_get-take m.spellings old.spellings entry.home.head row.0 row.1))

  ctors_left : map (ctor_of left.spellings) left.ctors ≡ take m.ctors (map (ctor_of old.spellings) old.ctors)
  ctors_left =
      ap₂ (λ s x. map (ctor_of s) x) h.spellings h.ctors
      ∙ map_same (ctor_of (take m.spellings old.spellings)) (ctor_of old.spellings) (take m.ctors old.ctors) (λ k entry at.
      let names = names_left k entry (slice_get-take m.ctors old.ctors k entry at) (slice_get_within (take m.ctors old.ctors) k entry at) in
      λ i. record { name = unwrap_or (option_map (λ (s : Spelling). s.name) (names i)) []; sort = entry.sort; sels = entry.sels })
      ∙ sym (take-map (ctor_of old.spellings) m.ctors old.ctors)

  -- the constructor of a selector that is left is left
  sel_home : (k : ℕ) (entry : SelEntry) → slice_get old.sels k ≡ Some entry → k < length (take m.sels old.sels) → entry.ctor.0 < length (take m.ctors old.ctors)
  sel_home k entry at within =
      let d = of_tables old fs ds in
      let e = cut d m in
      let below : k < length e.sels = omega (arith, within, length-take m.sels old.sels, length-take m.sels d.sels, length-map old.sels (sel_of old.spellings)) in
      let sel = slice_get-there e.sels k below in
      let ctor = of_their_constructors e ce k sel.0 sel.1 in
      let same : sel.0 ≡ sel_of old.spellings entry = same_Some _ _ (sym (slice_get-take m.sels d.sels k sel.0 sel.1) ∙ slice_get-map_at (sel_of old.spellings) old.sels k entry at) in
      let number : sel.0.ctor.0 ≡ entry.ctor.0 = ap (λ (x : Selector). x.ctor.0) same in
      omega (arith, slice_get_within e.ctors sel.0.ctor.0 ctor.0 ctor.1, number, length-take m.ctors d.ctors, length-take m.ctors old.ctors, length-map old.ctors (ctor_of old.spellings))

  sel_names_left : (k : ℕ) (entry : SelEntry) → slice_get old.sels k ≡ Some entry → k < length (take m.sels old.sels) → spelling_at (take m.spellings old.spellings) entry.home ≡ spelling_at old.spellings entry.home
  sel_names_left k entry at within =
      let ctor = t.sel_homes k entry at in
      subst (λ (x : Home). spelling_at (take m.spellings old.spellings) x ≡ spelling_at old.spellings x) (sym ctor.2) (names_left entry.ctor.0 ctor.0 ctor.1 (sel_home k entry at within))

  sels_left : map (sel_of left.spellings) left.sels ≡ take m.sels (map (sel_of old.spellings) old.sels)
  sels_left =
      ap₂ (λ s x. map (sel_of s) x) h.spellings h.sels
      ∙ map_same (sel_of (take m.spellings old.spellings)) (sel_of old.spellings) (take m.sels old.sels) (λ k entry at.
      let names = sel_names_left k entry (slice_get-take m.sels old.sels k entry at) (slice_get_within (take m.sels old.sels) k entry at) in
      λ i. record { name = unwrap_or (option_and_then (λ (s : Spelling). slice_get s.fields entry.place) (names i)) []; ctor = entry.ctor; place = entry.place; sort = entry.sort })
      ∙ sym (take-map (sel_of old.spellings) m.sels old.sels)

  -- the declarations are cut
  pub cut_tables_is : of_tables left (take m.functions fs) (take m.definitions ds) ≡ cut (of_tables old fs ds) m
  cut_tables_is i = record {
    sorts = (ap (map sort_of_entry) h.sorts ∙ sym (take-map sort_of_entry m.sorts old.sorts)) i;
    ctors = ctors_left i;
    sels = sels_left i;
    functions = take m.functions fs;
    definitions = take m.definitions ds;
    declared = h.declared i;
    spellings = h.spellings i;
    origins = origins i;
  }

  same_take : take m.sorts (sorts_of old.table) ≡ take m.origins (sorts_of old.table)
  same_take =
      same_length m.sorts m.origins (sorts_of old.table) (omega (
        arith,
        ce.origins.one_each,
        length-take m.sorts (sorts_of old.table),
        length-take m.origins (sorts_of old.table),
        length-take m.sorts (of_tables old fs ds).sorts,
        c.origins.one_each,
      ))

  -- the entries are those of the first sorts
  texts_left : names_of left.sorts ≡ map (sort_text (declared_of left.generics).heads) (sorts_of left.table)
  texts_left =
      let d = of_tables old fs ds in
      let e = cut d m in
      let one_each : length (take m.origins (sorts_of old.table)) ≡ length (take m.sorts d.sorts) = ce.origins.one_each in
      ap names_of h.sorts ∙ sym (take-map (λ (x : List ℕ × SortEntry). x.0) m.sorts old.sorts) ∙ ap (take m.sorts) t.texts ∙ take-map (sort_text d.declared.heads) m.sorts (sorts_of old.table)
      ∙ ap (map (sort_text d.declared.heads)) same_take
      ∙ map_same (sort_text d.declared.heads) (sort_text e.declared.heads) (take m.origins (sorts_of old.table)) (λ s x at.
      ap (λ (hs : List Head). sort_text hs x) (sym (take-append-drop m.heads d.declared.heads)) ∙ text_same e.declared.heads (drop m.heads d.declared.heads) x 0 0 (ce.origins.sorts s x at))
      ∙ ap₂ (λ (x : Declared) (es : List Expression). map (sort_text x.heads) es) (sym h.declared) (sym origins)

  entries_left : AllZip (IsEntryOf (sorts_of left.table)) (map (λ (x : List ℕ × SortEntry). x.1) left.sorts) (sorts_of left.table)
  entries_left =
      let all = sorts_of old.table in
      let first = AllZip-take (IsEntryOf all) m.sorts (map (λ (x : List ℕ × SortEntry). x.1) old.sorts) all t.entries in
      let now = subst (AllZip (IsEntryOf all) (take m.sorts (map (λ (x : List ℕ × SortEntry). x.1) old.sorts))) same_take first in
      let own = AllZip-at (IsEntryOf all) (IsEntryOf (take m.origins all)) (take m.sorts (map (λ (x : List ℕ × SortEntry). x.1) old.sorts)) (take m.origins all) now (λ i entry e at_i at is. record {
        head_is = is.head_is;
        args_are = AllZip-at (IsNumberOf all) (IsNumberOf (take m.origins all)) entry.args (args_of e) is.args_are (λ k s a at_s at_a number.
            let before = c.origins.arguments i k e a (slice_get-take m.origins all i e at) at_a in
            let same : s.0 ≡ before.0 = c.origins.different s.0 before.0 a number before.2 in
            take-slice_get m.origins all s.0 a (omega (arith, same, before.1, slice_get_within (take m.origins all) i e at)) number);
      }) in
      subst₂ (λ (es : List Expression) (xs : List SortEntry). AllZip (IsEntryOf es) xs es) (sym origins) (take-map (λ (x : List ℕ × SortEntry). x.1) m.sorts old.sorts ∙ ap (map (λ (x : List ℕ × SortEntry). x.1)) (sym h.sorts)) own

  -- the names are those of the first sorts and generics
  symbols_left : names_of left.symbols ≡ head_symbols left.spellings
  symbols_left =
      ap names_of h.symbols
      ∙ sym (take-map (λ (x : List ℕ × Symbol). x.0) m.symbols old.symbols)
      ∙ ap (take m.symbols) (t.symbols ∙ ap head_symbols (sym (take-append-drop m.spellings old.spellings)) ∙ flat_map-append spelled (take m.spellings old.spellings) (drop m.spellings old.spellings))
      ∙ take_at (head_symbols (take m.spellings old.spellings)) (head_symbols (drop m.spellings old.spellings)) m.symbols can.whole_symbols
      ∙ ap head_symbols (sym h.spellings)

  resolved_left : left.symbols ≡ all_symbols (of_tables left [] [])
  resolved_left =
      let e = cut (of_tables old fs ds) m in
      let rest = symbols_longer (of_tables old fs ds) e extends ce in
      let long : length (all_symbols e) ≡ m.symbols = sym (length-map (all_symbols e) (λ (x : List ℕ × Symbol). x.0)) ∙ ap length (names_all e ce) ∙ can.whole_symbols in
      h.symbols ∙ ap (take m.symbols) (t.resolved ∙ rest) ∙ take_at (all_symbols e) _ m.symbols long ∙ sym (ap all_symbols cut_tables_is)

  determined_left : AreMarked (declared_of left.generics).heads left.determined
  determined_left =
      let heads = (declared_of old.generics).heads in
      subst₂ (λ (x : Declared) (y : List (List Bool)). AreMarked x.heads y) (sym h.declared) (sym h.determined) (record {
        one_each = omega (arith, length-take m.heads old.determined, length-take m.heads heads, t.determined.one_each);
        enough = λ n head ctors at marks. t.determined.enough n head ctors (slice_get-take m.heads heads n head at) (slice_get-take m.heads old.determined n ctors marks);
        right = λ n i head ctors mark at marks at_i. t.determined.right n i head ctors mark (slice_get-take m.heads heads n head at) (slice_get-take m.heads old.determined n ctors marks) at_i;
      })

  homes_left : HaveHomes (of_tables left [] []) left.ctors
  homes_left k entry at =
      let here : slice_get (take m.ctors old.ctors) k ≡ Some entry = ap (λ (xs : List CtorEntry). slice_get xs k) (sym h.ctors) ∙ at in
      let own = home k entry (slice_get-take m.ctors old.ctors k entry here) (slice_get_within (take m.ctors old.ctors) k entry here) in
      let moved = subst (λ (d : Declarations). IsCtorAt d (record { 0 = k }) entry.home.head entry.home.ctor) (sym cut_tables_is) own in
      record { s = moved.s; sort = moved.sort; origin = moved.origin; sort_at = moved.sort_at; origin_at = moved.origin_at; head_is = moved.head_is; at = moved.at }

  sel_homes_left : AreAtHome left.ctors left.sels
  sel_homes_left k entry at =
      let here : slice_get (take m.sels old.sels) k ≡ Some entry = ap (λ (xs : List SelEntry). slice_get xs k) (sym h.sels) ∙ at in
      let there = slice_get-take m.sels old.sels k entry here in
      let ctor = t.sel_homes k entry there in
      let below = sel_home k entry there (slice_get_within (take m.sels old.sels) k entry here) in
      (ctor.0, ap (λ (xs : List CtorEntry). slice_get xs entry.ctor.0) h.ctors ∙ take-slice_get m.ctors old.ctors entry.ctor.0 ctor.0 below ctor.1, ctor.2)

  -- what is left fits together
  pub cut_tabled : IsStanding left → AreCounted left.generics left.table → IsTabled left
  cut_tabled standing counted = record {
    declared = standing.declared;
    stand = standing.stand;
    counted = counted;
    texts = texts_left;
    entries = entries_left;
    symbols = symbols_left;
    resolved = resolved_left;
    determined = determined_left;
    homes = homes_left;
    sel_homes = sel_homes_left;
  }

  pub cut_consistent : IsConsistent (of_tables left (take m.functions fs) (take m.definitions ds))
  cut_consistent = subst IsConsistent (sym cut_tables_is) ce
