-- Tables that keep the same, and tables that were cut back.
use Rattle.std.proofs.Common.{◌≡◌, ℕ, Bool, List, [], ◌∷◌, ◌++◌, length, map, take, refl, sym, ◌∙◌, ap, ap₂, subst, subst₂}
use Rattle.std.specs.List.{AllZip}
use Rattle.std.proofs.lemmas.List.{length-map, take-map}
use Rattle.ct_generics.specs.Declarations.{Declared}
use Rattle.ct_generics.specs.Denoted.{declared_of, expression_at, sorts_of}
use Rattle.ct_generics.specs.Expression.{Expression}
use Rattle.ct_generics.specs.SortTable.{AreCounted}
use Rattle.ct_sorts.specs.declared.entries.SortEntry.{SortEntry}
use Rattle.ct_sorts.specs.declared.tables.Tables.{Tables}
use Rattle.ct_sorts.specs.Declarations.{Function, head_symbols}
use Rattle.ct_sorts.specs.Determined.{AreMarked}
use Rattle.ct_sorts.specs.Grown.{Begins}
use Rattle.ct_sorts.specs.Growing.{HaveGrown, IsCutTo, IsStanding}
use Rattle.ct_sorts.specs.Lengths.{Lengths}
use Rattle.ct_sorts.specs.Lookup.{names_of}
use Rattle.ct_sorts.specs.Marks.{lengths}
use Rattle.ct_sorts.specs.SortText.{sort_text}
use Rattle.ct_sorts.specs.Stored.{sort_of_entry, ctor_of, sel_of}
use Rattle.ct_sorts.specs.Symbols.{all_symbols}
use Rattle.ct_sorts.specs.Tabled.{of_tables, IsEntryOf, HaveHomes, AreAtHome, IsTabled}
use Rattle.ct_sorts.proofs.GrowthLemmas.{prefix}

-- the tables keep the same, if not in the same shared expressions
pub record IsSameTables (old new : Tables) : Type 0 where
  pub declared : declared_of new.generics ≡ declared_of old.generics
  pub origins : sorts_of new.table ≡ sorts_of old.table
  pub spellings : new.spellings ≡ old.spellings
  pub determined : new.determined ≡ old.determined
  pub symbols : new.symbols ≡ old.symbols
  pub sorts : new.sorts ≡ old.sorts
  pub ctors : new.ctors ≡ old.ctors
  pub sels : new.sels ≡ old.sels

pub same_of_tables : (old new : Tables) → IsSameTables old new → (fs ds : List Function) → of_tables new fs ds ≡ of_tables old fs ds
same_of_tables old new h fs ds i =
    record {
      sorts = ap (map sort_of_entry) h.sorts i;
      ctors = ap₂ (λ s c. map (ctor_of s) c) h.spellings h.ctors i;
      sels = ap₂ (λ s c. map (sel_of s) c) h.spellings h.sels i;
      functions = fs;
      definitions = ds;
      declared = h.declared i;
      spellings = h.spellings i;
      origins = h.origins i;
    }

-- so they fit together still
pub same_tabled : (old new : Tables) → IsSameTables old new → IsTabled old → IsStanding new → AreCounted new.generics new.table → IsTabled new
same_tabled old new h t standing counted =
    record {
      declared = standing.declared;
      stand = standing.stand;
      counted = counted;
      texts = ap names_of h.sorts ∙ t.texts ∙ ap₂ (λ (d : Declared) (es : List Expression). map (sort_text d.heads) es) (sym h.declared) (sym h.origins);
      entries = subst₂ (λ (es : List Expression) (xs : List (List ℕ × SortEntry)). AllZip (IsEntryOf es) (map (λ (e : List ℕ × SortEntry). e.1) xs) es) (sym h.origins) (sym h.sorts) t.entries;
      symbols = ap names_of h.symbols ∙ t.symbols ∙ ap head_symbols (sym h.spellings);
      resolved = h.symbols ∙ t.resolved ∙ ap all_symbols (sym (same_of_tables old new h [] []));
      determined = subst₂ (λ (d : Declared) (m : List (List Bool)). AreMarked d.heads m) (sym h.declared) (sym h.determined) t.determined;
      homes = subst₂ HaveHomes (sym (same_of_tables old new h [] [])) (sym h.ctors) t.homes;
      sel_homes = subst₂ AreAtHome (sym h.ctors) (sym h.sels) t.sel_homes;
    }

-- what is left of a longer list is the shorter one
cut_part : {X : Type 0} (n : ℕ) (first second left : List X) → n ≡ length first → Begins first second → left ≡ take n second → left ≡ first
cut_part n first second left e b h = h ∙ ap (λ k. take k second) e ∙ prefix first second b

-- what grew and was cut back to the lengths that it had keeps what it kept
pub cut_back : (old new left : Tables) (m : Lengths) (fs ds : List Function) → IsTabled old → HaveGrown old new → m ≡ lengths (of_tables old fs ds) → IsCutTo m new left → IsSameTables old left
cut_back old new left m fs ds t grown is h =
    let sorts_long : m.sorts ≡ length old.sorts = ap (λ (k : Lengths). k.sorts) is ∙ length-map old.sorts sort_of_entry in
    let ctors_long : m.ctors ≡ length old.ctors = ap (λ (k : Lengths). k.ctors) is ∙ length-map old.ctors (ctor_of old.spellings) in
    let sels_long : m.sels ≡ length old.sels = ap (λ (k : Lengths). k.sels) is ∙ length-map old.sels (sel_of old.spellings) in
    let symbols_long : m.symbols ≡ length old.symbols = ap (λ (k : Lengths). k.symbols) is ∙ sym (ap length t.symbols) ∙ length-map old.symbols (λ e. e.0) in
    let sorts_left : sorts_of left.table ≡ take m.origins (sorts_of new.table) = ap₂ (λ nodes ids. map (expression_at nodes) ids) h.expressions h.table ∙ sym (take-map (expression_at new.table.expressions) m.origins new.table.sorts) in
    let heads_long : m.heads ≡ length (declared_of old.generics).heads = ap (λ (k : Lengths). k.heads) is in
    let marks_long : m.heads ≡ length old.determined = heads_long ∙ sym t.determined.one_each in
    record {
      declared = h.declared ∙ (λ i. record {
        heads = cut_part m.heads (declared_of old.generics).heads (declared_of new.generics).heads (take m.heads (declared_of new.generics).heads) heads_long grown.heads refl i;
        synonyms = cut_part m.synonyms (declared_of old.generics).synonyms (declared_of new.generics).synonyms (take m.synonyms (declared_of new.generics).synonyms) (ap (λ (k : Lengths). k.synonyms) is) grown.synonyms refl i;
      });
      origins = sorts_left ∙ cut_part m.origins (sorts_of old.table) (sorts_of new.table) (take m.origins (sorts_of new.table)) (ap (λ (k : Lengths). k.origins) is) grown.origins refl;
      spellings = cut_part m.spellings old.spellings new.spellings left.spellings (ap (λ (k : Lengths). k.spellings) is) grown.spellings h.spellings;
      determined = cut_part m.heads old.determined new.determined left.determined marks_long grown.determined h.determined;
      symbols = cut_part m.symbols old.symbols new.symbols left.symbols symbols_long grown.symbols h.symbols;
      sorts = cut_part m.sorts old.sorts new.sorts left.sorts sorts_long grown.sorts h.sorts;
      ctors = cut_part m.ctors old.ctors new.ctors left.ctors ctors_long grown.ctors h.ctors;
      sels = cut_part m.sels old.sels new.sels left.sels sels_long grown.sels h.sels;
    }

-- the sorts that are left are the first
pub sorts_cut : (old left : Tables) (m : Lengths) → IsCutTo m old left → sorts_of left.table ≡ take m.origins (sorts_of old.table)
sorts_cut old left m h = ap₂ (λ nodes ids. map (expression_at nodes) ids) h.expressions h.table ∙ sym (take-map (expression_at old.table.expressions) m.origins old.table.sorts)

-- so it fits together as before
pub restored : (old new left : Tables) (m : Lengths) (fs ds : List Function) → IsTabled old → HaveGrown old new → m ≡ lengths (of_tables old fs ds) → IsCutTo m new left → IsStanding left → AreCounted left.generics left.table → ((gs hs : List Function) → of_tables left gs hs ≡ of_tables old gs hs) × IsTabled left
restored old new left m fs ds t grown is h standing counted =
    let same = cut_back old new left m fs ds t grown is h in
    (same_of_tables old left same, same_tabled old left same t standing counted)
