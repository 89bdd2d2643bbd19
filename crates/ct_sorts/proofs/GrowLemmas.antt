-- Tables that grow by the entries of sorts, one sort after the other.
use Rattle.std.proofs.Common.{◌≡◌, ℕ, ◌+◌, List, [], ◌∷◌, ◌++◌, length, map, refl, sym, ◌∙◌, ap, ap₂, subst, arith, length-append}
use Rattle.std.specs.List.{AllZip}
use Rattle.std.proofs.lemmas.List.{append_assoc, append-nil, length-map, map-append}
use Rattle.std.proofs.lemmas.List.Concat.{flat_map-append}
use Rattle.ct_generics.specs.Declarations.{Declared}
use Rattle.ct_generics.specs.Denoted.{declared_of, sorts_of}
use Rattle.ct_generics.specs.Expression.{Expression}
use Rattle.ct_sorts.specs.declared.entries.CtorEntry.{CtorEntry}
use Rattle.ct_sorts.specs.declared.entries.SelEntry.{SelEntry}
use Rattle.ct_sorts.specs.declared.entries.SortEntry.{SortEntry}
use Rattle.ct_sorts.specs.declared.ids.Symbol.{Symbol}
use Rattle.ct_sorts.specs.declared.tables.Tables.{Tables}
use Rattle.ct_sorts.specs.declared.spelling.Spelling.{Spelling}
use Rattle.ct_sorts.specs.Declarations.{Sort}
use Rattle.ct_sorts.specs.Grown.{Begins}
use Rattle.ct_sorts.specs.Growing.{HaveGrown, IsGrownBy, IsSameHeads, shapes_in}
use Rattle.ct_sorts.specs.Lookup.{names_of}
use Rattle.ct_sorts.specs.Made.{new_sorts, new_ctors, new_sels}
use Rattle.ct_sorts.specs.Same.{sort_among}
use Rattle.ct_sorts.specs.Shapes.{CtorShape, SortShape, all_ctors, all_fields, shape_of}
use Rattle.ct_sorts.specs.SortText.{sort_text}
use Rattle.ct_sorts.specs.Stored.{sort_of_entry, ctor_of, sel_of}
use Rattle.ct_sorts.specs.Tabled.{IsEntryOf}
use Rattle.ct_sorts.proofs.MadeLemmas.{length-new_sorts, length-new_ctors, length-new_sels, new_sorts-append, new_ctors-append, new_sels-append}
use Rattle.ct_sorts.proofs.PieceLemmas.{Begins-self, Begins-trans}

-- ---- what was stored is there still

pub grown_self : (t : Tables) → HaveGrown t t
grown_self t = record {
  heads = Begins-self (declared_of t.generics).heads;
  synonyms = Begins-self (declared_of t.generics).synonyms;
  spellings = Begins-self t.spellings;
  determined = Begins-self t.determined;
  symbols = Begins-self t.symbols;
  origins = Begins-self (sorts_of t.table);
  sorts = Begins-self t.sorts;
  ctors = Begins-self t.ctors;
  sels = Begins-self t.sels;
}

pub grown_further : (old mid new : Tables) → HaveGrown old mid → HaveGrown mid new → HaveGrown old new
grown_further old mid new a b = record {
  heads = Begins-trans (declared_of old.generics).heads (declared_of mid.generics).heads (declared_of new.generics).heads a.heads b.heads;
  synonyms = Begins-trans (declared_of old.generics).synonyms (declared_of mid.generics).synonyms (declared_of new.generics).synonyms a.synonyms b.synonyms;
  spellings = Begins-trans old.spellings mid.spellings new.spellings a.spellings b.spellings;
  determined = Begins-trans old.determined mid.determined new.determined a.determined b.determined;
  symbols = Begins-trans old.symbols mid.symbols new.symbols a.symbols b.symbols;
  origins = Begins-trans (sorts_of old.table) (sorts_of mid.table) (sorts_of new.table) a.origins b.origins;
  sorts = Begins-trans old.sorts mid.sorts new.sorts a.sorts b.sorts;
  ctors = Begins-trans old.ctors mid.ctors new.ctors a.ctors b.ctors;
  sels = Begins-trans old.sels mid.sels new.sels a.sels b.sels;
}

-- ---- entries of more sorts

same_self : (t : Tables) → IsSameHeads t t
same_self t = record { generics_same = refl; spellings_same = refl; determined_same = refl; symbols_same = refl; table_same = refl; stay = λ n x at. at; origins_same = refl }

same_further : (old mid new : Tables) → IsSameHeads old mid → IsSameHeads mid new → IsSameHeads old new
same_further old mid new a b = record {
  generics_same = b.generics_same ∙ a.generics_same;
  spellings_same = b.spellings_same ∙ a.spellings_same;
  determined_same = b.determined_same ∙ a.determined_same;
  symbols_same = b.symbols_same ∙ a.symbols_same;
  table_same = b.table_same ∙ a.table_same;
  stay = λ n x at. b.stay n x (a.stay n x at);
  origins_same = b.origins_same ∙ a.origins_same;
}

pub AllZip-append : {X Y : Type 0} (R : X → Y → Type 0) (xs zs : List X) (ys ws : List Y) → AllZip R xs ys → AllZip R zs ws → AllZip R (xs ++ zs) (ys ++ ws)
AllZip-append R [] zs [] ws all more = more
AllZip-append R [] zs (y ∷ ys) ws all more = absurd all
AllZip-append R (x ∷ xs) zs [] ws all more = absurd all
AllZip-append R (x ∷ xs) zs (y ∷ ys) ws all more = (all.0, AllZip-append R xs zs ys ws all.1 more)

pub grown_by_none : (t : Tables) → IsGrownBy t t []
grown_by_none t = record {
  same = same_self t;
  sorts = sym (append-nil (map sort_of_entry t.sorts));
  ctors = sym (append-nil (map (ctor_of t.spellings) t.ctors));
  sels = sym (append-nil (map (sel_of t.spellings) t.sels));
  texts = sym (append-nil (names_of t.sorts));
  entries = ([], sym (append-nil (map (λ (e : List ℕ × SortEntry). e.1) t.sorts)), tt);
  homes = λ h. h;
  sel_homes = λ h. h;
}

module _ (old mid new : Tables) (es fs : List Expression) (a : IsGrownBy old mid es) (b : IsGrownBy mid new fs) where
  shapes_same : shapes_in mid fs ≡ shapes_in old fs
  shapes_same = ap₂ (λ (d : Declared) (s : List (List Spelling)). map (shape_of d.heads s) fs) (ap declared_of a.same.generics_same) a.same.spellings_same

  shapes_split : shapes_in old (es ++ fs) ≡ shapes_in old es ++ shapes_in old fs
  shapes_split = map-append _ es fs

  ctors_long : length mid.ctors ≡ length old.ctors + length (all_ctors (shapes_in old es))
  ctors_long = omega (
    arith,
    ap length a.ctors,
    length-map mid.ctors (ctor_of old.spellings),
    length-map old.ctors (ctor_of old.spellings),
    length-append (map (ctor_of old.spellings) old.ctors) (new_ctors (length old.sorts) (length old.sels) (shapes_in old es)),
    length-new_ctors (length old.sorts) (length old.sels) (shapes_in old es),
  )

  sels_long : length mid.sels ≡ length old.sels + length (all_fields (all_ctors (shapes_in old es)))
  sels_long = omega (
    arith,
    ap length a.sels,
    length-map mid.sels (sel_of old.spellings),
    length-map old.sels (sel_of old.spellings),
    length-append (map (sel_of old.spellings) old.sels) (new_sels (sort_among (sorts_of old.table)) (length old.ctors) (all_ctors (shapes_in old es))),
    length-new_sels (sort_among (sorts_of old.table)) (length old.ctors) (all_ctors (shapes_in old es)),
  )

  sorts_long : length mid.sorts ≡ length old.sorts + length (shapes_in old es)
  sorts_long = omega (
    arith,
    ap length a.sorts,
    length-map mid.sorts sort_of_entry,
    length-map old.sorts sort_of_entry,
    length-append (map sort_of_entry old.sorts) (new_sorts (length old.ctors) (shapes_in old es)),
    length-new_sorts (length old.ctors) (shapes_in old es),
  )

  pub grown_by_more : IsGrownBy old new (es ++ fs)
  grown_by_more = record {
    same = same_further old mid new a.same b.same;
    sorts =
        b.sorts
        ∙ ap₂ (λ (xs : List Sort) (n : ℕ). xs ++ new_sorts n (shapes_in mid fs)) a.sorts ctors_long
        ∙ append_assoc (map sort_of_entry old.sorts) (new_sorts (length old.ctors) (shapes_in old es)) (new_sorts (length old.ctors + length (all_ctors (shapes_in old es))) (shapes_in mid fs))
        ∙ ap (λ (ss : List SortShape). map sort_of_entry old.sorts ++ (new_sorts (length old.ctors) (shapes_in old es) ++ new_sorts (length old.ctors + length (all_ctors (shapes_in old es))) ss)) shapes_same
        ∙ ap (λ xs. map sort_of_entry old.sorts ++ xs) (sym (new_sorts-append (length old.ctors) (shapes_in old es) (shapes_in old fs)) ∙ ap (new_sorts (length old.ctors)) (sym shapes_split));
    ctors =
        ap (λ s. map (ctor_of s) new.ctors) (sym a.same.spellings_same)
        ∙ b.ctors
        ∙ ap (λ s. map (ctor_of s) mid.ctors ++ new_ctors (length mid.sorts) (length mid.sels) (shapes_in mid fs)) a.same.spellings_same
        ∙ ap (λ xs. xs ++ new_ctors (length mid.sorts) (length mid.sels) (shapes_in mid fs)) a.ctors
        ∙ append_assoc (map (ctor_of old.spellings) old.ctors) (new_ctors (length old.sorts) (length old.sels) (shapes_in old es)) (new_ctors (length mid.sorts) (length mid.sels) (shapes_in mid fs))
        ∙ ap₂ (λ (n k : ℕ). map (ctor_of old.spellings) old.ctors ++ (new_ctors (length old.sorts) (length old.sels) (shapes_in old es) ++ new_ctors n k (shapes_in mid fs))) sorts_long sels_long
        ∙ ap (λ (ss : List SortShape). map (ctor_of old.spellings) old.ctors ++ (new_ctors (length old.sorts) (length old.sels) (shapes_in old es) ++ new_ctors (length old.sorts + length (shapes_in old es)) (length old.sels + length (all_fields (all_ctors (shapes_in old es)))) ss)) shapes_same
        ∙ ap (λ xs. map (ctor_of old.spellings) old.ctors ++ xs) (sym (new_ctors-append (length old.sorts) (length old.sels) (shapes_in old es) (shapes_in old fs)) ∙ ap (new_ctors (length old.sorts) (length old.sels)) (sym shapes_split));
    sels =
        let number = sort_among (sorts_of old.table) in
        ap (λ s. map (sel_of s) new.sels) (sym a.same.spellings_same)
        ∙ b.sels
        ∙ ap (λ s. map (sel_of s) mid.sels ++ new_sels (sort_among (sorts_of mid.table)) (length mid.ctors) (all_ctors (shapes_in mid fs))) a.same.spellings_same
        ∙ ap (λ (o : List Expression). map (sel_of old.spellings) mid.sels ++ new_sels (sort_among o) (length mid.ctors) (all_ctors (shapes_in mid fs))) a.same.origins_same
        ∙ ap (λ xs. xs ++ new_sels number (length mid.ctors) (all_ctors (shapes_in mid fs))) a.sels
        ∙ append_assoc (map (sel_of old.spellings) old.sels) (new_sels number (length old.ctors) (all_ctors (shapes_in old es))) (new_sels number (length mid.ctors) (all_ctors (shapes_in mid fs)))
        ∙ ap₂ (λ (n : ℕ) (ss : List SortShape). map (sel_of old.spellings) old.sels ++ (new_sels number (length old.ctors) (all_ctors (shapes_in old es)) ++ new_sels number n (all_ctors ss))) ctors_long shapes_same
        ∙ ap (λ xs. map (sel_of old.spellings) old.sels ++ xs) (sym (new_sels-append number (length old.ctors) (all_ctors (shapes_in old es)) (all_ctors (shapes_in old fs))) ∙ ap (new_sels number (length old.ctors)) (sym (flat_map-append (λ (s : SortShape). s.ctors) (shapes_in old es) (shapes_in old fs)) ∙ ap all_ctors (sym shapes_split)));
    texts =
        b.texts
        ∙ ap₂ (λ xs (d : Declared). xs ++ map (sort_text d.heads) fs) a.texts (ap declared_of a.same.generics_same)
        ∙ append_assoc (names_of old.sorts) (map (sort_text (declared_of old.generics).heads) es) (map (sort_text (declared_of old.generics).heads) fs)
        ∙ ap (λ xs. names_of old.sorts ++ xs) (sym (map-append (sort_text (declared_of old.generics).heads) es fs));
    entries = (
      a.entries.0 ++ b.entries.0,
      b.entries.1 ∙ ap (λ xs. xs ++ b.entries.0) a.entries.1 ∙ append_assoc (map (λ (e : List ℕ × SortEntry). e.1) old.sorts) a.entries.0 b.entries.0,
      AllZip-append (IsEntryOf (sorts_of old.table)) a.entries.0 b.entries.0 es fs a.entries.2 (subst (λ (o : List Expression). AllZip (IsEntryOf o) b.entries.0 fs) a.same.origins_same b.entries.2),
    );
    homes = λ h. b.homes (a.homes h);
    sel_homes = λ h. b.sel_homes (a.sel_homes h);
  }
