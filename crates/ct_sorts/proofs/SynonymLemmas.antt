-- One synonym more.
use Rattle.std.proofs.Common.{◌≡◌, ℕ, zero, suc, ◌+◌, ◌<◌, ◌≤◌, ◌⊎◌, Bool, List, [], ◌∷◌, ◌++◌, length, map, slice_get, Some, Ok, Err, IsErrOf, refl, sym, ◌∙◌, ap, ap₂, subst, subst₂, inl, inr, ⊎_elim, arith, length-append}
use Rattle.std.specs.List.{AllZip}
use Rattle.std.proofs.lemmas.List.{append_assoc, append-nil, map-append}
use Rattle.std.proofs.lemmas.Option.{none-some, same_Some}
use Rattle.ct_lemmas.proofs.Lists.{slice_get-append_cases}
use Rattle.ct_generics.specs.declared.expr.SortExpr.{SortExpr}
use Rattle.ct_generics.specs.declared.generics.Generics.{Generics}
use Rattle.ct_generics.specs.Declarations.{Declared, Head, Synonym, IsExpression}
use Rattle.ct_generics.specs.Denoted.{declared_of, expression_at, sorts_of}
use Rattle.ct_generics.specs.Expression.{Expression}
use Rattle.ct_generics.specs.Outcome.{Outcome}
use Rattle.ct_generics.specs.Resolved.{resolved}
use Rattle.ct_generics.specs.SortTable.{AreCounted, AreSorts}
use Rattle.ct_generics.specs.Stored.{AreDeclared}
use Rattle.ct_generics.specs.Synonyms.{with_synonym, IsSynonymRefusal as IsRefusalOfBody}
use Rattle.ct_generics.specs.Text.{most_text, text_length}
use Rattle.ct_sorts.specs.declared.entries.CtorEntry.{CtorEntry}
use Rattle.ct_sorts.specs.declared.error.SigError.{SigError}
use Rattle.ct_sorts.specs.declared.error.SigError.TheVariants.{Refused}
use Rattle.ct_sorts.specs.declared.entries.SelEntry.{SelEntry}
use Rattle.ct_sorts.specs.declared.entries.SortEntry.{SortEntry}
use Rattle.ct_sorts.specs.declared.tables.Tables.{Tables}
use Rattle.ct_sorts.specs.Availability.{IsListed, IsUnavailableSort, IsUnfit}
use Rattle.ct_sorts.specs.Consistent.{AreFit, IsConsistent}
use Rattle.ct_sorts.specs.Declarations.{Declarations, Function, declared_names, head_symbols, most_sorts}
use Rattle.ct_sorts.specs.Determined.{AreMarked}
use Rattle.ct_sorts.specs.Facts.{Facts}
use Rattle.ct_sorts.specs.Growing.{HaveGrown, IsStanding}
use Rattle.ct_sorts.specs.Limits.{IsOverLimits, sort_count}
use Rattle.ct_sorts.specs.Lookup.{AreDistinct}
use Rattle.ct_sorts.specs.Refusals.{name_taken, too_many}
use Rattle.ct_sorts.specs.Stored.{sort_of_entry, ctor_of, sel_of}
use Rattle.ct_sorts.specs.Symbols.{all_symbols}
use Rattle.ct_sorts.specs.SortText.{sort_text}
use Rattle.ct_sorts.specs.Synonyms.{IsLaterRefusal, IsSynonymRefusal}
use Rattle.ct_sorts.specs.Tabled.{of_tables, IsEntryOf, HaveHomes, AreAtHome, IsTabled}
use Rattle.ct_sorts.proofs.AfterLemmas.{homes_longer}
use Rattle.ct_sorts.proofs.ConsistentLemmas.{IsFounded-same, once-between}

-- the declarations with it
abbrev pub with_one : Declarations → Synonym → Declarations
with_one d s = record d { declared = with_synonym d.declared s }

one_at : {X : Type 0} (x : X) (k : ℕ) (y : X) → slice_get (x ∷ []) k ≡ Some y → x ≡ y
one_at x zero y at = same_Some _ _ at
one_at x (suc k) y at = absurd (none-some _ at)

module _ (facts : Facts) (d : Declarations) (s : Synonym) (c : IsConsistent d) (free : IsUnavailableSort (declared_names d) s.name → ⊥) (room : sort_count d < most_sorts) (body : IsExpression d.declared.heads s.params s.body) where
  names_are : declared_names d ++ s.name ∷ [] ≡ declared_names (with_one d s)
  names_are =
      append_assoc (map (λ (h : Head). h.name) d.declared.heads) (map (λ (x : Synonym). x.name) d.declared.synonyms) (s.name ∷ [])
      ∙ ap (λ (ns : List (List ℕ)). map (λ (h : Head). h.name) d.declared.heads ++ ns) (sym (map-append (λ (x : Synonym). x.name) d.declared.synonyms (s ∷ [])))

  names_distinct : AreDistinct (declared_names (with_one d s))
  names_distinct = subst AreDistinct names_are (once-between (declared_names d) [] s.name (subst AreDistinct (sym (append-nil (declared_names d))) c.names_distinct) (λ listed. free (inl (subst (λ (ns : List (List ℕ)). IsListed ns s.name) (append-nil (declared_names d)) listed))))

  fit : AreFit (declared_names (with_one d s))
  fit i text at unfit =
      ⊎_elim (λ old. c.fit i text old unfit) (λ new. free (inr (subst IsUnfit (sym (one_at s.name new.0 text new.2)) unfit)))
      (slice_get-append_cases (declared_names d) (s.name ∷ []) i text (subst (λ (ns : List (List ℕ)). slice_get ns i ≡ Some text) (sym names_are) at))

  not_over : IsOverLimits (with_one d s) → ⊥
  not_over (inl h) = omega (arith, h, room, length-append d.declared.synonyms (s ∷ []))
  not_over (inr h) = c.within (inr h)

  pub synonym_consistent : IsConsistent (with_one d s)
  synonym_consistent = record {
    few = record { sorts = c.few.sorts; ctors = c.few.ctors; sels = c.few.sels; functions = c.few.functions; definitions = c.few.definitions };
    within = not_over;
    names_distinct = names_distinct;
    distinct = c.distinct;
    fit = fit;
    symbols_available = c.symbols_available;
    ctors_available = c.ctors_available;
    sels_available = c.sels_available;
    available = c.available;
    definitions_available = c.definitions_available;
    first_sort = c.first_sort;
    first_ctors = c.first_ctors;
    first_head = c.first_head;
    first_spelling = c.first_spelling;
    first_origin = c.first_origin;
    all_ctors = c.all_ctors;
    ctor_sorts = c.ctor_sorts;
    kinds = c.kinds;
    all_sels = c.all_sels;
    sel_ctors = c.sel_ctors;
    sel_places = c.sel_places;
    fields = c.fields;
    over_sorts = c.over_sorts;
    definitions_over_sorts = c.definitions_over_sorts;
    heads = record { one_each = c.heads.one_each; spelled = c.heads.spelled; formed = facts.synonym d.declared s c.heads.formed body; founded = c.heads.founded };
    origins = record {
      one_each = c.origins.one_each;
      different = c.origins.different;
      sorts = c.origins.sorts;
      arguments = c.origins.arguments;
      fields = c.origins.fields;
      sorts_made = c.origins.sorts_made;
      ctors_made = c.origins.ctors_made;
      sels_made = c.origins.sels_made;
    };
    plain = c.plain;
    founded = λ n within. IsFounded-same d (with_one d s) refl refl refl n (c.founded n within);
  }

-- the tables with it
pub record IsWithOne (t new : Tables) (s : Synonym) : Type 0 where
  pub declared : AreDeclared new.generics (with_synonym (declared_of t.generics) s)
  pub others : new ≡ record t { generics = new.generics; table = new.table }
  pub sorts : new.table.sorts ≡ t.table.sorts
  pub expressions : new.table.expressions ≡ t.table.expressions

module _ (facts : Facts) (t new : Tables) (s : Synonym) (tab : IsTabled t) (w : IsWithOne t new s) where
  declared_is : declared_of new.generics ≡ with_synonym (declared_of t.generics) s
  declared_is = facts.declared new.generics (with_synonym (declared_of t.generics) s) w.declared

  origins_are : sorts_of new.table ≡ sorts_of t.table
  origins_are = ap₂ (λ nodes ids. map (expression_at nodes) ids) w.expressions w.sorts

  stand : AreSorts new.table (sorts_of t.table)
  stand = facts.stay t.table new.table (sorts_of t.table) tab.stand w.sorts (λ n x at. ap (λ nodes. slice_get nodes n) w.expressions ∙ at)

  pub synonym_standing : IsStanding new
  synonym_standing = record {
    declared = subst (AreDeclared new.generics) (sym declared_is) w.declared;
    stand = subst (AreSorts new.table) (sym origins_are) stand;
  }

  pub synonym_is : (fs ds : List Function) → of_tables new fs ds ≡ with_one (of_tables t fs ds) s
  synonym_is fs ds i = record {
    sorts = ap (λ (x : Tables). map sort_of_entry x.sorts) w.others i;
    ctors = ap (λ (x : Tables). map (ctor_of x.spellings) x.ctors) w.others i;
    sels = ap (λ (x : Tables). map (sel_of x.spellings) x.sels) w.others i;
    functions = fs;
    definitions = ds;
    declared = declared_is i;
    spellings = ap (λ (x : Tables). x.spellings) w.others i;
    origins = origins_are i;
  }

  pub synonym_grown : HaveGrown t new
  synonym_grown =
      let heads : (declared_of new.generics).heads ≡ (declared_of t.generics).heads = ap (λ (d : Declared). d.heads) declared_is in
      let synonyms : (declared_of new.generics).synonyms ≡ (declared_of t.generics).synonyms ++ s ∷ [] = ap (λ (d : Declared). d.synonyms) declared_is in
      record {
        heads = ([], heads ∙ sym (append-nil (declared_of t.generics).heads));
        synonyms = (s ∷ [], synonyms);
        spellings = ([], ap (λ (x : Tables). x.spellings) w.others ∙ sym (append-nil t.spellings));
        determined = ([], ap (λ (x : Tables). x.determined) w.others ∙ sym (append-nil t.determined));
        symbols = ([], ap (λ (x : Tables). x.symbols) w.others ∙ sym (append-nil t.symbols));
        origins = ([], origins_are ∙ sym (append-nil (sorts_of t.table)));
        sorts = ([], ap (λ (x : Tables). x.sorts) w.others ∙ sym (append-nil t.sorts));
        ctors = ([], ap (λ (x : Tables). x.ctors) w.others ∙ sym (append-nil t.ctors));
        sels = ([], ap (λ (x : Tables). x.sels) w.others ∙ sym (append-nil t.sels));
      }

  pub synonym_tabled : AreCounted new.generics new.table → IsTabled new
  synonym_tabled counted =
      let standing = synonym_standing in
      let heads : (declared_of new.generics).heads ≡ (declared_of t.generics).heads = ap (λ (d : Declared). d.heads) declared_is in
      let sorts : new.sorts ≡ t.sorts = ap (λ (x : Tables). x.sorts) w.others in
      let ctors : new.ctors ≡ t.ctors = ap (λ (x : Tables). x.ctors) w.others in
      let sels : new.sels ≡ t.sels = ap (λ (x : Tables). x.sels) w.others in
      let symbols : new.symbols ≡ t.symbols = ap (λ (x : Tables). x.symbols) w.others in
      record {
        declared = standing.declared;
        stand = standing.stand;
        counted = counted;
        texts = ap (map (λ (e : List ℕ × SortEntry). e.0)) sorts ∙ tab.texts ∙ ap₂ (λ (hs : List Head) (es : List Expression). map (sort_text hs) es) (sym heads) (sym origins_are);
        entries = subst₂ (λ (es : List Expression) (xs : List (List ℕ × SortEntry)). AllZip (IsEntryOf es) (map (λ (e : List ℕ × SortEntry). e.1) xs) es) (sym origins_are) (sym sorts) tab.entries;
        symbols = ap (map (λ e. e.0)) symbols ∙ tab.symbols ∙ ap (λ (x : Tables). head_symbols x.spellings) (sym w.others);
        resolved = symbols ∙ tab.resolved ∙ sym (ap all_symbols (synonym_is [] []));
        determined = subst₂ (λ (hs : List Head) (m : List (List Bool)). AreMarked hs m) (sym heads) (sym (ap (λ (x : Tables). x.determined) w.others)) tab.determined;
        homes = subst₂ HaveHomes (sym (synonym_is [] [])) (sym ctors) (homes_longer (of_tables t [] []) (with_one (of_tables t [] []) s) [] t.ctors refl (sym (append-nil (sorts_of t.table))) tab.homes);
        sel_homes = subst₂ AreAtHome (sym ctors) (sym sels) tab.sel_homes;
      }

-- ---- which refusal it is

same_ok : (x y : Expression) → ◌≡◌ {A = Outcome Expression} (Ok x) (Ok y) → x ≡ y
same_ok x y e = cc

-- a body that is resolved, with a text that is not too long, is no refusal
pub body_accepted : (d : Declared) (expr : SortExpr) (e : Expression) → resolved d expr ≡ Ok e → text_length d.heads e ≤ most_text → (n : ℕ) → IsRefusalOfBody d expr n → ⊥
body_accepted d expr e is short n (inl failed) = absurd (let same = sym is ∙ failed in cc)
body_accepted d expr e is short n (inr (f, also, long, number)) =
    let same : e ≡ f = same_ok e f (sym is ∙ also) in
    let moved : text_length d.heads e ≡ text_length d.heads f = ap (text_length d.heads) same in
    omega (arith, long, short, moved)

pub synonym_accepted : (d : Declarations) (expr : SortExpr) (e : Expression) → resolved d.declared expr ≡ Ok e → text_length d.declared.heads e ≤ most_text → sort_count d < most_sorts → (n : ℕ) → IsLaterRefusal d expr n → ⊥
synonym_accepted d expr e is short room n (inl h) = body_accepted d.declared expr e is short n h
synonym_accepted d expr e is short room n (inr (none, inl (number, full))) = omega (arith, full, room)
synonym_accepted d expr e is short room n (inr (none, inr (other, later))) = later

pub synonym_full : (d : Declarations) (expr : SortExpr) (e : Expression) → resolved d.declared expr ≡ Ok e → text_length d.declared.heads e ≤ most_text → most_sorts ≤ sort_count d → (n : ℕ) → n ≡ too_many → IsLaterRefusal d expr n
synonym_full d expr e is short full n number = inr (body_accepted d.declared expr e is short, inl (number, full))

-- the name comes first
pub name_refused : (d : Declarations) (name : List ℕ) (expr : SortExpr) (n : ℕ) → n ≡ name_taken → IsUnavailableSort (declared_names d) name → IsSynonymRefusal d name expr n
name_refused d name expr n is taken = inl (is, taken)

pub later_refused : (d : Declarations) (name : List ℕ) (expr : SortExpr) (n : ℕ) → (IsUnavailableSort (declared_names d) name → ⊥) → IsLaterRefusal d expr n → IsSynonymRefusal d name expr n
later_refused d name expr n free later = inr (free, later)

pub all_accepted : (d : Declarations) (name : List ℕ) (expr : SortExpr) → (IsUnavailableSort (declared_names d) name → ⊥) → ((n : ℕ) → IsLaterRefusal d expr n → ⊥) → (n : ℕ) → IsSynonymRefusal d name expr n → ⊥
all_accepted d name expr free later n (inl (is, taken)) = free taken
all_accepted d name expr free later n (inr (other, refusal)) = later n refusal

-- the number of a refusal of a name
pub taken_number : {T : Type 0} (n : ℕ) (error : SigError) → error ≡ Refused name_taken → IsErrOf {T = T} (Err error) (Refused n) → n ≡ name_taken
taken_number n error is err = cc
