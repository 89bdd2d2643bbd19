-- A name stands for one sort at most, and goes on to where more is declared.
use Rattle.std.proofs.Common.{◌≡◌, ℕ, ◌<◌, List, ◌++◌, length, map, slice_get, Option, Some, None, option_map, refl, sym, ◌∙◌, ap, subst}
use Rattle.std.proofs.lemmas.List.{length-map, map-append}
use Rattle.std.proofs.lemmas.Option.{slice_get_within, same_Some, none-some}
use Rattle.ct_lemmas.proofs.Lists.{slice_get-append_left, slice_get-there, slice_get-map_at}
use Rattle.ct_generics.specs.Expression.{Expression, named}
use Rattle.ct_generics.specs.Declarations.{Head, Synonym}
use Rattle.ct_sorts.specs.declared.ids.SortId.{SortId}
use Rattle.ct_sorts.specs.declared.ids.CtorId.{CtorId}
use Rattle.ct_sorts.specs.declared.ids.GenId.{GenId}
use Rattle.ct_sorts.specs.declared.ids.Symbol.{Symbol}
use Rattle.ct_sorts.specs.declared.ids.Symbol.TheVariants.{Ctor, Sel, Fun, Def, GenCtor, GenSel}
use Rattle.ct_sorts.specs.declared.spelling.Spelling.{Spelling}
use Rattle.ct_sorts.specs.Declarations.{Declarations, Sort, Constructor, Selector, Function, IsSort, declared_names}
use Rattle.ct_sorts.specs.Lookup.{ResolvesTo, IsSymbol, HasOwnName, IsPlainSort, IsPlainCtor, IsPlainSel, IsGenericCtor, NamesSort}
use Rattle.ct_sorts.specs.Consistent.{IsConsistent}
use Rattle.ct_sorts.specs.Grown.{Begins, Extends}
use Rattle.ct_sorts.proofs.LookupLemmas.{symbol_inside}

-- the name of a sort or generic stands at its number
name_at_head : (d : Declarations) (h : ℕ) (head : Head) → slice_get d.declared.heads h ≡ Some head → slice_get (declared_names d) h ≡ Some head.name
name_at_head d h head at =
    slice_get-append_left (map (λ (k : Head). k.name) d.declared.heads) (map (λ (s : Synonym). s.name) d.declared.synonyms) h head.name (slice_get-map_at (λ (k : Head). k.name) d.declared.heads h head at)

-- a name is the name of one sort at most
pub one_sort : (d : Declarations) (name : List ℕ) (s t : SortId) → IsConsistent d → NamesSort d name s → NamesSort d name t → t ≡ s
one_sort d name s t fits at also =
    let first : slice_get (declared_names d) at.0 ≡ Some name = name_at_head d at.0 at.1 at.3 ∙ ap Some at.4 in
    let second : slice_get (declared_names d) also.0 ≡ Some name = name_at_head d also.0 also.1 also.3 ∙ ap Some also.4 in
    let same : also.0 ≡ at.0 = fits.names_distinct also.0 at.0 name second first in
    let number : t.0 ≡ s.0 = fits.origins.different t.0 s.0 (named at.0) (also.2 ∙ ap (λ h. Some (named h)) same) at.2 in
    ap (λ (n : ℕ). record { 0 = n }) number

-- what has a name is there
pub symbol_there : (d : Declarations) (name : List ℕ) (symbol : Symbol) → ResolvesTo d name (Some symbol) → IsSymbol d symbol
symbol_there d name symbol at = symbol_inside d name (Some symbol) at

pub sort_there : (d : Declarations) (name : List ℕ) (s : SortId) → IsConsistent d → NamesSort d name s → IsSort d s
sort_there d name s fits at = subst (λ n. s.0 < n) fits.origins.one_each (slice_get_within d.origins s.0 (named at.0) at.2)

-- and what is there has a name
named_at : {X : Type 0} (name_of : X → List ℕ) (xs : List X) (i : ℕ) → i < length xs → (name : List ℕ) × (slice_get (map name_of xs) i ≡ Some name)
named_at name_of xs i h = slice_get-there (map name_of xs) i (subst (λ (n : ℕ). i < n) (sym (length-map xs name_of)) h)

pub symbol_named : (d : Declarations) (symbol : Symbol) → HasOwnName d symbol → (name : List ℕ) × ResolvesTo d name (Some symbol)
symbol_named d (Ctor c) h = (h.0.name, (slice_get-map_at (λ (t : Constructor). t.name) d.ctors c.0 h.0 h.1, h))
symbol_named d (Sel s) h = (h.0.name, (slice_get-map_at (λ (t : Selector). t.name) d.sels s.0 h.0 h.1, h))
symbol_named d (Fun f) h = named_at (λ (t : Function). t.name) d.functions f.0 h
symbol_named d (Def f) h = named_at (λ (t : Function). t.name) d.definitions f.0 h
symbol_named d (GenCtor g i) h = (h.0.name, (h.0, h.1, refl))
symbol_named d (GenSel g i k) h = let field = slice_get-there h.0.fields k h.2 in (field.0, (h.0, h.1, field.1))

head_there : (found : Option Head) (n : ℕ) → option_map (λ (head : Head). head.params) found ≡ Some n → (head : Head) × (found ≡ Some head)
head_there None n e = absurd (none-some _ (refl ∙ e))
head_there (Some head) n e = (head, refl)

pub sort_has_name : (d : Declarations) (s : SortId) → IsConsistent d → IsPlainSort d s → (name : List ℕ) × NamesSort d name s
sort_has_name d s fits plain =
    let head = head_there (slice_get d.declared.heads plain.0) 0 (fits.origins.sorts s.0 (named plain.0) plain.1) in
    (head.0.name, (plain.0, head.0, plain.1, head.1, refl))

-- what stands in a list stays where it goes on
stays : {X : Type 0} (first second : List X) → Begins first second → (i : ℕ) (x : X) → slice_get first i ≡ Some x → slice_get second i ≡ Some x
stays {X} first second h i x at = subst (λ (xs : List X). slice_get xs i ≡ Some x) (sym h.1) (slice_get-append_left first h.0 i x at)

-- a name stays where more is declared
name_stays : {X : Type 0} (name_of : X → List ℕ) (first second : List X) → Begins first second → (i : ℕ) (name : List ℕ) → slice_get (map name_of first) i ≡ Some name → slice_get (map name_of second) i ≡ Some name
name_stays {X} name_of first second h i name at =
    subst (λ (xs : List X). slice_get (map name_of xs) i ≡ Some name) (sym h.1)
    (subst (λ (names : List (List ℕ)). slice_get names i ≡ Some name) (sym (map-append name_of first h.0)) (slice_get-append_left (map name_of first) (map name_of h.0) i name at))

module _ (later earlier : Declarations) (h : Extends later earlier) where
  plain_sort_stays : (s : SortId) → IsPlainSort earlier s → IsPlainSort later s
  plain_sort_stays s plain = (plain.0, stays earlier.origins later.origins h.origins s.0 (named plain.0) plain.1)

  plain_ctor_stays : (c : CtorId) → IsPlainCtor earlier c → IsPlainCtor later c
  plain_ctor_stays c plain = (plain.0, stays earlier.ctors later.ctors h.ctors c.0 plain.0 plain.1, plain_sort_stays plain.0.sort plain.2)

  generic_ctor_stays : (g : GenId) (i : ℕ) (ctor : Spelling) → IsGenericCtor earlier g i ctor → IsGenericCtor later g i ctor
  generic_ctor_stays g i ctor is = (
    (is.0.0, (stays earlier.declared.heads later.declared.heads h.heads g.0 is.0.0 is.0.1.0, is.0.1.1)),
    (is.1.0, stays earlier.spellings later.spellings h.spellings g.0 is.1.0 is.1.1, is.1.2),
  )

  stays_for : (name : List ℕ) (symbol : Symbol) → ResolvesTo earlier name (Some symbol) → ResolvesTo later name (Some symbol)
  stays_for name (Ctor c) at = (name_stays (λ (t : Constructor). t.name) earlier.ctors later.ctors h.ctors c.0 name at.0, plain_ctor_stays c at.1)
  stays_for name (Sel s) at = (
    name_stays (λ (t : Selector). t.name) earlier.sels later.sels h.sels s.0 name at.0,
    (at.1.0, stays earlier.sels later.sels h.sels s.0 at.1.0 at.1.1, plain_ctor_stays at.1.0.ctor at.1.2),
  )
  stays_for name (Fun f) at = name_stays (λ (t : Function). t.name) earlier.functions later.functions h.functions f.0 name at
  stays_for name (Def f) at = name_stays (λ (t : Function). t.name) earlier.definitions later.definitions h.definitions f.0 name at
  stays_for name (GenCtor g i) at = (at.0, generic_ctor_stays g i at.0 at.1, at.2)
  stays_for name (GenSel g i k) at = (at.0, generic_ctor_stays g i at.0 at.1, at.2)

  sort_stays_for : (name : List ℕ) (s : SortId) → NamesSort earlier name s → NamesSort later name s
  sort_stays_for name s at = (at.0, at.1, stays earlier.origins later.origins h.origins s.0 (named at.0) at.2, stays earlier.declared.heads later.declared.heads h.heads at.0 at.1 at.3, at.4)

pub symbol_stays : (later earlier : Declarations) (name : List ℕ) (symbol : Symbol) → Extends later earlier → ResolvesTo earlier name (Some symbol) → ResolvesTo later name (Some symbol)
symbol_stays later earlier name symbol h at = stays_for later earlier h name symbol at

pub sort_stays : (later earlier : Declarations) (name : List ℕ) (s : SortId) → Extends later earlier → NamesSort earlier name s → NamesSort later name s
sort_stays later earlier name s h at = sort_stays_for later earlier h name s at
