-- The names of a block's constructors and fields, pushed piece by piece with what they stand for.
use Rattle.std.proofs.Common.{◌≡◌, ℕ, suc, ◌+◌, ◌<◌, ◌≤◌, ◌==◌, Bool, true, false, if◌then◌else◌, List, [], ◌∷◌, ◌++◌, length, map, take, drop, get_or, refl, sym, ◌∙◌, ap, ap₂, subst, arith, length-append}
use Rattle.std.specs.List.{AllZip, flat_map}
use Rattle.std.proofs.lemmas.List.{append_assoc, append-nil, length-map, map-append, take_more}
use Rattle.ct_generics.specs.declared.decl.CtorDecl.{CtorDecl}
use Rattle.ct_generics.specs.declared.decl.Field.{Field}
use Rattle.ct_generics.specs.declared.decl.SortDecl.{SortDecl}
use Rattle.ct_sorts.specs.declared.ids.CtorId.{CtorId}
use Rattle.ct_sorts.specs.declared.ids.GenId.{GenId}
use Rattle.ct_sorts.specs.declared.ids.Symbol.{Symbol}
use Rattle.ct_sorts.specs.declared.ids.Symbol.TheVariants.{Ctor, Sel, GenCtor, GenSel}
use Rattle.ct_sorts.specs.Availability.{IsListed}
use Rattle.ct_sorts.specs.Block.{block_ctors, block_spellings, ctor_symbols, params_of, spelling}
use Rattle.ct_sorts.specs.Lookup.{AreDistinct, names_of}
use Rattle.ct_sorts.specs.Room.{decl_fields}
use Rattle.ct_sorts.specs.Symbols.{block_symbols, field_total, generic_sel_symbols, generic_symbols, numbered_sels, numbered_symbols}
use Rattle.ct_sorts.proofs.AdmitLemmas.{flat_map-around, flat_map-take_more}
use Rattle.ct_sorts.proofs.BlockSymbolsLemmas.{names-numbered, names-generic, names-block, sel_names-numbered, sel_names-generic}
use Rattle.ct_sorts.proofs.Counts.{fresh-next}
use Rattle.ct_sorts.proofs.OwnLemmas.{fields_in_all, fields_named, spelled_block, spelled_ctors}
use Rattle.ct_sorts.proofs.PlaceLemmas.{AreDistinct-left}

abbrev pub Entries : Type 0
Entries = List (List ℕ × Symbol)

-- the names of two rows
pub names-append : (xs ys : Entries) → names_of (xs ++ ys) ≡ names_of xs ++ names_of ys
names-append xs ys = map-append (λ (e : List ℕ × Symbol). e.0) xs ys

-- the next name is new where all names differ
pub next_fresh : (xs : Entries) (name : List ℕ) (x : Symbol) (rest : Entries) → AreDistinct (names_of (xs ++ ((name, x) ∷ rest))) → IsListed (names_of xs) name → ⊥
next_fresh xs name x rest distinct = fresh-next (names_of xs) (names_of rest) name (subst AreDistinct (names-append xs ((name, x) ∷ rest)) distinct)

-- after it the others still differ
pub after_next : (xs : Entries) (name : List ℕ) (x : Symbol) (rest : Entries) (fields : List (List ℕ)) → names_of rest ≡ fields → AreDistinct (names_of (xs ++ ((name, x) ∷ rest))) → (now : Entries) → now ≡ xs ++ (name, x) ∷ [] → AreDistinct (names_of now ++ fields)
after_next xs name x rest fields are distinct now is =
    subst AreDistinct
    (ap names_of (sym (append_assoc xs ((name, x) ∷ []) rest)) ∙ names-append (xs ++ (name, x) ∷ []) rest ∙ ap₂ (λ a b. a ++ b) (ap names_of (sym is)) are)
    distinct

-- all names differ, where those of the pieces are these
pub whole_distinct : (old pieces : Entries) (names : List (List ℕ)) → names_of pieces ≡ names → AreDistinct (names_of old ++ names) → AreDistinct (names_of (old ++ pieces))
whole_distinct old pieces names are distinct = subst AreDistinct (ap (λ ns. names_of old ++ ns) (sym are) ∙ sym (names-append old pieces)) distinct

-- ---- the fields of a constructor

abbrev pub generic_fields : GenId → ℕ → ℕ → List Field → Entries
generic_fields g i k fields = generic_sel_symbols g i k (map (λ (f : Field). f.name) fields)

abbrev pub generic_field : GenId → ℕ → ℕ → Field → Entries
generic_field g i k f = (f.name, GenSel g i k) ∷ []

abbrev pub plain_fields : ℕ → List Field → Entries
plain_fields sel fields = numbered_sels sel (map (λ (f : Field). f.name) fields)

abbrev pub plain_field : ℕ → Field → Entries
plain_field sel f = (f.name, Sel (record { 0 = sel })) ∷ []

-- ---- the constructors of a sort or generic

abbrev pub generic_ctors : GenId → ℕ → List CtorDecl → Entries
generic_ctors g i ctors = generic_symbols g i (map spelling ctors)

abbrev pub generic_ctor : GenId → ℕ → CtorDecl → Entries
generic_ctor g i c = (c.name, GenCtor g i) ∷ generic_fields g i 0 c.fields

abbrev pub plain_ctors : ℕ × ℕ → List CtorDecl → Entries
plain_ctors k ctors = numbered_symbols k.0 k.1 (map spelling ctors)

abbrev pub plain_ctor : ℕ × ℕ → CtorDecl → Entries
plain_ctor k c = (c.name, Ctor (record { 0 = k.0 })) ∷ plain_fields k.1 c.fields

abbrev pub after_ctor : ℕ × ℕ → CtorDecl → ℕ × ℕ
after_ctor k c = (k.0 + 1, k.1 + length (map (λ (f : Field). f.name) c.fields))

-- ---- the sorts and generics of a block

-- the number of the next sort or generic, and those of the next constructor and the next selector
pub record Place : Type 0 where
  pub head : ℕ
  pub ctor : ℕ
  pub sel : ℕ

abbrev pub block_entries : Place → List SortDecl → Entries
block_entries k block = block_symbols k.head k.ctor k.sel (params_of block) (block_spellings block)

abbrev pub decl_entries : Place → SortDecl → Entries
decl_entries k s = if s.params == 0 then numbered_symbols k.ctor k.sel (map spelling s.ctors) else generic_symbols (record { 0 = k.head }) 0 (map spelling s.ctors)

abbrev pub after_decl : Place → SortDecl → Place
after_decl k s =
    if s.params == 0 then record { head = k.head + 1; ctor = k.ctor + length (map spelling s.ctors); sel = k.sel + field_total (map spelling s.ctors) }
    else record { head = k.head + 1; ctor = k.ctor; sel = k.sel }

pub block_unfolds : (k : Place) (s : SortDecl) (block : List SortDecl) → block_entries k (s ∷ block) ≡ decl_entries k s ++ block_entries (after_decl k s) block
block_unfolds k s block = by (s.params == 0)
  where
    by : (b : Bool) → (if b then numbered_symbols k.ctor k.sel (map spelling s.ctors) ++ block_symbols (k.head + 1) (k.ctor + length (map spelling s.ctors)) (k.sel + field_total (map spelling s.ctors)) (params_of block) (block_spellings block) else generic_symbols (record { 0 = k.head }) 0 (map spelling s.ctors) ++ block_symbols (k.head + 1) k.ctor k.sel (params_of block) (block_spellings block))
        ≡ (if b then numbered_symbols k.ctor k.sel (map spelling s.ctors) else generic_symbols (record { 0 = k.head }) 0 (map spelling s.ctors)) ++ block_entries (if b then record { head = k.head + 1; ctor = k.ctor + length (map spelling s.ctors); sel = k.sel + field_total (map spelling s.ctors) } else record { head = k.head + 1; ctor = k.ctor; sel = k.sel }) block
    by true = refl
    by false = refl

-- ---- how many came so far

-- the constructors and fields of the first and one more are among all
pub fields_so_far : (ctors : List CtorDecl) (i : ℕ) (c : CtorDecl) → i < length ctors → c ≡ get_or ctors i c → length (decl_fields (take i ctors)) + length c.fields ≤ length (decl_fields ctors)
fields_so_far ctors i c within is =
    omega (arith, ap length (flat_map-around (λ (x : CtorDecl). x.fields) ctors i c within is), length-append (decl_fields (take i ctors)) (c.fields ++ decl_fields (drop (i + 1) ctors)), length-append c.fields (decl_fields (drop (i + 1) ctors)))

pub fields_next : (ctors : List CtorDecl) (i : ℕ) (c : CtorDecl) → i < length ctors → c ≡ get_or ctors i c → length (decl_fields (take (i + 1) ctors)) ≡ length (decl_fields (take i ctors)) + length c.fields
fields_next ctors i c within is = ap length (flat_map-take_more (λ (x : CtorDecl). x.fields) ctors i c within is) ∙ length-append (decl_fields (take i ctors)) c.fields

-- ---- one more at the end

pub take_item : {X : Type 0} (xs : List X) (i : ℕ) (x : X) → i < length xs → x ≡ get_or xs i x → take (i + 1) xs ≡ take i xs ++ x ∷ []
take_item {X} xs i x within is = take_more xs i x within ∙ ap (λ (y : X). take i xs ++ y ∷ []) (sym is)

pub map-take_more : {X Y : Type 0} (f : X → Y) (xs : List X) (i : ℕ) (x : X) → i < length xs → x ≡ get_or xs i x → map f (take (i + 1) xs) ≡ map f (take i xs) ++ f x ∷ []
map-take_more f xs i x within is = ap (map f) (take_item xs i x within is) ∙ map-append f (take i xs) (x ∷ [])

pub AllZip-push : {X Y : Type 0} (R : X → Y → Type 0) (xs : List X) (ys : List Y) (x : X) (y : Y) → AllZip R xs ys → R x y → AllZip R (xs ++ x ∷ []) (ys ++ y ∷ [])
AllZip-push R [] [] x y all one = (one, tt)
AllZip-push R [] (z ∷ ys) x y all one = absurd all
AllZip-push R (w ∷ xs) [] x y all one = absurd all
AllZip-push R (w ∷ xs) (z ∷ ys) x y all one = (all.0, AllZip-push R xs ys x y all.1 one)

-- ---- after a sort or generic

pub place_after : (b : Bool) (head ctor sel c s : ℕ) (ctors : List CtorDecl) → c ≡ (if b then ctor + length ctors else ctor) → s ≡ (if b then sel + length (decl_fields ctors) else sel)
    → ◌≡◌ {A = Place} (record { head = head + 1; ctor = c; sel = s }) (if b then record { head = head + 1; ctor = ctor + length (map spelling ctors); sel = sel + field_total (map spelling ctors) } else record { head = head + 1; ctor = ctor; sel = sel })
place_after true head ctor sel c s ctors e f =
    let first : c ≡ ctor + length (map spelling ctors) = omega (arith, e, length-map ctors spelling) in
    let second : s ≡ sel + field_total (map spelling ctors) = omega (arith, f, fields_named ctors) in
    λ i. record { head = head + 1; ctor = first i; sel = second i }
place_after false head ctor sel c s ctors e f = λ i. record { head = head + 1; ctor = e i; sel = f i }

pub at_most : (b : Bool) (n m c : ℕ) → c ≡ (if b then n + m else n) → c ≤ n + m
at_most true n m c e = omega (arith, e)
at_most false n m c e = omega (arith, e)

-- the constructors and fields of the first sorts and generics and of one more are among all
pub block_ctors_so_far : (block : List SortDecl) (i : ℕ) (s : SortDecl) → i < length block → s ≡ get_or block i s → length (block_ctors (take i block)) + length s.ctors ≤ length (block_ctors block)
block_ctors_so_far block i s within is =
    omega (arith, ap length (flat_map-around (λ (x : SortDecl). x.ctors) block i s within is), length-append (block_ctors (take i block)) (s.ctors ++ block_ctors (drop (i + 1) block)), length-append s.ctors (block_ctors (drop (i + 1) block)))

pub block_ctors_next : (block : List SortDecl) (i : ℕ) (s : SortDecl) → i < length block → s ≡ get_or block i s → length (block_ctors (take (i + 1) block)) ≡ length (block_ctors (take i block)) + length s.ctors
block_ctors_next block i s within is = ap length (flat_map-take_more (λ (x : SortDecl). x.ctors) block i s within is) ∙ length-append (block_ctors (take i block)) s.ctors

pub block_fields_so_far : (block : List SortDecl) (i : ℕ) (s : SortDecl) → i < length block → s ≡ get_or block i s → length (decl_fields (block_ctors (take i block))) + length (decl_fields s.ctors) ≤ length (decl_fields (block_ctors block))
block_fields_so_far block i s within is =
    omega (
      arith,
      ap (λ (cs : List CtorDecl). length (decl_fields cs)) (flat_map-around (λ (x : SortDecl). x.ctors) block i s within is),
      fields_in_all (block_ctors (take i block)) (s.ctors ++ block_ctors (drop (i + 1) block)),
      fields_in_all s.ctors (block_ctors (drop (i + 1) block)),
    )

pub block_fields_next : (block : List SortDecl) (i : ℕ) (s : SortDecl) → i < length block → s ≡ get_or block i s → length (decl_fields (block_ctors (take (i + 1) block))) ≡ length (decl_fields (block_ctors (take i block))) + length (decl_fields s.ctors)
block_fields_next block i s within is = ap (λ (cs : List CtorDecl). length (decl_fields cs)) (flat_map-take_more (λ (x : SortDecl). x.ctors) block i s within is) ∙ fields_in_all (block_ctors (take i block)) s.ctors

-- the names of one sort or generic
pub decl_names : (k : Place) (s : SortDecl) → names_of (decl_entries k s) ≡ ctor_symbols s.ctors
decl_names k s = by (s.params == 0)
  where
    by : (b : Bool) → names_of (if b then numbered_symbols k.ctor k.sel (map spelling s.ctors) else generic_symbols (record { 0 = k.head }) 0 (map spelling s.ctors)) ≡ ctor_symbols s.ctors
    by true = names-numbered k.ctor k.sel (map spelling s.ctors) ∙ spelled_ctors s.ctors
    by false = names-generic (record { 0 = k.head }) 0 (map spelling s.ctors) ∙ spelled_ctors s.ctors
