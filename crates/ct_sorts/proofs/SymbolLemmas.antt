-- A name stands for one symbol.
use Rattle.std.proofs.Common.{◌≡◌, ℕ, zero, suc, ◌+◌, ◌<◌, ◌⊎◌, List, [], ◌∷◌, ◌++◌, length, map, take, slice_get, Option, Some, None, unwrap_or, codes, refl, sym, ◌∙◌, ap, ap₂, subst, subst₂, inl, inr, ⊎_elim, arith}
use Rattle.std.specs.Option.{option_and_then}
use Rattle.std.proofs.lemmas.Option.{none-some, same_Some, slice_get_within}
use Rattle.ct_lemmas.proofs.Lists.{slice_get-append_after, slice_get-append_left, slice_get-map_at, slice_get-map_source, slice_get-there}
use Rattle.ct_lemmas.proofs.Prefixes.{slice_get-take}
use Rattle.ct_generics.specs.Expression.{Expression, named}
use Rattle.ct_generics.specs.Declarations.{Head}
use Rattle.ct_generics.specs.Reach.{fields_of}
use Rattle.ct_sorts.specs.declared.ids.SortId.{SortId}
use Rattle.ct_sorts.specs.declared.ids.CtorId.{CtorId}
use Rattle.ct_sorts.specs.declared.ids.SelId.{SelId}
use Rattle.ct_sorts.specs.declared.ids.GenId.{GenId}
use Rattle.ct_sorts.specs.declared.ids.FunId.{FunId}
use Rattle.ct_sorts.specs.declared.ids.DefId.{DefId}
use Rattle.ct_sorts.specs.declared.ids.Symbol.{Symbol}
use Rattle.ct_sorts.specs.declared.ids.Symbol.TheVariants.{Ctor, Sel, Fun, Def, GenCtor, GenSel}
use Rattle.ct_sorts.specs.declared.spelling.Spelling.{Spelling}
use Rattle.ct_sorts.specs.Availability.{IsListed}
use Rattle.ct_sorts.specs.Declarations.{Declarations, Sort, Constructor, Selector, bool, start, ctor_names, sel_names, head_symbols, function_names, definition_names, symbol_names}
use Rattle.ct_sorts.specs.Lookup.{ResolvesTo, AreDistinct, IsGenericCtor, IsPlainCtor, IsPlainSel}
use Rattle.ct_sorts.specs.Consistent.{IsConsistent}
use Rattle.ct_sorts.specs.Shapes.{FieldShape, CtorShape, spelling_of, shape_of}
use Rattle.ct_sorts.proofs.Counts.{AreDistinct-middle}
use Rattle.ct_sorts.proofs.HeadLemmas.{head_there}
use Rattle.ct_sorts.proofs.LookupLemmas.{IsListed-left, IsListed-right}
use Rattle.ct_sorts.proofs.MadeAtLemmas.{ctor_of_sort, sort_is_made}
use Rattle.ct_sorts.proofs.PlaceLemmas.{IsPlaced, placed_listed, one_place, AreDistinct-left, AreDistinct-right, apart}
use Rattle.ct_sorts.proofs.ShapeLemmas.{ctor_shapes-name}
use Rattle.ct_sorts.proofs.StructureLemmas.{of_their_sorts, of_their_constructors}

-- the names of the constructors of Bool
abbrev truths : List Spelling
truths = record { name = codes "true"; fields = [] } ∷ (record { name = codes "false"; fields = [] } ∷ [])

one_more : (s : ℕ) → suc s ≡ 1 + s
one_more s = omega arith

module _ (d : Declarations) (c : IsConsistent d) where
  -- ---- the place of a constructor of a sort without parameters

  -- it is constructor i of the sort that is the head h
  pub record IsOwnCtor (id : CtorId) (name : List ℕ) (h i : ℕ) : Type 0 where
    pub s : ℕ
    pub sort : Sort
    pub origin : slice_get d.origins s ≡ Some (named h)
    pub sort_at : slice_get d.sorts s ≡ Some sort
    pub at : slice_get sort.ctors i ≡ Some id
    pub placed : IsPlaced d h i 0 name

  bool_there : slice_get d.sorts 0 ≡ Some bool
  bool_there = slice_get-take 1 d.sorts 0 bool (ap (λ (xs : List Sort). slice_get xs 0) c.first_sort)

  origin_there : slice_get d.origins 0 ≡ Some (named 0)
  origin_there = slice_get-take 1 d.origins 0 (named 0) (ap (λ (xs : List Expression). slice_get xs 0) c.first_origin)

  spelling_there : slice_get d.spellings 0 ≡ Some truths
  spelling_there = slice_get-take 1 d.spellings 0 truths (ap (λ (xs : List (List Spelling)). slice_get xs 0) c.first_spelling)

  same_named : (g h : ℕ) → named g ≡ named h → g ≡ h
  same_named g h e = cc

  -- of Bool
  truth : (h i : ℕ) (id : CtorId) (ctor : Constructor) → named h ≡ named 0 → slice_get bool.ctors i ≡ Some id → slice_get d.ctors id.0 ≡ Some ctor → IsOwnCtor id ctor.name h i
  truth h i id ctor is at there = subst (λ g. IsOwnCtor id ctor.name g i) (sym (same_named h 0 is)) (by i at)
    where
      first : (n : ℕ) (known : Constructor) → slice_get start.ctors n ≡ Some known → slice_get d.ctors n ≡ Some known
      first n known e = slice_get-take 2 d.ctors n known (ap (λ (xs : List Constructor). slice_get xs n) c.first_ctors ∙ e)

      by : (i : ℕ) → slice_get bool.ctors i ≡ Some id → IsOwnCtor id ctor.name 0 i
      by zero e =
          let number : 0 ≡ id.0 = ap (λ (k : CtorId). k.0) (same_Some _ _ e) in
          let same = same_Some _ _ (sym (first 0 _ refl) ∙ ap (slice_get d.ctors) number ∙ there) in
          record { s = 0; sort = bool; origin = origin_there; sort_at = bool_there; at = e; placed = record { ctors = truths; ctor = record { name = codes "true"; fields = [] }; at_head = spelling_there; at_ctor = refl; at_name = ap (λ (k : Constructor). Some k.name) same } }
      by (suc zero) e =
          let number : 1 ≡ id.0 = ap (λ (k : CtorId). k.0) (same_Some _ _ e) in
          let same = same_Some _ _ (sym (first 1 _ refl) ∙ ap (slice_get d.ctors) number ∙ there) in
          record { s = 0; sort = bool; origin = origin_there; sort_at = bool_there; at = e; placed = record { ctors = truths; ctor = record { name = codes "false"; fields = [] }; at_head = spelling_there; at_ctor = refl; at_name = ap (λ (k : Constructor). Some k.name) same } }
      by (suc (suc n)) e = absurd (none-some _ e)

  -- of a declared sort
  declared : (h i s : ℕ) (id : CtorId) (ctor : Constructor) (sort : Sort) → slice_get d.origins (1 + s) ≡ Some (named h) → slice_get d.sorts (1 + s) ≡ Some sort → slice_get sort.ctors i ≡ Some id → slice_get d.ctors id.0 ≡ Some ctor → IsOwnCtor id ctor.name h i
  declared h i s id ctor sort origin sort_at at there =
      let made = sort_is_made d c.origins s (named h) origin in
      let same_sort : made.0 ≡ sort = same_Some _ _ (sym made.1 ∙ sort_at) in
      let few : i < length (shape_of d.declared.heads d.spellings (named h)).ctors = subst (λ n. i < n) (ap (λ (t : Sort). length t.ctors) (sym same_sort) ∙ made.4) (slice_get_within sort.ctors i id at) in
      let t = slice_get-there (shape_of d.declared.heads d.spellings (named h)).ctors i few in
      let own = ctor_of_sort d c.origins s (named h) origin i t.0 t.1 in
      let same_own : own.sort ≡ sort = same_Some _ _ (sym own.sort_at ∙ sort_at) in
      let same_id : own.id ≡ id = same_Some _ _ (sym own.at ∙ ap (λ (x : Sort). slice_get x.ctors i) same_own ∙ at) in
      let same_ctor : own.ctor ≡ ctor = same_Some _ _ (sym own.there ∙ ap (λ (k : CtorId). slice_get d.ctors k.0) same_id ∙ there) in
      let spelled = ctor_shapes-name (spelling_of d.spellings (named h)) (fields_of d.declared.heads (named h)) i t.0 t.1 in
      let row = spelling_row h i spelled.0 spelled.1 in
      record {
        s = 1 + s;
        sort = sort;
        origin = origin;
        sort_at = sort_at;
        at = at;
        placed = record { ctors = row.0; ctor = spelled.0; at_head = row.1; at_ctor = row.2; at_name = ap Some (spelled.2 ∙ sym own.name_is ∙ ap (λ (k : Constructor). k.name) same_ctor) };
      }
    where
      spelling_row : (h i : ℕ) (one : Spelling) → slice_get (spelling_of d.spellings (named h)) i ≡ Some one → (ctors : List Spelling) × (slice_get d.spellings h ≡ Some ctors) × (slice_get ctors i ≡ Some one)
      spelling_row h i one at = by (slice_get d.spellings h) refl at
        where
          by : (o : Option (List Spelling)) → slice_get d.spellings h ≡ o → slice_get (unwrap_or o []) i ≡ Some one → (ctors : List Spelling) × (slice_get d.spellings h ≡ Some ctors) × (slice_get ctors i ≡ Some one)
          by None e at = absurd (none-some _ at)
          by (Some ctors) e at = (ctors, e, at)

  pub ctor_place : (id : CtorId) (name : List ℕ) → slice_get (ctor_names d) id.0 ≡ Some name → IsPlainCtor d id → (h i : ℕ) × IsOwnCtor id name h i
  ctor_place id name at plain =
      let named_so : plain.0.name ≡ name = same_Some _ _ (sym (slice_get-map_at (λ (k : Constructor). k.name) d.ctors id.0 plain.0 plain.1) ∙ at) in
      let sort = of_their_sorts d c id.0 plain.0 plain.1 in
      let found = by plain.0.sort.0 refl plain.2.0 plain.2.1 sort.0 sort.1 sort.2 sort.3 in
      (plain.2.0, sort.1, subst (λ n. IsOwnCtor id n plain.2.0 sort.1) named_so found)
    where
      by : (s : ℕ) → plain.0.sort.0 ≡ s → (h : ℕ) → slice_get d.origins plain.0.sort.0 ≡ Some (named h) → (own : Sort) (i : ℕ) → slice_get d.sorts plain.0.sort.0 ≡ Some own → slice_get own.ctors i ≡ Some (record { 0 = id.0 }) → IsOwnCtor id plain.0.name h i
      by zero e h origin own i at_sort at_i =
          let zero_origin = same_Some _ _ (sym (subst (λ s. slice_get d.origins s ≡ Some (named h)) e origin) ∙ origin_there) in
          let same : bool ≡ own = same_Some _ _ (sym bool_there ∙ subst (λ s. slice_get d.sorts s ≡ Some own) e at_sort) in
          truth h i id plain.0 zero_origin (ap (λ (x : Sort). slice_get x.ctors i) same ∙ at_i) plain.1
      by (suc s) e h origin own i at_sort at_i =
          declared h i s id plain.0 own (subst (λ s. slice_get d.origins s ≡ Some (named h)) (e ∙ one_more s) origin) (subst (λ s. slice_get d.sorts s ≡ Some own) (e ∙ one_more s) at_sort) at_i plain.1

  -- one place, one constructor
  same_id : (a b : CtorId) → a.0 ≡ b.0 → a ≡ b
  same_id a b e i = record { 0 = e i }

  one_ctor : (a b : CtorId) (name other : List ℕ) (h i : ℕ) → IsOwnCtor a name h i → IsOwnCtor b other h i → a ≡ b
  one_ctor a b name other h i p q =
      let number = c.origins.different p.s q.s (named h) p.origin q.origin in
      let same : p.sort ≡ q.sort = same_Some _ _ (sym p.sort_at ∙ ap (slice_get d.sorts) number ∙ q.sort_at) in
      same_Some a b (sym p.at ∙ ap (λ (x : Sort). slice_get x.ctors i) same ∙ q.at)

  -- ---- the place of a selector of such a constructor

  pub record IsOwnSel (id : SelId) (name : List ℕ) (h i k : ℕ) : Type 0 where
    pub ctor_id : CtorId
    pub ctor : Constructor
    pub own : IsOwnCtor ctor_id ctor.name h i
    pub there : slice_get d.ctors ctor_id.0 ≡ Some ctor
    pub at : slice_get ctor.sels k ≡ Some id
    pub placed : IsPlaced d h i (suc k) name

  -- the constructors of Bool have no selectors
  no_sels : (i : ℕ) (id : CtorId) (ctor : Constructor) → slice_get bool.ctors i ≡ Some id → slice_get d.ctors id.0 ≡ Some ctor → ctor.sels ≡ []
  no_sels zero id ctor at there =
      let number : 0 ≡ id.0 = ap (λ (k : CtorId). k.0) (same_Some _ _ at) in
      let first = slice_get-take 2 d.ctors 0 _ (ap (λ (xs : List Constructor). slice_get xs 0) c.first_ctors) in
      sym (ap (λ (k : Constructor). k.sels) (same_Some _ _ (sym first ∙ ap (slice_get d.ctors) number ∙ there)))
  no_sels (suc zero) id ctor at there =
      let number : 1 ≡ id.0 = ap (λ (k : CtorId). k.0) (same_Some _ _ at) in
      let first = slice_get-take 2 d.ctors 1 _ (ap (λ (xs : List Constructor). slice_get xs 1) c.first_ctors) in
      sym (ap (λ (k : Constructor). k.sels) (same_Some _ _ (sym first ∙ ap (slice_get d.ctors) number ∙ there)))
  no_sels (suc (suc n)) id ctor at there = absurd (none-some _ at)

  -- of a declared sort
  field_placed : (h i s k : ℕ) (id : CtorId) (ctor : Constructor) (sort : Sort) (sel_id : SelId) (sel : Selector) → slice_get d.origins (1 + s) ≡ Some (named h) → slice_get d.sorts (1 + s) ≡ Some sort → slice_get sort.ctors i ≡ Some id → slice_get d.ctors id.0 ≡ Some ctor → slice_get ctor.sels k ≡ Some sel_id → slice_get d.sels sel_id.0 ≡ Some sel → IsPlaced d h i 0 ctor.name → IsPlaced d h i (suc k) sel.name
  field_placed h i s k id ctor sort sel_id sel origin sort_at at there at_sel sel_there placed =
      let made = sort_is_made d c.origins s (named h) origin in
      let same_sort : made.0 ≡ sort = same_Some _ _ (sym made.1 ∙ sort_at) in
      let few : i < length (shape_of d.declared.heads d.spellings (named h)).ctors = subst (λ n. i < n) (ap (λ (t : Sort). length t.ctors) (sym same_sort) ∙ made.4) (slice_get_within sort.ctors i id at) in
      let t = slice_get-there (shape_of d.declared.heads d.spellings (named h)).ctors i few in
      let own = ctor_of_sort d c.origins s (named h) origin i t.0 t.1 in
      let same_own : own.sort ≡ sort = same_Some _ _ (sym own.sort_at ∙ sort_at) in
      let same_id : own.id ≡ id = same_Some _ _ (sym own.at ∙ ap (λ (x : Sort). slice_get x.ctors i) same_own ∙ at) in
      let same_ctor : own.ctor ≡ ctor = same_Some _ _ (sym own.there ∙ ap (λ (k : CtorId). slice_get d.ctors k.0) same_id ∙ there) in
      let within : k < length t.0.fields = subst (λ n. k < n) (ap (λ (x : Constructor). length x.sels) (sym same_ctor) ∙ own.sels_long) (slice_get_within ctor.sels k sel_id at_sel) in
      let f = slice_get-there t.0.fields k within in
      let of = own.sels k f.0 f.1 in
      let same_sel_id : of.id ≡ sel_id = same_Some _ _ (sym of.at ∙ ap (λ (x : Constructor). slice_get x.sels k) same_ctor ∙ at_sel) in
      let same_sel : of.sel ≡ sel = same_Some _ _ (sym of.there ∙ ap (λ (x : SelId). slice_get d.sels x.0) same_sel_id ∙ sel_there) in
      let spelled = ctor_shapes-name (spelling_of d.spellings (named h)) (fields_of d.declared.heads (named h)) i t.0 t.1 in
      let row : spelling_of d.spellings (named h) ≡ placed.ctors = ap (λ (o : Option (List Spelling)). unwrap_or o []) placed.at_head in
      let one : spelled.0 ≡ placed.ctor = same_Some _ _ (sym spelled.1 ∙ ap (λ (cs : List Spelling). slice_get cs i) row ∙ placed.at_ctor) in
      record {
        ctors = placed.ctors;
        ctor = placed.ctor;
        at_head = placed.at_head;
        at_ctor = placed.at_ctor;
        at_name = ap (λ (x : Spelling). slice_get x.fields k) (sym one) ∙ spelled.3 k f.0 f.1 ∙ ap Some (sym of.name_is ∙ ap (λ (x : Selector). x.name) same_sel);
      }

  pub sel_place : (id : SelId) (name : List ℕ) → slice_get (sel_names d) id.0 ≡ Some name → IsPlainSel d id → (h i k : ℕ) × IsOwnSel id name h i k
  sel_place id name at plain =
      let sel = plain.0 in
      let named_so : sel.name ≡ name = same_Some _ _ (sym (slice_get-map_at (λ (k : Selector). k.name) d.sels id.0 sel plain.1) ∙ at) in
      let ctor = plain.2.0 in
      let place = ctor_place sel.ctor ctor.name (slice_get-map_at (λ (k : Constructor). k.name) d.ctors sel.ctor.0 ctor plain.2.1) plain.2 in
      let stands = of_their_constructors d c id.0 sel plain.1 in
      let same : stands.0 ≡ ctor = same_Some _ _ (sym stands.1 ∙ plain.2.1) in
      let at_sel : slice_get ctor.sels sel.place ≡ Some id = ap (λ (x : Constructor). slice_get x.sels sel.place) (sym same) ∙ stands.2 in (
        place.0,
        place.1,
        sel.place,
        record {
          ctor_id = sel.ctor;
          ctor = ctor;
          own = place.2;
          there = plain.2.1;
          at = at_sel;
          placed = subst (IsPlaced d place.0 place.1 (suc sel.place)) named_so (by place.2.s place.2.sort place.0 place.1 place.2.origin place.2.sort_at place.2.at at_sel place.2.placed);
        },
      )
    where
      by : (s : ℕ) (sort : Sort) (h i : ℕ) → slice_get d.origins s ≡ Some (named h) → slice_get d.sorts s ≡ Some sort → slice_get sort.ctors i ≡ Some plain.0.ctor → slice_get plain.2.0.sels plain.0.place ≡ Some id → IsPlaced d h i 0 plain.2.0.name → IsPlaced d h i (suc plain.0.place) plain.0.name
      by zero sort h i origin sort_at at_i at_sel placed =
          let same : bool ≡ sort = same_Some _ _ (sym bool_there ∙ sort_at) in
          let none = no_sels i plain.0.ctor plain.2.0 (ap (λ (x : Sort). slice_get x.ctors i) same ∙ at_i) plain.2.1 in
          absurd (none-some _ (ap (λ (ss : List SelId). slice_get ss plain.0.place) (sym none) ∙ at_sel))
      by (suc s) sort h i origin sort_at at_i at_sel placed = field_placed h i s plain.0.place plain.0.ctor plain.2.0 sort id plain.0 (subst (λ n. slice_get d.origins n ≡ Some (named h)) (one_more s) origin) (subst (λ n. slice_get d.sorts n ≡ Some sort) (one_more s) sort_at) at_i plain.2.1 at_sel plain.1 placed

  one_sel : (a b : SelId) (name other : List ℕ) (h i k : ℕ) → IsOwnSel a name h i k → IsOwnSel b other h i k → a ≡ b
  one_sel a b name other h i k p q =
      let ids = one_ctor p.ctor_id q.ctor_id p.ctor.name q.ctor.name h i p.own q.own in
      let same : p.ctor ≡ q.ctor = same_Some _ _ (sym p.there ∙ ap (λ (x : CtorId). slice_get d.ctors x.0) ids ∙ q.there) in
      same_Some a b (sym p.at ∙ ap (λ (x : Constructor). slice_get x.sels k) same ∙ q.at)

  -- ---- symbols

  -- the sort that is the head h has no parameters
  no_generic : (h s : ℕ) (head : Head) → slice_get d.origins s ≡ Some (named h) → slice_get d.declared.heads h ≡ Some head → 0 < head.params → ⊥
  no_generic h s head origin at some =
      let known = head_there (slice_get d.declared.heads h) 0 (c.origins.sorts s (named h) origin) in
      let same : known.0 ≡ head = same_Some _ _ (sym known.1 ∙ at) in
      omega (arith, known.2, ap (λ (x : Head). x.params) same, some)

  distinct_heads : AreDistinct (head_symbols d.spellings)
  distinct_heads = AreDistinct-left (head_symbols d.spellings) (function_names d ++ definition_names d) c.distinct

  not_function : (name : List ℕ) (n f : ℕ) → slice_get (head_symbols d.spellings) n ≡ Some name → slice_get (function_names d) f ≡ Some name → ⊥
  not_function name n f at also = apart (head_symbols d.spellings) (function_names d ++ definition_names d) n f name c.distinct at (slice_get-append_left (function_names d) (definition_names d) f name also)

  not_definition : (name : List ℕ) (n f : ℕ) → slice_get (head_symbols d.spellings) n ≡ Some name → slice_get (definition_names d) f ≡ Some name → ⊥
  not_definition name n f at also = apart (head_symbols d.spellings) (function_names d ++ definition_names d) n (length (function_names d) + f) name c.distinct at (slice_get-append_after (function_names d) (definition_names d) f ∙ also)

  gen_placed : (g : GenId) (i : ℕ) (name : List ℕ) → (ctor : Spelling) × IsGenericCtor d g i ctor × (ctor.name ≡ name) → IsPlaced d g.0 i 0 name
  gen_placed g i name at = record { ctors = at.1.1.0; ctor = at.0; at_head = at.1.1.1; at_ctor = at.1.1.2; at_name = ap Some at.2 }

  gen_field_placed : (g : GenId) (i k : ℕ) (name : List ℕ) → (ctor : Spelling) × IsGenericCtor d g i ctor × (slice_get ctor.fields k ≡ Some name) → IsPlaced d g.0 i (suc k) name
  gen_field_placed g i k name at = record { ctors = at.1.1.0; ctor = at.0; at_head = at.1.1.1; at_ctor = at.1.1.2; at_name = at.2 }

  same_gen : (a b : GenId) → a.0 ≡ b.0 → a ≡ b
  same_gen a b e i = record { 0 = e i }

  -- a symbol of a name has a place, or is a function or a definition of this name
  place_of : (name : List ℕ) (x : Symbol) → ResolvesTo d name (Some x) → ((h i k : ℕ) × IsPlaced d h i k name) ⊎ (IsListed (function_names d) name ⊎ IsListed (definition_names d) name)
  place_of name (Ctor id) at = let p = ctor_place id name at.0 at.1 in inl (p.0, p.1, 0, p.2.placed)
  place_of name (Sel id) at = let p = sel_place id name at.0 at.1 in inl (p.0, p.1, suc p.2, p.3.placed)
  place_of name (GenCtor g i) at = inl (g.0, i, 0, gen_placed g i name at)
  place_of name (GenSel g i k) at = inl (g.0, i, suc k, gen_field_placed g i k name at)
  place_of name (Fun f) at = inr (inl (f.0, at))
  place_of name (Def f) at = inr (inr (f.0, at))

  pub symbol_listed : (name : List ℕ) (x : Symbol) → ResolvesTo d name (Some x) → IsListed (symbol_names d) name
  symbol_listed name x at =
      ⊎_elim (λ p. IsListed-left (head_symbols d.spellings) _ name (placed_listed d p.0 p.1 p.2 name p.3))
      (λ rest. IsListed-right (head_symbols d.spellings) _ name (⊎_elim (λ f. IsListed-left (function_names d) _ name f) (λ f. IsListed-right (function_names d) (definition_names d) name f) rest)) (place_of name x at)

  -- symbols of two kinds have no common name
  ctor_sel : (name : List ℕ) (a : CtorId) (b : SelId) → ResolvesTo d name (Some (Ctor a)) → ResolvesTo d name (Some (Sel b)) → ⊥
  ctor_sel name a b p q =
      let left = ctor_place a name p.0 p.1 in
      let right = sel_place b name q.0 q.1 in
      omega (arith, (one_place d left.0 left.1 0 right.0 right.1 (suc right.2) name distinct_heads left.2.placed right.3.placed).2)

  ctor_gen : (name : List ℕ) (a : CtorId) (g : GenId) (i : ℕ) → ResolvesTo d name (Some (Ctor a)) → ResolvesTo d name (Some (GenCtor g i)) → ⊥
  ctor_gen name a g i p q =
      let left = ctor_place a name p.0 p.1 in
      let same = one_place d left.0 left.1 0 g.0 i 0 name distinct_heads left.2.placed (gen_placed g i name q) in
      no_generic left.0 left.2.s q.1.0.0 left.2.origin (ap (slice_get d.declared.heads) same.0 ∙ q.1.0.1.0) q.1.0.1.1

  ctor_gensel : (name : List ℕ) (a : CtorId) (g : GenId) (i : ℕ) (k : ℕ) → ResolvesTo d name (Some (Ctor a)) → ResolvesTo d name (Some (GenSel g i k)) → ⊥
  ctor_gensel name a g i k p q =
      let left = ctor_place a name p.0 p.1 in
      omega (arith, (one_place d left.0 left.1 0 g.0 i (suc k) name distinct_heads left.2.placed (gen_field_placed g i k name q)).2)

  ctor_fun : (name : List ℕ) (a : CtorId) (f : FunId) → ResolvesTo d name (Some (Ctor a)) → ResolvesTo d name (Some (Fun f)) → ⊥
  ctor_fun name a f p q = let left = ctor_place a name p.0 p.1 in let n = placed_listed d left.0 left.1 0 name left.2.placed in not_function name n.0 f.0 n.1 q

  ctor_def : (name : List ℕ) (a : CtorId) (f : DefId) → ResolvesTo d name (Some (Ctor a)) → ResolvesTo d name (Some (Def f)) → ⊥
  ctor_def name a f p q = let left = ctor_place a name p.0 p.1 in let n = placed_listed d left.0 left.1 0 name left.2.placed in not_definition name n.0 f.0 n.1 q

  sel_gen : (name : List ℕ) (a : SelId) (g : GenId) (i : ℕ) → ResolvesTo d name (Some (Sel a)) → ResolvesTo d name (Some (GenCtor g i)) → ⊥
  sel_gen name a g i p q =
      let left = sel_place a name p.0 p.1 in
      omega (arith, (one_place d left.0 left.1 (suc left.2) g.0 i 0 name distinct_heads left.3.placed (gen_placed g i name q)).2)

  sel_gensel : (name : List ℕ) (a : SelId) (g : GenId) (i : ℕ) (k : ℕ) → ResolvesTo d name (Some (Sel a)) → ResolvesTo d name (Some (GenSel g i k)) → ⊥
  sel_gensel name a g i k p q =
      let left = sel_place a name p.0 p.1 in
      let same = one_place d left.0 left.1 (suc left.2) g.0 i (suc k) name distinct_heads left.3.placed (gen_field_placed g i k name q) in
      no_generic left.0 left.3.own.s q.1.0.0 left.3.own.origin (ap (slice_get d.declared.heads) same.0 ∙ q.1.0.1.0) q.1.0.1.1

  sel_fun : (name : List ℕ) (a : SelId) (f : FunId) → ResolvesTo d name (Some (Sel a)) → ResolvesTo d name (Some (Fun f)) → ⊥
  sel_fun name a f p q = let left = sel_place a name p.0 p.1 in let n = placed_listed d left.0 left.1 (suc left.2) name left.3.placed in not_function name n.0 f.0 n.1 q

  sel_def : (name : List ℕ) (a : SelId) (f : DefId) → ResolvesTo d name (Some (Sel a)) → ResolvesTo d name (Some (Def f)) → ⊥
  sel_def name a f p q = let left = sel_place a name p.0 p.1 in let n = placed_listed d left.0 left.1 (suc left.2) name left.3.placed in not_definition name n.0 f.0 n.1 q

  gen_gensel : (name : List ℕ) (g : GenId) (i : ℕ) (h : GenId) (j : ℕ) (k : ℕ) → ResolvesTo d name (Some (GenCtor g i)) → ResolvesTo d name (Some (GenSel h j k)) → ⊥
  gen_gensel name g i h j k p q =
      omega (arith, (one_place d g.0 i 0 h.0 j (suc k) name distinct_heads (gen_placed g i name p) (gen_field_placed h j k name q)).2)

  gen_fun : (name : List ℕ) (g : GenId) (i : ℕ) (f : FunId) → ResolvesTo d name (Some (GenCtor g i)) → ResolvesTo d name (Some (Fun f)) → ⊥
  gen_fun name g i f p q = let n = placed_listed d g.0 i 0 name (gen_placed g i name p) in not_function name n.0 f.0 n.1 q

  gen_def : (name : List ℕ) (g : GenId) (i : ℕ) (f : DefId) → ResolvesTo d name (Some (GenCtor g i)) → ResolvesTo d name (Some (Def f)) → ⊥
  gen_def name g i f p q = let n = placed_listed d g.0 i 0 name (gen_placed g i name p) in not_definition name n.0 f.0 n.1 q

  gensel_fun : (name : List ℕ) (g : GenId) (i : ℕ) (k : ℕ) (f : FunId) → ResolvesTo d name (Some (GenSel g i k)) → ResolvesTo d name (Some (Fun f)) → ⊥
  gensel_fun name g i k f p q = let n = placed_listed d g.0 i (suc k) name (gen_field_placed g i k name p) in not_function name n.0 f.0 n.1 q

  gensel_def : (name : List ℕ) (g : GenId) (i : ℕ) (k : ℕ) (f : DefId) → ResolvesTo d name (Some (GenSel g i k)) → ResolvesTo d name (Some (Def f)) → ⊥
  gensel_def name g i k f p q = let n = placed_listed d g.0 i (suc k) name (gen_field_placed g i k name p) in not_definition name n.0 f.0 n.1 q

  fun_def : (name : List ℕ) (f : FunId) (g : DefId) → ResolvesTo d name (Some (Fun f)) → ResolvesTo d name (Some (Def g)) → ⊥
  fun_def name f g p q = apart (function_names d) (definition_names d) f.0 g.0 name (AreDistinct-right (head_symbols d.spellings) (function_names d ++ definition_names d) c.distinct) p q

  -- two symbols of one name are one
  same_symbol : (name : List ℕ) (x y : Symbol) → ResolvesTo d name (Some x) → ResolvesTo d name (Some y) → x ≡ y
  same_symbol name (Ctor a) (Ctor b) p q =
      let left = ctor_place a name p.0 p.1 in
      let right = ctor_place b name q.0 q.1 in
      let same = one_place d left.0 left.1 0 right.0 right.1 0 name distinct_heads left.2.placed right.2.placed in
      ap Ctor (one_ctor a b name name right.0 right.1 (subst₂ (IsOwnCtor a name) same.0 same.1 left.2) right.2)
  same_symbol name (Ctor a) (Sel b) p q = absurd (ctor_sel name a b p q)
  same_symbol name (Ctor a) (GenCtor g i) p q = absurd (ctor_gen name a g i p q)
  same_symbol name (Ctor a) (GenSel g i k) p q = absurd (ctor_gensel name a g i k p q)
  same_symbol name (Ctor a) (Fun f) p q = absurd (ctor_fun name a f p q)
  same_symbol name (Ctor a) (Def f) p q = absurd (ctor_def name a f p q)
  same_symbol name (Sel a) (Ctor b) p q = absurd (ctor_sel name b a q p)
  same_symbol name (Sel a) (Sel b) p q =
      let left = sel_place a name p.0 p.1 in
      let right = sel_place b name q.0 q.1 in
      let same = one_place d left.0 left.1 (suc left.2) right.0 right.1 (suc right.2) name distinct_heads left.3.placed right.3.placed in
      let index : left.2 ≡ right.2 = omega (arith, same.2) in
      ap Sel (one_sel a b name name right.0 right.1 right.2 (subst (IsOwnSel a name right.0 right.1) index (subst₂ (λ h i. IsOwnSel a name h i left.2) same.0 same.1 left.3)) right.3)
  same_symbol name (Sel a) (GenCtor g i) p q = absurd (sel_gen name a g i p q)
  same_symbol name (Sel a) (GenSel g i k) p q = absurd (sel_gensel name a g i k p q)
  same_symbol name (Sel a) (Fun f) p q = absurd (sel_fun name a f p q)
  same_symbol name (Sel a) (Def f) p q = absurd (sel_def name a f p q)
  same_symbol name (GenCtor g i) (Ctor b) p q = absurd (ctor_gen name b g i q p)
  same_symbol name (GenCtor g i) (Sel b) p q = absurd (sel_gen name b g i q p)
  same_symbol name (GenCtor g i) (GenCtor h j) p q =
      let same = one_place d g.0 i 0 h.0 j 0 name distinct_heads (gen_placed g i name p) (gen_placed h j name q) in
      ap₂ GenCtor (same_gen g h same.0) same.1
  same_symbol name (GenCtor g i) (GenSel h j k) p q = absurd (gen_gensel name g i h j k p q)
  same_symbol name (GenCtor g i) (Fun f) p q = absurd (gen_fun name g i f p q)
  same_symbol name (GenCtor g i) (Def f) p q = absurd (gen_def name g i f p q)
  same_symbol name (GenSel g i k) (Ctor b) p q = absurd (ctor_gensel name b g i k q p)
  same_symbol name (GenSel g i k) (Sel b) p q = absurd (sel_gensel name b g i k q p)
  same_symbol name (GenSel g i k) (GenCtor h j) p q = absurd (gen_gensel name h j g i k q p)
  same_symbol name (GenSel g i k) (GenSel h j l) p q =
      let same = one_place d g.0 i (suc k) h.0 j (suc l) name distinct_heads (gen_field_placed g i k name p) (gen_field_placed h j l name q) in
      let index : k ≡ l = omega (arith, same.2) in
      λ n. GenSel (same_gen g h same.0 n) (same.1 n) (index n)
  same_symbol name (GenSel g i k) (Fun f) p q = absurd (gensel_fun name g i k f p q)
  same_symbol name (GenSel g i k) (Def f) p q = absurd (gensel_def name g i k f p q)
  same_symbol name (Fun f) (Ctor b) p q = absurd (ctor_fun name b f q p)
  same_symbol name (Fun f) (Sel b) p q = absurd (sel_fun name b f q p)
  same_symbol name (Fun f) (GenCtor g i) p q = absurd (gen_fun name g i f q p)
  same_symbol name (Fun f) (GenSel g i k) p q = absurd (gensel_fun name g i k f q p)
  same_symbol name (Fun f) (Fun g) p q = let number = AreDistinct-middle (head_symbols d.spellings) (function_names d) (definition_names d) c.distinct f.0 g.0 name p q in ap (λ (n : ℕ). Fun (record { 0 = n })) number
  same_symbol name (Fun f) (Def g) p q = absurd (fun_def name f g p q)
  same_symbol name (Def f) (Ctor b) p q = absurd (ctor_def name b f q p)
  same_symbol name (Def f) (Sel b) p q = absurd (sel_def name b f q p)
  same_symbol name (Def f) (GenCtor g i) p q = absurd (gen_def name g i f q p)
  same_symbol name (Def f) (GenSel g i k) p q = absurd (gensel_def name g i k f q p)
  same_symbol name (Def f) (Fun g) p q = absurd (fun_def name g f q p)
  same_symbol name (Def f) (Def g) p q =
      let number = AreDistinct-right (function_names d) (definition_names d) (AreDistinct-right (head_symbols d.spellings) (function_names d ++ definition_names d) c.distinct) f.0 g.0 name p q in
      ap (λ (n : ℕ). Def (record { 0 = n })) number

-- a name stands for one symbol, or for none
pub one_symbol : (d : Declarations) (name : List ℕ) (found other : Option Symbol) → IsConsistent d → ResolvesTo d name found → ResolvesTo d name other → other ≡ found
one_symbol d name None None c at also = refl
one_symbol d name None (Some y) c at also = absurd (at (symbol_listed d c name y also))
one_symbol d name (Some x) None c at also = absurd (also (symbol_listed d c name x at))
one_symbol d name (Some x) (Some y) c at also = ap (λ (s : Symbol). Some s) (same_symbol d c name y x also at)
