-- The names under which constructors and selectors are found are those that sorts and generics declare, in order.
use Rattle.std.proofs.Common.{◌≡◌, ℕ, zero, suc, ◌+◌, ◌<◌, ◌==◌, Bool, true, false, if◌then◌else◌, List, [], ◌∷◌, ◌++◌, length, map, slice_get, Option, Some, option_map, unwrap_or, codes, refl, sym, ◌∙◌, ap, ap₂, subst, arith, length-append}
use Rattle.std.specs.List.{AllZip}
use Rattle.std.specs.Option.{option_and_then}
use Rattle.std.proofs.lemmas.Bool.Decides.{Decides-eqb}
use Rattle.std.proofs.lemmas.List.{map-append}
use Rattle.std.proofs.lemmas.Option.{none-some, same_Some, slice_get_within}
use Rattle.ct_lemmas.proofs.Lists.{slice_get-there}
use Rattle.ct_lemmas.proofs.Prefixes.{slice_get-take}
use Rattle.ct_generics.specs.Expression.{Expression, named}
use Rattle.ct_generics.specs.Declarations.{Head}
use Rattle.ct_generics.specs.Reach.{fields_of}
use Rattle.ct_sorts.specs.declared.ids.SortId.{SortId}
use Rattle.ct_sorts.specs.declared.ids.CtorId.{CtorId}
use Rattle.ct_sorts.specs.declared.ids.SelId.{SelId}
use Rattle.ct_sorts.specs.declared.ids.Symbol.{Symbol}
use Rattle.ct_sorts.specs.declared.ids.Symbol.TheVariants.{Ctor}
use Rattle.ct_sorts.specs.declared.spelling.Spelling.{Spelling}
use Rattle.ct_sorts.specs.Consistent.{IsConsistent}
use Rattle.ct_sorts.specs.Declarations.{Declarations, Sort, Constructor, bool, start, head_symbols, spelled}
use Rattle.ct_sorts.specs.Heads.{NamesEach}
use Rattle.ct_sorts.specs.Lookup.{names_of}
use Rattle.ct_sorts.specs.Same.{sort_among}
use Rattle.ct_sorts.specs.Shapes.{CtorShape, ctor_shapes, field_shapes, shape_of, spelling_of}
use Rattle.ct_sorts.specs.Symbols.{all_symbols, ctors_at, generic_symbols, plain_symbols, sel_symbols, sels_at, symbols_from}
use Rattle.ct_sorts.proofs.BlockSymbolsLemmas.{names-generic, number_is}
use Rattle.ct_sorts.proofs.HeadLemmas.{names_of_sort}
use Rattle.ct_sorts.proofs.MadeAtLemmas.{ctor_of_sort, sort_is_made}
use Rattle.ct_sorts.proofs.ShapeLemmas.{AllZip-length, length-ctor_shapes, length-field_shapes}

names_sels : (names : List (List ℕ)) (sels : List SelId) → length sels ≡ length names → names_of (sel_symbols names sels) ≡ names
names_sels [] sels same = refl
names_sels (name ∷ names) [] same = absurd (omega (arith, same))
names_sels (name ∷ names) (s ∷ sels) same = ap (λ ns. name ∷ ns) (names_sels names sels (omega (arith, same)))

names_plain : (ctors : List Constructor) (ss : List Spelling) (ids : List CtorId) → length ids ≡ length ss → ((j : ℕ) (id : CtorId) (one : Spelling) → slice_get ids j ≡ Some id → slice_get ss j ≡ Some one → length (sels_at ctors id) ≡ length one.fields) → names_of (plain_symbols ctors ss ids) ≡ spelled ss
names_plain ctors [] ids same long = refl
names_plain ctors (s ∷ ss) [] same long = absurd (omega (arith, same))
names_plain ctors (s ∷ ss) (id ∷ ids) same long =
    ap (λ ns. s.name ∷ ns)
    (map-append (λ (e : List ℕ × Symbol). e.0) (sel_symbols s.fields (sels_at ctors id)) (plain_symbols ctors ss ids)
    ∙ ap₂ (λ xs ys. xs ++ ys) (names_sels s.fields (sels_at ctors id) (long 0 id s refl refl)) (names_plain ctors ss ids (omega (arith, same)) (λ j k one at named. long (suc j) k one at named)))

-- the constructor of a name has as many fields as are named
shape_at : (ss : List Spelling) (rows : List (List Expression)) (j : ℕ) (one : Spelling) → AllZip NamesEach ss rows → slice_get ss j ≡ Some one → (t : CtorShape) × (slice_get (ctor_shapes ss rows) j ≡ Some t) × (length t.fields ≡ length one.fields)
shape_at [] rows j one all at = absurd (none-some _ at)
shape_at (s ∷ ss) [] j one all at = absurd all
shape_at (s ∷ ss) (row ∷ rows) zero one all at =
    (record { name = s.name; fields = field_shapes s.fields row }, refl, length-field_shapes s.fields row all.0 ∙ sym all.0 ∙ ap (λ (x : Spelling). length x.fields) (same_Some _ _ at))
shape_at (s ∷ ss) (row ∷ rows) (suc j) one all at = shape_at ss rows j one all.1 at

module _ (d : Declarations) (c : IsConsistent d) where
  first_origin : slice_get d.origins 0 ≡ Some (named 0)
  first_origin = slice_get-take 1 d.origins 0 (named 0) (ap (λ (xs : List Expression). slice_get xs 0) c.first_origin)

  first_none : (head : Head) → slice_get d.declared.heads 0 ≡ Some head → head.params ≡ 0
  first_none head at =
      let there = slice_get-take 1 d.declared.heads 0 _ (ap (λ (xs : List Head). slice_get xs 0) c.first_head) in
      ap (λ (h : Head). h.params) (same_Some _ _ (sym at ∙ there))

  same_named : (g h : ℕ) → named g ≡ named h → g ≡ h
  same_named g h e = cc

  -- the constructors of a sort by its number
  ctors_there : (s : ℕ) (e : Expression) (sort : Sort) → slice_get d.origins s ≡ Some e → slice_get d.sorts s ≡ Some sort → ctors_at d.sorts (sort_among d.origins e) ≡ sort.ctors
  ctors_there s e sort at sort_at =
      ap (ctors_at d.sorts) (number_is d.origins s e c.origins.different at) ∙ ap (λ (o : Option Sort). unwrap_or (option_map (λ (t : Sort). t.ctors) o) []) sort_at

  sels_there : (id : CtorId) (ctor : Constructor) → slice_get d.ctors id.0 ≡ Some ctor → sels_at d.ctors id ≡ ctor.sels
  sels_there id ctor at = ap (λ (o : Option Constructor). unwrap_or (option_map (λ (t : Constructor). t.sels) o) []) at

  -- a declared sort
  later_names : (h s : ℕ) (ss : List Spelling) → slice_get d.spellings h ≡ Some ss → slice_get d.origins (1 + s) ≡ Some (named h) → names_of (plain_symbols d.ctors ss (ctors_at d.sorts (sort_among d.origins (named h)))) ≡ spelled ss
  later_names h s ss names at =
      let made = sort_is_made d c.origins s (named h) at in
      let ids = ctors_there (1 + s) (named h) made.0 at made.1 in
      let each = names_of_sort d c.origins c.heads first_origin first_none s (named h) at in
      let own : spelling_of d.spellings (named h) ≡ ss = ap (λ (o : Option (List Spelling)). unwrap_or o []) names in
      let long : length made.0.ctors ≡ length ss = made.4 ∙ length-ctor_shapes (spelling_of d.spellings (named h)) (fields_of d.declared.heads (named h)) each ∙ sym (AllZip-length (spelling_of d.spellings (named h)) (fields_of d.declared.heads (named h)) each) ∙ ap length own in
      ap (λ (xs : List CtorId). names_of (plain_symbols d.ctors ss xs)) ids
      ∙ names_plain d.ctors ss made.0.ctors long (λ j id one at_id at_one.
      let t = shape_at (spelling_of d.spellings (named h)) (fields_of d.declared.heads (named h)) j one each (ap (λ (xs : List Spelling). slice_get xs j) own ∙ at_one) in
      let found = ctor_of_sort d c.origins s (named h) at j t.0 t.1 in
      let same_sort : found.sort ≡ made.0 = same_Some _ _ (sym found.sort_at ∙ made.1) in
      let same_id : found.id ≡ id = same_Some _ _ (sym found.at ∙ ap (λ (x : Sort). slice_get x.ctors j) same_sort ∙ at_id) in
      ap length (sels_there id found.ctor (ap (λ (k : CtorId). slice_get d.ctors k.0) (sym same_id) ∙ found.there)) ∙ found.sels_long ∙ t.2)

  -- Bool
  truth_names : (ss : List Spelling) → slice_get d.spellings 0 ≡ Some ss → names_of (plain_symbols d.ctors ss (ctors_at d.sorts (sort_among d.origins (named 0)))) ≡ spelled ss
  truth_names ss names =
      let known = slice_get-take 1 d.spellings 0 _ (ap (λ (xs : List (List Spelling)). slice_get xs 0) c.first_spelling) in
      let sort = slice_get-take 1 d.sorts 0 bool (ap (λ (xs : List Sort). slice_get xs 0) c.first_sort) in
      let first = slice_get-take 2 d.ctors 0 _ (ap (λ (xs : List Constructor). slice_get xs 0) c.first_ctors) in
      let second = slice_get-take 2 d.ctors 1 _ (ap (λ (xs : List Constructor). slice_get xs 1) c.first_ctors) in
      subst (λ (xs : List Spelling). names_of (plain_symbols d.ctors xs (ctors_at d.sorts (sort_among d.origins (named 0)))) ≡ spelled xs) (same_Some _ _ (sym known ∙ names))
      (ap (λ (xs : List CtorId). names_of (plain_symbols d.ctors (record { name = codes "true"; fields = [] } ∷ (record { name = codes "false"; fields = [] } ∷ [])) xs)) (ctors_there 0 (named 0) bool first_origin sort) ∙ refl)

  plain_names : (h s : ℕ) (ss : List Spelling) → slice_get d.spellings h ≡ Some ss → slice_get d.origins s ≡ Some (named h) → names_of (plain_symbols d.ctors ss (ctors_at d.sorts (sort_among d.origins (named h)))) ≡ spelled ss
  plain_names h zero ss names at =
      let is_first : h ≡ 0 = same_named h 0 (same_Some _ _ (sym at ∙ first_origin)) in
      subst (λ k. names_of (plain_symbols d.ctors ss (ctors_at d.sorts (sort_among d.origins (named k)))) ≡ spelled ss) (sym is_first) (truth_names ss (ap (slice_get d.spellings) (sym is_first) ∙ names))
  plain_names h (suc s) ss names at =
      let next : suc s ≡ 1 + s = omega arith in
      later_names h s ss names (ap (slice_get d.origins) (sym next) ∙ at)

  names_from : (n : ℕ) (heads : List Head) (spellings : List (List Spelling)) → length heads ≡ length spellings → ((i : ℕ) (head : Head) → slice_get heads i ≡ Some head → slice_get d.declared.heads (n + i) ≡ Some head) → ((i : ℕ) (ss : List Spelling) → slice_get spellings i ≡ Some ss → slice_get d.spellings (n + i) ≡ Some ss) → names_of (symbols_from d n heads spellings) ≡ head_symbols spellings
  names_from n [] [] same at names = refl
  names_from n [] (ss ∷ spellings) same at names = absurd (omega (arith, same))
  names_from n (head ∷ heads) [] same at names = absurd (omega (arith, same))
  names_from n (head ∷ heads) (ss ∷ spellings) same at names =
      let here : n + 0 ≡ n = omega arith in
      let next : (j : ℕ) → n + suc j ≡ n + 1 + j = λ j. omega arith in
      by (head.params == 0) (Decides-eqb head.params 0).0
      (subst (λ k. slice_get d.declared.heads k ≡ Some head) here (at 0 head refl))
      (subst (λ k. slice_get d.spellings k ≡ Some ss) here (names 0 ss refl))
      (names_from (n + 1) heads spellings (omega (arith, same)) (λ j x at_j. subst (λ k. slice_get d.declared.heads k ≡ Some x) (next j) (at (suc j) x at_j)) (λ j x at_j. subst (λ k. slice_get d.spellings k ≡ Some x) (next j) (names (suc j) x at_j)))
    where
      by : (b : Bool) → (b ≡ true → head.params ≡ 0) → slice_get d.declared.heads n ≡ Some head → slice_get d.spellings n ≡ Some ss → names_of (symbols_from d (n + 1) heads spellings) ≡ head_symbols spellings
          → names_of ((if b then plain_symbols d.ctors ss (ctors_at d.sorts (sort_among d.origins (named n))) else generic_symbols (record { 0 = n }) 0 ss) ++ symbols_from d (n + 1) heads spellings) ≡ spelled ss ++ head_symbols spellings
      by true tells at_head at_names rest =
          let s = c.plain n head at_head (tells refl) in
          map-append (λ (e : List ℕ × Symbol). e.0) (plain_symbols d.ctors ss (ctors_at d.sorts (sort_among d.origins (named n)))) (symbols_from d (n + 1) heads spellings)
          ∙ ap₂ (λ xs ys. xs ++ ys) (plain_names n s.0 ss at_names s.1) rest
      by false tells at_head at_names rest =
          map-append (λ (e : List ℕ × Symbol). e.0) (generic_symbols (record { 0 = n }) 0 ss) (symbols_from d (n + 1) heads spellings)
          ∙ ap₂ (λ xs ys. xs ++ ys) (names-generic (record { 0 = n }) 0 ss) rest

  -- all names
  pub names_all : names_of (all_symbols d) ≡ head_symbols d.spellings
  names_all =
      let start : (i : ℕ) → i ≡ 0 + i = λ i. omega arith in
      names_from 0 d.declared.heads d.spellings (sym c.heads.one_each) (λ i head at. ap (slice_get d.declared.heads) (sym (start i)) ∙ at) (λ i ss at. ap (slice_get d.spellings) (sym (start i)) ∙ at)
