-- Each name of a constructor or a selector of a sort without parameters or of a generic stands for what is kept under it.
use Rattle.std.proofs.Common.{◌≡◌, ℕ, zero, suc, ◌+◌, ◌<◌, ◌==◌, Bool, true, false, if◌then◌else◌, List, [], ◌∷◌, ◌++◌, length, map, slice_get, Option, Some, option_map, unwrap_or, refl, sym, ◌∙◌, ap, subst, ⊎_elim, arith}
use Rattle.std.proofs.lemmas.Bool.Decides.{Decides-eqb}
use Rattle.std.proofs.lemmas.Bool.{false≢true}
use Rattle.std.proofs.lemmas.Option.{none-some, same_Some}
use Rattle.ct_lemmas.proofs.Lists.{slice_get-append_cases, slice_get-append_left, slice_get-map_at, slice_get-there}
use Rattle.ct_generics.specs.Expression.{Expression, named}
use Rattle.ct_generics.specs.Declarations.{Head}
use Rattle.ct_sorts.specs.declared.ids.SortId.{SortId}
use Rattle.ct_sorts.specs.declared.ids.CtorId.{CtorId}
use Rattle.ct_sorts.specs.declared.ids.SelId.{SelId}
use Rattle.ct_sorts.specs.declared.ids.GenId.{GenId}
use Rattle.ct_sorts.specs.declared.ids.Symbol.{Symbol}
use Rattle.ct_sorts.specs.declared.ids.Symbol.TheVariants.{Ctor, Sel, GenCtor, GenSel}
use Rattle.ct_sorts.specs.declared.spelling.Spelling.{Spelling}
use Rattle.ct_sorts.specs.declared.tables.Tables.{Tables}
use Rattle.ct_sorts.specs.Consistent.{IsConsistent}
use Rattle.ct_sorts.specs.Declarations.{Declarations, Sort, Constructor, Selector, Function, declared_names}
use Rattle.ct_sorts.specs.Lookup.{ResolvesTo, IsGeneric, IsGenericCtor, IsPlainCtor, NamesSort}
use Rattle.ct_sorts.specs.Same.{sort_among}
use Rattle.ct_sorts.specs.Symbols.{ctors_at, sels_at, sel_symbols, plain_symbols, generic_sel_symbols, generic_symbols, symbols_of_head, symbols_from, all_symbols}
use Rattle.ct_sorts.specs.Tabled.{of_tables}
use Rattle.ct_sorts.proofs.PlaceLemmas.{IsPlaced}
use Rattle.ct_sorts.proofs.SameLemmas.{sort_at, sort_within}
use Rattle.ct_sorts.proofs.StructureLemmas.{own_constructors, own_selectors, one_place}
use Rattle.ct_sorts.proofs.SymbolLemmas.{IsOwnCtor, IsOwnSel, ctor_place, sel_place}

module _ (d : Declarations) where
  -- each of these names stands for its symbol
  abbrev pub Each : List (List ℕ × Symbol) → Type 0
  Each xs = (n : ℕ) (e : List ℕ × Symbol) → slice_get xs n ≡ Some e → ResolvesTo d e.0 (Some e.1)

  each_none : Each []
  each_none n e at = absurd (none-some e at)

  each_cons : (x : List ℕ × Symbol) (xs : List (List ℕ × Symbol)) → ResolvesTo d x.0 (Some x.1) → Each xs → Each (x ∷ xs)
  each_cons x xs first rest zero e at = subst (λ (y : List ℕ × Symbol). ResolvesTo d y.0 (Some y.1)) (same_Some x e at) first
  each_cons x xs first rest (suc n) e at = rest n e at

  each_append : (xs ys : List (List ℕ × Symbol)) → Each xs → Each ys → Each (xs ++ ys)
  each_append xs ys first second n e at = ⊎_elim (λ h. first n e h) (λ h. second h.0 e h.2) (slice_get-append_cases xs ys n e at)

  -- ---- sorts without parameters

  sels_each : (names : List (List ℕ)) (sels : List SelId) → ((m : ℕ) (name : List ℕ) (k : SelId) → slice_get names m ≡ Some name → slice_get sels m ≡ Some k → ResolvesTo d name (Some (Sel k))) → Each (sel_symbols names sels)
  sels_each [] sels own = each_none
  sels_each (name ∷ names) [] own = each_none
  sels_each (name ∷ names) (k ∷ sels) own = each_cons (name, Sel k) (sel_symbols names sels) (own 0 name k refl refl) (sels_each names sels (λ m n i at at_k. own (suc m) n i at at_k))

  -- the constructor and its selectors have these names
  abbrev IsNamed : Spelling → CtorId → Type 0
  IsNamed s id = ResolvesTo d s.name (Some (Ctor id)) × ((m : ℕ) (name : List ℕ) (k : SelId) → slice_get s.fields m ≡ Some name → slice_get (sels_at d.ctors id) m ≡ Some k → ResolvesTo d name (Some (Sel k)))

  ctors_each : (spellings : List Spelling) (ids : List CtorId) → ((j : ℕ) (s : Spelling) (id : CtorId) → slice_get spellings j ≡ Some s → slice_get ids j ≡ Some id → IsNamed s id) → Each (plain_symbols d.ctors spellings ids)
  ctors_each [] ids own = each_none
  ctors_each (s ∷ spellings) [] own = each_none
  ctors_each (s ∷ spellings) (id ∷ ids) own =
      let first = own 0 s id refl refl in
      each_cons (s.name, Ctor id) (sel_symbols s.fields (sels_at d.ctors id) ++ plain_symbols d.ctors spellings ids) first.0
      (each_append (sel_symbols s.fields (sels_at d.ctors id)) (plain_symbols d.ctors spellings ids) (sels_each s.fields (sels_at d.ctors id) first.1) (ctors_each spellings ids (λ j t i at at_i. own (suc j) t i at at_i)))

  -- ---- generics

  gen_sels_each : (g : GenId) (i : ℕ) (ctor : Spelling) → IsGenericCtor d g i ctor → (k : ℕ) (names : List (List ℕ)) → ((m : ℕ) (name : List ℕ) → slice_get names m ≡ Some name → slice_get ctor.fields (k + m) ≡ Some name) → Each (generic_sel_symbols g i k names)
  gen_sels_each g i ctor is k [] at = each_none
  gen_sels_each g i ctor is k (name ∷ names) at =
      let first : k + 0 ≡ k = omega arith in
      let next : (m : ℕ) → k + suc m ≡ k + 1 + m = λ m. omega arith in
      each_cons (name, GenSel g i k) (generic_sel_symbols g i (k + 1) names) (ctor, is, subst (λ n. slice_get ctor.fields n ≡ Some name) first (at 0 name refl)) (gen_sels_each g i ctor is (k + 1) names (λ m n at_m. subst (λ l. slice_get ctor.fields l ≡ Some n) (next m) (at (suc m) n at_m)))

  gens_each : (g : GenId) → IsGeneric d g → (all : List Spelling) → slice_get d.spellings g.0 ≡ Some all → (i : ℕ) (rest : List Spelling) → ((m : ℕ) (s : Spelling) → slice_get rest m ≡ Some s → slice_get all (i + m) ≡ Some s) → Each (generic_symbols g i rest)
  gens_each g generic all at_all i [] at = each_none
  gens_each g generic all at_all i (s ∷ rest) at =
      let first : i + 0 ≡ i = omega arith in
      let next : (m : ℕ) → i + suc m ≡ i + 1 + m = λ m. omega arith in
      let is : IsGenericCtor d g i s = (generic, (all, at_all, subst (λ n. slice_get all n ≡ Some s) first (at 0 s refl))) in
      let from_none : (m : ℕ) → m ≡ 0 + m = λ m. omega arith in
      each_cons (s.name, GenCtor g i) (generic_sel_symbols g i 0 s.fields ++ generic_symbols g (i + 1) rest) (s, is, refl)
      (each_append (generic_sel_symbols g i 0 s.fields) (generic_symbols g (i + 1) rest) (gen_sels_each g i s is 0 s.fields (λ m n at_m. subst (λ l. slice_get s.fields l ≡ Some n) (from_none m) at_m)) (gens_each g generic all at_all (i + 1) rest (λ m t at_m. subst (λ l. slice_get all l ≡ Some t) (next m) (at (suc m) t at_m))))

  module _ (c : IsConsistent d) where
    same_named : (g h : ℕ) → named g ≡ named h → g ≡ h
    same_named g h e = cc

    -- a constructor of a sort that is the head h has the name that stands there
    ctor_named : (h i s : ℕ) (sort : Sort) (id : CtorId) → slice_get d.origins s ≡ Some (named h) → slice_get d.sorts s ≡ Some sort → slice_get sort.ctors i ≡ Some id → (ctor : Constructor) × (slice_get d.ctors id.0 ≡ Some ctor) × IsPlainCtor d id × IsPlaced d h i 0 ctor.name
    ctor_named h i s sort id origin sort_at at =
        let own = own_constructors d c s i sort id sort_at at in
        let plain : IsPlainCtor d id = (own.0, own.1, (h, ap (slice_get d.origins) own.2 ∙ origin)) in
        let place = ctor_place d c id own.0.name (slice_get-map_at (λ (x : Constructor). x.name) d.ctors id.0 own.0 own.1) plain in
        let same = one_place d c s place.2.s i place.1 sort place.2.sort id sort_at at place.2.sort_at place.2.at in
        let head : place.0 ≡ h = same_named place.0 h (same_Some (named place.0) (named h) (sym place.2.origin ∙ ap (slice_get d.origins) (sym same.0) ∙ origin)) in
        (own.0, own.1, plain, subst (λ n. IsPlaced d h n 0 own.0.name) (sym same.1) (subst (λ n. IsPlaced d n place.1 0 own.0.name) head place.2.placed))

    -- and so has a selector of it
    sel_named : (h i k : ℕ) (id : CtorId) (ctor : Constructor) (sel_id : SelId) → slice_get d.ctors id.0 ≡ Some ctor → IsPlainCtor d id → IsPlaced d h i 0 ctor.name → (s : ℕ) (sort : Sort) → slice_get d.origins s ≡ Some (named h) → slice_get d.sorts s ≡ Some sort → slice_get sort.ctors i ≡ Some id → slice_get ctor.sels k ≡ Some sel_id → (sel : Selector) × (slice_get d.sels sel_id.0 ≡ Some sel) × (sel.ctor.0 ≡ id.0) × IsPlaced d h i (suc k) sel.name
    sel_named h i k id ctor sel_id there plain placed s sort origin sort_at at at_sel =
        let own = own_selectors d c id.0 k ctor sel_id there at_sel in
        let same_ctor : own.0.ctor ≡ id = λ j. record { 0 = own.2 j } in
        let place = sel_place d c sel_id own.0.name (slice_get-map_at (λ (x : Selector). x.name) d.sels sel_id.0 own.0 own.1) (own.0, own.1, subst (IsPlainCtor d) (sym same_ctor) plain) in
        let other = own_selectors d c place.3.ctor_id.0 place.2 place.3.ctor sel_id place.3.there place.3.at in
        let same_sel : other.0 ≡ own.0 = same_Some other.0 own.0 (sym other.1 ∙ own.1) in
        let number : place.2 ≡ k = sym other.3 ∙ ap (λ (x : Selector). x.place) same_sel ∙ own.3 in
        let same_id : place.3.ctor_id ≡ id = λ j. record { 0 = (sym other.2 ∙ ap (λ (x : Selector). x.ctor.0) same_sel ∙ own.2) j } in
        let stands = place.3.own in
        let same = one_place d c s stands.s i place.1 sort stands.sort id sort_at at stands.sort_at (stands.at ∙ ap (λ (x : CtorId). Some x) same_id) in
        let head : place.0 ≡ h = same_named place.0 h (same_Some (named place.0) (named h) (sym stands.origin ∙ ap (slice_get d.origins) (sym same.0) ∙ origin)) in
        (own.0, own.1, own.2, subst (λ n. IsPlaced d h i (suc n) own.0.name) number (subst (λ n. IsPlaced d h n (suc place.2) own.0.name) (sym same.1) (subst (λ n. IsPlaced d n place.1 (suc place.2) own.0.name) head place.3.placed)))

    named_so : (h i : ℕ) (ctors : List Spelling) (one : Spelling) (k : ℕ) (name wanted : List ℕ) → slice_get d.spellings h ≡ Some ctors → slice_get ctors i ≡ Some one → IsPlaced d h i k name → slice_get (one.name ∷ one.fields) k ≡ Some wanted → name ≡ wanted
    named_so h i ctors one k name wanted at at_one placed at_k =
        let same_ctors : placed.ctors ≡ ctors = same_Some placed.ctors ctors (sym placed.at_head ∙ at) in
        let same_one : placed.ctor ≡ one = same_Some placed.ctor one (sym placed.at_ctor ∙ ap (λ (cs : List Spelling). slice_get cs i) same_ctors ∙ at_one) in
        same_Some name wanted (sym placed.at_name ∙ ap (λ (x : Spelling). slice_get (x.name ∷ x.fields) k) same_one ∙ at_k)

    plain_each : (h : ℕ) (head : Head) (ctors : List Spelling) → slice_get d.declared.heads h ≡ Some head → head.params ≡ 0 → slice_get d.spellings h ≡ Some ctors → Each (plain_symbols d.ctors ctors (ctors_at d.sorts (sort_among d.origins (named h))))
    plain_each h head ctors at none at_ctors =
        let among = c.plain h head at none in
        let s = (sort_among d.origins (named h)).0 in
        let origin = sort_at d.origins (named h) among in
        let sort = slice_get-there d.sorts s (omega (arith, sort_within d.origins (named h) among, c.origins.one_each)) in
        let ids : ctors_at d.sorts (sort_among d.origins (named h)) ≡ sort.0.ctors = ap (λ (o : Option Sort). unwrap_or (option_map (λ (x : Sort). x.ctors) o) []) sort.1 in
        ctors_each ctors (ctors_at d.sorts (sort_among d.origins (named h))) (λ j one id at_one at_id.
        let listed : slice_get sort.0.ctors j ≡ Some id = subst (λ (xs : List CtorId). slice_get xs j ≡ Some id) ids at_id in
        let own = ctor_named h j s sort.0 id origin sort.1 listed in
        let name : own.0.name ≡ one.name = named_so h j ctors one 0 own.0.name one.name at_ctors at_one own.3 refl in (
          (slice_get-map_at (λ (x : Constructor). x.name) d.ctors id.0 own.0 own.1 ∙ ap Some name, own.2),
          λ m field k at_field at_k.
              let sels : sels_at d.ctors id ≡ own.0.sels = ap (λ (o : Option Constructor). unwrap_or (option_map (λ (x : Constructor). x.sels) o) []) own.1 in
              let sel = sel_named h j m id own.0 k own.1 own.2 own.3 s sort.0 origin sort.1 listed (subst (λ (xs : List SelId). slice_get xs m ≡ Some k) sels at_k) in
              let same_ctor : sel.0.ctor ≡ id = λ n. record { 0 = sel.2 n } in
              let field_name : sel.0.name ≡ field = named_so h j ctors one (suc m) sel.0.name field at_ctors at_one sel.3 at_field in
              (slice_get-map_at (λ (x : Selector). x.name) d.sels k.0 sel.0 sel.1 ∙ ap Some field_name, (sel.0, sel.1, subst (IsPlainCtor d) (sym same_ctor) own.2)),
        ))

    -- ---- all of them

    head_each : (h : ℕ) (head : Head) (ctors : List Spelling) → slice_get d.declared.heads h ≡ Some head → slice_get d.spellings h ≡ Some ctors → Each (symbols_of_head d h head ctors)
    head_each h head ctors at at_ctors = by (head.params == 0) (Decides-eqb head.params 0).0 (Decides-eqb head.params 0).1
      where
        from_none : (m : ℕ) → m ≡ 0 + m
        from_none m = omega arith

        by : (b : Bool) → (b ≡ true → head.params ≡ 0) → (head.params ≡ 0 → b ≡ true) → Each (if b then plain_symbols d.ctors ctors (ctors_at d.sorts (sort_among d.origins (named h))) else generic_symbols (record { 0 = h }) 0 ctors)
        by true tells back = plain_each h head ctors at (tells refl) at_ctors
        by false tells back = gens_each (record { 0 = h }) (head, (at, some head.params back)) ctors at_ctors 0 ctors (λ m s at_m. subst (λ l. slice_get ctors l ≡ Some s) (from_none m) at_m)
          where
            some : (n : ℕ) → (n ≡ 0 → false ≡ true) → 0 < n
            some zero never = absurd (false≢true (never refl))
            some (suc n) never = omega arith

    from_each : (h : ℕ) (heads : List Head) (spellings : List (List Spelling)) → ((i : ℕ) (head : Head) → slice_get heads i ≡ Some head → slice_get d.declared.heads (h + i) ≡ Some head) → ((i : ℕ) (ctors : List Spelling) → slice_get spellings i ≡ Some ctors → slice_get d.spellings (h + i) ≡ Some ctors) → Each (symbols_from d h heads spellings)
    from_each h [] spellings at at_ctors = each_none
    from_each h (head ∷ heads) [] at at_ctors = each_none
    from_each h (head ∷ heads) (ctors ∷ spellings) at at_ctors =
        let first : h + 0 ≡ h = omega arith in
        let next : (i : ℕ) → h + suc i ≡ h + 1 + i = λ i. omega arith in
        each_append (symbols_of_head d h head ctors) (symbols_from d (h + 1) heads spellings)
        (head_each h head ctors (subst (λ n. slice_get d.declared.heads n ≡ Some head) first (at 0 head refl)) (subst (λ n. slice_get d.spellings n ≡ Some ctors) first (at_ctors 0 ctors refl)))
        (from_each (h + 1) heads spellings (λ i x at_i. subst (λ n. slice_get d.declared.heads n ≡ Some x) (next i) (at (suc i) x at_i)) (λ i x at_i. subst (λ n. slice_get d.spellings n ≡ Some x) (next i) (at_ctors (suc i) x at_i)))

    pub all_resolve : Each (all_symbols d)
    all_resolve =
        let from_none : (i : ℕ) → i ≡ 0 + i = λ i. omega arith in
        from_each 0 d.declared.heads d.spellings (λ i x at. subst (λ n. slice_get d.declared.heads n ≡ Some x) (from_none i) at) (λ i x at. subst (λ n. slice_get d.spellings n ≡ Some x) (from_none i) at)

    -- ---- sorts

    -- a name is that of one sort or generic
    pub one_head : (g h : ℕ) (head other : Head) → slice_get d.declared.heads g ≡ Some head → slice_get d.declared.heads h ≡ Some other → head.name ≡ other.name → g ≡ h
    one_head g h head other at at_other same =
        c.names_distinct g h other.name
        (slice_get-append_left (map (λ (x : Head). x.name) d.declared.heads) _ g other.name (slice_get-map_at (λ (x : Head). x.name) d.declared.heads g head at ∙ ap Some same))
        (slice_get-append_left (map (λ (x : Head). x.name) d.declared.heads) _ h other.name (slice_get-map_at (λ (x : Head). x.name) d.declared.heads h other at_other))

-- functions and definitions do not count among them
same_from : (t : Tables) (fs ds : List Function) (h : ℕ) (heads : List Head) (spellings : List (List Spelling)) → symbols_from (of_tables t fs ds) h heads spellings ≡ symbols_from (of_tables t [] []) h heads spellings
same_from t fs ds h [] spellings = refl
same_from t fs ds h (head ∷ heads) [] = refl
same_from t fs ds h (head ∷ heads) (ctors ∷ spellings) = ap (λ (rest : List (List ℕ × Symbol)). symbols_of_head (of_tables t [] []) h head ctors ++ rest) (same_from t fs ds (h + 1) heads spellings)

pub same_symbols : (t : Tables) (fs ds : List Function) → all_symbols (of_tables t fs ds) ≡ all_symbols (of_tables t [] [])
same_symbols t fs ds = same_from t fs ds 0 (of_tables t [] []).declared.heads t.spellings
