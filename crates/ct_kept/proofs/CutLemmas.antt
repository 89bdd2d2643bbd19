-- What names only what is below a mark is well sorted over the declarations that are left.
use Rattle.std.proofs.Common.{◌≡◌, ℕ, suc, ◌+◌, ◌<◌, List, [], ◌∷◌, length, take, Some, slice_get, Contains, refl, sym, ap, subst, ◌∙◌, inl, inr, arith, length-take}
use Rattle.std.specs.List.{AllZip, flat_map}
use Rattle.std.proofs.lemmas.List.Elements.{Contains-append_cases}
use Rattle.ct_sorts.specs.declared.ids.CtorId.{CtorId}
use Rattle.ct_sorts.specs.declared.ids.SelId.{SelId}
use Rattle.ct_sorts.specs.declared.ids.SortId.{SortId}
use Rattle.ct_sorts.specs.Declarations.{Declarations, Constructor, Selector, sel_ids}
use Rattle.ct_sorts.specs.Lengths.{Lengths}
use Rattle.ct_sorts.specs.Marks.{CanCut, cut}
use Rattle.ct_sorts.specs.Structure.{HaveOwnSelectors}
use Rattle.ct_sorts.proofs.FoundedLemmas.{sel_within}
use Rattle.ct_sorts.proofs.Lists.{range-slice_get}
use Rattle.ct_terms.specs.declared.ids.TermId.{TermId}
use Rattle.ct_terms.specs.declared.term.Core.{Core}
use Rattle.ct_terms.specs.declared.term.Core.TheVariants.{Con, Sel, Test, Apply, Eq, Not, And, Or, Iff, Ite}
use Rattle.ct_terms.specs.Children.{core_head}
use Rattle.ct_terms.specs.Terms.{Terms, IsOfField, HasSort, AreSorted, AreOrdered}
use Rattle.ct_terms.specs.CoreTree.{term_at}
use Rattle.std.proofs.lemmas.Option.{same_Some, slice_get_within}
use Rattle.ct_lemmas.proofs.Contained.{Contains-none, slice_get-from_Contains, Contains-from_slice_get, Contains-first, Contains-rest}
use Rattle.ct_lemmas.proofs.Prefixes.{take-slice_get, slice_get-take, slice_get-take_below}
use Rattle.ct_kept.specs.Names.{IsHeadBelow, NamesBelow}
use Rattle.ct_kept.proofs.NamingLemmas.{head_of_names}

-- where an element of lists put together comes from
flat_source : {X Y : Type 0} (f : X → List Y) (xs : List X) (y : Y) → Contains (flat_map f xs) y → (i : ℕ) × ((x : X) × (slice_get xs i ≡ Some x) × Contains (f x) y)
flat_source f [] y h = absurd (Contains-none y h)
flat_source f (x ∷ xs) y h = elim (Contains-append_cases (f x) (flat_map f xs) y h) [
  | inl here ↦ (0, (x, refl, here))
  | inr later ↦ let found = flat_source f xs y later in (suc found.0, found.1)
]

module _ (d : Declarations) (m : Lengths) (can : CanCut d m) (own : HaveOwnSelectors d) where
  sels_long : length (take m.sels d.sels) ≡ m.sels
  sels_long = let within = can.sels_within in length-take m.sels d.sels ∙ omega (arith, within)

  whole : flat_map (λ c. c.sels) (cut d m).ctors ≡ sel_ids 0 (length (cut d m).sels)
  whole = can.whole_ctors ∙ ap (sel_ids 0) (sym sels_long)

  -- a selector of a constructor that is left is left
  sel_left : (c : CtorId) (ctor : Constructor) (s : SelId) → c.0 < m.ctors → slice_get d.ctors c.0 ≡ Some ctor → Contains ctor.sels s → s.0 < m.sels
  sel_left c ctor s below at inside =
      let place = slice_get-from_Contains ctor.sels s inside in
      let within = sel_within (cut d m) whole c.0 ctor place.0 s (take-slice_get m.ctors d.ctors c.0 ctor below at) place.1 in
      omega (arith, within, sels_long)

  -- the constructor of a selector that is left is left
  ctor_left : (s : SelId) (selector : Selector) → s.0 < m.sels → slice_get d.sels s.0 ≡ Some selector → selector.ctor.0 < m.ctors
  ctor_left s selector below at =
      let inside : Contains (sel_ids 0 m.sels) s = id_inside m.sels s below in
      let from = flat_source (λ (c : Constructor). c.sels) (take m.ctors d.ctors) s (subst (λ (ids : List SelId). Contains ids s) (sym can.whole_ctors) inside) in
      let place = slice_get-from_Contains from.1.0.sels s from.1.2 in
      let owner = own from.0 place.0 from.1.0 s (slice_get-take m.ctors d.ctors from.0 from.1.0 from.1.1) place.1 in
      let low = slice_get-take_below m.ctors d.ctors from.0 from.1.0 from.1.1 in
      let same : owner.0 ≡ selector = same_Some owner.0 selector (sym owner.1 ∙ at) in
      omega (arith, low, owner.2, ap (λ (x : Selector). x.ctor.0) same)
    where
      id_inside : (count : ℕ) (s : SelId) → s.0 < count → Contains (sel_ids 0 count) s
      id_inside count s low =
          let zero_more : 0 + s.0 ≡ s.0 = omega arith in
          Contains-from_slice_get (sel_ids 0 count) s.0 s
          (subst (λ (k : ℕ). slice_get (sel_ids 0 count) s.0 ≡ Some (record { 0 = k })) zero_more (range-slice_get (λ n. record { 0 = n }) 0 count s.0 low))

  module _ (table : Terms) where
    fields_left : (args : List TermId) (sels : List SelId) → ((s : SelId) → Contains sels s → s.0 < m.sels) → AllZip (IsOfField d table) args sels → AllZip (IsOfField (cut d m) table) args sels
    fields_left [] [] low h = tt
    fields_left [] (s ∷ sels) low h = absurd h
    fields_left (t ∷ args) [] low h = absurd h
    fields_left (t ∷ args) (s ∷ sels) low h = (
      record {
        selector = h.0.selector;
        declared = take-slice_get m.sels d.sels s.0 h.0.selector (low s (Contains-first s sels)) h.0.declared;
        sorted = h.0.sorted;
      },
      fields_left args sels (λ r inside. low r (Contains-rest s sels r inside)) h.1,
    )

    -- one line a kind of term
    pub sort_left : (core : Core) (sort : SortId) → IsHeadBelow m (core_head core) → HasSort d table core sort → HasSort (cut d m) table core sort
    sort_left (Con c args) sort low h = record {
      ctor = h.ctor;
      declared = take-slice_get m.ctors d.ctors c.0 h.ctor low h.declared;
      fields = fields_left args h.ctor.sels (λ s inside. sel_left c h.ctor s low h.declared inside) h.fields;
      result = h.result;
    }
    sort_left (Sel s t) sort low h = record {
      selector = h.selector;
      ctor = h.ctor;
      declared = take-slice_get m.sels d.sels s.0 h.selector low h.declared;
      constructor = take-slice_get m.ctors d.ctors h.selector.ctor.0 h.ctor (ctor_left s h.selector low h.declared) h.constructor;
      sorted = h.sorted;
      result = h.result;
    }
    sort_left (Test c t) sort low h = record { ctor = h.ctor; declared = take-slice_get m.ctors d.ctors c.0 h.ctor low h.declared; sorted = h.sorted; result = h.result }
    sort_left (Apply f args) sort low h = record {
      function = h.function;
      declared = take-slice_get m.functions d.functions f.0 h.function low h.declared;
      sorted = h.sorted;
      result = h.result;
    }
    sort_left (Eq a b) sort low h = record { side = h.side; left = h.left; right = h.right; other = h.other; result = h.result }
    sort_left (Not t) sort low h = h
    sort_left (And args) sort low h = record { some = h.some; booleans = h.booleans; result = h.result }
    sort_left (Or args) sort low h = record { some = h.some; booleans = h.booleans; result = h.result }
    sort_left (Iff a b) sort low h = h
    sort_left (Ite c a b) sort low h = h

    -- a whole table
    pub table_left : AreOrdered table → ((t : TermId) → t.0 < length table → NamesBelow m (term_at table t)) → AreSorted d table → AreSorted (cut d m) table
    table_left ordered named sorted t core sort at =
        let id : TermId = record { 0 = t } in
        sort_left core sort (head_of_names m table id core ordered (sort, at) (named id (slice_get_within table t (core, sort) at))) (sorted t core sort at)
