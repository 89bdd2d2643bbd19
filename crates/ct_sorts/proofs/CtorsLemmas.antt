-- The constructors of a sort, pushed one after the other.
use Rattle.std.proofs.Common.{◌≡◌, ℕ, zero, suc, ◌+◌, ◌<◌, ◌≤◌, List, [], ◌∷◌, ◌++◌, length, map, take, get_or, sum, slice_get, Option, Some, refl, sym, ◌∙◌, ap, ap₂, subst, subst₂, arith, length-append}
use Rattle.std.specs.List.{AllZip, flat_map, range_with_len, sum_by}
use Rattle.std.specs.Option.{option_and_then}
use Rattle.std.proofs.lemmas.List.{take_all, append_assoc, append-nil, length-map, map-append, take_more}
use Rattle.std.proofs.lemmas.List.Sums.{sum-map, sum_by-append}
use Rattle.std.proofs.lemmas.List.FromFn.{map-range_with_len_more}
use Rattle.std.proofs.lemmas.Option.{none-some, same_Some}
use Rattle.ct_generics.specs.declared.nodes.ExprId.{ExprId}
use Rattle.ct_generics.specs.Denoted.{sorts_of}
use Rattle.ct_generics.specs.Expression.{Expression}
use Rattle.ct_sorts.specs.declared.entries.CtorEntry.{CtorEntry}
use Rattle.ct_sorts.specs.declared.entries.SelEntry.{SelEntry}
use Rattle.ct_sorts.specs.declared.ids.SortId.{SortId}
use Rattle.ct_sorts.specs.declared.spelling.Home.{Home}
use Rattle.ct_sorts.specs.declared.spelling.Spelling.{Spelling}
use Rattle.ct_sorts.specs.declared.tables.Tables.{Tables}
use Rattle.ct_sorts.specs.Declarations.{Constructor, Selector, sel_ids}
use Rattle.ct_sorts.specs.Grown.{Begins}
use Rattle.ct_sorts.specs.Growing.{AreNumbered}
use Rattle.ct_sorts.specs.Heads.{NamesEach}
use Rattle.ct_sorts.specs.Made.{ctors_of_sort, new_sels, sels_of_ctor}
use Rattle.ct_sorts.specs.Same.{sort_among}
use Rattle.ct_sorts.specs.Shapes.{CtorShape, all_fields, ctor_shapes, field_shapes}
use Rattle.ct_sorts.specs.Stored.{ctor_of, sel_of, spelling_at}
use Rattle.ct_sorts.specs.Tabled.{AreAtHome}
use Rattle.ct_sorts.proofs.CutLemmas.{AllZip-source}
use Rattle.ct_sorts.proofs.MadeLemmas.{length-ctors_of_sort, length-new_sels, new_sels-append}
use Rattle.ct_sorts.proofs.OwnSortsLemmas.{sum-more}
use Rattle.ct_sorts.proofs.PieceLemmas.{Begins-self, Begins-trans}
use Rattle.ct_sorts.proofs.PushSortsLemmas.{take_next}
use Rattle.ct_sorts.proofs.ShapeLemmas.{AllZip-length}

-- the constructors of one sort, in two parts
ctors_of_sort-append : (s k : ℕ) (xs ys : List CtorShape) → ctors_of_sort s k (xs ++ ys) ≡ ctors_of_sort s k xs ++ ctors_of_sort s (k + length (all_fields xs)) ys
ctors_of_sort-append s k [] ys = let e : k + 0 ≡ k = omega arith in rw e refl
ctors_of_sort-append s k (x ∷ xs) ys =
    let e : k + length (all_fields (x ∷ xs)) ≡ k + length x.fields + length (all_fields xs) = omega (arith, length-append x.fields (all_fields xs)) in
    rw (e, ctors_of_sort-append s (k + length x.fields) xs ys) refl

ctor_shapes-push : (ss : List Spelling) (rows : List (List Expression)) (s : Spelling) (row : List Expression) → length ss ≡ length rows → ctor_shapes (ss ++ s ∷ []) (rows ++ row ∷ []) ≡ ctor_shapes ss rows ++ record { name = s.name; fields = field_shapes s.fields row } ∷ []
ctor_shapes-push [] [] s row same = refl
ctor_shapes-push [] (r ∷ rows) s row same = absurd (omega (arith, same))
ctor_shapes-push (x ∷ ss) [] s row same = absurd (omega (arith, same))
ctor_shapes-push (x ∷ ss) (r ∷ rows) s row same = ap (λ (cs : List CtorShape). record { name = x.name; fields = field_shapes x.fields r } ∷ cs) (ctor_shapes-push ss rows s row (omega (arith, same)))

same_take : {X Y : Type 0} (n : ℕ) (xs : List X) (ys : List Y) → length xs ≡ length ys → length (take n xs) ≡ length (take n ys)
same_take zero xs ys same = refl
same_take (suc n) [] [] same = refl
same_take (suc n) [] (y ∷ ys) same = absurd (omega (arith, same))
same_take (suc n) (x ∷ xs) [] same = absurd (omega (arith, same))
same_take (suc n) (x ∷ xs) (y ∷ ys) same = ap suc (same_take n xs ys (omega (arith, same)))

-- the constructors of the first so many rows were pushed
pub record ArePushedCtors (old now : Tables) (sort : SortId) (head : ℕ) (rows : List (List ExprId)) (i : ℕ) : Type 0 where
  pub others : now ≡ record old { ctors = now.ctors; sels = now.sels }
  pub ctors_begin : Begins old.ctors now.ctors
  pub sels_begin : Begins old.sels now.sels
  pub ctors_long : length now.ctors ≡ length old.ctors + i
  pub sels_long : length now.sels ≡ length old.sels + sum (map length (take i rows))
  pub homes : map (λ (e : CtorEntry). e.home) now.ctors ≡ map (λ (e : CtorEntry). e.home) old.ctors ++ map (λ (k : ℕ). record { head = head; ctor = k }) (range_with_len 0 i)
  pub sel_homes : AreAtHome old.ctors old.sels → AreAtHome now.ctors now.sels
  pub made : (spellings : List Spelling) (fields : List (List Expression)) → slice_get old.spellings head ≡ Some spellings → AllZip (λ row es. AreNumbered old.table.sorts row (sorts_of old.table) es) rows fields → AllZip NamesEach spellings fields
      → (map (ctor_of old.spellings) now.ctors ≡ map (ctor_of old.spellings) old.ctors ++ ctors_of_sort sort.0 (length old.sels) (ctor_shapes (take i spellings) (take i fields)))
      × (map (sel_of old.spellings) now.sels ≡ map (sel_of old.spellings) old.sels ++ new_sels (sort_among (sorts_of old.table)) (length old.ctors) (ctor_shapes (take i spellings) (take i fields)))

pub ctors_none : (old : Tables) (sort : SortId) (head : ℕ) (rows : List (List ExprId)) → ArePushedCtors old old sort head rows 0
ctors_none old sort head rows = record {
  others = refl;
  ctors_begin = Begins-self old.ctors;
  sels_begin = Begins-self old.sels;
  ctors_long = omega arith;
  sels_long = omega arith;
  homes = sym (append-nil (map (λ (e : CtorEntry). e.home) old.ctors));
  sel_homes = λ h. h;
  made = λ spellings fields at numbered named. (sym (append-nil (map (ctor_of old.spellings) old.ctors)), sym (append-nil (map (sel_of old.spellings) old.sels)));
}

sum_next : (rows : List (List ExprId)) (i : ℕ) (row : List ExprId) → slice_get rows i ≡ Some row → sum (map length (take (i + 1) rows)) ≡ sum (map length (take i rows)) + length row
sum_next rows i row at =
    let one : sum_by length (row ∷ []) ≡ length row = omega arith in
    ap (λ (xs : List (List ExprId)). sum (map length xs)) (sym (take_next i rows row at))
    ∙ sum-map length (take i rows ++ row ∷ [])
    ∙ sum_by-append length (take i rows) (row ∷ [])
    ∙ ap₂ (λ (a b : ℕ). a + b) (sym (sum-map length (take i rows))) one

pub ctors_more : (old now new : Tables) (sort : SortId) (head : ℕ) (rows : List (List ExprId)) (i : ℕ) (row : List ExprId) → ArePushedCtors old now sort head rows i → slice_get rows i ≡ Some row
    → new ≡ record now { ctors = new.ctors; sels = new.sels } → Begins now.ctors new.ctors → Begins now.sels new.sels
    → length new.ctors ≡ length now.ctors + 1 → length new.sels ≡ length now.sels + length row
    → map (λ (e : CtorEntry). e.home) new.ctors ≡ map (λ (e : CtorEntry). e.home) now.ctors ++ record { head = head; ctor = i } ∷ []
    → (AreAtHome now.ctors now.sels → AreAtHome new.ctors new.sels)
    → ((names : Spelling) (es : List Expression) → spelling_at old.spellings (record { head = head; ctor = i }) ≡ Some names → AreNumbered old.table.sorts row (sorts_of old.table) es → NamesEach names es
    → (map (ctor_of old.spellings) new.ctors ≡ map (ctor_of old.spellings) now.ctors ++ ctors_of_sort sort.0 (length now.sels) (record { name = names.name; fields = field_shapes names.fields es } ∷ []))
    × (map (sel_of old.spellings) new.sels ≡ map (sel_of old.spellings) now.sels ++ sels_of_ctor (sort_among (sorts_of old.table)) (length now.ctors) 0 (field_shapes names.fields es)))
    → ArePushedCtors old new sort head rows (i + 1)
ctors_more old now new sort head rows i row p at others ctors sels ctors_long sels_long home sel_homes pushed = record {
  others = others ∙ ap (λ (x : Tables). record x { ctors = new.ctors; sels = new.sels }) p.others;
  ctors_begin = Begins-trans old.ctors now.ctors new.ctors p.ctors_begin ctors;
  sels_begin = Begins-trans old.sels now.sels new.sels p.sels_begin sels;
  ctors_long = omega (arith, p.ctors_long, ctors_long);
  sels_long = omega (arith, p.sels_long, sels_long, sum_next rows i row at);
  homes =
      home
      ∙ ap (λ xs. xs ++ record { head = head; ctor = i } ∷ []) p.homes
      ∙ append_assoc (map (λ (e : CtorEntry). e.home) old.ctors) (map (λ (k : ℕ). record { head = head; ctor = k }) (range_with_len 0 i)) (record { head = head; ctor = i } ∷ [])
      ∙ ap (λ (xs : List Home). map (λ (e : CtorEntry). e.home) old.ctors ++ xs) (sym (map-range_with_len_more (λ (k : ℕ). record { head = head; ctor = k }) 0 i i (omega arith)));
  sel_homes = λ h. sel_homes (p.sel_homes h);
  made = λ spellings fields at_head numbered named.
      let before = p.made spellings fields at_head numbered named in
      let es = AllZip-source (λ (r : List ExprId) (f : List Expression). AreNumbered old.table.sorts r (sorts_of old.table) f) rows fields i row numbered at in
      let names = name_at spellings fields i es.0 named es.1 in
      let one = pushed names.0 es.0 (ap (option_and_then (λ (cs : List Spelling). slice_get cs i)) at_head ∙ names.1) es.2 names.2 in
      let shape : CtorShape = record { name = names.0.name; fields = field_shapes names.0.fields es.0 } in
      let shapes = ctor_shapes (take i spellings) (take i fields) in
      let same = AllZip-length spellings fields named in
      let next : ctor_shapes (take (i + 1) spellings) (take (i + 1) fields) ≡ shapes ++ shape ∷ [] =
      ap₂ ctor_shapes (sym (take_next i spellings names.0 names.1)) (sym (take_next i fields es.0 es.1)) ∙ ctor_shapes-push (take i spellings) (take i fields) names.0 es.0 (same_take i spellings fields same) in
      let sels_now : length now.sels ≡ length old.sels + length (all_fields shapes) =
      omega (arith, ap length before.1, length-map now.sels (sel_of old.spellings), length-map old.sels (sel_of old.spellings), length-append (map (sel_of old.spellings) old.sels) (new_sels (sort_among (sorts_of old.table)) (length old.ctors) shapes), length-new_sels (sort_among (sorts_of old.table)) (length old.ctors) shapes) in
      let ctors_now : length now.ctors ≡ length old.ctors + length shapes =
      omega (arith, ap length before.0, length-map now.ctors (ctor_of old.spellings), length-map old.ctors (ctor_of old.spellings), length-append (map (ctor_of old.spellings) old.ctors) (ctors_of_sort sort.0 (length old.sels) shapes), length-ctors_of_sort sort.0 (length old.sels) shapes) in (
        one.0
            ∙ ap₂ (λ (xs : List Constructor) (n : ℕ). xs ++ ctors_of_sort sort.0 n (shape ∷ [])) before.0 sels_now
            ∙ append_assoc (map (ctor_of old.spellings) old.ctors) (ctors_of_sort sort.0 (length old.sels) shapes) (ctors_of_sort sort.0 (length old.sels + length (all_fields shapes)) (shape ∷ []))
            ∙ ap (λ (xs : List Constructor). map (ctor_of old.spellings) old.ctors ++ xs) (sym (ctors_of_sort-append sort.0 (length old.sels) shapes (shape ∷ [])) ∙ ap (ctors_of_sort sort.0 (length old.sels)) (sym next)),
        one.1
            ∙ ap₂ (λ (xs : List Selector) (n : ℕ). xs ++ sels_of_ctor (sort_among (sorts_of old.table)) n 0 shape.fields) before.1 ctors_now
            ∙ append_assoc (map (sel_of old.spellings) old.sels) (new_sels (sort_among (sorts_of old.table)) (length old.ctors) shapes) (sels_of_ctor (sort_among (sorts_of old.table)) (length old.ctors + length shapes) 0 shape.fields)
            ∙ ap (λ (xs : List Selector). map (sel_of old.spellings) old.sels ++ (new_sels (sort_among (sorts_of old.table)) (length old.ctors) shapes ++ xs)) (sym (append-nil (sels_of_ctor (sort_among (sorts_of old.table)) (length old.ctors + length shapes) 0 shape.fields)))
            ∙ ap (λ (xs : List Selector). map (sel_of old.spellings) old.sels ++ xs) (sym (new_sels-append (sort_among (sorts_of old.table)) (length old.ctors) shapes (shape ∷ [])) ∙ ap (new_sels (sort_among (sorts_of old.table)) (length old.ctors)) (sym next)),
      );
}
  where
    name_at : (spellings : List Spelling) (fields : List (List Expression)) (k : ℕ) (es : List Expression) → AllZip NamesEach spellings fields → slice_get fields k ≡ Some es → (names : Spelling) × (slice_get spellings k ≡ Some names) × NamesEach names es
    name_at [] [] k es all at_k = absurd (none-some _ at_k)
    name_at [] (f ∷ fields) k es all at_k = absurd all
    name_at (s ∷ spellings) [] k es all at_k = absurd all
    name_at (s ∷ spellings) (f ∷ fields) zero es all at_k = (s, refl, subst (NamesEach s) (same_Some _ _ at_k) all.0)
    name_at (s ∷ spellings) (f ∷ fields) (suc k) es all at_k = name_at spellings fields k es all.1 at_k

-- the fields of the first rows and of one more are among all
pub sum_so_far : (rows : List (List ExprId)) (i : ℕ) (row : List ExprId) → slice_get rows i ≡ Some row → sum (map length (take i rows)) + length row ≤ sum (map length rows)
sum_so_far rows i row at = omega (arith, sum_next rows i row at, sum_take rows (i + 1))
  where
    sum_take : (rows : List (List ExprId)) (n : ℕ) → sum (map length (take n rows)) ≤ sum (map length rows)
    sum_take rows zero = omega arith
    sum_take [] (suc n) = omega arith
    sum_take (r ∷ rows) (suc n) = omega (arith, sum-more length r (take n rows), sum-more length r rows, sum_take rows n)

zip_long : {X Y : Type 0} (R : X → Y → Type 0) (xs : List X) (ys : List Y) → AllZip R xs ys → length xs ≡ length ys
zip_long R [] [] all = refl
zip_long R [] (y ∷ ys) all = absurd all
zip_long R (x ∷ xs) [] all = absurd all
zip_long R (x ∷ xs) (y ∷ ys) all = ap suc (zip_long R xs ys all.1)

-- those of all rows are those of all constructors
pub ctors_all : (old now : Tables) (sort : SortId) (head : ℕ) (rows : List (List ExprId)) (i : ℕ) → length rows ≤ i → ArePushedCtors old now sort head rows i
    → (spellings : List Spelling) (fields : List (List Expression)) → slice_get old.spellings head ≡ Some spellings → AllZip (λ row es. AreNumbered old.table.sorts row (sorts_of old.table) es) rows fields → AllZip NamesEach spellings fields
    → (map (ctor_of old.spellings) now.ctors ≡ map (ctor_of old.spellings) old.ctors ++ ctors_of_sort sort.0 (length old.sels) (ctor_shapes spellings fields))
    × (map (sel_of old.spellings) now.sels ≡ map (sel_of old.spellings) old.sels ++ new_sels (sort_among (sorts_of old.table)) (length old.ctors) (ctor_shapes spellings fields))
ctors_all old now sort head rows i past p spellings fields at numbered named =
    let long = zip_long (λ (row : List ExprId) (es : List Expression). AreNumbered old.table.sorts row (sorts_of old.table) es) rows fields numbered in
    let made = p.made spellings fields at numbered named in
    let shapes : ctor_shapes (take i spellings) (take i fields) ≡ ctor_shapes spellings fields =
    ap₂ ctor_shapes (take_all i spellings (omega (arith, past, long, AllZip-length spellings fields named))) (take_all i fields (omega (arith, past, long))) in (
      made.0 ∙ ap (λ (cs : List CtorShape). map (ctor_of old.spellings) old.ctors ++ ctors_of_sort sort.0 (length old.sels) cs) shapes,
      made.1 ∙ ap (λ (cs : List CtorShape). map (sel_of old.spellings) old.sels ++ new_sels (sort_among (sorts_of old.table)) (length old.ctors) cs) shapes,
    )
