-- A value that is made on top of those that await it.
use Rattle.std.proofs.Common.{◌≡◌, ℕ, zero, suc, ◌+◌, ◌<◌, ◌≤◌, List, [], ◌∷◌, ◌++◌, length, drop, reverse, get_or, Contains, map, Result, Ok, Err, IfOk, IsErrOf, None, Some, option_map, slice_get, refl, sym, ap, ap₂, subst, ◌∙◌, arith}
use Rattle.std.specs.List.{AllByRecursion}
use Rattle.std.proofs.lemmas.List.{reverse-append, length-append, drop_all}
use Rattle.std.proofs.Math.Seq.{drop-cons}
use Rattle.std.proofs.lemmas.Option.{none-some, same_Some, slice_get_within, slice_get-get_or, slice_get-map}
use Rattle.ct_lemmas.proofs.Contained.{Contains-from_slice_get}
use Rattle.ct_sorts.specs.declared.ids.CtorId.{CtorId}
use Rattle.ct_sorts.specs.declared.ids.SelId.{SelId}
use Rattle.ct_sorts.specs.declared.ids.SortId.{SortId}
use Rattle.ct_sorts.specs.Declarations.{Declarations, IsConstructor}
use Rattle.ct_terms.specs.declared.ids.TermId.{TermId}
use Rattle.ct_terms.specs.declared.error.TermError.{TermError}
use Rattle.ct_terms.specs.declared.error.TermError.TheVariants.{Full, NoMemory}
use Rattle.ct_terms.specs.Terms.{Terms}
use Rattle.ct_terms.specs.CoreTree.{CoreTree, con, trees_of, term_at}
use Rattle.ct_listing.specs.Closed.{ClosedValue, build, closed_of, term_of}
use Rattle.ct_listing.specs.Listable.{IsListable, field_sort, field_sorts}
use Rattle.ct_listing.specs.Listing.{listed}
use Rattle.ct_finite.specs.Counts.{most_values}
use Rattle.ct_finite.specs.Entries.{AreEntries, IsBuiltOf}
use Rattle.ct_operators.specs.Effect.{Stands, IsSoundTable, Effect}
use Rattle.ct_scope.specs.declared.values.ListedValue.{ListedValue}
use Rattle.ct_scope.specs.declared.open_value.OpenValue.{OpenValue}
use Rattle.ct_scope.specs.Values.{MakesValue, MakesFields}
use Rattle.ct_scope.specs.Awaiting.{FieldsRest, IsUnderWay, IsNextField, with_argument, Await, AreUnderWay}
use Rattle.ct_scope.proofs.ValueLemmas.{of_value, value_failed, value_tree, value_made, value_lost, fields_below, fields_start, fields_stopped, fields_more, fields_lost, fields_end}

-- what stands at a place is the first of what is left from there on
drop_next : {X : Type 0} (xs : List X) (n : ℕ) (x : X) → slice_get xs n ≡ Some x → drop n xs ≡ x ∷ drop (suc n) xs
drop_next {X} xs n x at =
    let inside = slice_get_within xs n x at in
    let same = same_Some (get_or xs n x) x (sym (slice_get-get_or xs n x inside) ∙ at) in
    drop-cons xs n x inside ∙ ap (λ (y : X). y ∷ drop (suc n) xs) same

-- what has no element at a place is over there
nothing_from : {X : Type 0} (xs : List X) (n : ℕ) → slice_get xs n ≡ None → drop n xs ≡ []
nothing_from [] n e = drop_all n [] (omega arith)
nothing_from (x ∷ xs) zero e = absurd (none-some x (sym e))
nothing_from (x ∷ xs) (suc n) e = nothing_from xs n e

-- the sort of the field at a place is that of the selector there
pub field_at : (d : Declarations) (c : CtorId) (sels : List SelId) (n : ℕ) (sel : SelId) (s : SortId) → field_sorts d c ≡ map (field_sort d) sels → slice_get sels n ≡ Some sel → field_sort d sel ≡ s → slice_get (field_sorts d c) n ≡ Some s
field_at d c sels n sel s read at is = ap (λ (ss : List SortId). slice_get ss n) read ∙ slice_get-map (field_sort d) sels n ∙ ap (option_map (field_sort d)) at ∙ ap (λ (x : SortId). Some x) is

pub no_field : (d : Declarations) (c : CtorId) (sels : List SelId) (n : ℕ) → field_sorts d c ≡ map (field_sort d) sels → slice_get sels n ≡ None → drop n (field_sorts d c) ≡ []
no_field d c sels n read at = nothing_from (field_sorts d c) n (ap (λ (ss : List SortId). slice_get ss n) read ∙ slice_get-map (field_sort d) sels n ∙ ap (option_map (field_sort d)) at)

-- there are as many numbers as sorts
entries_long : (d : Declarations) (sorts : List SortId) (numbers : List ℕ) (vs : List ClosedValue) → AreEntries d sorts numbers vs → length sorts ≡ length numbers
entries_long d [] [] [] h = refl
entries_long d [] [] (v ∷ vs) h = absurd h
entries_long d [] (k ∷ numbers) vs h = absurd h
entries_long d (s ∷ sorts) [] vs h = absurd h
entries_long d (s ∷ sorts) (k ∷ numbers) [] h = absurd h
entries_long d (s ∷ sorts) (k ∷ numbers) (v ∷ vs) h = ap suc (entries_long d sorts numbers vs h.1)

pub no_number : (d : Declarations) (sorts : List SortId) (numbers : List ℕ) (n : ℕ) → (vs : List ClosedValue) × AreEntries d sorts numbers vs → slice_get numbers n ≡ None → drop n sorts ≡ []
no_number d sorts numbers n entries e =
    let long = entries_long d sorts numbers entries.0 entries.1 in
    drop_all n sorts (omega (arith, long, past numbers n e))
  where
    past : (xs : List ℕ) (n : ℕ) → slice_get xs n ≡ None → length xs ≤ n
    past [] n e = omega arith
    past (x ∷ xs) zero e = absurd (none-some x (sym e))
    past (x ∷ xs) (suc n) e = omega (arith, past xs n e)

-- an entry has a value
entry_at : (d : Declarations) (sorts : List SortId) (numbers : List ℕ) (vs : List ClosedValue) (n : ℕ) (s : SortId) (k : ℕ) → AreEntries d sorts numbers vs → slice_get sorts n ≡ Some s → slice_get numbers n ≡ Some k → (v : ClosedValue) × (slice_get (listed d s) k ≡ Some v)
entry_at d [] numbers vs n s k h at number = absurd (none-some s at)
entry_at d (r ∷ sorts) [] vs n s k h at number = absurd h
entry_at d (r ∷ sorts) (j ∷ numbers) [] n s k h at number = absurd h
entry_at d (r ∷ sorts) (j ∷ numbers) (v ∷ vs) zero s k h at number =
    (v, ap₂ (λ (a : SortId) (b : ℕ). slice_get (listed d a) b) (sym (same_Some r s at)) (sym (same_Some j k number)) ∙ h.0)
entry_at d (r ∷ sorts) (j ∷ numbers) (v ∷ vs) (suc n) s k h at number = entry_at d sorts numbers vs n s k h.1 at number

module _ (d : Declarations) where
  -- a value that has been opened
  pub begun : (table : Terms) (o : OpenValue) → o.args ≡ [] → IsListable d o.value.sort → IsConstructor d o.ctor → ((f : SortId) → Contains (field_sorts d o.ctor) f → IsListable d f × (length (listed d f) ≤ most_values)) → IsBuiltOf d o.value.sort o.value.number o.ctor o.numbers → IsUnderWay d table table o
  begun table o none listable declared fields built = record {
    listable = listable;
    declared = declared;
    fields = fields;
    built = built;
    rest = subst (λ (args : List TermId). FieldsRest d (field_sorts d o.ctor) o.numbers table table (drop (length args) (field_sorts d o.ctor)) (drop (length args) o.numbers) args) (sym none) (fields_start d (field_sorts d o.ctor) o.numbers table);
  }

  module _ (start table : Terms) (o : OpenValue) (field : ListedValue) (h : IsUnderWay d start table o) (next : IsNextField d o field) where
    abbrev n : ℕ
    n = length o.args

    abbrev sorts : List SortId
    sorts = field_sorts d o.ctor

    split : FieldsRest d sorts o.numbers start table (field.sort ∷ drop (suc n) sorts) (field.number ∷ drop (suc n) o.numbers) o.args
    split = subst (λ (ks : List ℕ). FieldsRest d sorts o.numbers start table (field.sort ∷ drop (suc n) sorts) ks o.args) (drop_next o.numbers n field.number next.1)
        (subst (λ (ss : List SortId). FieldsRest d sorts o.numbers start table ss (drop n o.numbers) o.args) (drop_next sorts n field.sort next.0) h.rest)

    -- the next field may be made
    pub next_fits : IsListable d field.sort × (length (listed d field.sort) ≤ most_values)
    next_fits = h.fields field.sort (Contains-from_slice_get sorts n field.sort next.0)

    pub next_value : (v : ClosedValue) × (slice_get (listed d field.sort) field.number ≡ Some v)
    next_value = entry_at d sorts o.numbers h.built.0 n field.sort field.number h.built.2 next.0 next.1

    pub next_there : field.number < length (listed d field.sort)
    next_there = slice_get_within (listed d field.sort) field.number next_value.0 next_value.1

    -- it has its term
    pub argued : (mid : Terms) (u : TermId) → ((v : ClosedValue) → slice_get (listed d field.sort) field.number ≡ Some v → MakesValue d table mid v (Ok u)) → IsUnderWay d start mid (with_argument o u)
    argued mid u one = record {
      listable = h.listable;
      declared = h.declared;
      fields = h.fields;
      built = h.built;
      rest =
          let long : length (o.args ++ u ∷ []) ≡ suc n = length-append o.args (u ∷ []) ∙ omega arith in
          subst (λ (m : ℕ). FieldsRest d sorts o.numbers start mid (drop m sorts) (drop m o.numbers) (o.args ++ u ∷ [])) (sym long)
          (fields_more d sorts o.numbers start table field.sort (drop (suc n) sorts) field.number (drop (suc n) o.numbers) o.args split mid u one);
    }

    -- it fails
    pub next_failed : (new : Terms) (e : TermError) → ((v : ClosedValue) → slice_get (listed d field.sort) field.number ≡ Some v → MakesValue d table new v (Err e)) → (v : ClosedValue) → slice_get (listed d o.value.sort) o.value.number ≡ Some v → MakesValue d start new v (Err e)
    next_failed new e one =
        of_value d o.value.sort o.value.number (λ v. MakesValue d start new v (Err e)) (build o.ctor (closed_of h.built.0)) h.built.1
        (value_failed d o.ctor h.built.0 start new e (fields_stopped d sorts o.numbers start table field.sort (drop (suc n) sorts) field.number (drop (suc n) o.numbers) o.args split new e one h.built.0 h.built.2))

  -- what the value on top fails with, the whole fails with
  pub await_failed : (old : Terms) (whole : ListedValue) (table : Terms) (value : ListedValue) (os : List OpenValue) (new : Terms) (e : TermError) → Await d old whole table value os → ((v : ClosedValue) → slice_get (listed d value.sort) value.number ≡ Some v → MakesValue d table new v (Err e)) → (v : ClosedValue) → slice_get (listed d whole.sort) whole.number ≡ Some v → MakesValue d old new v (Err e)
  await_failed old whole table value [] new e h one = λ v at. subst (λ (t : Terms). MakesValue d t new v (Err e)) h.0 (one v (ap (λ (x : ListedValue). slice_get (listed d x.sort) x.number) h.1 ∙ at))
  await_failed old whole table value (o ∷ os) new e h one = await_failed old whole h.0 o.value os new e h.3 (next_failed h.0 table o value h.1 h.2 new e one)

  -- there is no memory
  pub out_of_memory : (old : Terms) (whole : ListedValue) (table : Terms) (below : List OpenValue) (top : OpenValue) (e : TermError) → e ≡ NoMemory → IsSoundTable d table → AreUnderWay d old whole table below top → (v : ClosedValue) → slice_get (listed d whole.sort) whole.number ≡ Some v → MakesValue d old table v (Err e)
  out_of_memory old whole table below top e is kept h =
      await_failed old whole h.0 top.value (reverse below) table e h.2
      (of_value d top.value.sort top.value.number (λ v. MakesValue d h.0 table v (Err e)) (build top.ctor (closed_of h.1.built.0)) h.1.built.1
      (value_failed d top.ctor h.1.built.0 h.0 table e (fields_lost d (field_sorts d top.ctor) top.numbers h.0 table _ _ top.args h.1.rest kept e is h.1.built.0 h.1.built.2)))

  -- the whole is begun
  pub under_way_first : (table : Terms) (whole : ListedValue) (o : OpenValue) → o.value ≡ whole → IsUnderWay d table table o → AreUnderWay d table whole table [] o
  under_way_first table whole o is h = (table, h, (refl, is))

  -- the next field of the value on top is put on top of it
  pub under_way_more : (old : Terms) (whole : ListedValue) (table : Terms) (below more : List OpenValue) (top o : OpenValue) → more ≡ below ++ top ∷ [] → AreUnderWay d old whole table below top → IsNextField d top o.value → IsUnderWay d table table o → AreUnderWay d old whole table more o
  under_way_more old whole table below more top o is h next opened =
      let turned : reverse more ≡ top ∷ reverse below = ap reverse is ∙ reverse-append below (top ∷ []) in
      (table, opened, subst (Await d old whole table o.value) (sym turned) (h.0, h.1, next, h.2))

  -- the value on top has the term of one field more
  pub under_way_argued : (old : Terms) (whole : ListedValue) (table : Terms) (below : List OpenValue) (top : OpenValue) (field : ListedValue) (u : TermId) → AreUnderWay d old whole table below top → IsNextField d top field → ((v : ClosedValue) → slice_get (listed d field.sort) field.number ≡ Some v → MakesValue d table table v (Ok u)) → AreUnderWay d old whole table below (with_argument top u)
  under_way_argued old whole table below top field u h next one = (h.0, argued h.0 table top field h.1 next table u one, h.2)

  -- all fields of the value on top have their terms
  pub fields_done : (start table : Terms) (o : OpenValue) → IsSoundTable d table → drop (length o.args) (field_sorts d o.ctor) ≡ [] → (h : IsUnderWay d start table o) → MakesFields d start table h.built.0 (Ok o.args)
  fields_done start table o kept none h =
      fields_end d (field_sorts d o.ctor) o.numbers start table (drop (length o.args) o.numbers) o.args kept
      (subst (λ (ss : List SortId). FieldsRest d (field_sorts d o.ctor) o.numbers start table ss (drop (length o.args) o.numbers) o.args) none h.rest) h.built.0 h.built.2

  -- the whole value is made
  pub whole_made : (old : Terms) (whole : ListedValue) (start new : Terms) (value : ListedValue) (below : List OpenValue) (u : TermId) → below ≡ [] → Await d old whole start value (reverse below) → ((v : ClosedValue) → slice_get (listed d value.sort) value.number ≡ Some v → MakesValue d start new v (Ok u)) → (v : ClosedValue) → slice_get (listed d whole.sort) whole.number ≡ Some v → MakesValue d old new v (Ok u)
  whole_made old whole start new value below u none h one v at =
      let last = subst (λ (os : List OpenValue). Await d old whole start value (reverse os)) none h in
      subst (λ (t : Terms). MakesValue d t new v (Ok u)) last.0 (one v (ap (λ (x : ListedValue). slice_get (listed d x.sort) x.number) last.1 ∙ at))

  -- the value that awaits it goes on
  pub under_goes_on : (old : Terms) (whole : ListedValue) (start new : Terms) (value : ListedValue) (below left : List OpenValue) (o : OpenValue) (u : TermId) → below ≡ left ++ o ∷ [] → Await d old whole start value (reverse below) → ((v : ClosedValue) → slice_get (listed d value.sort) value.number ≡ Some v → MakesValue d start new v (Ok u)) → AreUnderWay d old whole new left (with_argument o u)
  under_goes_on old whole start new value below left o u is h one =
      let turned : reverse below ≡ o ∷ reverse left = ap reverse is ∙ reverse-append left (o ∷ []) in
      let first = subst (Await d old whole start value) turned h in
      (first.0, argued first.0 start o value first.1 first.2 new u one, first.3)

  -- the term of a value whose fields have theirs
  module _ (start table : Terms) (o : OpenValue) (kept : IsSoundTable d table) (none : drop (length o.args) (field_sorts d o.ctor) ≡ []) (h : IsUnderWay d start table o) where
    pub made_below : AllByRecursion (λ t. t.0 < length table) o.args
    made_below = fields_below d o.ctor h.built.0 start table o.args (fields_done start table o kept none h)

    -- the term to be made is that of the value
    pub made_tree : con o.ctor (trees_of (map (term_at table) o.args)) ≡ term_of (build o.ctor (closed_of h.built.0))
    made_tree = value_tree d o.ctor h.built.0 start table o.args (fields_done start table o kept none h)

    -- it is made, or fails
    pub term_made : (new : Terms) (r : Result TermId TermError) → IfOk r (λ t. Stands new t (con o.ctor (trees_of (map (term_at table) o.args)))) → ((allowed : List CoreTree) → Contains allowed (con o.ctor (trees_of (map (term_at table) o.args))) → Effect d allowed table new (IsErrOf r Full)) → (v : ClosedValue) → slice_get (listed d o.value.sort) o.value.number ≡ Some v → MakesValue d start new v r
    term_made new r core effect =
        of_value d o.value.sort o.value.number (λ v. MakesValue d start new v r) (build o.ctor (closed_of h.built.0)) h.built.1
        (value_made d o.ctor h.built.0 start table o.args (fields_done start table o kept none h) new r core effect)

  -- it is made, and then there is no memory
  pub made_lost : (start new : Terms) (value : ListedValue) (u : TermId) (e : TermError) → e ≡ NoMemory → ((v : ClosedValue) → slice_get (listed d value.sort) value.number ≡ Some v → MakesValue d start new v (Ok u)) → (v : ClosedValue) → slice_get (listed d value.sort) value.number ≡ Some v → MakesValue d start new v (Err e)
  made_lost start new value u e is one v at = value_lost d start new v u e is (one v at)
