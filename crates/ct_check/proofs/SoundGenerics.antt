-- A constructor of a generic with arguments that match its fields is the constructor of the instance, whose fields have the sorts of
-- the arguments.
use Rattle.std.proofs.Common.{◌≡◌, ℕ, zero, suc, ◌+◌, ◌-◌, ◌==◌, List, [], ◌∷◌, ◌++◌, length, map, Option, Some, None, option_map, unwrap_or, slice_get, Ok, refl, sym, ◌∙◌, ap, subst, arith}
use Rattle.std.specs.List.{AllZip}
use Rattle.std.specs.Option.{option_and_then}
use Rattle.std.proofs.lemmas.List.{append_assoc, append-nil}
use Rattle.std.proofs.lemmas.Bool.Decides.{Decides-eqb}
use Rattle.std.proofs.lemmas.Option.{none-some, same_Some, slice_get_within}
use Rattle.ct_lemmas.proofs.Lists.{slice_get-there}
use Rattle.ct_lemmas.proofs.Pairs.{AllZip-one_length, AllZip-at_left, AllZip-at, AllZip-from}
use Rattle.ct_generics.specs.declared.kind.Kind.{Kind}
use Rattle.ct_generics.specs.declared.kind.Kind.TheVariants.{Bool as OfBool, Free, Data, Codata}
use Rattle.ct_generics.specs.Declarations.{Head}
use Rattle.ct_generics.specs.Expression.{Expression, named, applied, head_of, args_of, with_args, substitute}
use Rattle.ct_generics.specs.Reach.{fields_by_kind, fields_with, fields_of}
use Rattle.ct_sorts.specs.declared.ids.SortId.{SortId}
use Rattle.ct_sorts.specs.declared.ids.CtorId.{CtorId}
use Rattle.ct_sorts.specs.declared.ids.SelId.{SelId}
use Rattle.ct_sorts.specs.declared.ids.GenId.{GenId}
use Rattle.ct_sorts.specs.declared.ids.Symbol.TheVariants.{GenCtor}
use Rattle.ct_sorts.specs.declared.spelling.Spelling.{Spelling}
use Rattle.ct_sorts.specs.Consistent.{IsConsistent}
use Rattle.ct_sorts.specs.Declarations.{Declarations, Sort, Constructor, Selector, IsSort, bool_sort}
use Rattle.ct_sorts.specs.Heads.{NamesEach}
use Rattle.ct_sorts.specs.Instances.{IsOrigin}
use Rattle.ct_sorts.specs.Lookup.{IsSymbol}
use Rattle.ct_sorts.specs.MadeAt.{IsCtorOf}
use Rattle.ct_sorts.specs.Same.{number_among}
use Rattle.ct_sorts.specs.Shapes.{FieldShape, field_shapes, spelling_of}
use Rattle.ct_sorts.proofs.HeadLemmas.{names_of_sort}
use Rattle.ct_sorts.proofs.ShapeLemmas.{length-field_shapes}
use Rattle.ct_terms.specs.CoreSorts.{IsFieldSort, AreFieldSorts}
use Rattle.ct_formulas.specs.Formula as formula
use Rattle.ct_formulas.specs.Formula.{Formulas, no_formulas, with_formula}
use Rattle.ct_formulas.specs.FormulaSorts.{IsSorted, AllSorted}
use Rattle.ct_instances.specs.declared.among.NamedCtor.{NamedCtor}
use Rattle.ct_instances.specs.declared.among.NamedCtor.TheVariants.{Generic}
use Rattle.ct_instances.specs.Among.{origin_of, nth_sel, ctor_among, field_among}
use Rattle.ct_instances.specs.Fields.{generic_fields, generic_params, is_determined}
use Rattle.ct_instances.specs.Matching.{Assignment, unmatched, matched, sorts_for}
use Rattle.ct_instances.proofs.InstanceLemmas.{shape, shape_at, first_origin, first_plain, origin_there, origin_is, instance_is, nth_is, among_yes}
use Rattle.ct_instances.proofs.SubstituteLemmas.{Keeps, matched-keeps, matched-substitute}
use Rattle.ct_names.specs.Outcome.{Sorted, and_then, step}
use Rattle.ct_names.specs.Refusals.{undetermined, wrong_count}
use Rattle.ct_names.specs.Parts.{Parts, no_parts, with_part, count}
use Rattle.ct_names.specs.Sorts.{sort_there, there}
use Rattle.ct_names.specs.Symbols.{field_sort_id}
use Rattle.ct_names.specs.Variables.{Variable, ScopeIn, variable_sorts}
use Rattle.ct_names.specs.Elaboration.{meaning_of_part, matched_arguments, fitting, instance_of, constructed, generic_ctor, generic_sel, tested_term, own}
use Rattle.ct_names.proofs.FoundLemmas.{number_found, number_is}
use Rattle.ct_check.proofs.Inversions.{and_then-inverse, halted-inverse, step-inverse, same_value}
use Rattle.ct_check.proofs.SymbolSorts.{Theorems}
use Rattle.ct_check.proofs.SoundLemmas.{AreSoundParts, HasOwnSort, carried, meaning_sound, meaning_inside}
use Rattle.ct_check.proofs.SoundPatterns.{IsOf, among_of}

-- ---- an instance by its head and its arguments

head_with : (args : List Expression) (e : Expression) → head_of (with_args e args) ≡ head_of e
head_with [] e = refl
head_with (a ∷ args) e = head_with args (applied e a)

args_with : (args : List Expression) (e : Expression) → args_of (with_args e args) ≡ args_of e ++ args
args_with [] e = sym (append-nil (args_of e))
args_with (a ∷ args) e = args_with args (applied e a) ∙ append_assoc (args_of e) (a ∷ []) args

-- ---- lists

map_at : {X Y : Type 0} (f : X → Y) (xs : List X) (j : ℕ) (x : X) → slice_get xs j ≡ Some x → slice_get (map f xs) j ≡ Some (f x)
map_at f [] j x e = absurd (none-some x e)
map_at f (a ∷ xs) zero x e = ap (λ (o : _). Some (f o)) (same_Some a x e)
map_at f (a ∷ xs) (suc j) x e = map_at f xs j x e

map_back : {X Y : Type 0} (f : X → Y) (xs : List X) (j : ℕ) (y : Y) → slice_get (map f xs) j ≡ Some y → (x : X) × (slice_get xs j ≡ Some x) × (f x ≡ y)
map_back f [] j y e = absurd (none-some y e)
map_back f (a ∷ xs) zero y e = (a, refl, same_Some (f a) y e)
map_back f (a ∷ xs) (suc j) y e = map_back f xs j y e

shape_field : (names : List (List ℕ)) (row : List Expression) (j : ℕ) (e : Expression) → length names ≡ length row → slice_get row j ≡ Some e → (f : FieldShape) × (slice_get (field_shapes names row) j ≡ Some f) × (f.sort ≡ e)
shape_field [] [] j e long at = absurd (none-some e at)
shape_field [] (x ∷ row) j e long at = absurd (omega (arith, long))
shape_field (n ∷ names) [] j e long at = absurd (none-some e at)
shape_field (n ∷ names) (x ∷ row) zero e long at = (record { name = n; sort = x }, refl, same_Some x e at)
shape_field (n ∷ names) (x ∷ row) (suc j) e long at = shape_field names row j e (omega (arith, long)) at

-- ---- arguments that match fields

-- the sort is what the field is, with these for the parameters
abbrev StandsFor : Declarations → List Expression → Expression → SortId → Type 0
StandsFor d es field s = IsSort d s × (origin_of d s ≡ substitute es field)

module _ (d : Declarations) (theorems : Theorems d) (scope : List Variable) (inside : ScopeIn d scope) (final : Assignment) (es : List Expression) (are : sorts_for final ≡ Some es) where
  record AreMatched (fields : List Expression) (m : Assignment) (r : Formulas × Assignment) : Type 0 where
    sorts : List SortId
    sorted : AllSorted d (variable_sorts scope) r.0 sorts
    stand : AllZip (StandsFor d es) fields sorts
    keeps : Keeps m r.1

  fitting_is : (o : Option Assignment) (m : Assignment) → fitting o ≡ Ok m → o ≡ Some m
  fitting_is None m e = absurd cc
  fitting_is (Some n) m e = ap (λ (x : Assignment). Some x) (same_value n m e)

  matched_sound : (fields : List Expression) (ps : Parts) → AreSoundParts d ps → (m : Assignment) (r : Formulas × Assignment) → matched_arguments d scope fields ps m ≡ Ok r → Keeps r.1 final → AreMatched fields m r
  matched_sound [] no_parts sound m r e keeps =
      subst (λ (x : Formulas × Assignment). AreMatched [] m x) (same_value (no_formulas, m) r e) (record { sorts = []; sorted = tt; stand = tt; keeps = λ i x at. at })
  matched_sound [] (with_part p ps) sound m r e keeps = absurd cc
  matched_sound (field ∷ fields) no_parts sound m r e keeps = absurd cc
  matched_sound (field ∷ fields) (with_part p ps) sound m r e keeps =
      let one = and_then-inverse (meaning_of_part d scope p) (λ t. and_then (step (fitting (matched field (origin_of d t.1) m))) (λ more. and_then (matched_arguments d scope fields ps more) (λ rest. Ok (with_formula t.0 rest.0, rest.1)))) r e in
      let fits = and_then-inverse (step (fitting (matched field (origin_of d one.0.1) m))) (λ more. and_then (matched_arguments d scope fields ps more) (λ rest. Ok (with_formula one.0.0 rest.0, rest.1))) r one.2 in
      let is : matched field (origin_of d one.0.1) m ≡ Some fits.0 = fitting_is (matched field (origin_of d one.0.1) m) fits.0 (step-inverse (fitting (matched field (origin_of d one.0.1) m)) fits.0 fits.1) in
      let rest = and_then-inverse (matched_arguments d scope fields ps fits.0) (λ rest. Ok (with_formula one.0.0 rest.0, rest.1)) r fits.2 in
      let same : (let x : Formulas × Assignment = (with_formula one.0.0 rest.0.0, rest.0.1) in x) ≡ r = same_value (with_formula one.0.0 rest.0.0, rest.0.1) r rest.2 in
      let rest_keeps : Keeps rest.0.1 final = λ i x at. keeps i x (ap (λ (w : Formulas × Assignment). slice_get w.1 i) (sym same) ∙ at) in
      let others = matched_sound fields ps sound.1 fits.0 rest.0 rest.1 rest_keeps in
      let there : IsSort d one.0.1 = meaning_inside d theorems scope inside p sound.0 one.0 one.1 in
      let sub : substitute es field ≡ origin_of d one.0.1 = matched-substitute final es are field (origin_of d one.0.1) m fits.0 is (λ i x at. rest_keeps i x (others.keeps i x at)) in
      subst (λ (x : Formulas × Assignment). AreMatched (field ∷ fields) m x) same (record {
        sorts = one.0.1 ∷ others.sorts;
        sorted = (meaning_sound d theorems scope inside p sound.0 one.0 one.1, others.sorted);
        stand = ((there, sym sub), others.stand);
        keeps = λ i x at. others.keeps i x (matched-keeps field (origin_of d one.0.1) m fits.0 is i x at);
      })

-- ---- the constructor of an instance

module _ (d : Declarations) (theorems : Theorems d) (g : GenId) (i : ℕ) (known : IsSymbol d (GenCtor g i)) (s : SortId) (es : List Expression) (at : IsOrigin d s (with_args (named g.0) es)) where
  abbrev e : Expression
  e = with_args (named g.0) es

  consistent : IsConsistent d
  consistent = theorems.consistent

  head_is : head_of e ≡ Some g.0
  head_is = head_with es (named g.0)

  args_are : args_of e ≡ es
  args_are = args_with es (named g.0)

  abbrev spelling : Spelling
  spelling = known.0

  abbrev head : Head
  head = known.1.0.0

  later_by : (n : ℕ) → s.0 ≡ n → (k : ℕ) × (s.0 ≡ 1 + k)
  later_by zero same =
      let one : named 0 ≡ e = same_Some (named 0) e (sym (first_origin d consistent) ∙ ap (slice_get d.origins) (sym same) ∙ at) in
      let zeroth : 0 ≡ g.0 = same_Some 0 g.0 (ap head_of one ∙ head_is) in
      let plain : head.params ≡ 0 = first_plain d consistent head (ap (slice_get d.declared.heads) zeroth ∙ known.1.0.1.0) in
      absurd (omega (arith, known.1.0.1.1, plain))
  later_by (suc k) same = let step_is : suc k ≡ 1 + k = omega arith in (k, same ∙ step_is)

  abbrev place : (k : ℕ) × (s.0 ≡ 1 + k)
  place = later_by s.0 refl

  at_place : slice_get d.origins (1 + place.0) ≡ Some e
  at_place = ap (slice_get d.origins) (sym place.1) ∙ at

  names : AllZip NamesEach (spelling_of d.spellings e) (fields_of d.declared.heads e)
  names = names_of_sort d consistent.origins consistent.heads (first_origin d consistent) (first_plain d consistent) place.0 e at_place

  at_spelling : slice_get (spelling_of d.spellings e) i ≡ Some spelling
  at_spelling =
      ap (λ (xs : List Spelling). slice_get xs i) (ap (λ (o : Option ℕ). unwrap_or (option_and_then (slice_get d.spellings) o) []) head_is ∙ ap (λ (o : Option (List Spelling)). unwrap_or o []) known.1.1.1)
      ∙ known.1.1.2

  abbrev row_at : (row : List Expression) × (slice_get (fields_of d.declared.heads e) i ≡ Some row) × NamesEach spelling row
  row_at = AllZip-at_left NamesEach (spelling_of d.spellings e) (fields_of d.declared.heads e) i spelling names at_spelling

  -- the sorts of its fields
  rows_by : (kind : Kind) → slice_get (fields_by_kind kind (map (map (substitute es)) head.ctors)) i ≡ Some row_at.0 → row_at.0 ≡ map (substitute es) (generic_fields d g i)
  rows_by OfBool is = absurd (none-some row_at.0 is)
  rows_by Free is = absurd (none-some row_at.0 is)
  rows_by Data is = given is
    where
      given : slice_get (map (map (substitute es)) head.ctors) i ≡ Some row_at.0 → row_at.0 ≡ map (substitute es) (generic_fields d g i)
      given is =
          let back = map_back (map (substitute es)) head.ctors i row_at.0 is in
          sym back.2 ∙ ap (map (substitute es)) (sym (ap (λ (o : Option Head). unwrap_or (option_and_then (λ (h : Head). slice_get h.ctors i) o) []) known.1.0.1.0 ∙ ap (λ (o : Option (List Expression)). unwrap_or o []) back.1))
  rows_by Codata is = given is
    where
      given : slice_get (map (map (substitute es)) head.ctors) i ≡ Some row_at.0 → row_at.0 ≡ map (substitute es) (generic_fields d g i)
      given is =
          let back = map_back (map (substitute es)) head.ctors i row_at.0 is in
          sym back.2 ∙ ap (map (substitute es)) (sym (ap (λ (o : Option Head). unwrap_or (option_and_then (λ (h : Head). slice_get h.ctors i) o) []) known.1.0.1.0 ∙ ap (λ (o : Option (List Expression)). unwrap_or o []) back.1))

  fields_are : fields_of d.declared.heads e ≡ fields_by_kind head.kind (map (map (substitute es)) head.ctors)
  fields_are =
      ap (λ (o : Option ℕ). fields_with (option_and_then (slice_get d.declared.heads) o) (args_of e)) head_is
      ∙ ap (λ (o : Option Head). fields_with o (args_of e)) known.1.0.1.0
      ∙ ap (λ (xs : List Expression). fields_by_kind head.kind (map (map (substitute xs)) head.ctors)) args_are

  row_is : row_at.0 ≡ map (substitute es) (generic_fields d g i)
  row_is = rows_by head.kind (ap (λ (rows : List (List Expression)). slice_get rows i) (sym fields_are) ∙ row_at.1)

  abbrev made : IsCtorOf d (1 + place.0) i (shape spelling row_at.0)
  made = theorems.made place.0 i e (shape spelling row_at.0) at_place (shape_at (spelling_of d.spellings e) (fields_of d.declared.heads e) i spelling row_at.0 at_spelling row_at.1)

  -- it is the constructor among those of the instance
  among_is : ctor_among d (Generic g i) s ≡ Some made.id
  among_is =
      among_yes d g i s (instance_is d consistent g s e g.0 at head_is ∙ (Decides-eqb g.0 g.0).1 refl)
      ∙ nth_is d s i made.sort.ctors (ap (option_map (λ (sort : Sort). sort.ctors)) (ap (slice_get d.sorts) place.1 ∙ made.sort_at))
      ∙ made.at

  own_is : made.ctor.sort ≡ s
  own_is = ap (λ (n : ℕ). (let x : SortId = record { 0 = n } in x)) (made.sort_is ∙ sym place.1)

  -- a field has the sort of the argument
  field_is : (j : ℕ) (sel : SelId) (t : SortId) (field : Expression) → slice_get made.ctor.sels j ≡ Some sel → slice_get (generic_fields d g i) j ≡ Some field → StandsFor d es field t → IsFieldSort d sel t
  field_is j sel t field at_sel at_field stands =
      let at_row : slice_get row_at.0 j ≡ Some (substitute es field) = ap (λ (row : List Expression). slice_get row j) row_is ∙ map_at (substitute es) (generic_fields d g i) j field at_field in
      let f = shape_field spelling.fields row_at.0 j (substitute es field) row_at.2 at_row in
      let of = made.sels j f.0 f.1 in
      let same : of.id ≡ sel = same_Some of.id sel (sym of.at ∙ at_sel) in
      let origin = origin_there d consistent t.0 stands.0 in
      let here : slice_get d.origins t.0 ≡ Some f.0.sort = origin.1 ∙ ap (λ (x : Expression). Some x) (sym (origin_is d consistent t origin.0 origin.1) ∙ stands.1 ∙ sym f.2) in
      let number : number_among d.origins f.0.sort ≡ Some t.0 = number_is d.origins consistent.origins.different f.0.sort t.0 here in
      let sort : of.sel.sort ≡ t = of.sort_is ∙ ap (λ (o : Option ℕ). (let x : SortId = record { 0 = unwrap_or o 0 } in x)) number in
      (of.sel, ap (λ (x : SelId). slice_get d.sels x.0) (sym same) ∙ of.there, sort)

  fields_sorted : (sorts : List SortId) → AllZip (StandsFor d es) (generic_fields d g i) sorts → AreFieldSorts d made.ctor.sels sorts
  fields_sorted sorts stand =
      let count : length (generic_fields d g i) ≡ length sorts = AllZip-one_length (StandsFor d es) (generic_fields d g i) sorts stand in
      let rows : length row_at.0 ≡ length (generic_fields d g i) = ap (λ (row : List Expression). length row) row_is ∙ long_map (generic_fields d g i) in
      AllZip-from (IsFieldSort d) made.ctor.sels sorts (made.sels_long ∙ length-field_shapes spelling.fields row_at.0 row_at.2 ∙ rows ∙ count)
      (λ j sel t at_sel at_sort.
      let there = slice_get-there (generic_fields d g i) j (omega (arith, count, slice_get_within sorts j t at_sort)) in
      field_is j sel t there.0 at_sel there.1 (AllZip-at (StandsFor d es) (generic_fields d g i) sorts j there.0 t stand there.1 at_sort))
    where
      long_map : (xs : List Expression) → length (map (substitute es) xs) ≡ length xs
      long_map [] = refl
      long_map (x ∷ xs) = ap suc (long_map xs)

  pub constructed_sorted : (env : List SortId) (ts : Formulas) (sorts : List SortId) → AllSorted d env ts sorts → AllZip (StandsFor d es) (generic_fields d g i) sorts → HasOwnSort d env (constructed s ts (ctor_among d (Generic g i) s))
  constructed_sorted env ts sorts sorted stand =
      subst (λ (o : Option CtorId). HasOwnSort d env (constructed s ts o)) (sym among_is) (made.ctor, sorts, made.there, fields_sorted sorts stand, sorted, own_is)

-- ---- the three forms

module _ (d : Declarations) (theorems : Theorems d) (scope : List Variable) (inside : ScopeIn d scope) where
  instance_by : (g : GenId) (o : Option (List Expression)) (e : Expression) → instance_of g o ≡ Ok e → (es : List Expression) × (o ≡ Some es) × (with_args (named g.0) es ≡ e)
  instance_by g None e is = absurd cc
  instance_by g (Some es) e is = (es, refl, same_value (with_args (named g.0) es) e is)

  there_by : (e : Expression) (o : Option ℕ) (s : SortId) → there e o ≡ Ok s → o ≡ Some s.0
  there_by e None s is = absurd cc
  there_by e (Some n) s is = ap (λ (x : SortId). Some x.0) (same_value (let x : SortId = record { 0 = n } in x) s is)

  pub generic_ctor_sound : (g : GenId) (i : ℕ) → IsSymbol d (GenCtor g i) → (ps : Parts) → AreSoundParts d ps → (t : Sorted) → generic_ctor d scope g i ps ≡ Ok t → HasOwnSort d (variable_sorts scope) t
  generic_ctor_sound g i known ps sound t is =
      let determined = halted-inverse (is_determined d g i) undetermined _ t is in
      let many = halted-inverse (length (generic_fields d g i) == count ps) wrong_count _ t determined.1 in
      let found = and_then-inverse (matched_arguments d scope (generic_fields d g i) ps (unmatched (generic_params d g))) _ t many.1 in
      let e = and_then-inverse (step (instance_of g (sorts_for found.0.1))) _ t found.2 in
      let s = and_then-inverse (sort_there d e.0) (λ (x : SortId). Ok (constructed x found.0.0 (ctor_among d (Generic g i) x))) t e.2 in
      let instance = instance_by g (sorts_for found.0.1) e.0 (step-inverse (instance_of g (sorts_for found.0.1)) e.0 e.1) in
      let number : number_among d.origins e.0 ≡ Some s.0.0 = there_by e.0 (number_among d.origins e.0) s.0 s.1 in
      let at : IsOrigin d s.0 (with_args (named g.0) instance.0) = number_found d.origins e.0 s.0.0 number ∙ ap (λ (x : Expression). Some x) (sym instance.2) in
      let matches = matched_sound d theorems scope inside found.0.1 instance.0 instance.1 (generic_fields d g i) ps sound (unmatched (generic_params d g)) found.0 found.1 (λ j x at_j. at_j) in
      carried d (variable_sorts scope) (constructed s.0 found.0.0 (ctor_among d (Generic g i) s.0)) t s.2
      (constructed_sorted d theorems g i known s.0 instance.0 at (variable_sorts scope) found.0.0 matches.sorts matches.sorted matches.stand)

  own_by : {X : Type 0} (o : Option X) (x : X) → own o ≡ Ok x → o ≡ Some x
  own_by None x is = absurd cc
  own_by (Some y) x is = ap (λ (z : _). Some z) (same_value y x is)

  among_field : (g : GenId) (i k : ℕ) (s : SortId) (n : SelId) → field_among d g i k s ≡ Some n → (c : CtorId) × (ctor_among d (Generic g i) s ≡ Some c) × (nth_sel d k c ≡ Some n)
  among_field g i k s n e = by (ctor_among d (Generic g i) s) refl e
    where
      by : (o : Option CtorId) → ctor_among d (Generic g i) s ≡ o → option_and_then (nth_sel d k) o ≡ Some n → (c : CtorId) × (ctor_among d (Generic g i) s ≡ Some c) × (nth_sel d k c ≡ Some n)
      by None is f = absurd (none-some n f)
      by (Some c) is f = (c, is, f)

  selected : (k : ℕ) (c : CtorId) (u : Sorted) (n : SelId) → IsOf d u.1 c → nth_sel d k c ≡ Some n → HasOwnSort d (variable_sorts scope) u → HasOwnSort d (variable_sorts scope) (formula.Sel n u.0, field_sort_id d n)
  selected k c u n of at sorted =
      let here : slice_get of.ctor.sels k ≡ Some n = ap (λ (o : Option Constructor). option_and_then (λ (x : Constructor). slice_get x.sels k) o) (sym of.at) ∙ at in
      let sel = theorems.own_selectors c.0 k of.ctor n of.at here in (
        sel.0,
        of.ctor,
        sel.1,
        ap (slice_get d.ctors) sel.2 ∙ of.at,
        subst (λ (s : SortId). IsSorted d (variable_sorts scope) u.0 s) (sym of.own) sorted,
        sym (ap (λ (o : Option Selector). unwrap_or (option_map (λ (x : Selector). x.sort) o) (record { 0 = 0 })) sel.1),
      )

  pub generic_sel_sound : (g : GenId) (i k : ℕ) (ps : Parts) → AreSoundParts d ps → (t : Sorted) → generic_sel d scope g i k ps ≡ Ok t → HasOwnSort d (variable_sorts scope) t
  generic_sel_sound g i k no_parts sound t is = absurd cc
  generic_sel_sound g i k (with_part p (with_part q ps)) sound t is = absurd cc
  generic_sel_sound g i k (with_part p no_parts) sound t is =
      let u = and_then-inverse (meaning_of_part d scope p) (λ (x : Sorted). and_then (step (own (field_among d g i k x.1))) (λ n. Ok (formula.Sel n x.0, field_sort_id d n))) t is in
      let n = and_then-inverse (step (own (field_among d g i k u.0.1))) (λ (x : SelId). Ok (formula.Sel x u.0.0, field_sort_id d x)) t u.2 in
      let c = among_field g i k u.0.1 n.0 (own_by (field_among d g i k u.0.1) n.0 (step-inverse (own (field_among d g i k u.0.1)) n.0 n.1)) in
      carried d (variable_sorts scope) (formula.Sel n.0 u.0.0, field_sort_id d n.0) t n.2
      (selected k c.0 u.0 n.0 (among_of d theorems u.0.1 (Generic g i) c.0 c.1) c.2 (meaning_sound d theorems scope inside p sound.0 u.0 u.1))

  -- a test of a constructor
  pub tested_term_sound : (k : NamedCtor) (ps : Parts) → AreSoundParts d ps → (t : Sorted) → tested_term d scope k ps ≡ Ok t → HasOwnSort d (variable_sorts scope) t
  tested_term_sound k no_parts sound t is = absurd cc
  tested_term_sound k (with_part p (with_part q ps)) sound t is = absurd cc
  tested_term_sound k (with_part p no_parts) sound t is =
      let u = and_then-inverse (meaning_of_part d scope p) (λ (x : Sorted). and_then (step (own (ctor_among d k x.1))) (λ c. Ok (formula.Test c x.0, bool_sort))) t is in
      let c = and_then-inverse (step (own (ctor_among d k u.0.1))) (λ (x : CtorId). Ok (formula.Test x u.0.0, bool_sort)) t u.2 in
      let of = among_of d theorems u.0.1 k c.0 (own_by (ctor_among d k u.0.1) c.0 (step-inverse (own (ctor_among d k u.0.1)) c.0 c.1)) in
      carried d (variable_sorts scope) (formula.Test c.0 u.0.0, bool_sort) t c.2
      (of.ctor, of.at, subst (λ (s : SortId). IsSorted d (variable_sorts scope) u.0.0 s) (sym of.own) (meaning_sound d theorems scope inside p sound.0 u.0 u.1), refl)
