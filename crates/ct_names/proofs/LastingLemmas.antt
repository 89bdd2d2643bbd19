-- Where sorts were added, what names and numbers stand for is as it was.
use Rattle.std.proofs.Common.{◌≡◌, ℕ, zero, suc, ◌<◌, ◌==◌, Bool, true, false, if◌then◌else◌, List, [], ◌∷◌, ◌++◌, length, map, take, Ok, slice_get, position, unwrap_or, option_map, Option, Some, None, refl, sym, ◌∙◌, ap, ap₂, subst, arith, length-append}
use Rattle.std.specs.Prelude.{drop, codes}
use Rattle.std.specs.Option.{option_and_then}
use Rattle.std.specs.Str.{bytes_eq}
use Rattle.std.specs.List.{range_with_len, list_all, list_any}
use Rattle.std.proofs.lemmas.List.{append-nil}
use Rattle.std.proofs.lemmas.Option.{none-some, same_Some, slice_get_within}
use Rattle.ct_lemmas.proofs.Lists.{slice_get-there}
use Rattle.ct_generics.specs.Declarations.{Declared, Head}
use Rattle.ct_generics.specs.Expression.{Expression, named, head_of}
use Rattle.ct_sorts.specs.declared.ids.SortId.{SortId}
use Rattle.ct_sorts.specs.declared.ids.CtorId.{CtorId}
use Rattle.ct_sorts.specs.declared.ids.SelId.{SelId}
use Rattle.ct_sorts.specs.declared.ids.GenId.{GenId}
use Rattle.ct_sorts.specs.declared.ids.Symbol.{Symbol}
use Rattle.ct_sorts.specs.declared.ids.Symbol.TheVariants.{Ctor, Sel, Fun, Def, GenCtor, GenSel}
use Rattle.ct_sorts.specs.declared.spelling.Spelling.{Spelling}
use Rattle.ct_sorts.specs.Consistent.{IsConsistent}
use Rattle.ct_sorts.specs.Declarations.{Declarations, Sort, Constructor, Selector, Function, IsSort, IsConstructor, IsSelector, bool_sort, start}
use Rattle.ct_sorts.specs.Lookup.{ResolvesTo, IsGenericCtor, IsSymbol}
use Rattle.ct_sorts.specs.Same.{number_among}
use Rattle.ct_sorts.specs.Symbols.{symbols_from, all_symbols}
use Rattle.ct_sorts.proofs.AllSymbolsLemmas.{symbols_longer}
use Rattle.ct_sorts.proofs.NamingLemmas.{symbol_there}
use Rattle.ct_sorts.proofs.StructureLemmas.{own_constructors, own_selectors, of_their_sorts, of_their_constructors}
use Rattle.ct_instances.specs.declared.among.NamedCtor.{NamedCtor}
use Rattle.ct_instances.specs.declared.among.NamedCtor.TheVariants.{Plain, Generic}
use Rattle.ct_instances.specs.Among.{origin_of, is_head, is_instance, nth_ctor, nth_sel, if_of, ctor_among, field_among, IsNamedCtor}
use Rattle.ct_instances.specs.Fields.{generic_fields, generic_params, occurs, is_determined}
use Rattle.ct_names.specs.Patterns.{sort_ctors}
use Rattle.ct_names.specs.Sorts.{there, sort_there}
use Rattle.ct_names.specs.Symbols.{or_other, beside, symbol_of, as_ctor, ctor_named, is_of_bool, unless_of_bool, tester_named, field_sort_id, ctor_field_sorts, ctor_sort, sel_argument, argument_sorts, result_sort}
use Rattle.ct_names.proofs.FoundLemmas.{number_longer, number_found}
use Rattle.ct_names.specs.Needs.{Grows}
use Rattle.ct_names.specs.Variables.{Variable, ScopeIn}
use Rattle.ct_names.proofs.NeedLemmas.{begins_same, begins_within}
use Rattle.ct_names.proofs.ResolveLemmas.{resolves}

-- one map of the other
map_same : {X Y : Type 0} (f g : X → Y) (xs : List X) → ((k : ℕ) (x : X) → slice_get xs k ≡ Some x → f x ≡ g x) → map f xs ≡ map g xs
map_same f g [] same = refl
map_same f g (x ∷ xs) same = ap₂ (λ y ys. y ∷ ys) (same 0 x refl) (map_same f g xs (λ k y at. same (suc k) y at))

-- nothing follows
nothing_after : {X : Type 0} (xs ys : List X) → xs ≡ xs ++ ys → ys ≡ []
nothing_after xs [] e = refl
nothing_after xs (y ∷ ys) e = absurd (omega (arith, ap length e, length-append xs (y ∷ ys)))

-- these are sorts
abbrev pub AreSorts : Declarations → List SortId → Type 0
AreSorts d [] = Unit {0}
AreSorts d (s ∷ sorts) = IsSort d s × AreSorts d sorts

are_sorts : (d : Declarations) (sorts : List SortId) → ((k : ℕ) (s : SortId) → slice_get sorts k ≡ Some s → IsSort d s) → AreSorts d sorts
are_sorts d [] all = tt
are_sorts d (s ∷ sorts) all = (all 0 s refl, are_sorts d sorts (λ k t at. all (suc k) t at))

pub AreSorts-at : (d : Declarations) (sorts : List SortId) (k : ℕ) (s : SortId) → AreSorts d sorts → slice_get sorts k ≡ Some s → IsSort d s
AreSorts-at d [] k s all at = absurd (none-some s at)
AreSorts-at d (t ∷ sorts) zero s all at = subst (IsSort d) (same_Some t s at) all.0
AreSorts-at d (t ∷ sorts) (suc k) s all at = AreSorts-at d sorts k s all.1 at

-- what a symbol stands for, over one constructor, selector or function
abbrev sorts_with : Declarations → Option Constructor → List SortId
sorts_with d o = map (field_sort_id d) (unwrap_or (option_map (λ (ctor : Constructor). ctor.sels) o) [])

abbrev args_with : Option Function → List SortId
args_with o = unwrap_or (option_map (λ (f : Function). f.args) o) []

abbrev result_with : Option Function → SortId
result_with o = unwrap_or (option_map (λ (f : Function). f.result) o) (record { 0 = 0 })

module _ (later d : Declarations) (grows : Grows later d) (c : IsConsistent d) where
  -- ---- symbols

  pub symbols_same : all_symbols later ≡ all_symbols d
  symbols_same =
      let none = nothing_after d.declared.heads grows.extends.heads.0 (ap (λ (x : Declared). x.heads) (sym grows.declared) ∙ grows.extends.heads.1) in
      symbols_longer later d grows.extends c
      ∙ ap (λ (heads : List Head). all_symbols d ++ symbols_from later (length d.declared.heads) heads grows.extends.spellings.0) none
      ∙ append-nil (all_symbols d)

  pub symbol_same : (name : List ℕ) → symbol_of later name ≡ symbol_of d name
  symbol_same name =
      ap₂ (λ (x y : Option Symbol). or_other x y) (ap (λ (xs : List (List ℕ × Symbol)). beside xs name) symbols_same)
      (ap₂ (λ (fs ds : List Function). or_other (option_map (λ n. Fun (record { 0 = n })) (position (bytes_eq name) (map (λ (f : Function). f.name) fs))) (option_map (λ n. Def (record { 0 = n })) (position (bytes_eq name) (map (λ (f : Function). f.name) ds)))) grows.functions grows.definitions)

  pub ctor_same : (name : List ℕ) → ctor_named later name ≡ ctor_named d name
  ctor_same name = ap as_ctor (symbol_same name)

  pub tester_same : (name : List ℕ) → tester_named later name ≡ tester_named d name
  tester_same name = ap (λ (o : Option NamedCtor). if bytes_eq (take 3 name) (codes "is-") then unless_of_bool o else None) (ctor_same (drop 3 name))

  -- ---- numbers

  pub sort_at_same : (s : SortId) → IsSort d s → slice_get later.sorts s.0 ≡ slice_get d.sorts s.0
  sort_at_same s is = begins_same d.sorts later.sorts grows.extends.sorts s.0 is

  ctor_at_same : (k : CtorId) → IsConstructor d k → slice_get later.ctors k.0 ≡ slice_get d.ctors k.0
  ctor_at_same k is = begins_same d.ctors later.ctors grows.extends.ctors k.0 is

  sel_at_same : (s : SelId) → IsSelector d s → slice_get later.sels s.0 ≡ slice_get d.sels s.0
  sel_at_same s is = begins_same d.sels later.sels grows.extends.sels s.0 is

  pub origin_same : (s : SortId) → IsSort d s → origin_of later s ≡ origin_of d s
  origin_same s is =
      let within : s.0 < length d.origins = omega (arith, is, c.origins.one_each) in
      ap (λ (o : Option Expression). unwrap_or o (named 0)) (begins_same d.origins later.origins grows.extends.origins s.0 within)

  pub ctors_same : (s : SortId) → IsSort d s → sort_ctors later s ≡ sort_ctors d s
  ctors_same s is = ap (λ (o : Option Sort). unwrap_or (option_map (λ (sort : Sort). sort.ctors) o) []) (sort_at_same s is)

  pub field_same : (s : SelId) → IsSelector d s → field_sort_id later s ≡ field_sort_id d s
  field_same s is = ap (λ (o : Option Selector). unwrap_or (option_map (λ (sel : Selector). sel.sort) o) (record { 0 = 0 })) (sel_at_same s is)

  pub field_inside : (s : SelId) → IsSelector d s → IsSort d (field_sort_id d s)
  field_inside s is =
      let at = slice_get-there d.sels s.0 is in
      let same : field_sort_id d s ≡ at.0.sort = ap (λ (o : Option Selector). unwrap_or (option_map (λ (sel : Selector). sel.sort) o) (record { 0 = 0 })) at.1 in
      subst (IsSort d) (sym same) (c.fields s.0 at.0 at.1)

  -- the selectors of a constructor are there
  sels_inside : (k : CtorId) (ctor : Constructor) → slice_get d.ctors k.0 ≡ Some ctor → (i : ℕ) (s : SelId) → slice_get ctor.sels i ≡ Some s → IsSelector d s
  sels_inside k ctor at i s at_s = let own = own_selectors d c k.0 i ctor s at at_s in slice_get_within d.sels s.0 own.0 own.1

  pub fields_same : (k : CtorId) → IsConstructor d k → ctor_field_sorts later k ≡ ctor_field_sorts d k
  fields_same k is =
      let at = slice_get-there d.ctors k.0 is in
      ap (sorts_with later) (ctor_at_same k is ∙ at.1)
      ∙ map_same (field_sort_id later) (field_sort_id d) at.0.sels (λ i s at_s. field_same s (sels_inside k at.0 at.1 i s at_s))
      ∙ ap (sorts_with d) (sym at.1)

  pub fields_inside : (k : CtorId) → IsConstructor d k → AreSorts d (ctor_field_sorts d k)
  fields_inside k is =
      let at = slice_get-there d.ctors k.0 is in
      subst (λ (sorts : List SortId). AreSorts d sorts) (ap (sorts_with d) (sym at.1)) (each at.0.sels (λ i s at_s. sels_inside k at.0 at.1 i s at_s))
    where
      each : (sels : List SelId) → ((i : ℕ) (s : SelId) → slice_get sels i ≡ Some s → IsSelector d s) → AreSorts d (map (field_sort_id d) sels)
      each [] inside = tt
      each (s ∷ sels) inside = (field_inside s (inside 0 s refl), each sels (λ i t at. inside (suc i) t at))

  pub ctor_sort_same : (k : CtorId) → IsConstructor d k → ctor_sort later k ≡ ctor_sort d k
  ctor_sort_same k is = ap (λ (o : Option Constructor). unwrap_or (option_map (λ (ctor : Constructor). ctor.sort) o) (record { 0 = 0 })) (ctor_at_same k is)

  -- the sort of a constructor is there
  owner_inside : (k : CtorId) (ctor : Constructor) → slice_get d.ctors k.0 ≡ Some ctor → IsSort d ctor.sort
  owner_inside k ctor at = let own = of_their_sorts d c k.0 ctor at in slice_get_within d.sorts ctor.sort.0 own.0 own.2

  pub ctor_sort_inside : (k : CtorId) → IsConstructor d k → IsSort d (ctor_sort d k)
  ctor_sort_inside k is =
      let at = slice_get-there d.ctors k.0 is in
      let same : ctor_sort d k ≡ at.0.sort = ap (λ (o : Option Constructor). unwrap_or (option_map (λ (ctor : Constructor). ctor.sort) o) (record { 0 = 0 })) at.1 in
      subst (IsSort d) (sym same) (owner_inside k at.0 at.1)

  -- the constructor of a selector is there
  sel_ctor_inside : (s : SelId) (sel : Selector) → slice_get d.sels s.0 ≡ Some sel → IsConstructor d sel.ctor
  sel_ctor_inside s sel at = let own = of_their_constructors d c s.0 sel at in slice_get_within d.ctors sel.ctor.0 own.0 own.1

  abbrev argument_with : Declarations → Option Selector → SortId
  argument_with e o = unwrap_or (option_map (λ (sel : Selector). ctor_sort e sel.ctor) o) (record { 0 = 0 })

  pub argument_same : (s : SelId) → IsSelector d s → sel_argument later s ≡ sel_argument d s
  argument_same s is =
      let at = slice_get-there d.sels s.0 is in
      ap (argument_with later) (sel_at_same s is ∙ at.1) ∙ ctor_sort_same at.0.ctor (sel_ctor_inside s at.0 at.1) ∙ ap (argument_with d) (sym at.1)

  pub argument_inside : (s : SelId) → IsSelector d s → IsSort d (sel_argument d s)
  argument_inside s is =
      let at = slice_get-there d.sels s.0 is in
      subst (IsSort d) (ap (argument_with d) (sym at.1)) (ctor_sort_inside at.0.ctor (sel_ctor_inside s at.0 at.1))

  -- ---- generics

  pub generic_fields_same : (g : GenId) (i : ℕ) → generic_fields later g i ≡ generic_fields d g i
  generic_fields_same g i = ap (λ (x : Declared). unwrap_or (option_and_then (λ (head : Head). slice_get head.ctors i) (slice_get x.heads g.0)) []) grows.declared

  pub generic_params_same : (g : GenId) → generic_params later g ≡ generic_params d g
  generic_params_same g = ap (λ (x : Declared). unwrap_or (option_map (λ (head : Head). head.params) (slice_get x.heads g.0)) 0) grows.declared

  pub determined_same : (g : GenId) (i : ℕ) → is_determined later g i ≡ is_determined d g i
  determined_same g i =
      ap₂ (λ (fields : List Expression) (n : ℕ). list_all (λ j. list_any (occurs j) fields) (range_with_len 0 n)) (generic_fields_same g i) (generic_params_same g)

  -- ---- constructors and fields among those of a sort

  pub among_same : (k : NamedCtor) → IsNamedCtor d k → (s : SortId) → IsSort d s → ctor_among later k s ≡ ctor_among d k s
  among_same (Plain k) declared s is = ap (if_of s k) (ctor_at_same k declared)
  among_same (Generic g i) declared s is =
      ap₂ (λ (b : Bool) (o : Option CtorId). if b then o else None) (ap (λ (e : Expression). is_head g.0 (head_of e)) (origin_same s is)) (ap (λ (o : Option Sort). option_and_then (λ (sort : Sort). slice_get sort.ctors i) o) (sort_at_same s is))

  -- a constructor of a sort is there
  nth_inside : (s : SortId) (i : ℕ) (k : CtorId) → nth_ctor d s i ≡ Some k → IsConstructor d k
  nth_inside s i k e = by (slice_get d.sorts s.0) refl e
    where
      by : (o : Option Sort) → slice_get d.sorts s.0 ≡ o → option_and_then (λ (sort : Sort). slice_get sort.ctors i) o ≡ Some k → IsConstructor d k
      by None at f = absurd (none-some k f)
      by (Some sort) at f = let own = own_constructors d c s.0 i sort k at f in slice_get_within d.ctors k.0 own.0 own.1

  pub among_inside : (k : NamedCtor) → IsNamedCtor d k → (s : SortId) (n : CtorId) → ctor_among d k s ≡ Some n → IsConstructor d n
  among_inside (Plain k) declared s n e = by (slice_get d.ctors k.0) e
    where
      tested : (ctor : Constructor) (b : Bool) → (if b then Some k else None) ≡ Some n → IsConstructor d n
      tested ctor true f = subst (IsConstructor d) (same_Some k n f) declared
      tested ctor false f = absurd (none-some n f)

      by : (o : Option Constructor) → if_of s k o ≡ Some n → IsConstructor d n
      by None f = absurd (none-some n f)
      by (Some ctor) f = tested ctor (ctor.sort.0 == s.0) f
  among_inside (Generic g i) declared s n e = by (is_instance d g s) e
    where
      by : (b : Bool) → (if b then nth_ctor d s i else None) ≡ Some n → IsConstructor d n
      by true f = nth_inside s i n f
      by false f = absurd (none-some n f)

  pub field_among_same : (g : GenId) (i k : ℕ) → IsNamedCtor d (Generic g i) → (s : SortId) → IsSort d s → field_among later g i k s ≡ field_among d g i k s
  field_among_same g i k declared s is = ap (option_and_then (nth_sel later k)) (among_same (Generic g i) declared s is) ∙ by (ctor_among d (Generic g i) s) refl
    where
      by : (o : Option CtorId) → ctor_among d (Generic g i) s ≡ o → option_and_then (nth_sel later k) o ≡ option_and_then (nth_sel d k) o
      by None e = refl
      by (Some n) e = ap (λ (o : Option Constructor). option_and_then (λ (ctor : Constructor). slice_get ctor.sels k) o) (ctor_at_same n (among_inside (Generic g i) declared s n e))

  pub field_among_inside : (g : GenId) (i k : ℕ) → IsNamedCtor d (Generic g i) → (s : SortId) (n : SelId) → field_among d g i k s ≡ Some n → IsSelector d n
  field_among_inside g i k declared s n e = by (ctor_among d (Generic g i) s) e
    where
      at_ctor : (m : CtorId) (o : Option Constructor) → slice_get d.ctors m.0 ≡ o → option_and_then (λ (ctor : Constructor). slice_get ctor.sels k) o ≡ Some n → IsSelector d n
      at_ctor m None at f = absurd (none-some n f)
      at_ctor m (Some ctor) at f = sels_inside m ctor at k n f

      by : (o : Option CtorId) → option_and_then (nth_sel d k) o ≡ Some n → IsSelector d n
      by None f = absurd (none-some n f)
      by (Some m) f = at_ctor m (slice_get d.ctors m.0) refl f

  -- ---- the sorts of a symbol

  pub arguments_same : (s : Symbol) → IsSymbol d s → argument_sorts later s ≡ argument_sorts d s
  arguments_same (Ctor k) is = fields_same k is
  arguments_same (Sel s) is = ap (λ t. t ∷ []) (argument_same s is)
  arguments_same (Fun f) is = ap (λ (fs : List Function). args_with (slice_get fs f.0)) grows.functions
  arguments_same (Def k) is = ap (λ (fs : List Function). args_with (slice_get fs k.0)) grows.definitions
  arguments_same (GenCtor g i) is = refl
  arguments_same (GenSel g i k) is = refl

  pub result_same : (s : Symbol) → IsSymbol d s → result_sort later s ≡ result_sort d s
  result_same (Ctor k) is = ctor_sort_same k is
  result_same (Sel s) is = field_same s is
  result_same (Fun f) is = ap (λ (fs : List Function). result_with (slice_get fs f.0)) grows.functions
  result_same (Def k) is = ap (λ (fs : List Function). result_with (slice_get fs k.0)) grows.definitions
  result_same (GenCtor g i) is = refl
  result_same (GenSel g i k) is = refl

  pub has_bool : IsSort d bool_sort
  has_bool = by d.sorts c.first_sort
    where
      by : (sorts : List Sort) → take 1 sorts ≡ start.sorts → 0 < length sorts
      by [] e = absurd (omega (arith, ap length e))
      by (s ∷ sorts) e = omega arith

  pub result_inside : (s : Symbol) → IsSymbol d s → IsSort d (result_sort d s)
  result_inside (Ctor k) is = ctor_sort_inside k is
  result_inside (Sel s) is = field_inside s is
  result_inside (Fun f) is = let at = slice_get-there d.functions f.0 is in subst (IsSort d) (ap result_with (sym at.1)) (c.over_sorts f.0 at.0 at.1).1
  result_inside (Def k) is = let at = slice_get-there d.definitions k.0 is in subst (IsSort d) (ap result_with (sym at.1)) (c.definitions_over_sorts k.0 at.0 at.1).1
  result_inside (GenCtor g i) is = has_bool
  result_inside (GenSel g i k) is = has_bool

  pub symbol_inside : (name : List ℕ) (s : Symbol) → symbol_of d name ≡ Some s → IsSymbol d s
  symbol_inside name s is = symbol_there d name s (subst (ResolvesTo d name) is (resolves d c name))

  of_unless : (o : Option NamedCtor) (k : NamedCtor) → unless_of_bool o ≡ Some k → o ≡ Some k
  of_unless None k e = absurd (none-some k e)
  of_unless (Some c) k e = by (is_of_bool c) e
    where
      by : (b : Bool) → (if b then None else Some c) ≡ Some k → Some c ≡ Some k
      by true f = absurd (none-some k f)
      by false f = f

  pub named_inside : (name : List ℕ) (k : NamedCtor) → ctor_named d name ≡ Some k → IsNamedCtor d k
  named_inside name k e = by (symbol_of d name) refl e
    where
      by : (o : Option Symbol) → symbol_of d name ≡ o → as_ctor o ≡ Some k → IsNamedCtor d k
      by None is f = absurd (none-some k f)
      by (Some (Ctor n)) is f = subst (IsNamedCtor d) (same_Some (Plain n) k f) (symbol_inside name (Ctor n) is)
      by (Some (GenCtor g i)) is f = subst (IsNamedCtor d) (same_Some (Generic g i) k f) (symbol_inside name (GenCtor g i) is)
      by (Some (Sel s)) is f = absurd (none-some k f)
      by (Some (Fun n)) is f = absurd (none-some k f)
      by (Some (Def n)) is f = absurd (none-some k f)
      by (Some (GenSel g i n)) is f = absurd (none-some k f)

  pub tester_inside : (name : List ℕ) (k : NamedCtor) → tester_named d name ≡ Some k → IsNamedCtor d k
  tester_inside name k e = by (bytes_eq (take 3 name) (codes "is-")) e
    where
      by : (b : Bool) → (if b then unless_of_bool (ctor_named d (drop 3 name)) else None) ≡ Some k → IsNamedCtor d k
      by true f = named_inside (drop 3 name) k (of_unless (ctor_named d (drop 3 name)) k f)
      by false f = absurd (none-some k f)

  -- ---- sorts in the list

  pub there_stays : (e : Expression) (s : SortId) → sort_there d e ≡ Ok s → (sort_there later e ≡ Ok s) × IsSort d s
  there_stays e s is = by (number_among d.origins e) refl is
    where
      by : (o : Option ℕ) → number_among d.origins e ≡ o → there e o ≡ Ok s → (sort_there later e ≡ Ok s) × IsSort d s
      by None at f = absurd cc
      by (Some n) at f =
          let found = number_found d.origins e n at in
          let same : (let x : SortId = record { 0 = n } in x) ≡ s = cc in (
            ap (there e) (ap (λ (xs : List Expression). number_among xs e) grows.extends.origins.1 ∙ number_longer d.origins grows.extends.origins.0 e n at) ∙ f,
            subst (IsSort d) same (omega (arith, slice_get_within d.origins n e found, c.origins.one_each)),
          )

  -- ---- what is declared is declared still

  generic_declared : (g : GenId) (i : ℕ) (ctor : Spelling) → IsGenericCtor d g i ctor → IsGenericCtor later g i ctor
  generic_declared g i ctor known = (
    (known.0.0, (ap (λ (x : Declared). slice_get x.heads g.0) grows.declared ∙ known.0.1.0, known.0.1.1)),
    (known.1.0, begins_same d.spellings later.spellings grows.extends.spellings g.0 (slice_get_within d.spellings g.0 known.1.0 known.1.1) ∙ known.1.1, known.1.2),
  )

  pub symbol_declared : (s : Symbol) → IsSymbol d s → IsSymbol later s
  symbol_declared (Ctor k) is = begins_within d.ctors later.ctors grows.extends.ctors k.0 is
  symbol_declared (Sel s) is = begins_within d.sels later.sels grows.extends.sels s.0 is
  symbol_declared (Fun f) is = subst (λ (fs : List Function). f.0 < length fs) (sym grows.functions) is
  symbol_declared (Def k) is = subst (λ (fs : List Function). k.0 < length fs) (sym grows.definitions) is
  symbol_declared (GenCtor g i) is = (is.0, generic_declared g i is.0 is.1)
  symbol_declared (GenSel g i k) is = (is.0, generic_declared g i is.0 is.1, is.2)

  pub sort_declared : (s : SortId) → IsSort d s → IsSort later s
  sort_declared s is = begins_within d.sorts later.sorts grows.extends.sorts s.0 is

  pub scope_declared : (scope : List Variable) → ScopeIn d scope → ScopeIn later scope
  scope_declared [] inside = tt
  scope_declared (v ∷ scope) inside = (sort_declared v.sort inside.0, scope_declared scope inside.1)
