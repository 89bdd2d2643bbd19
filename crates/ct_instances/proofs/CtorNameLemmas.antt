-- Constructors of one sort have different names, and whether their fields determine the sort is what their sort or generic says.
use Rattle.std.proofs.Common.{◌≡◌, ◌↔◌, ℕ, zero, suc, ◌+◌, ◌-◌, ◌<◌, ◌≤◌, ◌⊎◌, ◌==◌, if◌then◌else◌, IsTrue, Bool, true, false, cond, nat_lt, List, [], ◌∷◌, ◌++◌, codes, length, map, Option, Some, None, option_map, unwrap_or, slice_get, position, refl, sym, ap, subst, ◌∙◌, inl, inr, ⊎_elim, arith}
use Rattle.std.specs.List.{AllZip, list_all, list_any, range_with_len, position_or_len}
use Rattle.std.specs.Option.{option_and_then}
use Rattle.std.proofs.lemmas.Bool.Decides.{Decides-ltb, Decides-eqb}
use Rattle.std.proofs.lemmas.Option.{none-some, same_Some, slice_get_within}
use Rattle.ct_lemmas.proofs.Lists.{slice_get-map_at, slice_get-there}
use Rattle.ct_lemmas.proofs.Numbers.{same_or_other}
use Rattle.ct_lemmas.proofs.Pairs.{AllZip-at_left}
use Rattle.ct_lemmas.proofs.Prefixes.{slice_get-take}
use Rattle.ct_generics.specs.declared.kind.Kind.{Kind}
use Rattle.ct_generics.specs.declared.kind.Kind.TheVariants.{Bool as OfBool, Free, Data, Codata}
use Rattle.ct_generics.specs.Expression.{Expression, parameter, named, applied, head_of}
use Rattle.ct_generics.specs.Declarations.{Head, Takes}
use Rattle.ct_generics.specs.Occurrence.{OccurAll}
use Rattle.ct_generics.specs.Reach.{fields_of}
use Rattle.ct_sorts.specs.declared.ids.SortId.{SortId}
use Rattle.ct_sorts.specs.declared.ids.CtorId.{CtorId}
use Rattle.ct_sorts.specs.declared.ids.GenId.{GenId}
use Rattle.ct_sorts.specs.declared.ids.Symbol.TheVariants.{Ctor}
use Rattle.ct_sorts.specs.declared.spelling.Spelling.{Spelling}
use Rattle.ct_sorts.specs.Consistent.{IsConsistent}
use Rattle.ct_sorts.specs.Declarations.{Declarations, Sort, Constructor, IsSort, IsConstructor, head_symbols, function_names, definition_names}
use Rattle.ct_sorts.specs.Determined.{IsCtorAt, DetermineArguments}
use Rattle.ct_sorts.specs.Heads.{NamesEach, FitsSpelling}
use Rattle.ct_sorts.specs.Instances.{IsOrigin}
use Rattle.ct_sorts.specs.Lookup.{IsPlainCtor, IsGenericCtor}
use Rattle.ct_sorts.specs.Shapes.{spelling_of, shape_of}
use Rattle.ct_sorts.proofs.HeadLemmas.{head_there}
use Rattle.ct_sorts.proofs.MadeAtLemmas.{ctor_of_sort, sort_is_made}
use Rattle.ct_sorts.proofs.PlaceLemmas.{IsPlaced, one_place, AreDistinct-left}
use Rattle.ct_sorts.proofs.ShapeLemmas.{ctor_shapes-name}
use Rattle.ct_sorts.proofs.StructureLemmas.{of_their_sorts}
use Rattle.ct_sorts.proofs.SymbolLemmas.{one_symbol}
use Rattle.ct_instances.specs.declared.among.NamedCtor.TheVariants.{Generic}
use Rattle.ct_instances.specs.Among.{origin_of, is_head, nth_ctor, ctor_among}
use Rattle.ct_instances.specs.Fields.{occurs, is_determined, sort_of_ctor, index_among, is_ctor_determined}
use Rattle.ct_instances.proofs.OccurLemmas.{determined_is}

-- each of so many parameters occurs in the row
abbrev determined : List Expression → ℕ → Bool
determined row n = list_all (λ j. list_any (occurs j) row) (range_with_len 0 n)

abbrev bool_head : Head
bool_head = record { name = codes "Bool"; kind = OfBool; params = 0; ctors = [] }

-- each sort is something
pub origin_at : (d : Declarations) → IsConsistent d → (s : SortId) → IsSort d s → IsOrigin d s (origin_of d s)
origin_at d consistent s within =
    let e = slice_get-there d.origins s.0 (omega (arith, consistent.origins.one_each, within)) in
    e.1 ∙ ap (λ (x : Expression). Some x) (sym (ap (λ o. unwrap_or o (named 0)) e.1))

-- ---- names

-- what stands among the names of the constructors of a sort
spelling_row : (d : Declarations) (e : Expression) (i : ℕ) (one : Spelling) → slice_get (spelling_of d.spellings e) i ≡ Some one → (h : ℕ) × (ctors : List Spelling) × (head_of e ≡ Some h) × (slice_get d.spellings h ≡ Some ctors) × (slice_get ctors i ≡ Some one)
spelling_row d e i one at = by_head (head_of e) refl at
  where
    by_row : (h : ℕ) (o : Option (List Spelling)) → head_of e ≡ Some h → slice_get d.spellings h ≡ o → slice_get (unwrap_or o []) i ≡ Some one → (h : ℕ) × (ctors : List Spelling) × (head_of e ≡ Some h) × (slice_get d.spellings h ≡ Some ctors) × (slice_get ctors i ≡ Some one)
    by_row h None is e at = absurd (none-some one at)
    by_row h (Some ctors) is e at = (h, ctors, is, e, at)

    by_head : (o : Option ℕ) → head_of e ≡ o → slice_get (unwrap_or (option_and_then (slice_get d.spellings) o) []) i ≡ Some one → (h : ℕ) × (ctors : List Spelling) × (head_of e ≡ Some h) × (slice_get d.spellings h ≡ Some ctors) × (slice_get ctors i ≡ Some one)
    by_head None is at = absurd (none-some one at)
    by_head (Some h) is at = by_row h (slice_get d.spellings h) is refl at

module _ (d : Declarations) (consistent : IsConsistent d) where
  -- a constructor of a sort but Bool has the name of its sort or generic
  placed : (s i : ℕ) (e : Expression) (id : CtorId) (ctor : Constructor) (sort : Sort) → slice_get d.origins (1 + s) ≡ Some e → slice_get d.sorts (1 + s) ≡ Some sort → slice_get sort.ctors i ≡ Some id → slice_get d.ctors id.0 ≡ Some ctor → (h : ℕ) × (head_of e ≡ Some h) × IsPlaced d h i 0 ctor.name
  placed s i e id ctor sort origin sort_at at there =
      let made = sort_is_made d consistent.origins s e origin in
      let same_sort : made.0 ≡ sort = same_Some _ _ (sym made.1 ∙ sort_at) in
      let few : i < length (shape_of d.declared.heads d.spellings e).ctors = subst (λ n. i < n) (ap (λ (t : Sort). length t.ctors) (sym same_sort) ∙ made.4) (slice_get_within sort.ctors i id at) in
      let t = slice_get-there (shape_of d.declared.heads d.spellings e).ctors i few in
      let own = ctor_of_sort d consistent.origins s e origin i t.0 t.1 in
      let same_own : own.sort ≡ sort = same_Some _ _ (sym own.sort_at ∙ sort_at) in
      let same_id : own.id ≡ id = same_Some _ _ (sym own.at ∙ ap (λ (x : Sort). slice_get x.ctors i) same_own ∙ at) in
      let same_ctor : own.ctor ≡ ctor = same_Some _ _ (sym own.there ∙ ap (λ (k : CtorId). slice_get d.ctors k.0) same_id ∙ there) in
      let spelled = ctor_shapes-name (spelling_of d.spellings e) (fields_of d.declared.heads e) i t.0 t.1 in
      let row = spelling_row d e i spelled.0 spelled.1 in
      (row.0, row.2, record { ctors = row.1; ctor = spelled.0; at_head = row.3; at_ctor = row.4; at_name = ap Some (spelled.2 ∙ sym own.name_is ∙ ap (λ (k : Constructor). k.name) same_ctor) })

  first_origin : slice_get d.origins 0 ≡ Some (named 0)
  first_origin = slice_get-take 1 d.origins 0 (named 0) (ap (λ (xs : List Expression). slice_get xs 0) consistent.first_origin)

  -- constructors of one sort that have one name are one
  pub one_of_sort : (b c : CtorId) (first second : Constructor) → slice_get d.ctors b.0 ≡ Some first → slice_get d.ctors c.0 ≡ Some second → first.sort ≡ second.sort → first.name ≡ second.name → b ≡ c
  one_of_sort b c first second at_b at_c sorts names =
      let own_b = of_their_sorts d consistent b.0 first at_b in
      let own_c = of_their_sorts d consistent c.0 second at_c in
      let same_sort : own_c.0 ≡ own_b.0 = same_Some own_c.0 own_b.0 (sym own_c.2 ∙ ap (λ (t : SortId). slice_get d.sorts t.0) (sym sorts) ∙ own_b.2) in
      by first.sort.0 refl own_b.0 own_b.1 own_c.1 own_b.2 own_b.3 (ap (λ (t : Sort). slice_get t.ctors own_c.1) (sym same_sort) ∙ own_c.3)
    where
      named_c : (name : List ℕ) (k : Constructor) (id : CtorId) → slice_get d.ctors id.0 ≡ Some k → k.name ≡ name → slice_get (map (λ (x : Constructor). x.name) d.ctors) id.0 ≡ Some name
      named_c name k id at is = slice_get-map_at (λ (x : Constructor). x.name) d.ctors id.0 k at ∙ ap Some is

      symbol_same : Ctor c ≡ Ctor b → b ≡ c
      symbol_same e = cc

      by : (s : ℕ) → first.sort.0 ≡ s → (sort : Sort) (i j : ℕ) → slice_get d.sorts first.sort.0 ≡ Some sort → slice_get sort.ctors i ≡ Some (record { 0 = b.0 }) → slice_get sort.ctors j ≡ Some (record { 0 = c.0 }) → b ≡ c
      by zero e sort i j at_s at_i at_j =
          let origin : slice_get d.origins first.sort.0 ≡ Some (named 0) = ap (slice_get d.origins) e ∙ first_origin in
          let found = one_symbol d first.name (Some (Ctor b)) (Some (Ctor c)) consistent (named_c first.name first b at_b refl, (first, at_b, (0, origin))) (named_c first.name second c at_c (sym names), (second, at_c, (0, ap (λ (t : SortId). slice_get d.origins t.0) (sym sorts) ∙ origin))) in
          symbol_same (same_Some (Ctor c) (Ctor b) found)
      by (suc s) e sort i j at_s at_i at_j =
          let number : first.sort.0 ≡ 1 + s = omega (arith, e) in
          let origin = slice_get-there d.origins (1 + s) (omega (arith, number, consistent.origins.one_each, slice_get_within d.sorts first.sort.0 sort at_s)) in
          let at : slice_get d.sorts (1 + s) ≡ Some sort = ap (slice_get d.sorts) (sym number) ∙ at_s in
          let p = placed s i origin.0 (record { 0 = b.0 }) first sort origin.1 at at_i at_b in
          let q = placed s j origin.0 (record { 0 = c.0 }) second sort origin.1 at at_j at_c in
          let distinct = AreDistinct-left (head_symbols d.spellings) (function_names d ++ definition_names d) consistent.distinct in
          let place = one_place d p.0 i 0 q.0 j 0 first.name distinct p.2 (subst (λ name. IsPlaced d q.0 j 0 name) (sym names) q.2) in
          let same : record { 0 = b.0 } ≡ record { 0 = c.0 } = same_Some _ _ (sym at_i ∙ ap (slice_get sort.ctors) place.1 ∙ at_j) in
          same

  -- the sort of a constructor that is there is one
  pub sort_of_ctor_within : (c : CtorId) → IsConstructor d c → IsSort d (sort_of_ctor d c)
  sort_of_ctor_within c within =
      let ctor = slice_get-there d.ctors c.0 within in
      let own = of_their_sorts d consistent c.0 ctor.0 ctor.1 in
      let same : ctor.0.sort ≡ sort_of_ctor d c = ap (λ (o : Option Constructor). unwrap_or (option_map (λ (k : Constructor). k.sort) o) (record { 0 = 0 })) (sym ctor.1) in
      slice_get_within d.sorts (sort_of_ctor d c).0 own.0 (ap (λ (t : SortId). slice_get d.sorts t.0) (sym same) ∙ own.2)

  -- ---- fields that determine the sort

  head_takes : (e : Expression) (m : ℕ) → Takes d.declared.heads 0 m e → (h : ℕ) × (head : Head) × (head_of e ≡ Some h) × (slice_get d.declared.heads h ≡ Some head)
  head_takes (parameter i) m takes = absurd (omega (arith, takes.1))
  head_takes (named h) m takes = let head = head_there (slice_get d.declared.heads h) m takes in (h, head.0, refl, head.1)
  head_takes (applied e a) m takes = head_takes e (suc m) takes.0

  first_plain : (h : ℕ) (head : Head) → h ≡ 0 → slice_get d.declared.heads h ≡ Some head → head.params ≡ 0
  first_plain h head is at =
      let first : slice_get d.declared.heads 0 ≡ Some bool_head = slice_get-take 1 d.declared.heads 0 bool_head (ap (λ (xs : List Head). slice_get xs 0) consistent.first_head) in
      sym (ap (λ (k : Head). k.params) (same_Some bool_head head (sym first ∙ ap (slice_get d.declared.heads) (sym is) ∙ at)))

  -- a head that has no such row of fields but has names of constructors there has no parameters
  no_row : (h i : ℕ) (head : Head) (ctors : List Spelling) (one : Spelling) → slice_get d.declared.heads h ≡ Some head → slice_get d.spellings h ≡ Some ctors → slice_get ctors i ≡ Some one → slice_get head.ctors i ≡ None → head.params ≡ 0
  no_row h i head ctors one at at_s at_i missing = by head.kind (consistent.heads.spelled h head ctors at at_s)
    where
      by_rows : AllZip NamesEach ctors head.ctors → head.params ≡ 0
      by_rows all = let row = AllZip-at_left NamesEach ctors head.ctors i one all at_i in absurd (none-some row.0 (sym missing ∙ row.1))

      by : (kind : Kind) → FitsSpelling h kind head.ctors ctors → head.params ≡ 0
      by OfBool fits = first_plain h head fits at
      by Free fits = absurd (none-some one (ap (λ (xs : List Spelling). slice_get xs i) (sym fits.1) ∙ at_i))
      by Data fits = by_rows fits.1
      by Codata fits = by_rows fits.1

  -- the first constructor with this number
  abbrev IsFound : CtorId → List CtorId → Type 0
  IsFound c cs = (position_or_len (λ (k : CtorId). k.0 == c.0) cs < length cs) × (slice_get cs (position_or_len (λ (k : CtorId). k.0 == c.0) cs) ≡ Some c)

  passes : (c x : CtorId) (cs : List CtorId) → (x.0 == c.0) ≡ true → IsFound c (x ∷ cs)
  passes c x cs e =
      let same : x.0 ≡ c.0 = (Decides-eqb x.0 c.0).0 e in
      let first : position_or_len (λ (k : CtorId). k.0 == c.0) (x ∷ cs) ≡ 0 = rw e refl in
      (omega (arith, first), ap (slice_get (x ∷ cs)) first ∙ ap (λ (n : ℕ). Some (record { 0 = n })) same)

  first : (c x : CtorId) (cs : List CtorId) → x ≡ c → IsFound c (x ∷ cs)
  first c x cs same = passes c x cs ((Decides-eqb x.0 c.0).1 (ap (λ (k : CtorId). k.0) same))

  later : (c x : CtorId) (cs : List CtorId) → IsFound c cs → (b : Bool) → (x.0 == c.0) ≡ b → IsFound c (x ∷ cs)
  later c x cs rest true e = passes c x cs e
  later c x cs rest false e =
      let next : position_or_len (λ (k : CtorId). k.0 == c.0) (x ∷ cs) ≡ suc (position_or_len (λ (k : CtorId). k.0 == c.0) cs) = rw e (omega arith) in
      (omega (arith, next, rest.0), ap (slice_get (x ∷ cs)) next ∙ rest.1)

  found : (c : CtorId) (cs : List CtorId) (i : ℕ) → slice_get cs i ≡ Some c → IsFound c cs
  found c [] i at = absurd (none-some c at)
  found c (x ∷ cs) zero at = first c x cs (same_Some x c at)
  found c (x ∷ cs) (suc i) at = later c x cs (found c cs i at) (x.0 == c.0) refl

  index_found : (c : CtorId) (s : SortId) (sort : Sort) (i : ℕ) → slice_get d.sorts s.0 ≡ Some sort → slice_get sort.ctors i ≡ Some c → slice_get sort.ctors (index_among d s c) ≡ Some c
  index_found c s sort i at at_i =
      let first = found c sort.ctors i at_i in
      let below : nat_lt (position_or_len (λ (k : CtorId). k.0 == c.0) sort.ctors) (length sort.ctors) ≡ true = (Decides-ltb (position_or_len (λ (k : CtorId). k.0 == c.0) sort.ctors) (length sort.ctors)).1 first.0 in
      let place : position (λ (k : CtorId). k.0 == c.0) sort.ctors ≡ Some (position_or_len (λ (k : CtorId). k.0 == c.0) sort.ctors) = ap (λ (b : Bool). cond b (Some (position_or_len (λ (k : CtorId). k.0 == c.0) sort.ctors)) None) below in
      let listed : unwrap_or (option_map (λ (t : Sort). t.ctors) (slice_get d.sorts s.0)) [] ≡ sort.ctors = ap (λ (o : Option Sort). unwrap_or (option_map (λ (t : Sort). t.ctors) o) []) at in
      let number : index_among d s c ≡ position_or_len (λ (k : CtorId). k.0 == c.0) sort.ctors = ap (λ (cs : List CtorId). unwrap_or (position (λ (k : CtorId). k.0 == c.0) cs) 0) listed ∙ ap (λ (o : Option ℕ). unwrap_or o 0) place in
      ap (slice_get sort.ctors) number ∙ first.1

  -- the names of a constructor by its sort and place
  spelled_at : (s : ℕ) (e : Expression) (h i : ℕ) (head : Head) (sort : Sort) (c : CtorId) (ctor : Constructor) → slice_get d.origins s ≡ Some e → head_of e ≡ Some h → slice_get d.declared.heads h ≡ Some head → slice_get d.sorts s ≡ Some sort → slice_get sort.ctors i ≡ Some c → slice_get d.ctors c.0 ≡ Some ctor → slice_get head.ctors i ≡ None → head.params ≡ 0
  spelled_at zero e h i head sort c ctor origin is at at_s at_i there missing =
      let first : named 0 ≡ e = same_Some (named 0) e (sym first_origin ∙ origin) in
      first_plain h head (sym (same_Some 0 h (ap head_of first ∙ is))) at
  spelled_at (suc s) e h i head sort c ctor origin is at at_s at_i there missing =
      let plus : suc s ≡ 1 + s = omega arith in
      let p = placed s i e c ctor sort (ap (slice_get d.origins) (sym plus) ∙ origin) (ap (slice_get d.sorts) (sym plus) ∙ at_s) at_i there in
      let same : p.0 ≡ h = same_Some p.0 h (sym p.1 ∙ is) in
      no_row h i head p.2.ctors p.2.ctor at (ap (slice_get d.spellings) (sym same) ∙ p.2.at_head) p.2.at_ctor missing

  -- what tells whether the fields determine the sort is the test
  pub determined_same : (c : CtorId) → IsConstructor d c → (b : Bool) → ((h i : ℕ) (head : Head) → IsCtorAt d c h i → slice_get d.declared.heads h ≡ Some head → IsTrue b ↔ DetermineArguments head i) → b ≡ is_ctor_determined d c
  determined_same c within b tells =
      let ctor = slice_get-there d.ctors c.0 within in
      let s = sort_of_ctor d c in
      let of_sort : s ≡ ctor.0.sort = ap (λ (o : Option Constructor). unwrap_or (option_map (λ (k : Constructor). k.sort) o) (record { 0 = 0 })) ctor.1 in
      let own = of_their_sorts d consistent c.0 ctor.0 ctor.1 in
      let sort_at : slice_get d.sorts s.0 ≡ Some own.0 = ap (λ (t : SortId). slice_get d.sorts t.0) of_sort ∙ own.2 in
      let origin = origin_at d consistent s (slice_get_within d.sorts s.0 own.0 sort_at) in
      let head = head_takes (origin_of d s) 0 (consistent.origins.sorts s.0 (origin_of d s) origin) in
      let i = index_among d s c in
      let at = index_found c s own.0 own.1 sort_at own.3 in
      let place : IsCtorAt d c head.0 i = record { s = s.0; sort = own.0; origin = origin_of d s; sort_at = sort_at; origin_at = origin; head_is = head.2; at = at } in
      let both = tells head.0 i head.1 place head.3 in
      by_row head.0 i head.1 head.3 both (slice_get head.1.ctors i) refl (λ missing. spelled_at s.0 (origin_of d s) head.0 i head.1 own.0 c ctor.0 origin head.2 head.3 sort_at at ctor.1 missing)
      ∙ ap (λ (o : Option ℕ). is_determined d (record { 0 = unwrap_or o 0 }) i) (sym head.2)
    where
      by_row : (h i : ℕ) (head : Head) → slice_get d.declared.heads h ≡ Some head → (IsTrue b ↔ DetermineArguments head i) → (o : Option (List Expression)) → slice_get head.ctors i ≡ o → (slice_get head.ctors i ≡ None → head.params ≡ 0) → b ≡ is_determined d (record { 0 = h }) i
      by_row h i head at both (Some row) at_row few =
          determined_is row head.params b (λ t. both.0 t row at_row) (λ all. both.1 (λ r at_r. subst (OccurAll head.params) (same_Some row r (sym at_row ∙ at_r)) all))
          ∙ sym (ap (λ (o : Option Head). determined (unwrap_or (option_and_then (λ (k : Head). slice_get k.ctors i) o) []) (unwrap_or (option_map (λ (k : Head). k.params) o) 0)) at ∙ ap (λ (o : Option (List Expression)). determined (unwrap_or o []) head.params) at_row)
      by_row h i head at both None at_row few =
          both.1 (λ r at_r. absurd (none-some r (sym at_row ∙ at_r)))
          ∙ sym (ap (λ (o : Option Head). determined (unwrap_or (option_and_then (λ (k : Head). slice_get k.ctors i) o) []) (unwrap_or (option_map (λ (k : Head). k.params) o) 0)) at ∙ ap (λ (n : ℕ). determined (unwrap_or (slice_get head.ctors i) []) n) (few at_row))

-- ---- constructors of sorts without arguments, and of instances

-- a constructor of an instance, by its generic
pub record IsOfGeneric (d : Declarations) (c : CtorId) (name : List ℕ) : Type 0 where
  pub g : GenId
  pub i : ℕ
  pub spelling : Spelling
  pub known : IsGenericCtor d g i spelling
  pub named_so : spelling.name ≡ name
  pub determined : is_ctor_determined d c ≡ is_determined d g i
  pub among : ctor_among d (Generic g i) (sort_of_ctor d c) ≡ Some c

module _ (d : Declarations) (consistent : IsConsistent d) where
  -- a head with an argument has parameters
  has_params : (e : Expression) (m : ℕ) → Takes d.declared.heads 0 m e → (h : ℕ) (head : Head) → head_of e ≡ Some h → slice_get d.declared.heads h ≡ Some head → m ≤ head.params
  has_params (parameter j) m takes h head is at = absurd (omega (arith, takes.1))
  has_params (named k) m takes h head is at =
      let own : option_map (λ (x : Head). x.params) (Some head) ≡ Some m = ap (option_map (λ (x : Head). x.params)) (sym at ∙ ap (slice_get d.declared.heads) (sym (same_Some k h is))) ∙ takes in
      let same : head.params ≡ m = same_Some head.params m own in
      omega (arith, same)
  has_params (applied f a) m takes h head is at =
      let more = has_params f (suc m) takes.0 h head is at in
      omega (arith, more)

  pub plain_or_generic : (c : CtorId) (ctor : Constructor) → slice_get d.ctors c.0 ≡ Some ctor → (IsPlainCtor d c × (is_ctor_determined d c ≡ true)) ⊎ IsOfGeneric d c ctor.name
  plain_or_generic c ctor at = by (origin_of d s) refl
    where
      s : SortId
      s = sort_of_ctor d c

      of_sort : s ≡ ctor.sort
      of_sort = ap (λ (o : Option Constructor). unwrap_or (option_map (λ (k : Constructor). k.sort) o) (record { 0 = 0 })) at

      own : (sort : Sort) × (index : ℕ) × (slice_get d.sorts ctor.sort.0 ≡ Some sort) × (slice_get sort.ctors index ≡ Some (record { 0 = c.0 }))
      own = of_their_sorts d consistent c.0 ctor at

      sort_at : slice_get d.sorts s.0 ≡ Some own.0
      sort_at = ap (λ (t : SortId). slice_get d.sorts t.0) of_sort ∙ own.2

      origin : IsOrigin d s (origin_of d s)
      origin = origin_at d consistent s (slice_get_within d.sorts s.0 own.0 sort_at)

      takes : Takes d.declared.heads 0 0 (origin_of d s)
      takes = consistent.origins.sorts s.0 (origin_of d s) origin

      here : slice_get own.0.ctors (index_among d s c) ≡ Some c
      here = index_found d consistent c s own.0 own.1 sort_at own.3

      head : (h : ℕ) × (head : Head) × (head_of (origin_of d s) ≡ Some h) × (slice_get d.declared.heads h ≡ Some head)
      head = head_takes d consistent (origin_of d s) 0 takes

      determined_so : is_ctor_determined d c ≡ is_determined d (record { 0 = head.0 }) (index_among d s c)
      determined_so = ap (λ (o : Option ℕ). is_determined d (record { 0 = unwrap_or o 0 }) (index_among d s c)) head.2

      by : (e : Expression) → origin_of d s ≡ e → (IsPlainCtor d c × (is_ctor_determined d c ≡ true)) ⊎ IsOfGeneric d c ctor.name
      by (parameter j) is = absurd (let t = subst (Takes d.declared.heads 0 0) is takes in omega (arith, t.1))
      by (named k) is =
          let same : head.0 ≡ k = same_Some head.0 k (sym head.2 ∙ ap head_of is) in
          let params : head.1.params ≡ 0 = same_Some head.1.params 0 (ap (option_map (λ (x : Head). x.params)) (sym head.3 ∙ ap (slice_get d.declared.heads) same) ∙ subst (Takes d.declared.heads 0 0) is takes) in
          inl (
            (ctor, at, (k, ap (λ (t : SortId). slice_get d.origins t.0) (sym of_sort) ∙ origin ∙ ap (λ (x : Expression). Some x) is)),
            determined_so
                ∙ ap (λ (o : Option Head). determined (unwrap_or (option_and_then (λ (x : Head). slice_get x.ctors (index_among d s c)) o) []) (unwrap_or (option_map (λ (x : Head). x.params) o) 0)) head.3
                ∙ ap (λ (n : ℕ). determined (unwrap_or (slice_get head.1.ctors (index_among d s c)) []) n) params,
          )
      by (applied f a) is =
          let known : Takes d.declared.heads 0 0 (applied f a) = subst (Takes d.declared.heads 0 0) is takes in
          let more : 1 ≤ head.1.params = has_params f 1 known.0 head.0 head.1 (ap head_of (sym is) ∙ head.2) head.3 in
          let later = not_first s.0 is in
          let p = placed d consistent (s.0 - 1) (index_among d s c) (origin_of d s) c ctor own.0 (ap (slice_get d.origins) (sym later) ∙ origin) (ap (slice_get d.sorts) (sym later) ∙ sort_at) here at in
          let same : p.0 ≡ head.0 = same_Some p.0 head.0 (sym p.1 ∙ head.2) in
          inr (record {
            g = record { 0 = head.0 };
            i = index_among d s c;
            spelling = p.2.ctor;
            known = ((head.1, (head.3, more)), (p.2.ctors, ap (slice_get d.spellings) (sym same) ∙ p.2.at_head, p.2.at_ctor));
            named_so = same_Some p.2.ctor.name ctor.name p.2.at_name;
            determined = determined_so;
            among = among_there head.0 (index_among d s c) head.2 ∙ ap (option_and_then (λ (sort : Sort). slice_get sort.ctors (index_among d s c))) sort_at ∙ here;
          })
        where
          not_first : (n : ℕ) → origin_of d s ≡ applied f a → s.0 ≡ 1 + (s.0 - 1)
          not_first n is_applied = ⊎_elim
              (λ (zero_is : s.0 ≡ 0). absurd (first_is (same_Some (named 0) (applied f a) (sym (first_origin d consistent) ∙ ap (slice_get d.origins) (sym zero_is) ∙ origin ∙ ap (λ (x : Expression). Some x) is_applied))))
              (λ other. omega (arith, other))
              (same_or_other s.0 0)
            where
              first_is : named 0 ≡ applied f a → ⊥
              first_is e = cc

          among_there : (h i : ℕ) → head_of (origin_of d s) ≡ Some h → ctor_among d (Generic (record { 0 = h }) i) s ≡ nth_ctor d s i
          among_there h i is_head_of =
              ap (λ (o : Option ℕ). if is_head h o then nth_ctor d s i else None) is_head_of
              ∙ ap (λ (b : Bool). if b then nth_ctor d s i else None) ((Decides-eqb h h).1 refl)
