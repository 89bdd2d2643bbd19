-- Constructors of instances by those of their generics.
use Rattle.std.proofs.Common.{◌≡◌, ℕ, zero, suc, ◌+◌, ◌-◌, ◌<◌, ◌⊎◌, ◌==◌, Bool, true, false, not, nat_eq, if◌then◌else◌, codes, List, [], ◌∷◌, length, unwrap_or, option_map, Option, Some, None, slice_get, refl, sym, ◌∙◌, ap, ap₂, subst, inl, inr, arith}
use Rattle.std.specs.List.{AllZip}
use Rattle.std.specs.Option.{option_and_then}
use Rattle.std.proofs.lemmas.Bool.{true≢false}
use Rattle.std.proofs.lemmas.Bool.Decides.{Decides-eqb}
use Rattle.std.proofs.lemmas.Option.{none-some, same_Some}
use Rattle.ct_lemmas.proofs.Booleans.{not_twice}
use Rattle.ct_lemmas.proofs.Lists.{slice_get-there}
use Rattle.ct_lemmas.proofs.Numbers.{same_or_other}
use Rattle.ct_lemmas.proofs.Pairs.{AllZip-at_left}
use Rattle.ct_lemmas.proofs.Prefixes.{slice_get-take}
use Rattle.ct_generics.specs.Expression.{Expression, named, head_of}
use Rattle.ct_generics.specs.Declarations.{Head}
use Rattle.ct_generics.specs.Reach.{fields_of}
use Rattle.ct_generics.specs.declared.kind.Kind.{Kind}
use Rattle.ct_generics.specs.declared.kind.Kind.TheVariants.{Bool as OfBool, Free, Data, Codata}
use Rattle.ct_sorts.specs.declared.ids.SortId.{SortId}
use Rattle.ct_sorts.specs.declared.ids.CtorId.{CtorId}
use Rattle.ct_sorts.specs.declared.ids.SelId.{SelId}
use Rattle.ct_sorts.specs.declared.ids.GenId.{GenId}
use Rattle.ct_sorts.specs.declared.ids.Symbol.TheVariants.{GenCtor, GenSel}
use Rattle.ct_sorts.specs.declared.spelling.Spelling.{Spelling}
use Rattle.ct_sorts.specs.Consistent.{IsConsistent}
use Rattle.ct_sorts.specs.Declarations.{Declarations, Sort, Constructor, IsSort}
use Rattle.ct_sorts.specs.Heads.{NamesEach, FitsSpelling}
use Rattle.ct_sorts.specs.Instances.{IsOrigin}
use Rattle.ct_sorts.specs.Lookup.{IsGenericHead, IsGenericCtor, IsSymbol}
use Rattle.ct_sorts.specs.MadeAt.{IsCtorOf}
use Rattle.ct_sorts.specs.Shapes.{CtorShape, field_shapes, ctor_shapes, spelling_of, shape_of}
use Rattle.ct_sorts.proofs.HeadLemmas.{names_of_sort}
use Rattle.ct_sorts.proofs.ShapeLemmas.{length-field_shapes}
use Rattle.ct_instances.specs.declared.among.NamedCtor.TheVariants.{Generic}
use Rattle.ct_instances.specs.Among.{origin_of, is_head, is_instance, nth_ctor, nth_sel, ctor_among}
use Rattle.ct_instances.specs.Fields.{generic_fields, generic_params}

-- the shape of a constructor by its names and the sorts of its fields
abbrev pub shape : Spelling → List Expression → CtorShape
shape c row = record { name = c.name; fields = field_shapes c.fields row }

pub shape_at : (ctors : List Spelling) (rows : List (List Expression)) (i : ℕ) (c : Spelling) (row : List Expression) → slice_get ctors i ≡ Some c → slice_get rows i ≡ Some row → slice_get (ctor_shapes ctors rows) i ≡ Some (shape c row)
shape_at [] rows i c row at_c at_row = absurd (none-some c at_c)
shape_at (x ∷ ctors) [] i c row at_c at_row = absurd (none-some row at_row)
shape_at (x ∷ ctors) (y ∷ rows) zero c row at_c at_row = ap₂ (λ (s : Spelling) (r : List Expression). Some (shape s r)) (same_Some x c at_c) (same_Some y row at_row)
shape_at (x ∷ ctors) (y ∷ rows) (suc i) c row at_c at_row = shape_at ctors rows i c row at_c at_row

-- constructor i of a sort, with as many selectors as it has fields in this spelling
pub record IsMade (d : Declarations) (s i : ℕ) (spelling : Spelling) : Type 0 where
  pub sort : Sort
  pub id : CtorId
  pub ctor : Constructor
  pub sort_at : slice_get d.sorts s ≡ Some sort
  pub at : slice_get sort.ctors i ≡ Some id
  pub there : slice_get d.ctors id.0 ≡ Some ctor
  pub long : length ctor.sels ≡ length spelling.fields

-- what each sort in the list but Bool is made of
abbrev pub AreMade : Declarations → Type 0
AreMade d = (s i : ℕ) (e : Expression) (t : CtorShape) → slice_get d.origins (1 + s) ≡ Some e → slice_get (shape_of d.declared.heads d.spellings e).ctors i ≡ Some t → IsCtorOf d (1 + s) i t

abbrev bool_head : Head
bool_head = record { name = codes "Bool"; kind = OfBool; params = 0; ctors = [] }

module _ (d : Declarations) (consistent : IsConsistent d) where
  pub first_origin : slice_get d.origins 0 ≡ Some (named 0)
  first_origin = slice_get-take 1 d.origins 0 (named 0) (ap (λ (xs : List Expression). slice_get xs 0) consistent.first_origin)

  pub first_plain : (head : Head) → slice_get d.declared.heads 0 ≡ Some head → head.params ≡ 0
  first_plain head at =
      let first : slice_get d.declared.heads 0 ≡ Some bool_head = slice_get-take 1 d.declared.heads 0 bool_head (ap (λ (xs : List Head). slice_get xs 0) consistent.first_head) in
      sym (ap (λ (h : Head). h.params) (same_Some bool_head head (sym first ∙ at)))

  -- each sort is something
  pub origin_there : (s : ℕ) → s < length d.sorts → (e : Expression) × (slice_get d.origins s ≡ Some e)
  origin_there s within = slice_get-there d.origins s (omega (arith, consistent.origins.one_each, within))

  pub origin_is : (s : SortId) (e : Expression) → IsOrigin d s e → origin_of d s ≡ e
  origin_is s e at = ap (λ o. unwrap_or o (named 0)) at

  -- a generic is not Bool
  not_bool : (g : ℕ) (head : Head) → slice_get d.declared.heads g ≡ Some head → 0 < head.params → g ≡ 0 → ⊥
  not_bool g head at_g some is = absurd (omega (arith, some, first_plain head (ap (slice_get d.declared.heads) (sym is) ∙ at_g)))

  -- an instance has the constructors of its generic
  pub ctor_made : AreMade d → (g : GenId) (i : ℕ) (spelling : Spelling) → IsGenericCtor d g i spelling → (s : ℕ) (e : Expression) → slice_get d.origins s ≡ Some e → head_of e ≡ Some g.0 → IsMade d s i spelling
  ctor_made made g i spelling known s e at_s is =
      let number : s ≡ 1 + (s - 1) = by (same_or_other s 0) in
      subst (λ m. IsMade d m i spelling) (sym number) (later (s - 1) (ap (slice_get d.origins) (sym number) ∙ at_s))
    where
      by : (s ≡ 0) ⊎ (s ≡ 0 → ⊥) → s ≡ 1 + (s - 1)
      by (inr other) = omega (arith, other)
      by (inl first) =
          let same : named 0 ≡ e = same_Some (named 0) e (sym first_origin ∙ ap (slice_get d.origins) (sym first) ∙ at_s) in
          absurd (not_bool g.0 known.0.0 known.0.1.0 known.0.1.1 (sym (same_Some 0 g.0 (ap head_of same ∙ is))))

      later : (n : ℕ) → slice_get d.origins (1 + n) ≡ Some e → IsMade d (1 + n) i spelling
      later n at =
          let names : AllZip NamesEach (spelling_of d.spellings e) (fields_of d.declared.heads e) = names_of_sort d consistent.origins consistent.heads first_origin first_plain n e at in
          let own : spelling_of d.spellings e ≡ known.1.0 = ap (λ (o : Option ℕ). unwrap_or (option_and_then (slice_get d.spellings) o) []) is ∙ ap (λ (o : Option (List Spelling)). unwrap_or o []) known.1.1 in
          let at_c : slice_get (spelling_of d.spellings e) i ≡ Some spelling = ap (λ (xs : List Spelling). slice_get xs i) own ∙ known.1.2 in
          let row = AllZip-at_left NamesEach (spelling_of d.spellings e) (fields_of d.declared.heads e) i spelling names at_c in
          let found = made n i e (shape spelling row.0) at (shape_at (spelling_of d.spellings e) (fields_of d.declared.heads e) i spelling row.0 at_c row.1) in
          record {
            sort = found.sort;
            id = found.id;
            ctor = found.ctor;
            sort_at = found.sort_at;
            at = found.at;
            there = found.there;
            long = found.sels_long ∙ length-field_shapes spelling.fields row.0 row.2 ∙ sym row.2;
          }

  -- an instance of the generic
  pub instance_is : (g : GenId) (s : SortId) (e : Expression) (h : ℕ) → IsOrigin d s e → head_of e ≡ Some h → is_instance d g s ≡ (g.0 == h)
  instance_is g s e h at is = ap (λ (o : Expression). is_head g.0 (head_of o)) (origin_is s e at) ∙ ap (is_head g.0) is

  -- the rows of a generic
  pub row_there : (g : GenId) (i : ℕ) (spelling : Spelling) → IsGenericCtor d g i spelling → (head : Head) → IsGenericHead d g head → (row : List Expression) × (slice_get head.ctors i ≡ Some row)
  row_there g i spelling known head at =
      by head.kind head.ctors known.1.0 (consistent.heads.spelled g.0 head known.1.0 at.0 known.1.1) known.1.2
    where
      by : (kind : Kind) (rows : List (List Expression)) (ctors : List Spelling) → FitsSpelling g.0 kind rows ctors → slice_get ctors i ≡ Some spelling → (row : List Expression) × (slice_get rows i ≡ Some row)
      by OfBool rows ctors fits at_i = absurd (not_bool g.0 head at.0 at.1 fits)
      by Free rows ctors fits at_i = absurd (none-some spelling (ap (λ (xs : List Spelling). slice_get xs i) (sym fits.1) ∙ at_i))
      by Data rows ctors fits at_i = let row = AllZip-at_left NamesEach ctors rows i spelling fits.1 at_i in (row.0, row.1)
      by Codata rows ctors fits at_i = let row = AllZip-at_left NamesEach ctors rows i spelling fits.1 at_i in (row.0, row.1)

  pub fields_are : (g : GenId) (i : ℕ) (head : Head) (row : List Expression) → IsGenericHead d g head → slice_get head.ctors i ≡ Some row → generic_fields d g i ≡ row
  fields_are g i head row at at_i =
      ap (λ (o : Option Head). unwrap_or (option_and_then (λ (h : Head). slice_get h.ctors i) o) []) at.0 ∙ ap (λ (o : Option (List Expression)). unwrap_or o []) at_i

  pub params_are : (g : GenId) (head : Head) → IsGenericHead d g head → generic_params d g ≡ head.params
  params_are g head at = ap (λ (o : Option Head). unwrap_or (option_map (λ (h : Head). h.params) o) 0) at.0

-- constructor i of a sort
pub nth_is : (d : Declarations) (s : SortId) (i : ℕ) (ctors : List CtorId) → option_map (λ (sort : Sort). sort.ctors) (slice_get d.sorts s.0) ≡ Some ctors → nth_ctor d s i ≡ slice_get ctors i
nth_is d s i ctors e = by (slice_get d.sorts s.0) e
  where
    by : (o : Option Sort) → option_map (λ (sort : Sort). sort.ctors) o ≡ Some ctors → option_and_then (λ (sort : Sort). slice_get sort.ctors i) o ≡ slice_get ctors i
    by None e = absurd (none-some ctors e)
    by (Some sort) e = ap (λ (cs : List CtorId). slice_get cs i) (same_Some sort.ctors ctors e)

-- where the sort is an instance, its constructor is that one, and else there is none
pub among_yes : (d : Declarations) (g : GenId) (i : ℕ) (s : SortId) → is_instance d g s ≡ true → ctor_among d (Generic g i) s ≡ nth_ctor d s i
among_yes d g i s e = ap (λ (b : Bool). if b then nth_ctor d s i else None) e

pub among_no : (d : Declarations) (g : GenId) (i : ℕ) (s : SortId) → is_instance d g s ≡ false → ctor_among d (Generic g i) s ≡ None
among_no d g i s e = ap (λ (b : Bool). if b then nth_ctor d s i else None) e

-- ---- what calls say

pub same_gen : (g h : GenId) → not (nat_eq g.0 h.0) ≡ false → g ≡ h
same_gen g h e = let n : g.0 ≡ h.0 = (Decides-eqb g.0 h.0).0 (sym (not_twice (nat_eq g.0 h.0)) ∙ ap not e) in ap (λ (k : ℕ). record { 0 = k }) n

-- the constructor that stands among those that are given
pub made_at : (d : Declarations) (s i : ℕ) (spelling : Spelling) (made : IsMade d s i spelling) (ctors : List CtorId) → option_map (λ (sort : Sort). sort.ctors) (slice_get d.sorts s) ≡ Some ctors → slice_get ctors i ≡ Some made.id
made_at d s i spelling made ctors e =
    let same : made.sort.ctors ≡ ctors = same_Some made.sort.ctors ctors (ap (option_map (λ (sort : Sort). sort.ctors)) (sym made.sort_at) ∙ e) in
    ap (λ (cs : List CtorId). slice_get cs i) (sym same) ∙ made.at

module _ (d : Declarations) (consistent : IsConsistent d) (made : AreMade d) where
  -- of a sort with this head
  pub instance_made : (g h : GenId) (i : ℕ) (s : SortId) → IsSort d s → (known : IsSymbol d (GenCtor g i)) → ((e : Expression) → IsOrigin d s e → head_of e ≡ Some h.0) → h ≡ g → IsMade d s.0 i known.0
  instance_made g h i s is known head same =
      let e = origin_there d consistent s.0 is in
      ctor_made d consistent made g i known.0 known.1 s.0 e.0 e.1 (head e.0 e.1 ∙ ap (λ (x : GenId). Some x.0) same)

  pub instance_yes : (g h : GenId) (s : SortId) → IsSort d s → ((e : Expression) → IsOrigin d s e → head_of e ≡ Some h.0) → h ≡ g → is_instance d g s ≡ true
  instance_yes g h s is head same =
      let e = origin_there d consistent s.0 is in
      instance_is d consistent g s e.0 h.0 e.1 (head e.0 e.1) ∙ (Decides-eqb g.0 h.0).1 (ap (λ (x : GenId). x.0) (sym same))

  -- of a sort that has the constructor
  pub among_made : (g : GenId) (i : ℕ) (spelling : Spelling) → IsGenericCtor d g i spelling → (s : SortId) → IsSort d s → (k : CtorId) → Some k ≡ ctor_among d (Generic g i) s → (m : IsMade d s.0 i spelling) × (m.id ≡ k)
  among_made g i spelling known s is k e = by (is_instance d g s) refl
    where
      head : (o : Option ℕ) → head_of (origin_there d consistent s.0 is).0 ≡ o → is_head g.0 o ≡ true → head_of (origin_there d consistent s.0 is).0 ≡ Some g.0
      head None at test = absurd (true≢false (sym test))
      head (Some h) at test = at ∙ ap (λ (n : ℕ). Some n) (sym ((Decides-eqb g.0 h).0 test))

      by : (b : Bool) → is_instance d g s ≡ b → (m : IsMade d s.0 i spelling) × (m.id ≡ k)
      by false other = absurd (none-some k (sym (e ∙ among_no d g i s other)))
      by true yes_is =
          let there = origin_there d consistent s.0 is in
          let test : is_head g.0 (head_of there.0) ≡ true = ap (λ (o : Expression). is_head g.0 (head_of o)) (sym (origin_is d consistent s there.0 there.1)) ∙ yes_is in
          let m = ctor_made d consistent made g i spelling known s.0 there.0 there.1 (head (head_of there.0) refl test) in
          let nth : nth_ctor d s i ≡ slice_get m.sort.ctors i = nth_is d s i m.sort.ctors (ap (option_map (λ (sort : Sort). sort.ctors)) m.sort_at) in
          (m, same_Some m.id k (sym m.at ∙ sym nth ∙ sym (among_yes d g i s yes_is) ∙ sym e))

-- the selectors that are given are those of the constructor
pub sels_at : (d : Declarations) (s i : ℕ) (spelling : Spelling) (made : IsMade d s i spelling) (k : CtorId) (sels : List SelId) → made.id ≡ k → option_map (λ (c : Constructor). c.sels) (slice_get d.ctors k.0) ≡ Some sels → length sels ≡ length spelling.fields
sels_at d s i spelling made k sels same e =
    let own : made.ctor.sels ≡ sels = same_Some made.ctor.sels sels (ap (option_map (λ (c : Constructor). c.sels)) (sym made.there) ∙ ap (λ (x : CtorId). option_map (λ (c : Constructor). c.sels) (slice_get d.ctors x.0)) same ∙ e) in
    ap length (sym own) ∙ made.long

pub nth_sel_is : (d : Declarations) (k : ℕ) (c : CtorId) (sels : List SelId) → option_map (λ (ctor : Constructor). ctor.sels) (slice_get d.ctors c.0) ≡ Some sels → nth_sel d k c ≡ slice_get sels k
nth_sel_is d k c sels e = by (slice_get d.ctors c.0) e
  where
    by : (o : Option Constructor) → option_map (λ (ctor : Constructor). ctor.sels) o ≡ Some sels → option_and_then (λ (ctor : Constructor). slice_get ctor.sels k) o ≡ slice_get sels k
    by None e = absurd (none-some sels e)
    by (Some ctor) e = ap (λ (ss : List SelId). slice_get ss k) (same_Some ctor.sels sels e)

-- a field of a generic has a selector
pub field_within : (d : Declarations) → IsConsistent d → AreMade d → (g : GenId) (i k : ℕ) → IsSymbol d (GenSel g i k) → (s : SortId) → IsSort d s → (c : CtorId) → Some c ≡ ctor_among d (Generic g i) s → (sels : List SelId) → option_map (λ (x : Constructor). x.sels) (slice_get d.ctors c.0) ≡ Some sels → k < length sels
field_within d consistent are g i k field s is c e sels at =
    let made = among_made d consistent are g i field.0 field.1 s is c e in
    omega (arith, field.2, sels_at d s.0 i field.0 made.0 c sels made.1 at)
