-- Each sort in the list is well founded as an expression, and so the list is well founded.
use Rattle.std.proofs.Common.{◌≡◌, ℕ, zero, suc, ◌+◌, ◌<◌, ◌⊎◌, inl, inr, ⊎_elim, Bool, true, false, List, length, map, slice_get, Option, Some, None, refl, sym, ◌∙◌, ap, ap₂, subst, arith}
use Rattle.std.specs.Option.{option_and_then}
use Rattle.std.specs.List.{AllZip}
use Rattle.std.proofs.lemmas.Bool.{true≢false}
use Rattle.std.proofs.lemmas.Option.{none-some, same_Some, slice_get_within}
use Rattle.ct_lemmas.proofs.Lists.{slice_get-there, slice_get-one_length}
use Rattle.ct_generics.specs.declared.kind.Kind.{Kind as HeadKind}
use Rattle.ct_generics.specs.declared.kind.Kind.TheVariants.{Bool as OfBool, Free as OfFree, Data as OfData, Codata as OfCodata}
use Rattle.ct_generics.specs.Block.{SomeOwn}
use Rattle.ct_generics.specs.Expression.{Expression, named, at_own_parameters}
use Rattle.ct_generics.specs.Declarations.{Head, IsExpression, IsOfKind, head_at}
use Rattle.ct_generics.specs.Founded.{IsFounded as IsFoundedHead, other, built}
use Rattle.ct_generics.specs.Reach.{fields_of}
use Rattle.ct_generics.specs.Add.{IsAmong}
use Rattle.ct_sorts.specs.declared.ids.CtorId.{CtorId}
use Rattle.ct_sorts.specs.declared.ids.SelId.{SelId}
use Rattle.ct_sorts.specs.declared.ids.Kind.{Kind}
use Rattle.ct_sorts.specs.declared.ids.Kind.TheVariants.{Data}
use Rattle.ct_sorts.specs.declared.spelling.Spelling.{Spelling}
use Rattle.ct_sorts.specs.Declarations.{Declarations, Sort, Constructor, Selector, bool, start}
use Rattle.ct_sorts.specs.Founded.{IsClosedSet, HasFieldsIn, IsFounded}
use Rattle.ct_sorts.specs.Heads.{AreHeads, NamesEach}
use Rattle.ct_sorts.specs.Kinds.{kind_of}
use Rattle.ct_sorts.specs.MadeAt.{IsCtorOf, IsSelOf}
use Rattle.ct_sorts.specs.Origins.{AreOrigins}
use Rattle.ct_sorts.specs.Same.{sort_among}
use Rattle.ct_sorts.specs.Shapes.{FieldShape, CtorShape, spelling_of, shape_of, kind_of_head, ctor_shapes, field_shapes}
use Rattle.ct_sorts.proofs.MadeAtLemmas.{ctor_of_sort, kind_at}
use Rattle.ct_sorts.proofs.SameLemmas.{sort_at}
use Rattle.ct_sorts.proofs.ShapeLemmas.{shape_row, field_among}
use Rattle.ct_sorts.proofs.HeadLemmas.{names_of_sort}

-- only the kind of datatypes gives datatypes
data_only : (kind : HeadKind) → kind_of kind ≡ Data → kind ≡ OfData
data_only OfBool e = absurd (let same = e in cc)
data_only OfFree e = absurd (let same = e in cc)
data_only OfData e = refl
data_only OfCodata e = absurd (let same = e in cc)

data_head : (found : Option Head) → kind_of_head found ≡ Data → (head : Head) × (found ≡ Some head) × (head.kind ≡ OfData)
data_head None e = absurd (let same = e in cc)
data_head (Some head) e = (head, refl, data_only head.kind e)

one_more : (s : ℕ) → suc s ≡ 1 + s
one_more s = omega arith

module _ (d : Declarations) (origins : AreOrigins d) (set : ℕ → Bool) (closed : IsClosedSet d set) where
  -- what is no datatype is in the set
  others : (s : ℕ) (e : Expression) → slice_get d.origins (1 + s) ≡ Some e → (IsOfKind d.declared.heads OfData e → ⊥) → set (1 + s) ≡ true
  others s e at apart =
      let sort = kind_at d origins s e at in
      closed.others (1 + s) sort.0 sort.1 (λ is. let head = data_head (head_at d.declared.heads e) (sym sort.2 ∙ is) in apart head)

  -- a datatype is in the set where the sorts of the fields of one of its constructors are
  made_of : (s : ℕ) (e : Expression) → slice_get d.origins (1 + s) ≡ Some e → (i : ℕ) (t : CtorShape) → slice_get (shape_of d.declared.heads d.spellings e).ctors i ≡ Some t → ((j : ℕ) (f : FieldShape) → slice_get t.fields j ≡ Some f → set (sort_among d.origins f.sort).0 ≡ true) → set (1 + s) ≡ true
  made_of s e at i t at_t each =
      let own = ctor_of_sort d origins s e at i t at_t in
      closed.built (1 + s) own.sort i own.id own.ctor own.sort_at own.at own.there (λ j id sel at_j at_sel.
      let f = slice_get-one_length own.ctor.sels t.fields j id own.sels_long at_j in
      let of = own.sels j f.0 f.1 in
      let same_id : id ≡ of.id = same_Some id of.id (sym at_j ∙ of.at) in
      let same_sel : sel ≡ of.sel = same_Some sel of.sel (sym at_sel ∙ ap (λ (k : SelId). slice_get d.sels k.0) same_id ∙ of.there) in
      subst (λ (x : Selector). set x.sort.0 ≡ true) (sym same_sel) (subst (λ s. set s.0 ≡ true) (sym of.sort_is) (each j f.0 f.1)))

  -- what is well founded as an expression is in the set
  module _ (zero_in : set 0 ≡ true) (named_each : (s : ℕ) (e : Expression) → slice_get d.origins (1 + s) ≡ Some e → AllZip NamesEach (spelling_of d.spellings e) (fields_of d.declared.heads e)) where
    in_set : (e : Expression) → IsFoundedHead d.declared.heads e → (s : ℕ) → slice_get d.origins s ≡ Some e → set s ≡ true
    in_set e founded zero at = zero_in
    in_set e (other f apart) (suc s) at = subst (λ n. set n ≡ true) (sym (one_more s)) (others s e (subst (λ n. slice_get d.origins n ≡ Some e) (one_more s) at) apart)
    in_set e (built f i row at_row each) (suc s) at =
        let there : slice_get d.origins (1 + s) ≡ Some e = subst (λ n. slice_get d.origins n ≡ Some e) (one_more s) at in
        let t = shape_row (spelling_of d.spellings e) (fields_of d.declared.heads e) i row (named_each s e there) at_row in
        subst (λ n. set n ≡ true) (sym (one_more s)) (made_of s e there i t.0 t.1 (λ j g at_g.
        let here = t.2 j g at_g in
        let k = field_among d.declared.heads d.spellings e i j t.0 g t.1 at_g in
        let among = origins.fields e (suc s, at) k.0 g.sort k.1 in
        in_set g.sort (each j g.sort here) (sort_among d.origins g.sort).0 (sort_at d.origins g.sort among)))

-- a number below the next one is below this one or is it
last_or_before : (h n : ℕ) → h < suc n → (h < n) ⊎ (h ≡ n)
last_or_before zero zero within = inr refl
last_or_before zero (suc n) within = inl (omega arith)
last_or_before (suc h) zero within = absurd (omega arith)
last_or_before (suc h) (suc n) within = ⊎_elim (λ l. inl (omega (arith, l))) (λ e. inr (ap suc e)) (last_or_before h n (omega arith))

-- where none of so many lacks a property, it is not so that not all have it
not_not_all : (P : ℕ → Type 0) (n : ℕ) → ((h : ℕ) → h < n → (P h → ⊥) → ⊥) → (((h : ℕ) → h < n → P h) → ⊥) → ⊥
not_not_all P zero each none = none (λ h within. absurd (omega (arith, within)))
not_not_all P (suc n) each none =
    not_not_all P n (λ h within. each h (omega (arith, within))) (λ all. each n (omega arith) (λ last.
    none (λ h within. ⊎_elim (λ before. all h before) (λ same. subst P (sym same) last) (last_or_before h n within))))

-- where all sorts and generics at their own parameters are well founded each sort is
abbrev pub AreInstancesFounded : List Head → Type 0
AreInstancesFounded heads = ((h : ℕ) (head : Head) → slice_get heads h ≡ Some head → IsFoundedHead heads (at_own_parameters h head.params)) → (e : Expression) → IsExpression heads 0 e → IsFoundedHead heads e

-- the sort or generic at its own parameters is well founded
abbrev IsOwnFounded : List Head → ℕ → Type 0
IsOwnFounded heads h = (head : Head) → slice_get heads h ≡ Some head → IsFoundedHead heads (at_own_parameters h head.params)

-- each sort is well founded where each closed expression is, if all sorts and generics at their own parameters are
pub IsFounded-flat : (d : Declarations) → AreOrigins d → AreHeads d → slice_get d.sorts 0 ≡ Some bool → slice_get d.origins 0 ≡ Some (named 0) → ((head : Head) → slice_get d.declared.heads 0 ≡ Some head → head.params ≡ 0)
    → AreInstancesFounded d.declared.heads
    → (s : ℕ) → s < length d.sorts → IsFounded d s
IsFounded-flat d origins heads first first_origin none instances s within set closed = by (set s) refl
  where
    each : (h : ℕ) → h < length d.declared.heads → (IsOwnFounded d.declared.heads h → ⊥) → ⊥
    each h below no_own =
        let head = slice_get-there d.declared.heads h below in
        heads.founded (h, head.0, omega arith, head.1, λ f. no_own (λ other_head at. subst (λ (k : Head). IsFoundedHead d.declared.heads (at_own_parameters h k.params)) (same_Some _ _ (sym head.1 ∙ at)) f))

    sort : (e : Expression) × (slice_get d.origins s ≡ Some e)
    sort = slice_get-there d.origins s (subst (λ n. s < n) (sym origins.one_each) within)

    held : ((h : ℕ) → h < length d.declared.heads → IsOwnFounded d.declared.heads h) → set s ≡ true
    held all =
        in_set d origins set closed (closed.others 0 bool first (λ is. absurd (let same = is in cc))) (names_of_sort d origins heads first_origin none) sort.0
        (instances (λ h head at. all h (slice_get_within d.declared.heads h head at) head at) sort.0 (origins.sorts s sort.0 sort.1)) s sort.1

    by : (b : Bool) → set s ≡ b → set s ≡ true
    by true e = e
    by false e = absurd (not_not_all (IsOwnFounded d.declared.heads) (length d.declared.heads) each (λ all. true≢false (sym (held all) ∙ e)))
