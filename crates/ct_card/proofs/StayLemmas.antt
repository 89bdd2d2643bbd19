-- What declarations say of a sort stays where more is declared, and was so before: constructors, fields, and so the size.
use Rattle.std.proofs.Common.{◌≡◌, ℕ, zero, suc, ◌<◌, ◌≤◌, Bool, true, false, cond, nat_lt, List, [], ◌∷◌, length, map, slice_get, Some, Option, option_map, unwrap_or, refl, sym, ◌∙◌, ap, subst, arith, Decides, length-append}
use Rattle.std.proofs.lemmas.Bool.{false≢true}
use Rattle.std.proofs.lemmas.Bool.Decides.{Decides-ltb}
use Rattle.std.proofs.lemmas.Option.{slice_get_within}
use Rattle.ct_lemmas.proofs.Lists.{slice_get-append_left, slice_get-map_source, slice_get-there}
use Rattle.ct_sorts.specs.declared.ids.CtorId.{CtorId}
use Rattle.ct_sorts.specs.declared.ids.SelId.{SelId}
use Rattle.ct_sorts.specs.Declarations.{Declarations, Sort, Constructor, Selector}
use Rattle.ct_sorts.specs.Grown.{Begins}
use Rattle.ct_card.specs.declared.size.Size.{Size}
use Rattle.ct_card.specs.declared.size.Size.TheVariants.{One, Finite, Infinite}
use Rattle.ct_card.specs.Dependence.{DependsOn, IsWay}
use Rattle.ct_card.specs.Cardinality.{IsSingleSet, IsSingle, IsInfiniteSet, IsInfinite, HasSize}
use Rattle.ct_card.specs.Defaults.{is_free, is_free_sort}
use Rattle.ct_card.specs.Extended.{IsLater}
use Rattle.ct_card.specs.Fields.{field_sort, sels_of, ctor_fields, ctors_of}
use Rattle.ct_card.specs.Ranked.{HasOtherCount}

-- what stands in a list stands in one that begins with it, and what stands there below its length stood in it
stays_at : {X : Type 0} (old new : List X) → Begins old new → (i : ℕ) (x : X) → slice_get old i ≡ Some x → slice_get new i ≡ Some x
stays_at old new begins i x at = ap (λ l. slice_get l i) begins.1 ∙ slice_get-append_left old begins.0 i x at

was_at : {X : Type 0} (old new : List X) → Begins old new → (i : ℕ) (x : X) → i < length old → slice_get new i ≡ Some x → slice_get old i ≡ Some x
was_at old new begins i x within at =
    let found = slice_get-there old i within in
    found.1 ∙ sym (stays_at old new begins i found.0 found.1) ∙ at

-- two functions that give the same of each element give the same list
map_same : {X Y : Type 0} (f g : X → Y) (xs : List X) → ((k : ℕ) (x : X) → slice_get xs k ≡ Some x → f x ≡ g x) → map f xs ≡ map g xs
map_same f g [] each = refl
map_same {X} {Y} f g (x ∷ xs) each =
    let first : f x ≡ g x = each zero x refl in
    let rest : map f xs ≡ map g xs = map_same f g xs (λ k. each (suc k)) in
    ap (λ (y : Y). y ∷ map f xs) first ∙ ap (λ (ys : List Y). g x ∷ ys) rest

module _ (d e : Declarations) (later : IsLater d e) where
  first : ℕ
  first = length e.sorts

  pub fewer_sorts : length e.sorts ≤ length d.sorts
  fewer_sorts = omega (arith, ap (λ (l : List Sort). length l) later.extends.sorts.1, length-append e.sorts later.extends.sorts.0)

  pub sort_stays : (s : ℕ) (sort : Sort) → slice_get e.sorts s ≡ Some sort → slice_get d.sorts s ≡ Some sort
  sort_stays s sort at = stays_at e.sorts d.sorts later.extends.sorts s sort at

  pub sort_was : (s : ℕ) (sort : Sort) → s < length e.sorts → slice_get d.sorts s ≡ Some sort → slice_get e.sorts s ≡ Some sort
  sort_was s sort within at = was_at e.sorts d.sorts later.extends.sorts s sort within at

  ctor_stays : (c : ℕ) (ctor : Constructor) → slice_get e.ctors c ≡ Some ctor → slice_get d.ctors c ≡ Some ctor
  ctor_stays c ctor at = stays_at e.ctors d.ctors later.extends.ctors c ctor at

  -- the constructor of an earlier sort is an earlier one
  pub ctor_was : (s index : ℕ) (sort : Sort) (id : CtorId) (ctor : Constructor) → slice_get e.sorts s ≡ Some sort → slice_get sort.ctors index ≡ Some id → slice_get d.ctors id.0 ≡ Some ctor → slice_get e.ctors id.0 ≡ Some ctor
  ctor_was s index sort id ctor at listed declared =
      let own = later.own_ctors s index sort id at listed in
      was_at e.ctors d.ctors later.extends.ctors id.0 ctor (slice_get_within e.ctors id.0 own.0 own.1) declared

  -- and so are its selectors, and the sorts of its fields
  field_was : (c index : ℕ) (ctor : Constructor) (id : SelId) (selector : Selector) → slice_get e.ctors c ≡ Some ctor → slice_get ctor.sels index ≡ Some id → slice_get d.sels id.0 ≡ Some selector → (slice_get e.sels id.0 ≡ Some selector) × (selector.sort.0 < length e.sorts)
  field_was c index ctor id selector at listed declared =
      let own = later.own_sels c index ctor id at listed in
      let was = was_at e.sels d.sels later.extends.sels id.0 selector (slice_get_within e.sels id.0 own.0 own.1) declared in
      (was, later.fields id.0 selector was)

  sel_stays : (s : ℕ) (selector : Selector) → slice_get e.sels s ≡ Some selector → slice_get d.sels s ≡ Some selector
  sel_stays s selector at = stays_at e.sels d.sels later.extends.sels s selector at

  -- ---- steps from a sort to those of its fields

  pub step_stays : (s t : ℕ) → DependsOn e s t → DependsOn d s t
  step_stays s t step =
      record {
        sort = step.sort;
        index = step.index;
        id = step.id;
        ctor = step.ctor;
        of_sort = sort_stays s step.sort step.of_sort;
        listed = step.listed;
        declared = ctor_stays step.id.0 step.ctor step.declared;
        field = record {
          index = step.field.index;
          id = step.field.id;
          selector = step.field.selector;
          listed = step.field.listed;
          declared = sel_stays step.field.id.0 step.field.selector step.field.declared;
          sorted = step.field.sorted;
        };
      }

  pub step_was : (s t : ℕ) → s < length e.sorts → DependsOn d s t → DependsOn e s t × (t < length e.sorts)
  step_was s t within step =
      let at = sort_was s step.sort within step.of_sort in
      let ctor = ctor_was s step.index step.sort step.id step.ctor at step.listed step.declared in
      let field = field_was step.id.0 step.field.index step.ctor step.field.id step.field.selector ctor step.field.listed step.field.declared in (
        record {
          sort = step.sort;
          index = step.index;
          id = step.id;
          ctor = step.ctor;
          of_sort = at;
          listed = step.listed;
          declared = ctor;
          field = record { index = step.field.index; id = step.field.id; selector = step.field.selector; listed = step.field.listed; declared = field.0; sorted = step.field.sorted };
        },
        subst (λ n. n < length e.sorts) step.field.sorted field.1,
      )

  way_stays : (s t : ℕ) (way : List ℕ) → IsWay e s way t → IsWay d s way t
  way_stays s t [] step = step_stays s t step
  way_stays s t (u ∷ way) (step, rest) = (step_stays s u step, way_stays u t way rest)

  way_was : (s t : ℕ) (way : List ℕ) → s < length e.sorts → IsWay d s way t → IsWay e s way t
  way_was s t [] within step = (step_was s t within step).0
  way_was s t (u ∷ way) within (step, rest) = let was = step_was s u within step in (was.0, way_was u t way was.1 rest)

  pub count_stays : (s : ℕ) → HasOtherCount e s → HasOtherCount d s
  count_stays s other = record { sort = other.sort; of_sort = sort_stays s other.sort other.of_sort; count = other.count }

  pub count_was : (s : ℕ) → s < length e.sorts → HasOtherCount d s → HasOtherCount e s
  count_was s within other = record { sort = other.sort; of_sort = sort_was s other.sort within other.of_sort; count = other.count }

  -- ---- lists of constructors and fields

  pub free_same : (s : ℕ) → s < length e.sorts → is_free_sort d s ≡ is_free_sort e s
  free_same s within =
      let sort = slice_get-there e.sorts s within in
      let here : slice_get d.sorts s ≡ slice_get e.sorts s = sort_stays s sort.0 sort.1 ∙ sym sort.1 in
      ap (λ (o : Option Sort). unwrap_or (option_map (λ (x : Sort). is_free x.kind) o) false) here

  pub ctors_same : (s : ℕ) → s < length e.sorts → ctors_of d s ≡ ctors_of e s
  ctors_same s within =
      let sort = slice_get-there e.sorts s within in
      let here : slice_get d.sorts s ≡ slice_get e.sorts s = sort_stays s sort.0 sort.1 ∙ sym sort.1 in
      ap (λ (o : Option Sort). unwrap_or (option_map (λ (x : Sort). x.ctors) o) []) here

  -- the constructor of an earlier sort is there
  pub own_of : (s index : ℕ) (c : CtorId) → s < length e.sorts → slice_get (ctors_of e s) index ≡ Some c → (ctor : Constructor) × (slice_get e.ctors c.0 ≡ Some ctor)
  own_of s index c within listed =
      let sort = slice_get-there e.sorts s within in
      let same : ctors_of e s ≡ sort.0.ctors = ap (λ (o : Option Sort). unwrap_or (option_map (λ (x : Sort). x.ctors) o) []) sort.1 in
      let own = later.own_ctors s index sort.0 c sort.1 (ap (λ (l : List CtorId). slice_get l index) (sym same) ∙ listed) in
      (own.0, own.1)

  pub fields_same : (c : CtorId) (ctor : Constructor) → slice_get e.ctors c.0 ≡ Some ctor → ctor_fields d c ≡ ctor_fields e c
  fields_same c ctor at =
      let sels_e : sels_of e c ≡ ctor.sels = ap (λ (o : Option Constructor). unwrap_or (option_map (λ (x : Constructor). x.sels) o) []) at in
      let sels_d : sels_of d c ≡ ctor.sels = ap (λ (o : Option Constructor). unwrap_or (option_map (λ (x : Constructor). x.sels) o) []) (ctor_stays c.0 ctor at) in
      ap (map (field_sort d)) sels_d
      ∙ map_same (field_sort d) (field_sort e) ctor.sels (λ k id listed.
      let own = later.own_sels c.0 k ctor id at listed in
      let in_e : field_sort e id ≡ own.0.sort.0 = ap (λ (o : Option Selector). unwrap_or (option_map (λ (x : Selector). x.sort.0) o) 0) own.1 in
      let in_d : field_sort d id ≡ own.0.sort.0 = ap (λ (o : Option Selector). unwrap_or (option_map (λ (x : Selector). x.sort.0) o) 0) (sel_stays id.0 own.0 own.1) in
      in_d ∙ sym in_e)
      ∙ ap (map (field_sort e)) (sym sels_e)

  -- the sort of a field of an earlier constructor is an earlier one
  pub field_within_earlier : (c : CtorId) (k t : ℕ) (ctor : Constructor) → slice_get e.ctors c.0 ≡ Some ctor → slice_get (ctor_fields d c) k ≡ Some t → t < length e.sorts
  field_within_earlier c k t ctor at listed =
      let source = slice_get-map_source (field_sort e) (sels_of e c) k t (ap (λ (l : List ℕ). slice_get l k) (sym (fields_same c ctor at)) ∙ listed) in
      let sels_e : sels_of e c ≡ ctor.sels = ap (λ (o : Option Constructor). unwrap_or (option_map (λ (x : Constructor). x.sels) o) []) at in
      let own = later.own_sels c.0 k ctor source.0 at (ap (λ (l : List SelId). slice_get l k) (sym sels_e) ∙ source.1) in
      let in_e : field_sort e source.0 ≡ own.0.sort.0 = ap (λ (o : Option Selector). unwrap_or (option_map (λ (x : Selector). x.sort.0) o) 0) own.1 in
      subst (λ n. n < length e.sorts) (sym in_e ∙ source.2) (later.fields source.0.0 own.0 own.1)

  -- ---- sizes

  -- the set, as far as earlier sorts go
  earlier_of : (ℕ → Bool) → ℕ → Bool
  earlier_of set n = cond (nat_lt n (length e.sorts)) (set n) false

  earlier_in : (set : ℕ → Bool) (n : ℕ) → n < length e.sorts → set n ≡ true → earlier_of set n ≡ true
  unfolding earlier_of
  earlier_in set n within inside = ap (λ b. cond b (set n) false) ((Decides-ltb n (length e.sorts)).1 within) ∙ inside

  earlier_out : (set : ℕ → Bool) (n : ℕ) → earlier_of set n ≡ true → (n < length e.sorts) × (set n ≡ true)
  unfolding earlier_of
  earlier_out set n h = by (nat_lt n (length e.sorts)) (Decides-ltb n (length e.sorts)) h
    where
      by : (b : Bool) → Decides b (n < length e.sorts) → cond b (set n) false ≡ true → (n < length e.sorts) × (set n ≡ true)
      by true tells h = (tells.0 refl, h)
      by false tells h = absurd (false≢true h)

  pub single_stays : (s : ℕ) → s < length e.sorts → IsSingle e s → IsSingle d s
  single_stays s within (set, shapes, inside) = (earlier_of set, each, earlier_in set s within inside)
    where
      each : IsSingleSet d (earlier_of set)
      each n h =
          let inner = earlier_out set n h in
          let shape = shapes n inner.1 in
          record {
            sort = shape.sort;
            id = shape.id;
            ctor = shape.ctor;
            of_sort = sort_stays n shape.sort shape.of_sort;
            kind = shape.kind;
            only = shape.only;
            declared = ctor_stays shape.id.0 shape.ctor shape.declared;
            fields = λ index id selector listed declared.
                let was = field_was shape.id.0 index shape.ctor id selector shape.declared listed declared in
                earlier_in set selector.sort.0 was.1 (shape.fields index id selector listed was.0);
          }

  pub single_was : (s : ℕ) → s < length e.sorts → IsSingle d s → IsSingle e s
  single_was s within (set, shapes, inside) = (earlier_of set, each, earlier_in set s within inside)
    where
      each : IsSingleSet e (earlier_of set)
      each n h =
          let inner = earlier_out set n h in
          let shape = shapes n inner.1 in
          let at = sort_was n shape.sort inner.0 shape.of_sort in
          let listed : slice_get shape.sort.ctors 0 ≡ Some shape.id = ap (λ (l : List CtorId). slice_get l 0) shape.only in
          let ctor = ctor_was n 0 shape.sort shape.id shape.ctor at listed shape.declared in
          record {
            sort = shape.sort;
            id = shape.id;
            ctor = shape.ctor;
            of_sort = at;
            kind = shape.kind;
            only = shape.only;
            declared = ctor;
            fields = λ index id selector listed_sel declared.
                earlier_in set selector.sort.0 (later.fields id.0 selector declared) (shape.fields index id selector listed_sel (sel_stays id.0 selector declared));
          }

  pub infinite_stays : (s : ℕ) → s < length e.sorts → IsInfinite e s → IsInfinite d s
  infinite_stays s within infinite set closed =
      infinite set record {
        free = λ n sort at is_free. closed.free n sort (sort_stays n sort at) is_free;
        cyclic = λ n several (way, is).
            let within_n : n < length e.sorts = from_within n n way is in
            closed.cyclic n (λ single. several (single_was n within_n single)) (way, way_stays n n way is);
        field = λ n t step inside. closed.field n t (step_stays n t step) inside;
      }
    where
      from_within : (n t : ℕ) (way : List ℕ) → IsWay e n way t → n < length e.sorts
      from_within n t [] step = slice_get_within e.sorts n step.sort step.of_sort
      from_within n t (u ∷ way) (step, rest) = slice_get_within e.sorts n step.sort step.of_sort

  pub infinite_was : (s : ℕ) → s < length e.sorts → IsInfinite d s → IsInfinite e s
  infinite_was s within infinite set closed = inner s within (infinite with_later all)
    where
      -- the set with all later sorts
      with_later : ℕ → Bool
      with_later n = cond (nat_lt n (length e.sorts)) (set n) true

      inner : (n : ℕ) → n < length e.sorts → with_later n ≡ true → set n ≡ true
      inner n less h = ap (λ b. cond b (set n) true) (sym ((Decides-ltb n (length e.sorts)).1 less)) ∙ h

      outer : (n : ℕ) → (n < length e.sorts → set n ≡ true) → with_later n ≡ true
      outer n h = by (nat_lt n (length e.sorts)) (Decides-ltb n (length e.sorts))
        where
          by : (b : Bool) → Decides b (n < length e.sorts) → cond b (set n) true ≡ true
          by true tells = h (tells.0 refl)
          by false tells = refl

      all : IsInfiniteSet d with_later
      all =
          record {
            free = λ n sort at is_free. outer n (λ less. closed.free n sort (sort_was n sort less at) is_free);
            cyclic = λ n several (way, is). outer n (λ less. closed.cyclic n (λ single. several (single_stays n less single)) (way, way_was n n way less is));
            field = λ n t step inside. outer n (λ less.
                let was = step_was n t less step in
                closed.field n t was.0 (inner t was.1 inside));
          }

  -- a sort's size never changes
  pub size_stays : (s : ℕ) (size : Size) → s < length e.sorts → HasSize e s size → HasSize d s size
  size_stays s One within has = single_stays s within has
  size_stays s Finite within has = (λ single. has.0 (single_was s within single), λ infinite. has.1 (infinite_was s within infinite))
  size_stays s Infinite within has = infinite_stays s within has

  pub size_was : (s : ℕ) (size : Size) → s < length e.sorts → HasSize d s size → HasSize e s size
  size_was s One within has = single_was s within has
  size_was s Finite within has = (λ single. has.0 (single_stays s within single), λ infinite. has.1 (infinite_stays s within infinite))
  size_was s Infinite within has = infinite_was s within has
