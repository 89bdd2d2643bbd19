-- By which constructor a value is built; a value of sort Bool is `true` or `false`.
use Rattle.std.proofs.Common.{◌≡◌, ℕ, zero, suc, Bool, true, false, List, [], ◌∷◌, map, Option, Some, None, slice_get, refl, sym, ap, subst, ◌∙◌, ◌⊎◌, inl, inr, ◌↔◌, true≢false}
use Rattle.std.specs.List.{AllZip}
use Rattle.std.proofs.lemmas.Option.{none-some, same_Some}
use Rattle.std.proofs.lemmas.Bool.Decides.{Decides-eqb}
use Rattle.ct_lemmas.proofs.Prefixes.{slice_get-take}
use Rattle.ct_sorts.specs.declared.ids.CtorId.{CtorId}
use Rattle.ct_sorts.specs.declared.ids.SortId.{SortId}
use Rattle.ct_sorts.specs.Declarations.{Declarations, Sort, Constructor, bool_sort, bool, start}
use Rattle.ct_sorts.specs.Consistent.{IsConsistent}
use Rattle.ct_sorts.specs.Structure.{AreOfTheirSorts}
use Rattle.ct_values.specs.declared.node.Head.{Head}
use Rattle.ct_values.specs.declared.node.Head.TheVariants as heads
use Rattle.ct_values.specs.Graph.{Nodes}
use Rattle.ct_values.specs.Value.{Value}
use Rattle.ct_values.specs.Agreement.{point, head_of, children_of, AgreeAlways}
use Rattle.ct_values.specs.Fitting.{IsElement, FitsGraph}
use Rattle.ct_values.specs.ValueSort.{HasValueSort}
use Rattle.ct_values.specs.Inversion.{IsValueOfField, IsElementOf, IsConstructed}
use Rattle.ct_values.specs.TruthValue.{truth_ctor, truth, is_head, is_built, is_true, IsTruth}
use Rattle.ct_values.proofs.AgreeLemmas.{AgreeAlways-parts}
use Rattle.ct_values.proofs.SortedLemmas.{inverted}

-- at the start `true` and `false` take nothing
start_ctor : (b : Bool) → (ctor : Constructor) × (slice_get start.ctors (truth_ctor b).0 ≡ Some ctor) × (ctor.sels ≡ [])
start_ctor true = (_, refl, refl)
start_ctor false = (_, refl, refl)

-- what pairs no element pairs none
paired_none : {X Y : Type 0} (R : X → Y → Type 0) (xs : List X) (ys : List Y) → ys ≡ [] → AllZip R xs ys → xs ≡ []
paired_none R [] ys empty all = refl
paired_none R (x ∷ xs) [] empty all = absurd all
paired_none R (x ∷ xs) (y ∷ ys) empty all = cc empty

module _ (d : Declarations) (consistent : IsConsistent d) where
  bool_there : slice_get d.sorts 0 ≡ Some bool
  bool_there = slice_get-take 1 d.sorts 0 bool (subst (λ (ss : List Sort). slice_get ss 0 ≡ Some bool) (sym consistent.first_sort) refl)

  -- they still do
  truth_fields : (b : Bool) (ctor : Constructor) → slice_get d.ctors (truth_ctor b).0 ≡ Some ctor → ctor.sels ≡ []
  truth_fields b ctor declared =
      let first = start_ctor b in
      let there = slice_get-take 2 d.ctors (truth_ctor b).0 first.0 (subst (λ (cs : List Constructor). slice_get cs (truth_ctor b).0 ≡ Some first.0) (sym consistent.first_ctors) first.1) in
      ap (λ (k : Constructor). k.sels) (same_Some ctor first.0 (sym declared ∙ there)) ∙ first.2

  -- they are the constructors of Bool
  first_two : (c : CtorId) (index : ℕ) → slice_get bool.ctors index ≡ Some c → (b : Bool) × (c ≡ truth_ctor b)
  first_two c zero at = (true, sym (same_Some _ c at))
  first_two c (suc zero) at = (false, sym (same_Some _ c at))
  first_two c (suc (suc index)) at = absurd (none-some c at)

  bool_ctor : AreOfTheirSorts d → (c : CtorId) (ctor : Constructor) → slice_get d.ctors c.0 ≡ Some ctor → ctor.sort ≡ bool_sort → (b : Bool) × (c ≡ truth_ctor b)
  bool_ctor own c ctor declared sort =
      let of = own c.0 ctor declared in
      let same : of.0 ≡ bool = same_Some of.0 bool (sym of.2 ∙ ap (λ (s : SortId). slice_get d.sorts s.0) sort ∙ bool_there) in
      first_two c of.1 (subst (λ (s : Sort). slice_get s.ctors of.1 ≡ Some c) same of.3)

  -- an element is not of sort Bool
  bool_element : IsElement d bool_sort.0 → ⊥
  bool_element of_uninterpreted = cc (of_uninterpreted.free, same_Some of_uninterpreted.sort bool (sym of_uninterpreted.declared ∙ bool_there))

  -- a value of sort Bool is a truth value
  bool_value : AreOfTheirSorts d → (g : Nodes) → FitsGraph d g → (v : Value) → HasValueSort d g v bool_sort → (b : Bool) × IsTruth g v b
  bool_value own g fits v sorted = by (inverted d g fits v bool_sort sorted)
    where
      by : ((k : ℕ) × IsElementOf d g v k bool_sort) ⊎ ((c : CtorId) × IsConstructed d g v c bool_sort) → (b : Bool) × IsTruth g v b
      by (inl is) = absurd (bool_element is.1.uninterpreted)
      by (inr is) =
          let b = bool_ctor own is.0 is.1.ctor is.1.declared is.1.of_sort in
          let here : slice_get d.ctors (truth_ctor b.0).0 ≡ Some is.1.ctor = ap (λ (c : CtorId). slice_get d.ctors c.0) (sym b.1) ∙ is.1.declared in (
            b.0,
            record {
              headed = is.1.headed ∙ ap (λ (c : CtorId). Some (heads.Con c)) b.1;
              childless = paired_none (IsValueOfField d g) (children_of g v) is.1.ctor.sels (truth_fields b.0 is.1.ctor here) is.1.fields;
            },
          )

-- a truth value is `true` just where it is
pub truth_tested : (g : Nodes) (v : Value) (b : Bool) → IsTruth g v b → is_true g v ≡ b
truth_tested g v true is = ap (is_head (truth_ctor true)) is.headed
truth_tested g v false is = ap (is_head (truth_ctor true)) is.headed

-- so a value of sort Bool is the truth value that it is tested to be
pub bool_truth : (d : Declarations) (g : Nodes) (v : Value) → IsConsistent d → AreOfTheirSorts d → FitsGraph d g → HasValueSort d g v bool_sort → IsTruth g v (is_true g v)
bool_truth d g v consistent own fits sorted =
    let b = bool_value d consistent own g fits v sorted in
    subst (IsTruth g v) (sym (truth_tested g v b.0 b.1)) b.1

-- and agrees with it
pub truth_agrees : (g h : Nodes) (v : Value) (b : Bool) → IsTruth g v b → AgreeAlways (point g v) (point h (truth b))
truth_agrees g h v b is =
    (AgreeAlways-parts (point g v) (point h (truth b))).1 (is.headed, subst (λ (vs : List Value). AllZip AgreeAlways (map (point g) vs) []) (sym is.childless) tt)

-- ---- by which constructor a value is built

head_tested : (c : CtorId) (o : Option Head) → (is_head c o ≡ true) ↔ (o ≡ Some (heads.Con c))
head_tested c None = (λ e. absurd (true≢false (sym e)), λ e. absurd (none-some (heads.Con c) e))
head_tested c (Some (heads.Con k)) =
    let reported = Decides-eqb k.0 c.0 in (
      λ e. let same = reported.0 e in λ j. Some (heads.Con (record { 0 = same j })),
      λ e. reported.1 (let is : heads.Con k ≡ heads.Con c = same_Some (heads.Con k) (heads.Con c) e in cc),
    )
head_tested c (Some (heads.Elem s n)) = (
  λ e. absurd (true≢false (sym e)),
  λ e. let is : heads.Elem s n ≡ heads.Con c = same_Some (heads.Elem s n) (heads.Con c) e in absurd (cc),
)

pub built_by : (g : Nodes) (v : Value) (c : CtorId) → (is_built g c v ≡ true) ↔ (head_of g v ≡ Some (heads.Con c))
built_by g v c = head_tested c (head_of g v)
