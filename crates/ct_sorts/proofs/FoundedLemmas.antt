-- What stays well founded as declarations come and go.
use Rattle.std.proofs.Common.{◌≡◌, ℕ, ◌+◌, ◌<◌, Bool, true, false, cond, List, ◌++◌, length, take, slice_get, Some, refl, sym, ◌∙◌, ap, subst, ⊎_elim, Decides, nat_lt, arith}
use Rattle.std.proofs.lemmas.Bool.{true≢false}
use Rattle.std.proofs.lemmas.Bool.Decides.{Decides-ltb}
use Rattle.std.proofs.lemmas.List.{length-take-le}
use Rattle.std.specs.List.{flat_map}
use Rattle.ct_lemmas.proofs.Lists.{slice_get-append_cases, slice_get-append_left, slice_get-flat_map}
use Rattle.ct_lemmas.proofs.Prefixes.{slice_get-take}
use Rattle.ct_sorts.specs.declared.ids.CtorId.{CtorId}
use Rattle.ct_sorts.specs.declared.ids.SelId.{SelId}
use Rattle.ct_sorts.specs.Declarations.{Declarations, Sort, Constructor, Selector, ctor_ids, sel_ids}
use Rattle.ct_sorts.specs.Founded.{HasFieldsIn, IsClosedSet, IsFounded}
use Rattle.ct_sorts.specs.Lengths.{Lengths}
use Rattle.ct_sorts.specs.Marks.{CanCut, cut}
use Rattle.ct_sorts.proofs.Lists.{slice_get-range, take-slice_get}

-- more sorts, constructors and selectors at the ends
abbrev pub more : Declarations → List Sort → List Constructor → List Selector → Declarations
more d sorts ctors sels = record d { sorts = d.sorts ++ sorts; ctors = d.ctors ++ ctors; sels = d.sels ++ sels }

-- the selectors of a constructor are there
pub sel_within : (d : Declarations) → flat_map (λ c. c.sels) d.ctors ≡ sel_ids 0 (length d.sels) → (c : ℕ) (ctor : Constructor) (index : ℕ) (s : SelId) → slice_get d.ctors c ≡ Some ctor → slice_get ctor.sels index ≡ Some s → s.0 < length d.sels
sel_within d all_sels c ctor index s at_c at_s =
    let found = slice_get-flat_map (λ (c : Constructor). c.sels) d.ctors c index ctor s at_c at_s in
    let row = slice_get-range (λ n. record { 0 = n }) 0 (length d.sels) found.0 s (subst (λ (ids : List SelId). slice_get ids found.0 ≡ Some s) all_sels found.1) in
    let is : s.0 ≡ 0 + found.0 = ap (λ (t : SelId). t.0) row.1 in
    omega (arith, row.0)

-- the constructors of a sort are there
pub ctor_within : (d : Declarations) → flat_map (λ s. s.ctors) d.sorts ≡ ctor_ids 0 (length d.ctors) → (s : ℕ) (sort : Sort) (index : ℕ) (c : CtorId) → slice_get d.sorts s ≡ Some sort → slice_get sort.ctors index ≡ Some c → c.0 < length d.ctors
ctor_within d all_ctors s sort index c at_s at_c =
    let found = slice_get-flat_map (λ (s : Sort). s.ctors) d.sorts s index sort c at_s at_c in
    let row = slice_get-range (λ n. record { 0 = n }) 0 (length d.ctors) found.0 c (subst (λ (ids : List CtorId). slice_get ids found.0 ≡ Some c) all_ctors found.1) in
    let is : c.0 ≡ 0 + found.0 = ap (λ (t : CtorId). t.0) row.1 in
    omega (arith, row.0)

-- a set that is closed under more declarations is closed under the earlier ones
pub IsClosedSet-less : (d : Declarations) (sorts : List Sort) (ctors : List Constructor) (sels : List Selector) → flat_map (λ c. c.sels) d.ctors ≡ sel_ids 0 (length d.sels) → (set : ℕ → Bool) → IsClosedSet (more d sorts ctors sels) set → IsClosedSet d set
IsClosedSet-less d sorts ctors sels all_sels set closed =
    record {
      others = λ s sort at other. closed.others s sort (slice_get-append_left d.sorts sorts s sort at) other;
      built = λ s sort index c ctor at_s at_c at_ctor has. closed.built s sort index c ctor (slice_get-append_left d.sorts sorts s sort at_s) at_c (slice_get-append_left d.ctors ctors c.0 ctor at_ctor) (fields c ctor at_ctor has);
    }
  where
    fields : (c : CtorId) (ctor : Constructor) → slice_get d.ctors c.0 ≡ Some ctor → HasFieldsIn d set ctor → HasFieldsIn (more d sorts ctors sels) set ctor
    fields c ctor at_ctor has index s sel at_s at_sel =
        ⊎_elim (λ here. has index s sel at_s here) (λ remaining. by remaining.0 remaining.1) (slice_get-append_cases d.sels sels s.0 sel at_sel)
      where
        by : (k : ℕ) → s.0 ≡ length d.sels + k → set sel.sort.0 ≡ true
        by k e = absurd (omega (arith, sel_within d all_sels c.0 ctor index s at_ctor at_s))

-- what is well founded stays so
pub IsFounded-more : (d : Declarations) (sorts : List Sort) (ctors : List Constructor) (sels : List Selector) → flat_map (λ c. c.sels) d.ctors ≡ sel_ids 0 (length d.sels) → (s : ℕ) → IsFounded d s → IsFounded (more d sorts ctors sels) s
IsFounded-more d sorts ctors sels all_sels s founded set closed = founded set (IsClosedSet-less d sorts ctors sels all_sels set closed)

-- a set of numbers below a bound, and all from the bound on
abbrev pub below_or_all : ℕ → (ℕ → Bool) → ℕ → Bool
below_or_all n set s = cond (nat_lt s n) (set s) true

pub below_or_all-within : (n : ℕ) (set : ℕ → Bool) (s : ℕ) → s < n → below_or_all n set s ≡ set s
below_or_all-within n set s h = by (nat_lt s n) (Decides-ltb s n)
  where
    by : (b : Bool) → Decides b (s < n) → cond b (set s) true ≡ set s
    by true tells = refl
    by false tells = absurd (true≢false (sym (tells.1 h)))

pub below_or_all-cases : (n : ℕ) (set : ℕ → Bool) (s : ℕ) → (s < n → set s ≡ true) → below_or_all n set s ≡ true
below_or_all-cases n set s h = by (nat_lt s n) (Decides-ltb s n)
  where
    by : (b : Bool) → Decides b (s < n) → cond b (set s) true ≡ true
    by true tells = h (tells.0 refl)
    by false tells = refl

-- what is well founded and left is well founded by what is left
pub IsFounded-cut : (d : Declarations) (m : Lengths) → CanCut d m → (s : ℕ) → s < length (take m.sorts d.sorts) → IsFounded d s → IsFounded (cut d m) s
IsFounded-cut d m can s within founded set closed =
    sym (below_or_all-within n set s within) ∙ founded (below_or_all n set) (record {
      others = λ s sort at other. below_or_all-cases n set s (λ h. closed.others s sort (take-slice_get m.sorts d.sorts s sort h at) other);
      built = λ s sort index c ctor at_s at_c at_ctor has. below_or_all-cases n set s (λ h. built s sort index c ctor (take-slice_get m.sorts d.sorts s sort h at_s) at_c at_ctor has);
    })
  where
    n : ℕ
    n = length (take m.sorts d.sorts)

    built : (s : ℕ) (sort : Sort) (index : ℕ) (c : CtorId) (ctor : Constructor) → slice_get (take m.sorts d.sorts) s ≡ Some sort → slice_get sort.ctors index ≡ Some c → slice_get d.ctors c.0 ≡ Some ctor → HasFieldsIn d (below_or_all (length (take m.sorts d.sorts)) set) ctor → set s ≡ true
    built s sort index c ctor at_s at_c at_ctor has =
        let whole = can.whole_sorts ∙ ap (ctor_ids 0) (sym (length-take-le m.ctors d.ctors can.ctors_within)) in
        let within_c : c.0 < length (take m.ctors d.ctors) = ctor_within (cut d m) whole s sort index c at_s at_c in
        let at_ctor' : slice_get (take m.ctors d.ctors) c.0 ≡ Some ctor = take-slice_get m.ctors d.ctors c.0 ctor within_c at_ctor in
        closed.built s sort index c ctor at_s at_c at_ctor'
        (λ index' id sel at_id at_sel. sym (below_or_all-within (length (take m.sorts d.sorts)) set sel.sort.0 (can.fields id.0 sel at_sel)) ∙ has index' id sel at_id (slice_get-take m.sels d.sels id.0 sel at_sel))
