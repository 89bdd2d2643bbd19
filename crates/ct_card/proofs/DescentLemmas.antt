-- The way down through layers, and what falls on it.
use Rattle.std.proofs.Common.{◌≡◌, ℕ, zero, suc, ◌+◌, ◌*◌, ◌<◌, ◌≤◌, ◌⊎◌, Bool, true, false, List, [], ◌∷◌, ◌++◌, length, get_or, slice_get, Option, None, Some, if◌then◌else◌, refl, sym, ◌∙◌, ap, subst, inl, inr, arith, true≢false}
use Rattle.std.proofs.lemmas.Bool.{cases_order}
use Rattle.std.proofs.Math.Nat.{suc-mul}
use Rattle.std.proofs.lemmas.Option.{same_Some}
use Rattle.ct_sorts.specs.declared.ids.CtorId.{CtorId}
use Rattle.ct_sorts.specs.Declarations.{Declarations}
use Rattle.ct_card.specs.declared.departure.Step.{Step}
use Rattle.ct_card.specs.declared.departure.Layer.{Layer}
use Rattle.ct_card.specs.declared.departure.Departure.{Departure}
use Rattle.ct_card.specs.declared.departure.Departure.TheVariants.{Nowhere, Constructor as Other, Field}
use Rattle.ct_card.specs.declared.descent.Wanted.{Wanted}
use Rattle.ct_card.specs.declared.descent.Passed.{Passed}
use Rattle.ct_card.specs.Cardinality.{IsInfinite}
use Rattle.ct_card.specs.Defaults.{is_free_sort}
use Rattle.ct_card.specs.Departures.{IsLayer}
use Rattle.ct_card.specs.Nth.{turn_below}
use Rattle.ct_card.specs.Descent.{LeavesDigit, LeavesLess, Leaves, LeadsTo, IsPassed, LeadsDown, HasComeDown, IsStepDown, weight, total}

-- ---- the way down

pub further_down : (d : Declarations) (layers : List Layer) (first : Wanted) (way : List Passed) (wanted below : Wanted) (layer : Layer) (set : Option Step) → LeadsDown d layers first way wanted → IsInfinite d wanted.sort → IsPassed d layers wanted below layer set → LeadsDown d layers first (way ++ record { sort = wanted.sort; set = set } ∷ []) below
further_down d layers first [] wanted below layer set e infinite passed =
    (ap (λ (x : Wanted). x.sort) (sym e), subst (λ (x : Wanted). IsInfinite d x.sort) (sym e) infinite, layer, below, subst (λ (x : Wanted). IsPassed d layers x below layer set) (sym e) passed, refl)
further_down d layers first (x ∷ way) wanted below layer set (here, infinite_first, top, second, by, rest) infinite passed =
    (here, infinite_first, top, second, by, further_down d layers second way wanted below layer set rest infinite passed)

-- the last layer of a way
pub last_layer : (d : Declarations) (layers : List Layer) (first : Wanted) (way : List Passed) (x : Passed) (below : Wanted) → LeadsDown d layers first (way ++ x ∷ []) below → (wanted : Wanted) × (layer : Layer) × LeadsDown d layers first way wanted × (x.sort ≡ wanted.sort) × IsInfinite d wanted.sort × IsPassed d layers wanted below layer x.set
last_layer d layers first [] x below (here, infinite, layer, second, by, e) =
    (first, layer, refl, here, infinite, subst (λ (z : Wanted). IsPassed d layers first z layer x.set) e by)
last_layer d layers first (y ∷ way) x below (here, infinite, layer, second, by, rest) =
    let last = last_layer d layers second way x below rest in
    (last.0, last.1, (here, infinite, layer, second, by, last.2), last.3, last.4, last.5)

-- a rank is no greater than the sum of all
pub rank_total : (ranks : List ℕ) (s : ℕ) → get_or ranks s 0 ≤ total ranks
rank_total [] s = omega arith
rank_total (rank ∷ ranks) zero = omega arith
rank_total (rank ∷ ranks) (suc s) = let h = rank_total ranks s in omega arith

-- below a layer that may end by another constructor
pub leads_end : (layer : Layer) (wanted below : Wanted) (set : Option Step) (other : CtorId) → layer.departure ≡ Other other → below.sort ≡ layer.step.next → below.turn ≡ wanted.turn → LeavesLess layer.digit wanted.number below.number set → LeadsTo layer wanted below set
leads_end layer wanted below set other e sort turn leaves = record {
  next = sym sort;
  turned = subst (λ (z : Departure). turn_below wanted.turn z ≡ below.turn) (sym e) (sym turn);
  leaves = subst (λ (z : Departure). Leaves layer z wanted.turn wanted.number below.number set) (sym e) leaves;
}

-- ---- one layer further down

times_less : (m n b : ℕ) → m < n → m * b + b ≤ n * b
times_less m zero b h = absurd (omega arith)
times_less m (suc n) b h =
    elim (cases_order m n) [
      | inl e ↦ let same : n * b ≡ m * b = ap (λ k. k * b) (sym e) in omega (arith, suc-mul n b, same)
      | inr (inl less) ↦ let rest = times_less m n b less in omega (arith, suc-mul n b, rest)
      | inr (inr more) ↦ absurd (omega arith)
    ]

-- the measure of the way down falls
pub down_less : (several : List ℕ) (left s m t : ℕ) → (m < left) ⊎ ((m ≡ left) × (get_or several t 0 < get_or several s 0)) → m * suc (total several) + get_or several t 0 < left * suc (total several) + get_or several s 0
down_less several left s m t (inl less) =
    let rest = times_less m left (suc (total several)) less in
    let rank = rank_total several t in
    omega (arith, rest, rank)
down_less several left s m t (inr (e, less)) =
    let same : m * suc (total several) ≡ left * suc (total several) = ap (λ k. k * suc (total several)) e in
    omega (arith, same, less)

-- the turn weighs less than one of the number
light : (turn : Bool) (m : ℕ) → (if turn then 1 else 0) + 2 * m ≤ 1 + 2 * m
light true m = omega arith
light false m = omega arith

heavy : (turn : Bool) (n : ℕ) → 2 * n ≤ (if turn then 1 else 0) + 2 * n
heavy true n = omega arith
heavy false n = omega arith

lighter : (turn under : Bool) (n m : ℕ) → m < n → (if under then 1 else 0) + 2 * m < (if turn then 1 else 0) + 2 * n
lighter turn under n m less = let a = light under m in let b = heavy turn n in omega (arith, a, b, less)

-- below a layer the weight is less, or it is the same where none can depart
pub below_less : (d : Declarations) (several : List ℕ) (layer : Layer) (wanted below : Wanted) (set : Option Step) → IsLayer d several wanted.sort layer → LeadsTo layer wanted below set → (weight below < weight wanted) ⊎ ((weight below ≡ weight wanted) × (get_or several below.sort 0 < get_or several wanted.sort 0))
below_less d several layer wanted below set is leads = by layer.departure wanted.turn refl leads.turned leads.leaves
  where
    less_digit : (digit : Step) (k m : ℕ) → LeavesDigit digit k m set → m ≤ k
    less_digit digit k m (b, set_is, k_is) = omega arith

    less : (digit : Option Step) (n m : ℕ) → LeavesLess digit n m set → m < n
    less None n m (n_is, none) = omega arith
    less (Some digit) n m (k, n_is, leaves) = let few = less_digit digit k m leaves in omega arith

    by : (departure : Departure) (turn : Bool) → layer.departure ≡ departure → turn_below turn departure ≡ below.turn → Leaves layer departure turn wanted.number below.number set
        → ((if below.turn then 1 else 0) + 2 * below.number < (if turn then 1 else 0) + 2 * wanted.number) ⊎ (((if below.turn then 1 else 0) + 2 * below.number ≡ (if turn then 1 else 0) + 2 * wanted.number) × (get_or several below.sort 0 < get_or several wanted.sort 0))
    by Nowhere turn e turned (n_is, none) = inr (ap (λ (t : Bool). (if t then 1 else 0) + 2 * below.number) (sym turned) ∙ ap (λ (i : ℕ). (if turn then 1 else 0) + 2 * i) (sym n_is), subst (λ u. get_or several u 0 < get_or several wanted.sort 0) leads.next (is.falls e))
    by (Other ctor) turn e turned leaves = inl (lighter turn below.turn wanted.number below.number (less layer.digit wanted.number below.number leaves))
    by (Field step) true e turned leaves =
        let few = less_digit step wanted.number below.number leaves in
        inl (subst (λ (t : Bool). (if t then 1 else 0) + 2 * below.number < 1 + 2 * wanted.number) turned (omega arith))
    by (Field step) false e turned leaves = inl (lighter false below.turn wanted.number below.number (less None wanted.number below.number leaves))

pub step_down : (d : Declarations) (several : List ℕ) (layers : List Layer) (way : List Passed) (wanted : Wanted) (longer : List Passed) (below : Wanted) (layer : Layer) (set : Option Step) → IsLayer d several wanted.sort layer → slice_get layers wanted.sort ≡ Some layer → is_free_sort d wanted.sort ≡ false → LeadsTo layer wanted below set → longer ≡ way ++ record { sort = wanted.sort; set = set } ∷ [] → below.sort < length d.sorts → IsStepDown d several layers way wanted longer below
step_down d several layers way wanted longer below layer set is stored other leads way_is inside =
    record {
      layer = layer;
      set = set;
      way_is = way_is;
      passed = record { other = other; stored = stored; leads = leads };
      inside = inside;
      infinite = subst (λ u. IsInfinite d u) leads.next is.infinite;
      less = below_less d several layer wanted below set is leads;
    }

-- where one has come down to a sort that is not uninterpreted, a value can depart
pub come_down_some : (d : Declarations) (layers : List Layer) (wanted : Wanted) (layer : Layer) → HasComeDown d layers wanted → is_free_sort d wanted.sort ≡ false → slice_get layers wanted.sort ≡ Some layer → layer.departure ≡ Nowhere → ⊥
come_down_some d layers wanted layer (inl free) other stored e = true≢false (sym free ∙ other)
come_down_some d layers wanted layer (inr (kind, found, at, ends)) other stored e =
    ends.departs (ap (λ (l : Layer). l.departure) (same_Some _ _ (sym at ∙ stored)) ∙ e)
