-- The first item that is refused among those of selectors, or beyond the last one that is due.
use Rattle.std.proofs.Common.{◌≡◌, ℕ, zero, suc, ◌+◌, ◌-◌, ◌<◌, ◌≤◌, List, length, length-append, map, Option, None, Some, slice_get, refl, sym, ap, subst, ◌∙◌, arith, inl, inr, true}
use Rattle.std.proofs.lemmas.Bool.{cases_lt}
use Rattle.std.proofs.lemmas.Option.{slice_get_within, slice_get_past}
use Rattle.std.proofs.lemmas.List.{length-map}
use Rattle.ct_lemmas.proofs.Lists.{slice_get-there, slice_get-last}
use Rattle.ct_sorts.specs.Declarations.{Declarations, Function}
use Rattle.ct_sexpr.specs.Expression.{Expression}
use Rattle.ct_values.specs.Graph.{Nodes}
use Rattle.ct_eval.specs.declared.interp.Table.{Table}
use Rattle.ct_card.specs.Sizes.{Table as Sizes}
use Rattle.ct_model.specs.ModelText.{can_miss, off_numbers}
use Rattle.ct_readback.specs.ItemText.{Due, due_function, due_off, all_due}
use Rattle.ct_readback.specs.ModelReads.{departs, IsRightAt, IsRefusedAt, IsFirstRefused}
use Rattle.ct_readback.specs.Progress.{AreFunctions, AreSelectors, first_offs}
use Rattle.ct_readback.proofs.ModelLemmas.{due_off_at, functions_right}
use Rattle.ct_readback.proofs.SelectorLemmas.{offs_more, offs_below}
use Rattle.ct_readback.proofs.WholeLemmas.{listed_by, due_of, due_is}

-- what stands among the first numbers that pass stands there among more of them
pub offs_stay : (d : Declarations) (more count k s : ℕ) → slice_get (first_offs d count) k ≡ Some s → slice_get (first_offs d (count + more)) k ≡ Some s
offs_stay d zero count k s at = let same : count ≡ count + 0 = omega arith in ap (λ n. slice_get (first_offs d n) k) (sym same) ∙ at
offs_stay d (suc more) count k s at =
    let same : count + 1 + more ≡ count + suc more = omega arith in
    ap (λ n. slice_get (first_offs d n) k) (sym same) ∙ offs_stay d more (count + 1) k s (listed_by d count s k (can_miss d count) refl at)

pub offs_all : (d : Declarations) (count k s : ℕ) → count ≤ length d.sels → slice_get (first_offs d count) k ≡ Some s → slice_get (off_numbers d) k ≡ Some s
offs_all d count k s within at =
    let same : count + (length d.sels - count) ≡ length d.sels = omega (arith, within) in
    ap (λ n. slice_get (first_offs d n) k) (sym same) ∙ offs_stay d (length d.sels - count) count k s at

module _ (d : Declarations) (sizes : Sizes) (g : Nodes) (items : List Expression) (funs offs : List Table) (count : ℕ)
    (within : count ≤ length d.sels)
    (functions : AreFunctions d g items (length d.functions) funs)
    (selectors : AreSelectors d sizes g items (length d.functions) count offs)
  where
    selector_right : (k s : ℕ) → slice_get (first_offs d count) k ≡ Some s → IsRightAt d (slice_get (all_due d) (length d.functions + k)) (slice_get items (length d.functions + k))
    selector_right k s at =
        let below = offs_below d count k s at in
        let selector = slice_get-there d.sels s (omega (arith, below, within)) in
        let table = slice_get-there offs s (let long = selectors.long in omega (arith, long, below)) in
        let due = due_is d s selector.0 selector.1 in
        let read = selectors.offs k s (due_of d s selector.0) table.0 at due table.1 in
        subst (λ (o : Option (Option Due)). IsRightAt d o (slice_get items (length d.functions + k))) (sym (due_off_at d k s (offs_all d count k s within at) ∙ ap Some due))
        (subst (λ (item : Option Expression). IsRightAt d (Some (Some (due_of d s selector.0))) item) (sym read.1) (read.2.0, read.2.1))

    -- all items before the next one are right
    pub right_before : (i : ℕ) → i < length d.functions + length (first_offs d count) → IsRightAt d (slice_get (all_due d) i) (slice_get items i)
    right_before i below =
        elim (cases_lt i (length d.functions)) [
          | inl less ↦ functions_right d g items (length d.functions) funs functions i less less
          | inr not_less ↦
              let k = i - length d.functions in
              let same : length d.functions + k ≡ i = omega (arith, not_less) in
              let s = slice_get-there (first_offs d count) k (omega (arith, below, not_less)) in
              subst (λ n. IsRightAt d (slice_get (all_due d) n) (slice_get items n)) same (selector_right k s.0 s.1)
        ]

    pub selector_refused : (code : ℕ) → count < length d.sels → can_miss d count ≡ true
        → IsRefusedAt d (Some (due_off d count)) (slice_get items (length d.functions + length (first_offs d count))) code → IsFirstRefused d items (length d.functions + length (first_offs d count)) code
    selector_refused code less misses refused =
        let last = length (first_offs d count) in
        let here : slice_get (first_offs d (count + 1)) last ≡ Some count = ap (λ ns. slice_get ns last) (offs_more d count misses) ∙ slice_get-last (first_offs d count) count in
        let due = due_off_at d last count (offs_all d (count + 1) last count (omega (arith, less)) here) in
        record {
          before = right_before;
          here = subst (λ (o : Option (Option Due)). IsRefusedAt d o (slice_get items (length d.functions + last)) code) (sym due) refused;
        }

-- one item too many
pub one_too_many : (d : Declarations) (sizes : Sizes) (g : Nodes) (items : List Expression) (funs offs : List Table) → AreFunctions d g items (length d.functions) funs → AreSelectors d sizes g items (length d.functions) (length d.sels) offs
    → length d.functions + length (off_numbers d) < length items → IsFirstRefused d items (length d.functions + length (off_numbers d)) departs
one_too_many d sizes g items funs offs functions selectors more =
    let place = length d.functions + length (off_numbers d) in
    let item = slice_get-there items place more in
    let ours : length (map (λ (f : Function). Some (due_function f)) d.functions) ≡ length d.functions = length-map d.functions (λ (f : Function). Some (due_function f)) in
    let theirs : length (map (due_off d) (off_numbers d)) ≡ length (off_numbers d) = length-map (off_numbers d) (due_off d) in
    let both = length-append (map (λ (f : Function). Some (due_function f)) d.functions) (map (due_off d) (off_numbers d)) in
    let nothing : slice_get (all_due d) place ≡ None = slice_get_past (all_due d) place (omega (arith, ours, theirs, both)) in
    record {
      before = right_before d sizes g items funs offs (length d.sels) (omega arith) functions selectors;
      here = subst (λ (due : Option (Option Due)). IsRefusedAt d due (slice_get items place) departs) (sym nothing)
          (subst (λ (found : Option Expression). IsRefusedAt d None found departs) (sym item.1) refl);
    }

-- where an item is right, there is one
right_there : (d : Declarations) (due : Option (Option Due)) (item : Option Expression) → IsRightAt d due item → (e : Expression) × (item ≡ Some e)
right_there d due (Some e) h = (e, refl)
right_there d None None h = absurd h
right_there d (Some None) None h = absurd h
right_there d (Some (Some due)) None h = absurd h

-- each item that is due is there
pub enough : (d : Declarations) (sizes : Sizes) (g : Nodes) (items : List Expression) (funs offs : List Table) → AreFunctions d g items (length d.functions) funs → AreSelectors d sizes g items (length d.functions) (length d.sels) offs
    → length d.functions + length (off_numbers d) ≤ length items
enough d sizes g items funs offs functions selectors = by (length d.functions + length (off_numbers d)) (λ i below. right_before d sizes g items funs offs (length d.sels) (omega arith) functions selectors i below)
  where
    by : (n : ℕ) → ((i : ℕ) → i < n → IsRightAt d (slice_get (all_due d) i) (slice_get items i)) → n ≤ length items
    by zero right = omega arith
    by (suc n) right =
        let there = right_there d (slice_get (all_due d) n) (slice_get items n) (right n (omega arith)) in
        let within : n < length items = slice_get_within items n there.0 there.1 in
        omega (arith, within)
