-- What the search gives in the end, and that an order and a cycle exclude each other.
use Rattle.std.proofs.Common.{◌≡◌, ℕ, zero, suc, ◌-◌, ◌<◌, ◌≤◌, List, [], length, Some, slice_get, get_or, sym, ap, subst, ◌∙◌, arith}
use Rattle.std.proofs.lemmas.Option.{none-some, same_Some, slice_get_within, slice_get-get_or}
use Rattle.ct_lemmas.proofs.Lists.{slice_get-there}
use Rattle.ct_ordering.specs.declared.hop.Hop.{Hop}
use Rattle.ct_ordering.specs.declared.search.Colour.{Colour}
use Rattle.ct_ordering.specs.declared.search.Colour.TheVariants.{White, Grey, Black}
use Rattle.ct_ordering.specs.Graph.{Graph}
use Rattle.ct_ordering.specs.Order.{StandsAt, IsOrder, IsCycle}
use Rattle.ct_ordering.specs.Search.{HasColour, StandsIn, IsUnderWay}

-- a point that is not white, while nothing is on the stack, stands in the order
done : (g : Graph) (colours : List Colour) (order : List ℕ) → IsUnderWay g colours order [] → (point : ℕ) (colour : Colour) → HasColour colours point colour → (HasColour colours point White → ⊥) → StandsIn order point
done g colours order u point White is met = absurd (met is)
done g colours order u point (Grey depth) is met = let at = (u.grey point depth).0 is in absurd (none-some at.0 at.1)
done g colours order u point Black is met = (u.black point).0 is

-- points below this number were met, and nothing is on the stack
pub record AreMet (g : Graph) (colours : List Colour) (order : List ℕ) (number : ℕ) : Type 0 where
  pub under_way : IsUnderWay g colours order []
  pub met : (point : ℕ) → point < number → HasColour colours point White → ⊥

-- a search that met all points, with nothing on the stack, gives an order
pub order-done : (g : Graph) (colours : List Colour) (order : List ℕ) (number : ℕ) → g.count ≤ number → AreMet g colours order number → IsOrder g order
order-done g colours order number all m =
    let u = m.under_way in
    record {
      within = λ k d within.
          let point = get_or order k d in
          subst (λ (n : ℕ). point < n) u.long (slice_get_within colours point Black ((u.black point).1 (k, slice_get-get_or order k d within)));
      each = λ point within.
          let some = slice_get-there colours point (subst (λ (n : ℕ). point < n) (sym u.long) within) in
          done g colours order u point some.0 some.1 (m.met point (omega (arith, within, all)));
      once = u.partial.once;
      before = λ point place kid earlier later has at_kid at_point.
          let found = u.partial.before point place kid later has at_point in
          omega (arith, found.1, u.partial.once kid found.0 earlier found.2 at_kid);
    }

-- ---- no graph has both

-- along a cycle the points stand no later than the first
descends : (g : Graph) (list : List ℕ) (hops : List Hop) → IsOrder g list → IsCycle g hops → (first : Hop) → slice_get hops 0 ≡ Some first → (start : ℕ) → StandsAt list start first.point → (k : ℕ) (hop : Hop) → slice_get hops k ≡ Some hop → (index : ℕ) → StandsAt list index hop.point → index ≤ start
descends g list hops order cycle first at_first start stands_first zero hop at index stands_hop =
    let same : first ≡ hop = same_Some first hop (sym at_first ∙ at) in
    omega (arith, order.once hop.point index start stands_hop (subst (λ (h : Hop). StandsAt list start h.point) same stands_first))
descends g list hops order cycle first at_first start stands_first (suc k) hop at index stands_hop =
    let within = slice_get_within hops (suc k) hop at in
    let earlier = slice_get-there hops k (omega (arith, within)) in
    let below : earlier.0.point < g.count = subst (λ (h : Hop). h.point < g.count) (same_Some (get_or hops k hop) earlier.0 (sym (slice_get-get_or hops k hop (omega (arith, within))) ∙ earlier.1)) (cycle.within k hop (omega (arith, within))) in
    let stands_earlier = order.each earlier.0.point below in
    let edge = cycle.path k earlier.0 hop earlier.1 (ap (slice_get hops) (omega arith) ∙ at) in
    let later = order.before earlier.0.point earlier.0.place hop.point index stands_earlier.0 edge stands_hop stands_earlier.1 in
    let rest = descends g list hops order cycle first at_first start stands_first k earlier.0 earlier.1 stands_earlier.0 stands_earlier.1 in
    omega (arith, later, rest)

pub no-both : (g : Graph) (list : List ℕ) (hops : List Hop) → IsOrder g list → IsCycle g hops → ⊥
no-both g list hops order cycle =
    let at_hop : (k : ℕ) → k < length hops → (hop : Hop) → slice_get hops k ≡ Some hop → (index : ℕ) × StandsAt list index hop.point =
    λ k within hop at. order.each hop.point (subst (λ (h : Hop). h.point < g.count) (same_Some (get_or hops k hop) hop (sym (slice_get-get_or hops k hop within) ∙ at)) (cycle.within k hop within)) in
    let last_in : length hops - 1 < length hops = omega (arith, cycle.some) in
    let first = slice_get-there hops 0 cycle.some in
    let last = slice_get-there hops (length hops - 1) last_in in
    let start = at_hop 0 cycle.some first.0 first.1 in
    let end = at_hop (length hops - 1) last_in last.0 last.1 in
    let high = descends g list hops order cycle first.0 first.1 start.0 start.1 (length hops - 1) last.0 last.1 end.0 end.1 in
    let low = order.before last.0.point last.0.place first.0.point start.0 end.0 (cycle.closed first.0 last.0 first.1 last.1) start.1 end.1 in
    omega (arith, high, low)
