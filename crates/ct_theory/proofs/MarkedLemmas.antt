-- What is known of classes does not hang on their marks.
use Rattle.std.proofs.Common.{◌≡◌, List, sym, subst}
use Rattle.ct_sorts.specs.Declarations.{Declarations}
use Rattle.ct_terms.specs.declared.ids.TermId.{TermId}
use Rattle.ct_terms.specs.declared.ids.Lit.{Lit}
use Rattle.ct_terms.specs.Terms.{Terms}
use Rattle.ct_congr.specs.State.{State, Marked, IsQuiet, marked_now, state_at}
use Rattle.ct_acyclic.specs.Order.{IsDataClass, IsClassOrder}
use Rattle.ct_unique.specs.Partition.{IsStronglyExtensional}
use Rattle.ct_theory.specs.Entailment.{IsSaturation}

module _ (state : State) (marks : List Marked) where
  -- the same classes with these marks
  abbrev other : State
  other = state_at state (marked_now state) marks

  quiet_with : IsQuiet state → IsQuiet other
  quiet_with q = record { closed = record { exact = q.closed.exact; closed = q.closed.closed }; one = q.one }

  data_with : (t : TermId) → IsDataClass state t → IsDataClass other t
  data_with t h = record { own = h.own; datatype = h.datatype }

  data_without : (t : TermId) → IsDataClass other t → IsDataClass state t
  data_without t h = record { own = h.own; datatype = h.datatype }

  order_with : (list : List TermId) → IsClassOrder state list → IsClassOrder other list
  order_with list h = record {
    only = λ index t at. data_with t (h.only index t at);
    each = λ t is. h.each t (data_without t is);
    once = h.once;
    after = h.after;
  }

  extensional_with : IsStronglyExtensional state → IsStronglyExtensional other
  extensional_with h x y b = h x y (record { related = b.related; bisimulation = b.bisimulation; holds = b.holds })

  IsSaturation-with : (d : Declarations) (terms : Terms) (literals : List Lit) (order : List TermId) → IsSaturation d terms literals state order → IsSaturation d terms literals other order
  IsSaturation-with d terms literals order s = record {
    declarations = s.declarations;
    terms_are = s.terms_are;
    hypotheses = s.hypotheses;
    quiet = quiet_with s.quiet;
    exact = s.exact;
    acyclic = s.acyclic;
    ordered = order_with order s.ordered;
    extensional = extensional_with s.extensional;
  }

-- a saturation stays one where a mark is set
pub IsSaturation-marked : (old new : State) (marks : List Marked) → new ≡ state_at old (marked_now old) marks → (d : Declarations) (terms : Terms) (literals : List Lit) (order : List TermId) → IsSaturation d terms literals old order → IsSaturation d terms literals new order
IsSaturation-marked old new marks is d terms literals order s =
    subst (λ (state : State). IsSaturation d terms literals state order) (sym is) (IsSaturation-with old marks d terms literals order s)
