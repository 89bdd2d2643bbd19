-- Classes that have an order have no cycle: along a cycle the index in the order falls.
use Rattle.std.proofs.Common.{◌≡◌, ℕ, ◌<◌, List, [], ◌∷◌, length, get_or, slice_get, Some, arith}
use Rattle.std.proofs.lemmas.Option.{slice_get_within, slice_get-get_or}
use Rattle.ct_terms.specs.declared.ids.TermId.{TermId}
use Rattle.ct_terms.specs.declared.term.Core.TheVariants.{Con}
use Rattle.ct_rules.specs.Cycle.{LeadBack, IsCycle}
use Rattle.ct_congr.specs.State.{State, AreEqual}
use Rattle.ct_acyclic.specs.Order.{Leads, IsClassOrder}
use Rattle.ct_acyclic.proofs.ClassLemmas.{HaveOneSort, datatype-equal, InOneClass-trans}

module _ (state : State) (list : List TermId) (one_sort : HaveOneSort state) (own : (x r : TermId) → slice_get state.reps x.0 ≡ Some r → slice_get state.reps r.0 ≡ Some r) (order : IsClassOrder state list) where
  -- the first of a chain leads on
  head : (hop : TermId × ℕ) (hops : List (TermId × ℕ)) (end : TermId) → LeadBack state.declarations state.terms (AreEqual state) (hop ∷ hops) end → (next : TermId) × Leads state hop.0 hop.1 next
  head hop [] end lead = (end, lead)
  head hop (next ∷ hops) end lead = (next.0, lead.0)

  -- the class of a constructor term that leads on has an index
  place : (con next : TermId) (k : ℕ) (r : TermId) → Leads state con k next → slice_get state.reps con.0 ≡ Some r → (index : ℕ) × (slice_get list index ≡ Some r)
  place con next k r leads at = order.each r (record { own = own con r at; datatype = datatype-equal state one_sort con r (r, at, own con r at) leads.datatype })

  -- each class that is led to has a smaller index
  step : (con next : TermId) (k : ℕ) (r s : TermId) (i j : ℕ) → Leads state con k next → slice_get state.reps con.0 ≡ Some r → slice_get list i ≡ Some r → slice_get state.reps next.0 ≡ Some s → slice_get list j ≡ Some s → j < i
  step con next k r s i j leads at_r in_r at_s in_s =
      let on : Leads state con k s = record {
        ctor = leads.ctor;
        args = leads.args;
        argument = leads.argument;
        stands = leads.stands;
        datatype = leads.datatype;
        at = leads.at;
        equal = InOneClass-trans state.reps leads.argument next s leads.equal (s, at_s, own next s at_s);
      } in
      order.after r s con k j i (r, at_r, own con r at_r) on in_s in_r

  falls : (hop : TermId × ℕ) (hops : List (TermId × ℕ)) (end : TermId) (r s : TermId) (i j : ℕ) → LeadBack state.declarations state.terms (AreEqual state) (hop ∷ hops) end → slice_get state.reps hop.0.0 ≡ Some r → slice_get list i ≡ Some r → slice_get state.reps end.0 ≡ Some s → slice_get list j ≡ Some s → j < i
  falls hop [] end r s i j lead at_r in_r at_s in_s = step hop.0 end hop.1 r s i j lead at_r in_r at_s in_s
  falls hop (next ∷ hops) end r s i j lead at_r in_r at_s in_s =
      let q = lead.0.equal.0 in
      let at_q : slice_get state.reps next.0.0 ≡ Some q = lead.0.equal.2 in
      let further = head next hops end lead.1 in
      let found = place next.0 further.0 next.1 q further.1 at_q in
      let first = step hop.0 next.0 hop.1 r q i found.0 lead.0 at_r in_r at_q found.1 in
      let rest = falls next hops end q s found.0 j lead.1 at_q found.1 at_s in_s in
      omega (arith, first, rest)

  pub no_cycle : length state.reps ≡ length state.terms → (hops : List (TermId × ℕ)) → IsCycle state.declarations state.terms (AreEqual state) hops → ⊥
  no_cycle long [] cycle = cycle
  no_cycle long (hop ∷ hops) cycle =
      let on = head hop hops hop.0 cycle in
      let inside = slice_get_within state.terms hop.0.0 (Con on.1.ctor on.1.args, on.1.stands.0) on.1.stands.1 in
      let r = get_or state.reps hop.0.0 hop.0 in
      let at = slice_get-get_or state.reps hop.0.0 hop.0 (omega (arith, inside, long)) in
      let found = place hop.0 on.0 hop.1 r on.1 at in
      let less = falls hop hops hop.0 r r found.0 found.0 cycle at found.1 at found.1 in
      omega (arith, less)
