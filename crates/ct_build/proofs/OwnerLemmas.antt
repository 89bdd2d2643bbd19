-- Owners of representatives: no node has two classes, or two classes collide.
use Rattle.std.proofs.Common.{◌≡◌, ℕ, ◌+◌, ◌<◌, List, length, set, replicate, slice_get, Option, Some, None, ◌↔◌, refl, sym, ◌∙◌, ap, subst, inl, inr, arith}
use Rattle.std.proofs.lemmas.Bool.{cases_eq, cases_order}
use Rattle.std.proofs.lemmas.Option.{none-some, same_Some, slice_get_within}
use Rattle.ct_lemmas.proofs.Lists.{slice_get-replicate, slice_get-set_other, slice_get-set_same, slice_get-there}
use Rattle.ct_values.specs.declared.node.NodeId.{NodeId}
use Rattle.ct_values.specs.Graph.{Nodes}
use Rattle.ct_values.specs.Agreement.{Point, node_point, AgreeAlways}
use Rattle.ct_values.specs.Sharing.{IsRepresentative}
use Rattle.ct_terms.specs.declared.ids.TermId.{TermId}
use Rattle.ct_congr.specs.State.{State, AreEqual}
use Rattle.ct_eval.specs.EvaluationStep.{node_under}
use Rattle.ct_build.specs.ClassValues.{AreApart, Collide}
use Rattle.ct_build.specs.Nodes.{term_point}
use Rattle.ct_build.specs.OpenClasses.{HaveOwnRepresentatives}
use Rattle.ct_build.specs.Owners.{IsOwner, AreOwners, IsClaim}
use Rattle.ct_build.proofs.ListLemmas.{set_at}

less_or : (m n : ℕ) → m < n + 1 → (m ≡ n → ⊥) → m < n
less_or m n less apart = elim (cases_order m n) [
  | inl e ↦ absurd (apart e)
  | inr sides ↦ elim sides [ inl h ↦ h | inr h ↦ absurd (omega (arith, less, h)) ]
]

-- one node is the representative of two values exactly where they are equal
abbrev pub TellsValues : Type 0
TellsValues = (g : Nodes) (p q : Point) (m n : NodeId) → IsRepresentative g p m → IsRepresentative g q n → (m ≡ n) ↔ AgreeAlways p q

module _ (state : State) (g : Nodes) (nodes : List NodeId) where
  pub owners_none : (count : ℕ) → AreOwners state g nodes 0 (replicate count None)
  owners_none count = record {
    only = λ n t at. absurd (none-some t (sym (slice_get-replicate count n None (Some t) at)));
    each = λ t own less. absurd (omega (arith, less));
  }

  -- a term that represents no class
  pub owners_skip : (t : TermId) (owners : List (Option TermId)) → (slice_get state.reps t.0 ≡ Some t → ⊥) → AreOwners state g nodes t.0 owners → AreOwners state g nodes (t.0 + 1) owners
  owners_skip t owners is_not old = record {
    only = λ n u at. ((old.only n u at).0, later u ((old.only n u at).1));
    each = λ u own less. elim (cases_eq u.0 t.0) [
      | inl e ↦
          let same : u ≡ t = λ i. record { 0 = e i } in
          absurd (is_not (subst (λ (q : TermId). slice_get state.reps q.0 ≡ Some q) same own))
      | inr apart ↦ old.each u own (less_or u.0 t.0 less apart)
    ];
  }
    where
      later : (u : TermId) → u.0 < t.0 → u.0 < t.0 + 1
      later u less = omega (arith, less)

  -- one that gets a node
  pub owners_more : (t : TermId) (n : ℕ) (owners : List (Option TermId)) → IsOwner state g nodes t n → slice_get owners n ≡ Some None → AreOwners state g nodes t.0 owners → AreOwners state g nodes (t.0 + 1) (set owners n (Some t))
  owners_more t n owners owner free old = record {
    only = λ m u at. elim (set_at owners n m (Some t) (Some u) at) [
      | inl (e, same) ↦
          let one : t ≡ u = same_Some t u same in
          let here : t.0 < t.0 + 1 = omega arith in
          subst (λ (q : TermId). IsOwner state g nodes q m × (q.0 < t.0 + 1)) one (subst (λ (k : ℕ). IsOwner state g nodes t k) (sym e) owner, here)
      | inr (other, had) ↦ ((old.only m u had).0, later u ((old.only m u had).1))
    ];
    each = λ u own less. elim (cases_eq u.0 t.0) [
      | inl e ↦
          let same : t ≡ u = λ i. record { 0 = sym e i } in
          (n, slice_get-set_same owners n (Some t) (slice_get_within owners n None free) ∙ ap (λ (q : TermId). Some (Some q)) same, subst (λ (q : TermId). IsOwner state g nodes q n) same owner)
      | inr apart ↦
          let found = old.each u own (less_or u.0 t.0 less apart) in
          (found.0, slice_get-set_other owners n found.0 (Some t) (λ e. none-some u (same_Some None (Some u) (sym free ∙ ap (slice_get owners) (sym e) ∙ found.1))) ∙ found.1, found.2)
    ];
  }
    where
      later : (u : TermId) → u.0 < t.0 → u.0 < t.0 + 1
      later u less = omega (arith, less)

  -- a claim that no other class has
  pub owners_claim : (t : TermId) (old new : List (Option TermId)) → IsClaim state g nodes t old new None → AreOwners state g nodes t.0 old → AreOwners state g nodes (t.0 + 1) new
  owners_claim t old new claim are = elim claim [
    | inl (same, is_not) ↦ subst (λ (l : List (Option TermId)). AreOwners state g nodes (t.0 + 1) l) (sym same) (owners_skip t old is_not are)
    | inr (n, owner, free, is) ↦ subst (λ (l : List (Option TermId)). AreOwners state g nodes (t.0 + 1) l) (sym is) (owners_more t n old owner free are)
  ]

  pub owners_unclaimed : (t : TermId) (old new : List (Option TermId)) (result : Option TermId) → ((other : TermId) → result ≡ Some other → ⊥) → IsClaim state g nodes t old new result → AreOwners state g nodes t.0 old → AreOwners state g nodes (t.0 + 1) new
  owners_unclaimed t old new None other claim are = owners_claim t old new claim are
  owners_unclaimed t old new (Some x) other claim are = absurd (other x refl)

  -- a claim that another has
  pub claim_collides : TellsValues → length state.reps ≡ length state.terms → (t other : TermId) (old new : List (Option TermId)) → IsClaim state g nodes t old new (Some other) → AreOwners state g nodes t.0 old → Collide state (term_point g nodes) other t
  claim_collides tells long t other old new (n, owner, taken) are =
      let (first, less) = are.only n other taken in record {
        left = subst (λ (k : ℕ). other.0 < k) long (slice_get_within state.reps other.0 other first.own);
        right = subst (λ (k : ℕ). t.0 < k) long (slice_get_within state.reps t.0 t owner.own);
        apart = λ equal.
            let same : other ≡ t = same_Some other t (sym first.own ∙ equal.1 ∙ sym equal.2 ∙ owner.own) in
            let number : other.0 ≡ t.0 = ap (λ (q : TermId). q.0) same in
            absurd (omega (arith, less, number));
        one = (tells g (term_point g nodes other) (term_point g nodes t) (record { 0 = n }) (record { 0 = n }) first.first owner.first).0 refl;
      }

  -- where each class has its node, terms of one value are of one class
  pub owners_apart : TellsValues → HaveOwnRepresentatives state → length state.reps ≡ length state.terms → ((t u : TermId) → AreEqual state t u → node_under nodes t ≡ node_under nodes u) → (count : ℕ) (owners : List (Option TermId)) → count ≡ length state.terms → AreOwners state g nodes count owners → AreApart state (term_point g nodes)
  owners_apart tells own long one_node count owners all are x y in_x in_y agree =
      let (r, at_r) = slice_get-there state.reps x.0 (subst (λ (k : ℕ). x.0 < k) (sym long) in_x) in
      let (s, at_s) = slice_get-there state.reps y.0 (subst (λ (k : ℕ). y.0 < k) (sym long) in_y) in
      let own_r = own x r at_r in
      let own_s = own y s at_s in
      let (m, at_m, first) = are.each r own_r (subst (λ (k : ℕ). r.0 < k) (long ∙ sym all) (slice_get_within state.reps r.0 r own_r)) in
      let (n, at_n, second) = are.each s own_s (subst (λ (k : ℕ). s.0 < k) (long ∙ sym all) (slice_get_within state.reps s.0 s own_s)) in
      let same_x = one_node x r (r, at_r, own_r) in
      let same_y = one_node y s (s, at_s, own_s) in
      let between : AgreeAlways (term_point g nodes r) (term_point g nodes s) = subst (λ (q : NodeId). AgreeAlways (node_point g q) (term_point g nodes s)) same_x (subst (λ (q : NodeId). AgreeAlways (term_point g nodes x) (node_point g q)) same_y agree) in
      let one = (tells g (term_point g nodes r) (term_point g nodes s) (record { 0 = m }) (record { 0 = n }) first.first second.first).1 between in
      let number : m ≡ n = ap (λ (q : NodeId). q.0) one in
      let same : r ≡ s = same_Some r s (same_Some (Some r) (Some s) (sym at_m ∙ ap (slice_get owners) number ∙ at_n)) in
      (s, at_r ∙ ap Some same, at_s)
