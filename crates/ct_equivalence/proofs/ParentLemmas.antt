-- The terms right above each term, listed term by term.
use Rattle.std.proofs.Common.{◌≡◌, ℕ, ◌+◌, ◌<◌, ◌⊎◌, List, [], ◌∷◌, ◌++◌, length, set, slice_get, Some, refl, sym, ap, ◌∙◌, subst, inl, inr, arith}
use Rattle.std.specs.List.{Contains, All}
use Rattle.std.proofs.lemmas.List.{length-set}
use Rattle.std.proofs.lemmas.List.Elements.{Contains-append_left, Contains-push, Contains-push_cases, All-contains}
use Rattle.std.proofs.lemmas.Option.{same_Some}
use Rattle.ct_lemmas.proofs.Contained.{Contains-from_slice_get}
use Rattle.ct_lemmas.proofs.Lists.{slice_get-one_length, slice_get-set_other, slice_get-set_same}
use Rattle.ct_lemmas.proofs.Numbers.{same_or_other}
use Rattle.ct_terms.specs.declared.ids.TermId.{TermId}
use Rattle.ct_terms.specs.declared.term.Core.{Core}
use Rattle.ct_terms.specs.Children.{core_children}
use Rattle.ct_terms.specs.Terms.{Terms, Has}
use Rattle.ct_equivalence.specs.Undoing.{row_of}
use Rattle.ct_equivalence.specs.Parents.{AreAdded, IsOneAdded, AreParents}
use Rattle.ct_equivalence.proofs.ListLemmas.{term_cases, other_number}
use Rattle.ct_equivalence.proofs.RowLemmas.{row_of-at}

pub AreAdded-none : (rows : List (List TermId)) (p : TermId) → AreAdded rows rows [] p
AreAdded-none rows p = record {
  long = refl;
  keeps = λ t q was row at_old at_new has. subst (λ (xs : List TermId). Contains xs q) (same_Some was row (sym at_old ∙ at_new)) has;
  adds = λ t row at has. absurd (omega (arith, has.1));
  only = λ t q was row at_old at_new has. inl (subst (λ (xs : List TermId). Contains xs q) (same_Some row was (sym at_new ∙ at_old)) has);
}

module _ (old now : List (List TermId)) (done : List TermId) (p t : TermId) (so_far : AreAdded old now done p) (within : t.0 < length now) where
  -- what stands in the rows after one more: the row of this term with one more, or what stood there
  row_from : (u : TermId) (row : List TermId) → slice_get (set now t.0 (row_of now t ++ p ∷ [])) u.0 ≡ Some row → ((u ≡ t) × (row ≡ row_of now t ++ p ∷ []) × (slice_get now u.0 ≡ Some (row_of now t))) ⊎ ((u ≡ t → ⊥) × (slice_get now u.0 ≡ Some row))
  row_from u row at = elim (term_cases u t) [
    | inl is ↦ inl (
      is,
      same_Some row (row_of now t ++ p ∷ []) (sym at ∙ ap (λ (s : TermId). slice_get (set now t.0 (row_of now t ++ p ∷ [])) s.0) is ∙ slice_get-set_same now t.0 (row_of now t ++ p ∷ []) within),
      ap (λ (s : TermId). slice_get now s.0) is ∙ row_of-at now t within,
    )
    | inr other ↦ inr (other, sym (slice_get-set_other now t.0 u.0 (row_of now t ++ p ∷ []) (other_number u t other)) ∙ at)
  ]

  pub AreAdded-more : AreAdded old (set now t.0 (row_of now t ++ p ∷ [])) (done ++ t ∷ []) p
  AreAdded-more = record {
    long = length-set now t.0 (row_of now t ++ p ∷ []) ∙ so_far.long;
    keeps = λ u q was row at_old at_new has. elim (row_from u row at_new) [
      | inl h ↦ subst (λ (xs : List TermId). Contains xs q) (sym h.1) (Contains-append_left (row_of now t) (p ∷ []) q (so_far.keeps u q was (row_of now t) at_old h.2 has))
      | inr h ↦ so_far.keeps u q was row at_old h.1 has
    ];
    adds = λ u row at_new has. elim (row_from u row at_new) [
      | inl h ↦ subst (λ (xs : List TermId). Contains xs p) (sym h.1) (Contains-push (row_of now t) p)
      | inr h ↦ elim (Contains-push_cases done t u has) [
        | inl earlier ↦ so_far.adds u row h.1 earlier
        | inr same ↦ absurd (h.0 (sym same))
      ]
    ];
    only = λ u q was row at_old at_new has. elim (row_from u row at_new) [
      | inl h ↦ elim (Contains-push_cases (row_of now t) p q (subst (λ (xs : List TermId). Contains xs q) h.1 has)) [
        | inl earlier ↦ later u q was (so_far.only u q was (row_of now t) at_old h.2 earlier)
        | inr same ↦ inr (sym same, subst (Contains (done ++ t ∷ [])) (sym h.0) (Contains-push done t))
      ]
      | inr h ↦ later u q was (so_far.only u q was row at_old h.1 has)
    ];
  }
    where
      later : (u q : TermId) (was : List TermId) → Contains was q ⊎ ((q ≡ p) × Contains done u) → Contains was q ⊎ ((q ≡ p) × Contains (done ++ t ∷ []) u)
      later u q was (inl h) = inl h
      later u q was (inr h) = inr (h.0, Contains-append_left done (t ∷ []) u h.1)

  -- the same where the term stands in the row already
  pub AreAdded-there : Contains (row_of now t) p → AreAdded old now (done ++ t ∷ []) p
  AreAdded-there stands = record {
    long = so_far.long;
    keeps = so_far.keeps;
    adds = λ u row at has. elim (Contains-push_cases done t u has) [
      | inl earlier ↦ so_far.adds u row at earlier
      | inr same ↦
          let is : row ≡ row_of now t = same_Some row (row_of now t) (sym at ∙ ap (λ (s : TermId). slice_get now s.0) (sym same) ∙ row_of-at now t within) in
          subst (λ (xs : List TermId). Contains xs p) (sym is) stands
    ];
    only = λ u q was row at_old at_new has. elim (so_far.only u q was row at_old at_new has) [
      | inl h ↦ inl h
      | inr h ↦ inr (h.0, Contains-append_left done (t ∷ []) u h.1)
    ];
  }

  -- the same for one more, in either way
  pub AreAdded-once : (new : List (List TermId)) → IsOneAdded now new t p → AreAdded old new (done ++ t ∷ []) p
  AreAdded-once new (inl put) = subst (λ (rows : List (List TermId)). AreAdded old rows (done ++ t ∷ []) p) (sym put) AreAdded-more
  AreAdded-once new (inr stood) = subst (λ (rows : List (List TermId)). AreAdded old rows (done ++ t ∷ []) p) (sym stood.0) (AreAdded-there stood.1)

-- one number has one term
Has-same : (terms : Terms) (a b : Core) (t : ℕ) → Has terms a t → Has terms b t → a ≡ b
Has-same terms a b t at_a at_b = ap (λ e. e.0) (same_Some (a, at_a.0) (b, at_b.0) (sym at_a.1 ∙ at_b.1))

pub AreParents-more : (terms : Terms) (core : Core) (p : TermId) (old new : List (List TermId)) → Has terms core p.0 → AreAdded old new (core_children core) p → AreParents terms p.0 old → AreParents terms (p.0 + 1) new
AreParents-more terms core p old new has added before = record {
  long = added.long ∙ before.long;
  all = λ q t other row below stands under at. elim (same_or_other q.0 p.0) [
    | inl e ↦
        let same : p ≡ q = λ i. record { 0 = sym e i } in
        let one : other ≡ core = Has-same terms other core p.0 (subst (Has terms other) e stands) has in
        subst (Contains row) same (added.adds t row at (subst (λ (c : Core). Contains (core_children c) t) one under))
    | inr apart ↦
        let was = slice_get-one_length new old t.0 row added.long at in
        added.keeps t q was.0 row was.1 at (before.all q t other was.0 (omega arith) stands under was.1)
  ];
  only = λ q t row at listed.
      let was = slice_get-one_length new old t.0 row added.long at in
      elim (added.only t q was.0 row was.1 at listed) [
        | inl h ↦ before.only q t was.0 was.1 h
        | inr h ↦ (core, subst (λ (s : TermId). Has terms core s.0) (sym h.0) has, h.1)
      ];
}

pub AreParents-none : (terms : Terms) (rows : List (List TermId)) → length rows ≡ length terms → All (λ row. row ≡ []) rows → AreParents terms 0 rows
AreParents-none terms rows long empty = record {
  long = long;
  all = λ p t core row below. absurd (omega (arith, below));
  only = λ p t row at listed.
      let none : row ≡ [] = All-contains (λ (xs : List TermId). xs ≡ []) rows row empty (Contains-from_slice_get rows t.0 row at) in
      absurd (omega (arith, (subst (λ (xs : List TermId). Contains xs p) none listed).1));
}
