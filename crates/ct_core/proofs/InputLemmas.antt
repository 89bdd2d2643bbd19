-- Which assertions the lines with a mark are given, and the first places of these.
use Rattle.std.proofs.Common.{◌≡◌, ◌↔◌, ℕ, suc, ◌+◌, ◌<◌, ◌≤◌, ◌⊎◌, Bool, true, false, List, [], ◌∷◌, ◌++◌, length, take, replicate, All, Contains, Some, get_or, slice_get, refl, sym, ap, subst, ◌∙◌, inl, inr, arith, true≢false}
use Rattle.std.proofs.lemmas.List.Elements.{All-contains, Contains-append_left, Contains-get_or, Contains-push, Contains-push_cases}
use Rattle.std.proofs.lemmas.Option.{none-some, same_Some, slice_get_within}
use Rattle.ct_lemmas.proofs.Contained.{Contains-none, Contains-from_slice_get, slice_get-from_Contains}
use Rattle.ct_lemmas.proofs.Lists.{slice_get-push_cases, slice_get-replicate_false}
use Rattle.ct_lemmas.proofs.Numbers.{last_or_before, same_or_other, below_or_not}
use Rattle.ct_lemmas.proofs.Pairs.{AllZip-at_right, AllZip-push}
use Rattle.ct_sorts.specs.Declarations.{Declarations}
use Rattle.ct_terms.specs.declared.ids.TermId.{TermId}
use Rattle.ct_terms.specs.Terms.{Terms, IsBoolean}
use Rattle.ct_log.specs.declared.line.Line.{Line}
use Rattle.ct_log.specs.declared.line.Step.{Step}
use Rattle.ct_log.specs.declared.line.Step.TheVariants as step
use Rattle.ct_log.specs.Acceptance.{AreAccepted, Justifies, clauses_of}
use Rattle.ct_core.specs.Cited.{IsLineWith}
use Rattle.ct_core.specs.Trimmed.{AreRising}
use Rattle.ct_core.specs.Core.{IsUsed, IsFirstPlace, AreAt}
use Rattle.ct_core.specs.Sweep.{IsMarked, AreMarks, HaveInputs}
use Rattle.ct_core.proofs.SweepLemmas.{marked_read, read_marked}
use Rattle.ct_core.specs.Inputs.{IsGivenAt, IsGiven, AreGivenMarks, AreInputsBelow, IsAmongFirst, IsChosen}

-- no term is marked for no lines
pub given_none : (marks : List Bool) (lines : List Line) (count : ℕ) → AreGivenMarks marks lines 0 (replicate count false)
given_none marks lines count t = (λ h. absurd (slice_get-replicate_false count t.0 h), λ is. absurd (omega (arith, is.1)))

-- one line more
pub given_more : (marks : List Bool) (lines : List Line) (count : ℕ) (old new : List Bool) → AreGivenMarks marks lines count old
    → ((t : TermId) → IsMarked new t.0 ↔ (IsMarked old t.0 ⊎ IsGivenAt marks lines count t)) → AreGivenMarks marks lines (count + 1) new
given_more marks lines count old new before more t = (
  λ h. elim ((more t).0 h) [
    | inl was ↦ let is = (before t).0 was in (is.0, omega (arith, is.1), is.2)
    | inr now ↦ (count, omega arith, now)
  ],
  λ is. elim (last_or_before is.0 count is.1) [
    | inl earlier ↦ (more t).1 (inl ((before t).1 (is.0, earlier, is.2)))
    | inr last ↦ (more t).1 (inr (subst (λ (k : ℕ). IsGivenAt marks lines k t) last is.2))
  ],
)

-- what a line is given is an assertion, where the line is accepted
given_assertion : (d : Declarations) (terms : Terms) (asserts : List TermId) (lines : List Line) → AreAccepted d terms asserts lines
    → (index : ℕ) (line : Line) (t : TermId) → slice_get lines index ≡ Some line → line.step ≡ step.Input t → Contains asserts t
given_assertion d terms asserts lines all index line t at e =
    let justified : Justifies d terms asserts (clauses_of (take index lines)) (step.Input t) line.clause = subst (λ (s : Step). Justifies d terms asserts (clauses_of (take index lines)) s line.clause) e (all index line at).justified in
    justified.0

-- so it stands in the table
pub inputs_below : (d : Declarations) (terms : Terms) (asserts : List TermId) (lines : List Line) → AreAccepted d terms asserts lines → All (IsBoolean terms) asserts → AreInputsBelow (length terms) lines
inputs_below d terms asserts lines all booleans index line t at e =
    let is = All-contains (IsBoolean terms) asserts t booleans (given_assertion d terms asserts lines all index line t at e) in
    slice_get_within terms t.0 _ is.1

-- numbers that rise, and a greater one
rising_push : (places : List ℕ) (last : ℕ) → AreRising places → ((place : ℕ) → Contains places place → place < last) → AreRising (places ++ last ∷ [])
rising_push places last rising below j k m n at_j at_k before = elim (slice_get-push_cases places last n k at_k) [
  | inl old_k ↦
      let k_below = slice_get_within places k n old_k in
      elim (slice_get-push_cases places last m j at_j) [
        | inl old_j ↦ rising j k m n old_j old_k before
        | inr last_j ↦ absurd (omega (arith, before, k_below, last_j.0))
      ]
  | inr last_k ↦
      elim (slice_get-push_cases places last m j at_j) [
        | inl old_j ↦ let m_below = below m (Contains-from_slice_get places j m old_j) in let is = last_k.1 in omega (arith, m_below, is)
        | inr last_j ↦ absurd (omega (arith, before, last_k.0, last_j.0))
      ]
]

-- nothing is chosen yet
pub chosen_none : (asserts : List TermId) (marked : List Bool) → IsChosen asserts marked 0 [] [] marked
chosen_none asserts marked = record {
  long = refl;
  stays = λ t h. h;
  later = λ t h among. absurd (omega (arith, among.1));
  taken = λ t h. inl h;
  rising = λ j k m n at_j at_k before. absurd (none-some m at_j);
  exact = λ place. (λ h. absurd (Contains-none place h), λ h. absurd (omega (arith, h.0)));
  stand = tt;
}

module _ (asserts : List TermId) (marked left new : List Bool) (count : ℕ) (places : List ℕ) (terms : List TermId) (t : TermId) (was : IsChosen asserts marked count places terms left) (stands : slice_get asserts count ≡ Some t)
    (long : length new ≡ length left) (marks : (u : TermId) → IsMarked new u.0 ↔ (IsMarked left u.0 × (u ≡ t → ⊥))) where
  -- the term at the next place
  at_next : (u : TermId) → slice_get asserts count ≡ Some u → u ≡ t
  at_next u at = same_Some u t (sym at ∙ stands)

  later_next : (u : TermId) → IsMarked new u.0 → IsAmongFirst asserts (count + 1) u → ⊥
  later_next u h among = elim (last_or_before among.0 count among.1) [
    | inl before ↦ was.later u ((marks u).0 h).0 (among.0, before, among.2)
    | inr last ↦ ((marks u).0 h).1 (at_next u (subst (λ (k : ℕ). slice_get asserts k ≡ Some u) last among.2))
  ]

  -- a place that is taken is below the next
  below : (place : ℕ) → Contains places place → place < count
  below place h = ((was.exact place).0 h).0

  -- a term that is taken stands at an earlier place
  among_taken : (u : TermId) → Contains terms u → IsAmongFirst asserts count u
  among_taken u h =
      let at = slice_get-from_Contains terms u h in
      let place = AllZip-at_right (λ (p : ℕ) (v : TermId). slice_get asserts p ≡ Some v) places terms at.0 u was.stand at.1 in
      (place.0, below place.0 (Contains-from_slice_get places at.0 place.0 place.1), place.2)

  -- the next place is taken, since its term is marked
  pub chosen_taken : IsMarked left t.0 → IsChosen asserts marked (count + 1) (places ++ count ∷ []) (terms ++ t ∷ []) new
  chosen_taken h =
      let here : IsFirstPlace asserts t count = record {
        stands = stands;
        first = λ other at. elim (below_or_not other count) [
          | inl before ↦ absurd (was.later t h (other, before, at))
          | inr after ↦ after
        ];
      } in
      record {
        long = long ∙ was.long;
        stays = λ u is. was.stays u ((marks u).0 is).0;
        later = later_next;
        taken = λ u is. elim (was.taken u is) [
          | inl still ↦ elim (same_or_other u.0 t.0) [
            | inl same ↦ inr (subst (Contains (terms ++ t ∷ [])) (sym (ap (λ (k : ℕ). record { 0 = k }) same)) (Contains-push terms t))
            | inr other ↦ inl ((marks u).1 (still, λ e. other (ap (λ (v : TermId). v.0) e)))
          ]
          | inr gone ↦ inr (Contains-append_left terms (t ∷ []) u gone)
        ];
        rising = rising_push places count was.rising below;
        exact = λ place. (
          λ c. elim (Contains-push_cases places count place c) [
            | inl old ↦ let e = (was.exact place).0 old in (omega (arith, e.0), e.1)
            | inr same ↦ (omega (arith, same), (t, subst (IsFirstPlace asserts t) same here, was.stays t h))
          ],
          λ e. elim (last_or_before place count e.0) [
            | inl before ↦ Contains-append_left places (count ∷ []) place ((was.exact place).1 (before, e.1))
            | inr last ↦ subst (Contains (places ++ count ∷ [])) (sym last) (Contains-push places count)
          ],
        );
        stand = AllZip-push (λ (p : ℕ) (v : TermId). slice_get asserts p ≡ Some v) places terms count t was.stand stands;
      }

  -- it is not, since its term is not marked
  pub chosen_left : (IsMarked left t.0 → ⊥) → IsChosen asserts marked (count + 1) places terms new
  chosen_left none = record {
    long = long ∙ was.long;
    stays = λ u is. was.stays u ((marks u).0 is).0;
    later = later_next;
    taken = λ u is. elim (was.taken u is) [
      | inl still ↦ inl ((marks u).1 (still, λ e. none (subst (λ (v : TermId). IsMarked left v.0) e still)))
      | inr gone ↦ inr gone
    ];
    rising = was.rising;
    exact = λ place. (
      λ c. let e = (was.exact place).0 c in (omega (arith, e.0), e.1),
      λ e. elim (last_or_before place count e.0) [
        | inl before ↦ (was.exact place).1 (before, e.1)
        | inr last ↦
            let u = e.1.0 in
            let first : IsFirstPlace asserts u count = subst (IsFirstPlace asserts u) last e.1.1 in
            elim (was.taken u e.1.2) [
              | inl still ↦ absurd (none (subst (λ (v : TermId). IsMarked left v.0) (at_next u first.stands) still))
              | inr gone ↦ let among = among_taken u gone in absurd (let no_earlier = first.first among.0 among.2 in omega (arith, no_earlier, among.1))
            ]
      ],
    );
    stand = was.stand;
  }

  -- it is taken where its term is marked
  pub chosen_next : (later_places : List ℕ) (later_terms : List TermId) → (IsMarked left t.0 → (later_places ≡ places ++ count ∷ []) × (later_terms ≡ terms ++ t ∷ []))
      → ((IsMarked left t.0 → ⊥) → (later_places ≡ places) × (later_terms ≡ terms)) → IsChosen asserts marked (count + 1) later_places later_terms new
  chosen_next later_places later_terms put skipped = by (get_or left t.0 false) refl
    where
      to : (ps : List ℕ) (ts : List TermId) → later_places ≡ ps → later_terms ≡ ts → IsChosen asserts marked (count + 1) ps ts new → IsChosen asserts marked (count + 1) later_places later_terms new
      to ps ts places_are terms_are h =
          subst (λ (qs : List ℕ). IsChosen asserts marked (count + 1) qs later_terms new) (sym places_are)
          (subst (λ (us : List TermId). IsChosen asserts marked (count + 1) ps us new) (sym terms_are) h)

      by : (b : Bool) → get_or left t.0 false ≡ b → IsChosen asserts marked (count + 1) later_places later_terms new
      by true e = let h = marked_read left t.0 e in let is = put h in to (places ++ count ∷ []) (terms ++ t ∷ []) is.0 is.1 (chosen_taken h)
      by false e =
          let none : IsMarked left t.0 → ⊥ = λ h. true≢false (sym (read_marked left t.0 h) ∙ e) in
          let is = skipped none in to places terms is.0 is.1 (chosen_left none)

-- what the marks of lines and of terms say of the places that were taken
module _ (lines : List Line) (marks : List Bool) (asserts : List TermId) (given : List Bool) (places : List ℕ) (terms : List TermId) (left : List Bool) (are : AreMarks 0 lines marks) (are_given : AreGivenMarks marks lines (length lines) given)
    (chosen : IsChosen asserts given (length asserts) places terms left) where
  -- they are the first ones of assertions that a cited line is given
  pub places_exact : (place : ℕ) → Contains places place ↔ ((t : TermId) × IsFirstPlace asserts t place × IsUsed lines t)
  places_exact place = (
    λ c.
        let e = (chosen.exact place).0 c in
        let t = e.1.0 in
        let is = (are_given t).0 e.1.2 in
        (t, e.1.1, record { number = suc is.0; line = is.2.line; cited = (are.exact (suc is.0)).0 is.2.marked; stands = (is.0, omega arith, is.2.stands); input = is.2.input }),
    λ e.
        let t = e.0 in
        let used = e.2 in
        let number_is : used.number ≡ suc used.stands.0 = omega (arith, used.stands.1) in
        let within = slice_get_within lines used.stands.0 used.line used.stands.2 in
        let here : IsGivenAt marks lines used.stands.0 t = record { line = used.line; stands = used.stands.2; marked = subst (IsMarked marks) number_is ((are.exact used.number).1 used.cited); input = used.input } in
        (chosen.exact place).1 (slice_get_within asserts place t e.1.stands, (t, e.1, (are_given t).1 (used.stands.0, within, here))),
  )

  -- what a line with a mark is given is among the terms
  pub have_inputs : (d : Declarations) (table : Terms) → AreAccepted d table asserts lines → HaveInputs marks lines terms
  have_inputs d table all number line t h is e =
      let number_is : number ≡ suc is.0 = omega (arith, is.1) in
      let within = slice_get_within lines is.0 line is.2 in
      let here : IsGivenAt marks lines is.0 t = record { line = line; stands = is.2; marked = subst (IsMarked marks) number_is h; input = e } in
      elim (chosen.taken t ((are_given t).1 (is.0, within, here))) [
        | inl still ↦
            let at = slice_get-from_Contains asserts t (given_assertion d table asserts lines all is.0 line t is.2 e) in
            absurd (chosen.later t still (at.0, slice_get_within asserts at.0 t at.1, at.1))
        | inr gone ↦ gone
      ]

  -- the terms are Boolean where all assertions are
  pub terms_boolean : (table : Terms) → All (IsBoolean table) asserts → All (IsBoolean table) terms
  terms_boolean table booleans =
      All-of terms (λ t inside.
      let at = slice_get-from_Contains terms t inside in
      let place = AllZip-at_right (λ (p : ℕ) (v : TermId). slice_get asserts p ≡ Some v) places terms at.0 t chosen.stand at.1 in
      All-contains (IsBoolean table) asserts t booleans (Contains-from_slice_get asserts place.0 t place.2))
    where
      All-of : (ts : List TermId) → ((t : TermId) → Contains ts t → IsBoolean table t) → All (IsBoolean table) ts
      All-of ts each = λ k default within. each (get_or ts k default) (Contains-get_or ts k default within)
