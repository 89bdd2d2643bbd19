-- The search for terms that are like one, row by row.
use Rattle.std.proofs.Common.{◌≡◌, ℕ, ◌<◌, ◌≤◌, ◌⊎◌, Bool, true, false, ◌||◌, true≢false, List, length, slice_get, Option, Some, None, refl, sym, ap, subst, ◌∙◌, inl, inr, arith}
use Rattle.std.specs.List.{Contains}
use Rattle.std.proofs.lemmas.Option.{same_Some, slice_get_within}
use Rattle.ct_lemmas.proofs.Booleans.{or_true}
use Rattle.ct_lemmas.proofs.Contained.{Contains-from_slice_get, slice_get-from_Contains}
use Rattle.ct_lemmas.proofs.Numbers.{order_cases, below_or_not}
use Rattle.ct_terms.specs.declared.ids.TermId.{TermId}
use Rattle.ct_terms.specs.declared.term.Core.{Core}
use Rattle.ct_terms.specs.Terms.{Terms, Has}
use Rattle.ct_equivalence.specs.Chains.{IsLastRow}
use Rattle.ct_equivalence.specs.Digests.{digest}
use Rattle.ct_rules.specs.Rules.{Equations}
use Rattle.ct_congr.specs.Covered.{Keys, IsKeyed, IsAlike, IsRowOf, IsMatched}
use Rattle.ct_congr.specs.Meeting.{IsTried, IsHit, IsSearched}
use Rattle.ct_congr.proofs.TermLemmas.{Has-same}

module _ (terms : Terms) (reps : List TermId) (keys : Keys) (key : ℕ) (t : TermId) (core : Core) where
  -- before the first row
  pub IsSearched-none : (joined : Equations) → IsSearched terms reps keys key joined t core (length keys) false
  IsSearched-none joined = record {
    each = λ u hit. absurd (omega (arith, hit.after, slice_get_within keys hit.row (key, u) hit.at));
    some = λ is. absurd (true≢false (sym is));
    none = λ is u hit. omega (arith, hit.after, slice_get_within keys hit.row (key, u) hit.at);
  }

  -- the row that is found next
  module _ (joined wider : Equations) (moves : (x y : TermId) → joined x y → wider x y) (end row : ℕ) (u : TermId) (below : row < end) (at : slice_get keys row ≡ Some (key, u)) (between : (j : ℕ) (v : TermId) → row < j → j < end → slice_get keys j ≡ Some (key, v) → ⊥) (other : Core) (has : Has terms other u.0) where
    -- a row from it on is it, or stands further on
    hit_cases : (v : TermId) → IsHit terms reps keys key core row v → (IsAlike reps core other × (u ≡ v)) ⊎ IsHit terms reps keys key core end v
    hit_cases v hit = elim (order_cases row hit.row) [
      | inl after ↦ elim (below_or_not hit.row end) [
        | inl inside ↦ absurd (between hit.row v after inside hit.at)
        | inr far ↦ inr (record { row = hit.row; after = far; at = hit.at; other = hit.other; has = hit.has; alike = hit.alike })
      ]
      | inr rest ↦ elim rest [
        | inl same ↦
            let is : u ≡ v = ap (λ (e : ℕ × TermId). e.1) (same_Some (key, u) (key, v) (sym at ∙ ap (slice_get keys) same ∙ hit.at)) in
            let one : hit.other ≡ other = Has-same terms hit.other other u.0 (subst (λ (x : TermId). Has terms hit.other x.0) (sym is) hit.has) has in
            inl (subst (IsAlike reps core) one hit.alike, is)
        | inr before ↦ absurd (omega (arith, before, hit.after))
      ]
    ]

    further : (v : TermId) → IsHit terms reps keys key core end v → IsHit terms reps keys key core row v
    further v hit = record { row = hit.row; after = omega (arith, hit.after, below); at = hit.at; other = hit.other; has = hit.has; alike = hit.alike }

    pub IsSearched-next : (found matched : Bool) → IsTried reps wider t u core other matched → IsSearched terms reps keys key joined t core end found → IsSearched terms reps keys key wider t core row (found || matched)
    IsSearched-next found true tried done = record {
      each = λ v hit. elim (hit_cases v hit) [
        | inl mine ↦ subst (wider t) mine.1 tried.1
        | inr far ↦ moves t v (done.each v far)
      ];
      some = λ is. (u, record { row = row; after = omega arith; at = at; other = other; has = has; alike = tried.0 });
      none = λ is v hit. true≢false (sym (or_true found) ∙ is);
    }
    IsSearched-next true false tried done = record {
      each = λ v hit. elim (hit_cases v hit) [
        | inl mine ↦ absurd (tried mine.0)
        | inr far ↦ moves t v (done.each v far)
      ];
      some = λ is. let found = done.some refl in (found.0, further found.0 found.1);
      none = λ is v hit. true≢false is;
    }
    IsSearched-next false false tried done = record {
      each = λ v hit. elim (hit_cases v hit) [
        | inl mine ↦ absurd (tried mine.0)
        | inr far ↦ moves t v (done.each v far)
      ];
      some = λ is. absurd (true≢false (sym is));
      none = λ is v hit. elim (hit_cases v hit) [
        | inl mine ↦ tried mine.0
        | inr far ↦ done.none refl v far
      ];
    }

  -- no row is left
  pub IsSearched-all : (joined : Equations) (end : ℕ) (found : Bool) → IsLastRow keys end key None → IsSearched terms reps keys key joined t core end found → IsSearched terms reps keys key joined t core 0 found
  IsSearched-all joined end found none done = record {
    each = λ v hit. done.each v (far v hit);
    some = λ is. let h = done.some is in (h.0, record { row = h.1.row; after = omega arith; at = h.1.at; other = h.1.other; has = h.1.has; alike = h.1.alike });
    none = λ is v hit. done.none is v (far v hit);
  }
    where
      far : (v : TermId) → IsHit terms reps keys key core 0 v → IsHit terms reps keys key core end v
      far v hit = elim (below_or_not hit.row end) [
        | inl inside ↦ absurd (none hit.row v inside hit.at)
        | inr after ↦ record { row = hit.row; after = after; at = hit.at; other = hit.other; has = hit.has; alike = hit.alike }
      ]

-- what was searched for at the digest of the term
module _ (terms : Terms) (reps : List TermId) (keys : Keys) (key : ℕ) (joined : Equations) (t : TermId) (core : Core) (found : Bool) (is : key ≡ digest reps core) (done : IsSearched terms reps keys key joined t core 0 found) where
  hit_of : (u : TermId) → IsRowOf terms reps keys core u → IsHit terms reps keys key core 0 u
  hit_of u row =
      let at = slice_get-from_Contains keys (digest reps core, u) row.keyed in
      record { row = at.0; after = omega arith; at = at.1 ∙ ap (λ n. Some (n, u)) (sym is); other = row.other; has = row.has; alike = row.alike }

  pub IsMatched-found : found ≡ true → IsMatched terms reps keys joined t core
  IsMatched-found any =
      let h = done.some any in
      record {
        first = h.0;
        row = record {
          other = h.1.other;
          has = h.1.has;
          keyed = subst (λ n. IsKeyed keys n h.0) is (Contains-from_slice_get keys h.1.row (key, h.0) h.1.at);
          alike = h.1.alike;
        };
        each = λ u row. done.each u (hit_of u row);
      }

  pub none_found : found ≡ false → (u : TermId) → IsRowOf terms reps keys core u → ⊥
  none_found nothing u row = done.none nothing u (hit_of u row)
