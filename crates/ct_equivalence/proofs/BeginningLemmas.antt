-- Terms alone in their classes.
use Rattle.std.proofs.Common.{◌≡◌, ℕ, zero, suc, ◌+◌, List, [], ◌∷◌, ◌++◌, length, set, slice_get, Option, Some, None, refl, sym, ap, ◌∙◌, subst, inl, inr, arith, length-append}
use Rattle.std.proofs.lemmas.List.{length-set, get_or_push}
use Rattle.std.proofs.lemmas.Option.{none-some, same_Some, slice_get_within}
use Rattle.ct_lemmas.proofs.Contained.{Contains-from_slice_get, slice_get-from_Contains}
use Rattle.ct_lemmas.proofs.Lists.{slice_get-append_left, slice_get-last, slice_get-push_cases, slice_get-set_other, slice_get-set_same}
use Rattle.ct_lemmas.proofs.Numbers.{same_or_other}
use Rattle.ct_terms.specs.declared.ids.TermId.{TermId}
use Rattle.ct_terms.specs.Terms.{Terms}
use Rattle.ct_equivalence.specs.Partition.{AreAlone, IsClass}
use Rattle.ct_equivalence.specs.Grouping.{IsGrouping}
use Rattle.ct_equivalence.specs.Over.{IsConstructorTerm, IsConOf, IsGroupingOf}
use Rattle.ct_equivalence.specs.Undoing.{row_of}
use Rattle.ct_equivalence.specs.Parents.{AreParents, IsOwnCon, AreOwnCons}

-- representatives while they are listed
pub AreAlone-none : (reps : List TermId) → reps ≡ [] → AreAlone 0 reps
AreAlone-none reps none = record { long = ap length none; own = λ x within. absurd (omega (arith, within)) }

pub AreAlone-push : (count : ℕ) (reps : List TermId) (t : TermId) → t.0 ≡ count → AreAlone count reps → AreAlone (count + 1) (reps ++ t ∷ [])
AreAlone-push count reps t is old = record {
  long = length-append reps (t ∷ []) ∙ ap (λ n. n + 1) old.long;
  own = λ x within. elim (same_or_other x.0 count) [
    | inl e ↦
        let same : t ≡ x = λ i. record { 0 = (is ∙ sym e) i } in
        ap (slice_get (reps ++ t ∷ [])) (e ∙ sym old.long) ∙ slice_get-last reps t ∙ ap Some same
    | inr other ↦ slice_get-append_left reps (t ∷ []) x.0 x (old.own x (omega arith))
  ];
}

-- so many rows, each of its own term alone
pub record AreOwnRows (count : ℕ) (rows : List (List TermId)) : Type 0 where
  pub long : length rows ≡ count
  pub alone : (t : TermId) (row : List TermId) → slice_get rows t.0 ≡ Some row → row ≡ t ∷ []

pub AreOwnRows-none : (rows : List (List TermId)) → rows ≡ [] → AreOwnRows 0 rows
AreOwnRows-none rows none = record {
  long = ap length none;
  alone = λ t row at. absurd (none-some row (ap (λ list. slice_get list t.0) (sym none) ∙ at));
}

pub AreOwnRows-push : (rows : List (List TermId)) (t : TermId) → AreOwnRows t.0 rows → AreOwnRows (t.0 + 1) (set (rows ++ [] ∷ []) t.0 (row_of (rows ++ [] ∷ []) t ++ t ∷ []))
AreOwnRows-push rows t old = record {
  long = length-set (rows ++ [] ∷ []) t.0 (row_of (rows ++ [] ∷ []) t ++ t ∷ []) ∙ length-append rows ([] ∷ []) ∙ ap (λ n. n + 1) old.long;
  alone = λ u row at. elim (same_or_other u.0 t.0) [
    | inl e ↦
        let here : slice_get (set (rows ++ [] ∷ []) t.0 (row_of (rows ++ [] ∷ []) t ++ t ∷ [])) t.0 ≡ Some (row_of (rows ++ [] ∷ []) t ++ t ∷ []) = slice_get-set_same (rows ++ [] ∷ []) t.0 (row_of (rows ++ [] ∷ []) t ++ t ∷ []) (omega (arith, old.long, length-append rows ([] ∷ []))) in
        let is : row ≡ row_of (rows ++ [] ∷ []) t ++ t ∷ [] = same_Some row (row_of (rows ++ [] ∷ []) t ++ t ∷ []) (sym at ∙ ap (slice_get (set (rows ++ [] ∷ []) t.0 (row_of (rows ++ [] ∷ []) t ++ t ∷ []))) e ∙ here) in
        let same : t ≡ u = λ i. record { 0 = sym e i } in
        is ∙ ap (λ (xs : List TermId). xs ++ t ∷ []) (get_or_push rows [] [] t.0 old.long) ∙ ap (λ (s : TermId). s ∷ []) same
    | inr other ↦ elim (slice_get-push_cases rows [] row u.0 (sym (slice_get-set_other (rows ++ [] ∷ []) t.0 u.0 (row_of (rows ++ [] ∷ []) t ++ t ∷ []) other) ∙ at)) [
      | inl h ↦ old.alone u row h
      | inr h ↦ absurd (other (h.0 ∙ old.long))
    ]
  ];
}

-- one constructor term more
pub AreOwnCons-push : (terms : Terms) (cons : List (Option TermId)) (t : TermId) (c : Option TermId) → length cons ≡ t.0 → IsOwnCon terms t c → AreOwnCons terms cons → AreOwnCons terms (cons ++ c ∷ [])
AreOwnCons-push terms cons t c long own old u d at = elim (slice_get-push_cases cons c d u.0 at) [
  | inl h ↦ old u d h
  | inr h ↦
      let e : t.0 ≡ u.0 = sym long ∙ sym h.0 in
      let is : t ≡ u = λ i. record { 0 = e i } in
      subst (λ (q : TermId). IsOwnCon terms q d) is (subst (IsOwnCon terms t) h.1 own)
]

pub AreOwnCons-none : (terms : Terms) (cons : List (Option TermId)) → cons ≡ [] → AreOwnCons terms cons
AreOwnCons-none terms cons empty t c at = absurd (none-some c (ap (λ list. slice_get list t.0) (sym empty) ∙ at))

-- a representative is the term itself
its_own : (count : ℕ) (reps : List TermId) (x r : TermId) → AreAlone count reps → slice_get reps x.0 ≡ Some r → x ≡ r
its_own count reps x r alone at = same_Some x r (sym (alone.own x (omega (arith, slice_get_within reps x.0 r at, alone.long))) ∙ at)

-- a list of one term
one_place : (i : ℕ) (r t : TermId) → slice_get (r ∷ []) i ≡ Some t → (i ≡ 0) × (r ≡ t)
one_place zero r t at = (refl, same_Some r t at)
one_place (suc i) r t at = absurd (none-some t at)

IsClass-alone : (count : ℕ) (reps : List TermId) (r : TermId) → AreAlone count reps → slice_get reps r.0 ≡ Some r → IsClass reps r (r ∷ [])
IsClass-alone count reps r begun own = record {
  all = λ t has. Contains-from_slice_get (r ∷ []) 0 t (ap Some (sym (its_own count reps t r begun has)));
  only = λ t has.
      let found = slice_get-from_Contains (r ∷ []) t has in
      let is : r ≡ t = (one_place found.0 r t found.1).1 in
      subst (λ (s : TermId). slice_get reps s.0 ≡ Some r) is own;
  once = λ i j t at_i at_j. (one_place i r t at_i).0 ∙ sym (one_place j r t at_j).0;
}

module _ (terms : Terms) (reps : List TermId) (cons : List (Option TermId)) (members uses : List (List TermId)) (alone : AreAlone (length terms) reps) (cons_long : length cons ≡ length terms) (rows : AreOwnRows (length terms) members) (parents : AreParents terms (length terms) uses) where
  pub IsGrouping-alone : IsGrouping (record { reps = reps; cons = cons; members = members; uses = uses })
  IsGrouping-alone = record {
    cons_long = cons_long ∙ sym alone.long;
    members_long = rows.long ∙ sym alone.long;
    uses_long = parents.long ∙ sym alone.long;
    own = λ x r at.
        let e : x ≡ r = its_own (length terms) reps x r alone at in
        subst (λ (s : TermId). slice_get reps s.0 ≡ Some r) e at;
    classes = λ r row own at. subst (IsClass reps r) (sym (rows.alone r row at)) (IsClass-alone (length terms) reps r alone own);
  }

  con_of : AreOwnCons terms cons → (r : TermId) (c : Option TermId) → slice_get reps r.0 ≡ Some r → IsOwnCon terms r c → IsConOf terms reps r c
  con_of own r None is none = λ t at built. none (subst (IsConstructorTerm terms) (its_own (length terms) reps t r alone at) built)
  con_of own r (Some c) is h = (subst (λ (s : TermId). slice_get reps s.0 ≡ Some r) (sym h.0) is, subst (IsConstructorTerm terms) (sym h.0) h.1)

  pub IsGroupingOf-alone : AreOwnCons terms cons → IsGroupingOf terms (record { reps = reps; cons = cons; members = members; uses = uses })
  IsGroupingOf-alone own_cons = record {
    long = alone.long;
    cons = λ r c is at. con_of own_cons r c is (own_cons r c at);
    uses = λ r row is at. record {
      all = λ p t core has under rep. parents.all p t core row (slice_get_within terms p.0 (core, has.0) has.1) has under (subst (λ (s : TermId). slice_get uses s.0 ≡ Some row) (sym (its_own (length terms) reps t r alone rep)) at);
      only = λ p listed. let up = parents.only p r row at listed in (up.0, r, up.1, up.2, is);
    };
  }
