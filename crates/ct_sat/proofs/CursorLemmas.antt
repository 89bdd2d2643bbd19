-- The cursor of the lowest variable: that each call keeps what holds of it.
use Rattle.std.proofs.Common.{◌≡◌, ℕ, ◌<◌, inl, inr, List, [], ◌∷◌, ◌++◌, length, take, Some, slice_get, All, Contains, refl, sym, ap, subst, arith}
use Rattle.std.proofs.lemmas.Option.{none-some, slice_get_within}
use Rattle.ct_lemmas.proofs.Contained.{slice_get-from_Contains}
use Rattle.ct_lemmas.proofs.Each.{All-at, All-from_slice_get}
use Rattle.ct_lemmas.proofs.Lists.{slice_get-append_left, slice_get-push_cases}
use Rattle.ct_lemmas.proofs.Prefixes.{slice_get-take, slice_get-take_below, take-slice_get}
use Rattle.ct_terms.specs.declared.ids.TermId.{TermId}
use Rattle.ct_terms.specs.declared.ids.Lit.{Lit}
use Rattle.ct_sat.specs.declared.clause.StepClause.{StepClause}
use Rattle.ct_sat.specs.declared.decided.Decided.{Decided}
use Rattle.ct_sat.specs.declared.progress.Saved.{Saved}
use Rattle.ct_sat.specs.Assigned.{Assigned, decided_on, cut_before}
use Rattle.ct_sat.specs.Up.{IsAssigned, positive_of, negative_of}
use Rattle.ct_sat.specs.Status.{Propagated}
use Rattle.ct_sat.specs.Stored.{StandsAt, IsCursor}
use Rattle.ct_sat.proofs.SearchLemmas.{has_value}

stands-longer : (literals more : List Lit) (t : TermId) (q : ℕ) → StandsAt literals t q → StandsAt (literals ++ more) t q
stands-longer literals more t q (l, at, same) = (l, slice_get-append_left literals more q l at, same)

-- a variable with a value stands in the trail, and back
assigned-stands : (literals : List Lit) (t : TermId) → IsAssigned (Contains literals) t → (q : ℕ) × StandsAt literals t q
assigned-stands literals t (inl h) = let at = slice_get-from_Contains literals (positive_of t) h in (at.0, (positive_of t, at.1, refl))
assigned-stands literals t (inr h) = let at = slice_get-from_Contains literals (negative_of t) h in (at.0, (negative_of t, at.1, refl))

pub cursor-values : (variables : List TermId) (a : Assigned) (saved : List Saved) (cursor : ℕ) → IsCursor variables a saved cursor → All (IsAssigned (Contains a.literals)) (take cursor variables)
cursor-values variables a saved cursor is = All-from_slice_get (IsAssigned (Contains a.literals)) (take cursor variables)
    (λ i t at. let x = is.now i t (slice_get-take_below cursor variables i t at) (slice_get-take cursor variables i t at) in has_value a.literals t x.0 x.1.0 x.1.1 x.1.2)

pub cursor-start : (variables : List TermId) (a : Assigned) (saved : List Saved) → saved ≡ [] → IsCursor variables a saved 0
cursor-start variables a saved none = record {
  now = λ i t below. absurd (omega arith);
  before = λ j s d i t at. absurd (none-some s (subst (λ (xs : List Saved). slice_get xs j ≡ Some s) none at));
}

pub cursor-propagated : (variables : List TermId) (clauses : List StepClause) (a b : Assigned) (saved : List Saved) (cursor : ℕ) → Propagated clauses a b → IsCursor variables a saved cursor → IsCursor variables b saved cursor
cursor-propagated variables clauses a b saved cursor step old = record {
  now = λ i t below at. (let x = old.now i t below at in (x.0, subst (λ (xs : List Lit). StandsAt xs t x.0) (sym step.literals) (stands-longer a.literals step.more t x.0 x.1)));
  before = λ j s d i t at_s at_d below at.
      (let x = old.before j s d i t at_s (subst (λ (ds : List Decided). slice_get ds j ≡ Some d) step.decided at_d) below at in
      (x.0, subst (λ (xs : List Lit). StandsAt xs t x.0) (sym step.literals) (stands-longer a.literals step.more t x.0 x.1), x.2));
}

-- the cursor was moved
pub cursor-moved : (variables : List TermId) (a : Assigned) (saved : List Saved) (cursor index : ℕ) → All (IsAssigned (Contains a.literals)) (take index variables) → IsCursor variables a saved cursor → IsCursor variables a saved index
cursor-moved variables a saved cursor index all old = record {
  now = λ i t below at. assigned-stands a.literals t (All-at (IsAssigned (Contains a.literals)) (take index variables) i t all (take-slice_get index variables i t below at));
  before = old.before;
}

-- a decision was made
pub cursor-decided : (variables : List TermId) (a : Assigned) (l : Lit) (saved : List Saved) (cursor : ℕ) (s : Saved) → s.cursor ≡ cursor → length saved ≡ length a.decided → IsCursor variables a saved cursor → IsCursor variables (decided_on a l) (saved ++ s ∷ []) cursor
cursor-decided variables a l saved cursor s is long old = record {
  now = λ i t below at. (let x = old.now i t below at in (x.0, stands-longer a.literals (l ∷ []) t x.0 x.1));
  before = λ j r d i t at_r at_d below at. elim (slice_get-push_cases saved s r j at_r) [
    | inl old_r ↦ elim (slice_get-push_cases a.decided _ d j at_d) [
      | inl old_d ↦ (let x = old.before j r d i t old_r old_d below at in (x.0, stands-longer a.literals (l ∷ []) t x.0 x.1, x.2))
      | inr last ↦ absurd (let within = slice_get_within saved j r old_r in let e = last.0 in omega arith)
    ]
    | inr last ↦ elim (slice_get-push_cases a.decided _ d j at_d) [
      | inl old_d ↦ absurd (let within = slice_get_within a.decided j d old_d in let e = last.0 in omega arith)
      | inr also ↦ (let same : s.cursor ≡ r.cursor = ap (λ (y : Saved). y.cursor) last.1 in
          let index : length a.literals ≡ d.index = ap (λ (y : Decided). y.index) also.1 in
          let x = old.now i t (omega arith) at in
          let within = slice_get_within a.literals x.0 x.1.0 x.1.1 in
          (x.0, stands-longer a.literals (l ∷ []) t x.0 x.1, omega arith))
    ]
  ];
}

-- decisions were taken back
pub cursor-cut : (variables : List TermId) (a : Assigned) (saved : List Saved) (cursor keep : ℕ) (next : Decided) (s : Saved) → slice_get a.decided keep ≡ Some next → slice_get saved keep ≡ Some s → ((i j : ℕ) (d e : Decided) → i < j → slice_get a.decided i ≡ Some d → slice_get a.decided j ≡ Some e → d.index < e.index) → IsCursor variables a saved cursor → IsCursor variables (cut_before a keep next) (take keep saved) s.cursor
cursor-cut variables a saved cursor keep next s at_next at_s in_order old = record {
  now = λ i t below at. (let x = old.before keep s next i t at_s at_next below at in (x.0, (x.1.0, take-slice_get next.index a.literals x.0 x.1.0 x.2 x.1.1, x.1.2)));
  before = λ j r d i t at_r at_d below at.
      (let old_d = slice_get-take keep a.decided j d at_d in
      let x = old.before j r d i t (slice_get-take keep saved j r at_r) old_d below at in
      let earlier = in_order j keep d next (slice_get-take_below keep saved j r at_r) old_d at_next in
      (x.0, (x.1.0, take-slice_get next.index a.literals x.0 x.1.0 (omega arith) x.1.1, x.1.2), x.2));
}
