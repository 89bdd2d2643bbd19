-- The steps of a propagation.
use Rattle.std.proofs.Common.{◌≡◌, ℕ, ◌+◌, ◌<◌, ◌≤◌, ◌⊎◌, inl, inr, true, false, List, [], ◌++◌, ◌∷◌, length, Option, Some, None, is_some, slice_get, All, Contains, MatchOption, sym, ap, subst, ◌∙◌, arith, true≢false}
use Rattle.std.proofs.lemmas.Option.{same_Some, slice_get_within}
use Rattle.std.proofs.lemmas.List.{length-append}
use Rattle.ct_terms.specs.declared.ids.Lit.{Lit}
use Rattle.ct_sat.specs.declared.clause.StepClause.{StepClause}
use Rattle.ct_sat.specs.declared.decided.Decided.{Decided}
use Rattle.ct_sat.specs.declared.watch.Watch.{Watch}
use Rattle.ct_sat.specs.declared.watch.WatchList.{WatchList}
use Rattle.ct_sat.specs.declared.progress.Saved.{Saved}
use Rattle.ct_sat.specs.declared.progress.Progress.{Progress}
use Rattle.ct_sat.specs.Assigned.{Assigned}
use Rattle.ct_sat.specs.Status.{Propagated, Examined, stays, grows}
use Rattle.ct_sat.specs.Watching.{IsShort, StandsBefore, AreHeld, IsUpTo, AreLinked, AreSettled, AreSaved, AreWatching, IsWorkedThrough, Attaches, Settles, WorksThrough, KeepsShort}
use Rattle.ct_lemmas.proofs.Contained.{Contains-from_slice_get, slice_get-from_Contains}
use Rattle.ct_lemmas.proofs.Lists.{slice_get-append_left, slice_get-last}
use Rattle.ct_lemmas.proofs.Numbers.{order_cases, same_or_other}
use Rattle.ct_sat.proofs.StatusLemmas.{Propagated-both, Propagated-examined}
use Rattle.ct_sat.proofs.VisitLemmas.{held-longer}

-- a number is below another one, or not
below_or_from : (x y : ℕ) → (x < y) ⊎ (y ≤ x)
below_or_from x y = elim (order_cases x y) [
  | inl h ↦ inl h
  | inr h ↦ elim h [ inl e ↦ inr (omega arith) | inr g ↦ inr (omega arith) ]
]

-- what an answer tells where there is none, or one
pub none_of : (r : Option ℕ) (P : Type 0) (Q : ℕ → Type 0) → MatchOption r P Q → is_some r ≡ false → P
none_of None P Q h e = h
none_of (Some i) P Q h e = absurd (true≢false e)

pub some_of : (r : Option ℕ) (P P' : Type 0) (Q : ℕ → Type 0) → MatchOption r P Q → is_some r ≡ true → MatchOption r P' Q
some_of None P P' Q h e = absurd (true≢false (sym e))
some_of (Some i) P P' Q h e = h

pub map_none : (r : Option ℕ) (P P' : Type 0) (Q : ℕ → Type 0) → MatchOption r P Q → (P → P') → MatchOption r P' Q
map_none None P P' Q h f = f h
map_none (Some i) P P' Q h f = h

-- a trail that grew is no shorter, and holds what it held
pub longer : (clauses : List StepClause) (a b : Assigned) → Propagated clauses a b → length a.literals ≤ length b.literals
longer clauses a b step =
    let n : length b.literals ≡ length (a.literals ++ step.more) = ap length step.literals in
    let m = length-append a.literals step.more in
    omega arith

pub still : (clauses : List StepClause) (a b : Assigned) (q : ℕ) (l : Lit) → Propagated clauses a b → slice_get a.literals q ≡ Some l → slice_get b.literals q ≡ Some l
still clauses a b q l step at = ap (λ (xs : List Lit). slice_get xs q) step.literals ∙ slice_get-append_left a.literals step.more q l at

pub still_in : (clauses : List StepClause) (a b : Assigned) (l : Lit) → Propagated clauses a b → Contains a.literals l → Contains b.literals l
still_in clauses a b l step h = let at = slice_get-from_Contains a.literals l h in Contains-from_slice_get b.literals at.0 l (still clauses a b at.0 l step at.1)

pub still_held : (clauses : List StepClause) (a b : Assigned) (ws : List Watch) (linked : ℕ) (saved : List Saved) (low head : ℕ) → Propagated clauses a b → head ≤ length a.literals → AreHeld ws linked a.literals saved a.decided low head → AreHeld ws linked b.literals saved b.decided low head
still_held clauses a b ws linked saved low head step within old =
    subst (λ (ds : List Decided). AreHeld ws linked b.literals saved ds low head) (sym step.decided)
    (subst (λ (xs : List Lit). AreHeld ws linked xs saved a.decided low head) (sym step.literals)
    (held-longer ws linked a.literals step.more saved a.decided low head within old))

still_settled : (clauses : List StepClause) (a b : Assigned) (short : List ℕ) (settled : ℕ) (saved : List Saved) → Propagated clauses a b → AreSettled clauses short settled a.literals saved a.decided → AreSettled clauses short settled b.literals saved b.decided
still_settled clauses a b short settled saved step old =
    subst (λ (ds : List Decided). AreSettled clauses short settled b.literals saved ds) (sym step.decided)
    (λ i c k below at at_k. let x = old i c k below at at_k in (x.0, x.1, still clauses a b x.0 x.1 step x.2, x.3, x.4))

-- what is up to a number where a bound is lower and the number higher
up_to : (low lower x y z : ℕ) → lower ≤ low → y ≤ z → IsUpTo low x y → IsUpTo lower x z
up_to low lower x y z l h (inl e) = inl (omega arith)
up_to low lower x y z l h (inr e) = inr (omega arith)

saved_on : (saved : List Saved) (decided decided' : List Decided) (p p' : Progress) → decided' ≡ decided → p'.low ≤ p.low → p.head ≤ p'.head → p.settled ≤ p'.settled → AreSaved saved decided p → AreSaved saved decided' p'
saved_on saved decided decided' p p' same low head settled old = subst (λ (ds : List Decided). AreSaved saved ds p') (sym same) (record {
  long = old.long;
  before = old.before;
  heads = λ i j r s h at_r at_s. up_to p.low p'.low r.head s.head s.head low (omega arith) (old.heads i j r s h at_r at_s);
  numbers = old.numbers;
  head = λ j s at. up_to p.low p'.low s.head p.head p'.head low head (old.head j s at);
  number = λ j s at. (let h = old.number j s at in omega arith);
})

-- short clauses were settled
pub watching-settled : (clauses : List StepClause) (a b : Assigned) (ws : List Watch) (lists : List WatchList) (short : List ℕ) (saved : List Saved) (p p' : Progress) → Settles clauses a b short p p' → AreWatching clauses a ws lists short saved p → AreWatching clauses b ws lists short saved p'
watching-settled clauses a b ws lists short saved p p' step old =
    let linked : p'.linked ≡ p.linked = ap (λ (x : Progress). x.linked) step.after in
    let head : p'.head ≡ p.head = ap (λ (x : Progress). x.head) step.after in
    let low : p'.low ≡ p.low = ap (λ (x : Progress). x.low) step.after in
    record {
      linked = subst (λ (n : ℕ). AreLinked clauses b.room ws lists n) (sym linked) (subst (λ (n : ℕ). AreLinked clauses n ws lists p.linked) (sym step.propagated.room) old.linked);
      short_are = old.short_are;
      held = subst (λ (n : ℕ). AreHeld ws n b.literals saved b.decided p'.low p'.head) (sym linked)
          (subst (λ (n : ℕ). AreHeld ws p.linked b.literals saved b.decided n p'.head) (sym low)
          (subst (λ (n : ℕ). AreHeld ws p.linked b.literals saved b.decided p.low n) (sym head)
          (still_held clauses a b ws p.linked saved p.low p.head step.propagated old.head_within old.held)));
      settled = λ i c k below at at_k. by i c k below at at_k (below_or_from i p.settled);
      saved_are = saved_on saved a.decided b.decided p p' step.propagated.decided (omega arith) (omega arith) step.more old.saved_are;
      settled_within = step.within;
      head_within = (let n = longer clauses a b step.propagated in let h = old.head_within in omega arith);
    }
  where
    by : (i c : ℕ) (k : StepClause) → i < p'.settled → slice_get short i ≡ Some c → slice_get clauses c ≡ Some k → (i < p.settled) ⊎ (p.settled ≤ i) → (q : ℕ) × (l : Lit) × (slice_get b.literals q ≡ Some l) × Contains k.literals l × ((j : ℕ) (s : Saved) (d : Decided) → slice_get saved j ≡ Some s → slice_get b.decided j ≡ Some d → i < s.settled → q < d.index)
    by i c k below at at_k (inl first) = still_settled clauses a b short p.settled saved step.propagated old.settled i c k first at at_k
    by i c k below at at_k (inr from) =
        let x = step.each i c k from below at at_k in
        let q = slice_get-from_Contains b.literals x.0 x.1 in
        (q.0, x.0, q.1, x.2, λ j s d at_s at_d more. absurd (let h = old.saved_are.number j s at_s in omega arith))

-- clauses were linked
pub watching-attached : (clauses : List StepClause) (a b : Assigned) (ws ws' : List Watch) (lists lists' : List WatchList) (short : List ℕ) (saved : List Saved) (p p' : Progress) → Attaches clauses a b ws ws' p p' → AreLinked clauses b.room ws' lists' p'.linked → AreWatching clauses a ws lists short saved p → AreWatching clauses b ws' lists' short saved p'
watching-attached clauses a b ws ws' lists lists' short saved p p' step linked old =
    let head : p'.head ≡ p.head = step.head in
    let settled : p'.settled ≡ p.settled = step.settled in
    record {
      linked = linked;
      short_are = record { each = λ c w at e. old.short_are.each c w (step.short c w at e) e; only = old.short_are.only };
      held = step.held saved old.saved_are.before old.saved_are.long old.held;
      settled = subst (λ (n : ℕ). AreSettled clauses short n b.literals saved b.decided) (sym settled) (still_settled clauses a b short p.settled saved step.propagated old.settled);
      saved_are = saved_on saved a.decided b.decided p p' step.propagated.decided step.low (omega arith) (omega arith) old.saved_are;
      settled_within = (let h = old.settled_within in omega arith);
      head_within = (let n = longer clauses a b step.propagated in let h = old.head_within in omega arith);
    }

-- literals were worked through
pub watching-worked : (clauses : List StepClause) (a b : Assigned) (ws ws' : List Watch) (lists lists' : List WatchList) (short : List ℕ) (saved : List Saved) (p p' : Progress) → p.linked ≡ length clauses → WorksThrough clauses a b ws ws' p p' → AreLinked clauses b.room ws' lists' (length clauses) → AreWatching clauses a ws lists short saved p → AreWatching clauses b ws' lists' short saved p'
watching-worked clauses a b ws ws' lists lists' short saved p p' all step linked old =
    let linked_is : p'.linked ≡ length clauses = ap (λ (x : Progress). x.linked) step.after ∙ all in
    let settled : p'.settled ≡ p.settled = ap (λ (x : Progress). x.settled) step.after in
    let low : p'.low ≡ p.low = ap (λ (x : Progress). x.low) step.after in
    record {
      linked = subst (λ (n : ℕ). AreLinked clauses b.room ws' lists' n) (sym linked_is) linked;
      short_are = record { each = λ c w at e. old.short_are.each c w (step.short c w at e) e; only = old.short_are.only };
      held = subst (λ (n : ℕ). AreHeld ws' n b.literals saved b.decided p'.low p'.head) (sym linked_is)
          (subst (λ (n : ℕ). AreHeld ws' (length clauses) b.literals saved b.decided n p'.head) (sym low)
          (step.held saved old.saved_are.head (subst (λ (n : ℕ). AreHeld ws n a.literals saved a.decided p.low p.head) all old.held)));
      settled = subst (λ (n : ℕ). AreSettled clauses short n b.literals saved b.decided) (sym settled) (still_settled clauses a b short p.settled saved step.propagated old.settled);
      saved_are = saved_on saved a.decided b.decided p p' step.propagated.decided (omega arith) step.more (omega arith) old.saved_are;
      settled_within = (let h = old.settled_within in omega arith);
      head_within = step.within;
    }

-- one short clause more
has_true : (clauses : List StepClause) (k : StepClause) (a b : Assigned) (index : ℕ) → IsShort k.literals → Examined a b k.literals index → (l : Lit) × Contains b.literals l × Contains k.literals l
has_true clauses k a b index short_one (stays same (inl h)) = (h.literal, subst (λ (x : Assigned). Contains x.literals h.literal) (sym same) h.holds, h.has)
has_true clauses k a b index short_one (stays same (inr h)) = absurd (h.differ (short_one h.one h.other h.has_one h.has_other))
has_true clauses k a b index short_one (grows l is unit) = (l, subst (λ (x : Assigned). Contains x.literals l) (sym is) (Contains-from_slice_get (a.literals ++ l ∷ []) (length a.literals) l (slice_get-last a.literals l)), unit.forced.inside)

pub Settles-more : (clauses : List StepClause) (first a b : Assigned) (short : List ℕ) (p q r : Progress) (c : ℕ) (k : StepClause) → slice_get short q.settled ≡ Some c → slice_get clauses c ≡ Some k → IsShort k.literals → Examined a b k.literals c → r ≡ record q { settled = q.settled + 1 } → Settles clauses first a short p q → Settles clauses first b short p r
Settles-more clauses first a b short p q r c k at at_k short_one examined is old =
    let next : r.settled ≡ q.settled + 1 = ap (λ (x : Progress). x.settled) is in
    let step = Propagated-examined clauses c k a b at_k examined in
    record {
      propagated = Propagated-both clauses first a b old.propagated step;
      after = is ∙ ap (λ (x : Progress). record x { settled = q.settled + 1 }) old.after ∙ ap (λ (n : ℕ). record p { settled = n }) (sym next);
      more = (let h = old.more in omega arith);
      within = (let h = slice_get_within short q.settled c at in omega arith);
      each = λ i d j from below at_d at_j. elim (same_or_other i q.settled) [
        | inr differs ↦ (let x = old.each i d j from (omega arith) at_d at_j in (x.0, still_in clauses a b x.0 step x.1, x.2))
        | inl e ↦ (let d_is : c ≡ d = same_Some c d (sym at ∙ ap (slice_get short) (sym e) ∙ at_d) in
            let k_is : k ≡ j = same_Some k j (sym at_k ∙ ap (slice_get clauses) d_is ∙ at_j) in
            let x = has_true clauses k a b c short_one examined in
            (x.0, x.1, subst (λ (y : StepClause). Contains y.literals x.0) k_is x.2))
      ];
    }

-- at an index up to which all was saved
stands_here : (saved : List Saved) (decided : List Decided) (low index q : ℕ) → ((j : ℕ) (s : Saved) → slice_get saved j ≡ Some s → IsUpTo low s.head index) → StandsBefore saved decided (λ s. s.head) index q ⊎ (low ≤ index)
stands_here saved decided low index q heads = elim (below_or_from index low) [
  | inr h ↦ inr h
  | inl h ↦ inl (λ j s d at_s at_d more. absurd (by s.head h more (heads j s at_s)))
]
  where
    by : (x : ℕ) → index < low → index < x → IsUpTo low x index → ⊥
    by x h more (inl e) = omega arith
    by x h more (inr e) = omega arith

-- the literals worked through with one more
pub advanced : (ws : List Watch) (linked : ℕ) (trail : List Lit) (saved : List Saved) (decided : List Decided) (low index : ℕ) → ((j : ℕ) (s : Saved) → slice_get saved j ≡ Some s → IsUpTo low s.head index) → IsWorkedThrough ws trail index → AreHeld ws linked trail saved decided low index → AreHeld ws linked trail saved decided low (index + 1)
advanced ws linked trail saved decided low index heads worked old c w l m n below at watch differ p here under = elim (same_or_other p index) [
  | inr differs ↦ old c w l m n below at watch differ p here (omega arith)
  | inl e ↦ (let q = slice_get-from_Contains trail m (worked c w l m n at watch differ (ap (slice_get trail) (sym e) ∙ here)) in
      (q.0, q.1, subst (λ (x : ℕ). StandsBefore saved decided (λ s. s.head) x q.0 ⊎ (low ≤ x)) (sym e) (stands_here saved decided low index q.0 heads)))
]

pub WorksThrough-more : (clauses : List StepClause) (first a b : Assigned) (ws xs ys : List Watch) (p q r : Progress) → q.head < length a.literals → Propagated clauses a b → KeepsShort xs ys → ((saved : List Saved) (low : ℕ) → AreHeld xs (length clauses) a.literals saved a.decided low q.head → AreHeld ys (length clauses) b.literals saved b.decided low q.head) → IsWorkedThrough ys b.literals q.head → r ≡ record q { head = q.head + 1 } → WorksThrough clauses first a ws xs p q → WorksThrough clauses first b ws ys p r
WorksThrough-more clauses first a b ws xs ys p q r more step short held worked is old =
    let next : r.head ≡ q.head + 1 = ap (λ (x : Progress). x.head) is in
    record {
      propagated = Propagated-both clauses first a b old.propagated step;
      short = λ c w at e. old.short c w (short c w at e) e;
      after = is ∙ ap (λ (x : Progress). record x { head = q.head + 1 }) old.after ∙ ap (λ (n : ℕ). record p { head = n }) (sym next);
      more = (let h = old.more in omega arith);
      within = (let n = longer clauses a b step in omega arith);
      held = λ saved heads h. subst (λ (n : ℕ). AreHeld ys (length clauses) b.literals saved b.decided p.low n) (sym next)
          (advanced ys (length clauses) b.literals saved b.decided p.low q.head (λ j s at. up_to p.low p.low s.head p.head q.head (omega arith) old.more (heads j s at)) worked
          (held saved p.low (old.held saved heads h)));
    }

-- a visit that found a false clause
pub WorksThrough-stop : (clauses : List StepClause) (first a b : Assigned) (ws xs ys : List Watch) (p q : Progress) → Propagated clauses a b → KeepsShort xs ys → ((saved : List Saved) (low : ℕ) → AreHeld xs (length clauses) a.literals saved a.decided low q.head → AreHeld ys (length clauses) b.literals saved b.decided low q.head) → WorksThrough clauses first a ws xs p q → WorksThrough clauses first b ws ys p q
WorksThrough-stop clauses first a b ws xs ys p q step short held old = record {
  propagated = Propagated-both clauses first a b old.propagated step;
  short = λ c w at e. old.short c w (short c w at e) e;
  after = old.after;
  more = old.more;
  within = (let n = longer clauses a b step in let h = old.within in omega arith);
  held = λ saved heads h. held saved p.low (old.held saved heads h);
}

-- literals stay within the room
pub still_within : (clauses more : List StepClause) (a b : Assigned) → Propagated clauses a b → All (λ (d : StepClause). All (λ (m : Lit). m.term.0 < a.room) d.literals) more → All (λ (d : StepClause). All (λ (m : Lit). m.term.0 < b.room) d.literals) more
still_within clauses more a b step within = subst (λ (n : ℕ). All (λ (d : StepClause). All (λ (m : Lit). m.term.0 < n) d.literals) more) (sym step.room) within
