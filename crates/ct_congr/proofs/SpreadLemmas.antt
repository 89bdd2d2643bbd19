-- What a union asks for, by the constructor terms of the two classes.
use Rattle.std.proofs.Common.{◌≡◌, ◌<◌, true, List, [], ◌∷◌, length, Option, slice_get, Some, None, refl, sym, subst, ◌∙◌, inl, inr, arith}
use Rattle.std.specs.List.{Contains}
use Rattle.std.proofs.lemmas.Option.{none-some, same_Some, slice_get_within}
use Rattle.ct_sorts.specs.Declarations.{Declarations}
use Rattle.ct_terms.specs.declared.ids.TermId.{TermId}
use Rattle.ct_terms.specs.declared.term.Core.{Core}
use Rattle.ct_terms.specs.Children.{core_children}
use Rattle.ct_terms.specs.Terms.{Terms, Has}
use Rattle.ct_rules.specs.Rules.{Equations, truth_term}
use Rattle.ct_equivalence.specs.Grouping.{Grouping}
use Rattle.ct_equivalence.specs.Partition.{IsClass}
use Rattle.ct_equivalence.specs.Over.{AreUsesOf, IsAbove}
use Rattle.ct_equivalence.specs.Union.{IsJoin}
use Rattle.ct_congr.specs.declared.merge.Merge.{Merge}
use Rattle.ct_congr.specs.Partition.{InOneClass}
use Rattle.ct_congr.specs.Joined.{AreJoined}
use Rattle.ct_congr.specs.Covered.{HasCon, IsGrouped, IsCoveredAt, Keys, IsMet}
use Rattle.ct_congr.specs.declared.merge.Closed.{Closed}
use Rattle.ct_congr.specs.declared.merge.Closed.TheVariants.{Quiet, Clash}
use Rattle.ct_congr.specs.Step.{ArePaired, IsPairing, IsSpread, IsDone, IsMovedDone, IsSpreading}
use Rattle.ct_congr.proofs.TermLemmas.{Has-inside}
use Rattle.ct_congr.proofs.CoveredLemmas.{IsCoveredAt-wider}
use Rattle.ct_congr.proofs.MetLemmas.{IsMet-wider}

pub IsMovedDone-wider : (d : Declarations) (terms : Terms) (was now : Grouping) (loser : TermId) (keys : Keys) (joined wider : Equations) → ((x y : TermId) → joined x y → wider x y) → IsMovedDone d terms was now loser keys joined → IsMovedDone d terms was now loser keys wider
IsMovedDone-wider d terms was now loser keys joined wider each done = record {
  covered = λ p u core stands above at. IsCoveredAt-wider d terms (InOneClass now.reps) (HasCon now.reps now.cons) joined wider each p (done.covered p u core stands above at);
  met = λ p u core stands above at. IsMet-wider terms now.reps keys joined wider each p core (done.met p u core stands above at);
}

-- what is said of classes that are read
pub carry : (P : List TermId → List (Option TermId) → Type 0) (reps read : List TermId) (cons known : List (Option TermId)) → read ≡ reps → known ≡ cons → P read known → P reps cons
carry P reps read cons known r c h = subst (λ (q : List TermId). P q cons) r (subst (P read) c h)

module _ (d : Declarations) (terms : Terms) (was now : Grouping) (winner loser : TermId) (put : IsJoin was now winner loser) (g : IsGrouped terms was.reps was.cons) (keys : Keys) (joined : Equations) where
  -- what stands at the winner now, where it had a constructor term or got one
  stayed : (c : TermId) (o : Option TermId) → slice_get was.cons winner.0 ≡ Some (Some c) → slice_get now.cons winner.0 ≡ Some o → o ≡ Some c
  stayed c o had at = same_Some o (Some c) (sym at ∙ put.cons.stays c had)

  came : (c : TermId) (o : Option TermId) → slice_get was.cons winner.0 ≡ Some None → slice_get was.cons loser.0 ≡ Some (Some c) → slice_get now.cons winner.0 ≡ Some o → o ≡ Some c
  came c o none had at = same_Some o (Some c) (sym at ∙ (put.cons.comes none ∙ had))

  pub now_winner : (t : TermId) → slice_get was.reps t.0 ≡ Some winner → slice_get now.reps t.0 ≡ Some winner
  now_winner t at = elim (put.relabelled.each t winner at) [ inl p ↦ p.1 | inr p ↦ p.1 ]

  pub now_loser : (t : TermId) → slice_get was.reps t.0 ≡ Some loser → slice_get now.reps t.0 ≡ Some winner
  now_loser t at = elim (put.relabelled.each t loser at) [ inl p ↦ p.1 | inr p ↦ absurd (p.0 refl) ]

  -- neither class has a constructor term
  pub IsSpread-none : slice_get now.cons winner.0 ≡ Some None → IsMovedDone d terms was now loser keys joined → IsSpread d terms was now winner loser keys joined
  IsSpread-none none done = record {
    moved = done.covered;
    met = done.met;
    fresh = λ p u c core fresh stands above. absurd (elim fresh [
      | inl f ↦ none-some c (stayed c None f.1 none)
      | inr f ↦ none-some c (came c None f.1 f.2 none)
    ]);
    truths = λ t fresh. absurd (elim fresh [
      | inl f ↦ none-some (truth_term true) (stayed (truth_term true) None f.1 none)
      | inr f ↦ none-some (truth_term true) (came (truth_term true) None f.1 f.2 none)
    ]);
    paired = λ t u at_winner at_loser. absurd (none-some t (stayed t None at_winner none));
  }

  -- the first class got the constructor term of the second
  pub IsSpread-gained : (con : TermId) → slice_get now.cons winner.0 ≡ Some (Some con) → slice_get was.cons loser.0 ≡ Some (Some con) → IsMovedDone d terms was now loser keys joined → ((p u : TermId) (core : Core) → Has terms core p.0 → Contains (core_children core) u → slice_get now.reps u.0 ≡ Some winner → IsDone d terms now joined p) → (con ≡ truth_term true → (t : TermId) → slice_get now.reps t.0 ≡ Some winner → IsDone d terms now joined t) → IsSpread d terms was now winner loser keys joined
  IsSpread-gained con at taken done uses truths = record {
    moved = done.covered;
    met = done.met;
    fresh = λ p u c core fresh stands above. elim fresh [
      | inl f ↦ done.covered p u core stands above f.0
      | inr f ↦ uses p u core stands above (now_winner u f.0)
    ];
    truths = λ t fresh. elim fresh [
      | inl f ↦ truths (same_Some con (truth_term true) (stayed (truth_term true) (Some con) f.1 at)) t (now_loser t f.0)
      | inr f ↦ truths (same_Some con (truth_term true) (came (truth_term true) (Some con) f.1 f.2 at)) t (now_winner t f.0)
    ];
    paired = λ t u at_winner at_loser.
        let first : con ≡ t = same_Some con t (stayed t (Some con) at_winner at) in
        let second : con ≡ u = same_Some con u (same_Some (Some con) (Some u) (sym taken ∙ at_loser)) in
        let left = (g.stored winner (Some t) put.winner_is at_winner).0 in
        let right = (g.stored loser (Some u) put.loser_is at_loser).0 in
        let same : slice_get was.reps t.0 ≡ Some loser = subst (λ (q : TermId). slice_get was.reps q.0 ≡ Some loser) (sym second ∙ first) right in
        absurd (put.apart (same_Some winner loser (sym left ∙ same)));
  }

  -- the first class had its own constructor term
  pub IsSpread-kept : (con : TermId) (other : Option TermId) → slice_get now.cons winner.0 ≡ Some (Some con) → slice_get was.cons loser.0 ≡ Some other → (other ≡ Some con → ⊥) → IsMovedDone d terms was now loser keys joined → (con ≡ truth_term true → (t : TermId) → slice_get was.reps t.0 ≡ Some loser → IsDone d terms now joined t) → ((taken : TermId) → other ≡ Some taken → ArePaired terms joined con taken) → IsSpread d terms was now winner loser keys joined
  IsSpread-kept con other at taken apart done truths pairs = record {
    moved = done.covered;
    met = done.met;
    fresh = λ p u c core fresh stands above. elim fresh [
      | inl f ↦ done.covered p u core stands above f.0
      | inr f ↦ absurd (apart (lost c f.1 f.2))
    ];
    truths = λ t fresh. elim fresh [
      | inl f ↦ truths (same_Some con (truth_term true) (stayed (truth_term true) (Some con) f.1 at)) t f.0
      | inr f ↦ absurd (apart (lost (truth_term true) f.1 f.2))
    ];
    paired = λ t u at_winner at_loser.
        let first : con ≡ t = same_Some con t (stayed t (Some con) at_winner at) in
        subst (λ (q : TermId). ArePaired terms joined q u) first (pairs u (same_Some other (Some u) (sym taken ∙ at_loser)));
  }
    where
      lost : (c : TermId) → slice_get was.cons winner.0 ≡ Some None → slice_get was.cons loser.0 ≡ Some (Some c) → other ≡ Some con
      lost c none had =
          let here : Some con ≡ Some c = came c (Some con) none had at in
          same_Some other (Some c) (sym taken ∙ had) ∙ sym here

  -- the two constructor terms were paired, or are a clash
  pub IsSpreading-paired : (con taken : TermId) → slice_get now.cons winner.0 ≡ Some (Some con) → slice_get was.cons loser.0 ≡ Some (Some taken) → (Some taken ≡ Some con → ⊥) → IsMovedDone d terms was now loser keys joined → (con ≡ truth_term true → (t : TermId) → slice_get was.reps t.0 ≡ Some loser → IsDone d terms now joined t) → (answer : Closed) → IsPairing terms now.reps joined con taken answer → IsSpreading d terms was now winner loser keys joined answer
  IsSpreading-paired con taken at had apart done truths Quiet paired =
      IsSpread-kept con (Some taken) at had apart done truths (λ u is. subst (λ (q : TermId). ArePaired terms joined con q) (same_Some taken u is) paired)
  IsSpreading-paired con taken at had apart done truths (Clash a b) clash = clash

  -- both are of the class now
  pub cons_equal : (con taken : TermId) → IsGrouped terms now.reps now.cons → slice_get now.cons winner.0 ≡ Some (Some con) → slice_get was.cons loser.0 ≡ Some (Some taken) → InOneClass now.reps con taken
  cons_equal con taken grouped at had =
      let own : slice_get now.reps winner.0 ≡ Some winner = elim (put.relabelled.each winner winner put.winner_is) [ inl p ↦ p.1 | inr p ↦ p.1 ] in
      (winner, (grouped.stored winner (Some con) own at).0, now_loser taken (g.stored loser (Some taken) put.loser_is had).0)

-- ---- what the code reads of the classes

-- a list with an element has a first one
pub first_of : {X : Type 0} (xs : List X) → 0 < length xs → (x : X) × (rest : List X) × (xs ≡ x ∷ rest)
first_of [] some = absurd (omega (arith, some))
first_of (x ∷ rest) some = (x, rest, refl)

module _ (d : Declarations) (terms : Terms) (was now : Grouping) (keys : Keys) (read : List TermId) (known : List (Option TermId)) (r : read ≡ now.reps) (k : known ≡ now.cons) (waiting : List Merge) (row : List TermId) (covered : (t : TermId) → Contains row t → IsCoveredAt d terms (InOneClass read) (HasCon read known) (AreJoined read waiting) t) where
  done_at : (t : TermId) → Contains row t → IsDone d terms now (AreJoined now.reps waiting) t
  done_at t has = carry (λ reps cons. IsCoveredAt d terms (InOneClass reps) (HasCon reps cons) (AreJoined reps waiting) t) now.reps read now.cons known r k (covered t has)

  pub IsMovedDone-from : (loser : TermId) → AreUsesOf terms was.reps loser row → ((t : TermId) (core : Core) → Contains row t → Has terms core t.0 → IsMet terms read keys (AreJoined read waiting) t core) → IsMovedDone d terms was now loser keys (AreJoined now.reps waiting)
  IsMovedDone-from loser uses met = record {
    covered = λ p u core stands above at. done_at p (uses.all p u core stands above at);
    met = λ p u core stands above at. subst (λ (reps : List TermId). IsMet terms reps keys (AreJoined reps waiting) p core) r (met p core (uses.all p u core stands above at) stands);
  }

  pub uses_done : (winner : TermId) → AreUsesOf terms now.reps winner row → (p u : TermId) (core : Core) → Has terms core p.0 → Contains (core_children core) u → slice_get now.reps u.0 ≡ Some winner → IsDone d terms now (AreJoined now.reps waiting) p
  uses_done winner uses p u core stands above at = done_at p (uses.all p u core stands above at)

  pub class_done : (reps : List TermId) (winner : TermId) → IsClass reps winner row → (t : TermId) → slice_get reps t.0 ≡ Some winner → IsDone d terms now (AreJoined now.reps waiting) t
  class_done reps winner class t at = done_at t (class.all t at)

-- ---- where the two representatives stand

module _ (terms : Terms) (was now : Grouping) (winner loser : TermId) (put : IsJoin was now winner loser) (long : length now.reps ≡ length terms) where
  pub loser_inside : loser.0 < length terms
  loser_inside = omega (arith, slice_get_within was.reps loser.0 loser put.loser_is, put.relabelled.long, long)

  pub winner_inside : winner.0 < length terms
  winner_inside = omega (arith, slice_get_within was.reps winner.0 winner put.winner_is, put.relabelled.long, long)

  pub winner_own : slice_get now.reps winner.0 ≡ Some winner
  winner_own = elim (put.relabelled.each winner winner put.winner_is) [ inl p ↦ p.1 | inr p ↦ p.1 ]

-- terms right above a class are in the table, and so are its members
pub above_inside : (terms : Terms) (reps : List TermId) (r p : TermId) → IsAbove terms reps r p → p.0 < length terms
above_inside terms reps r p h = Has-inside terms h.0 p.0 h.2

pub member_inside : (terms : Terms) (reps : List TermId) (r t : TermId) (row : List TermId) → length reps ≡ length terms → IsClass reps r row → Contains row t → t.0 < length terms
member_inside terms reps r t row long class has = omega (arith, slice_get_within reps t.0 r (class.only t has), long)
