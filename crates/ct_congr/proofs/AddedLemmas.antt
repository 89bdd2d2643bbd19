-- A merge that was added: classes stay sound, and the rules covered.
use Rattle.std.proofs.Common.{◌≡◌, ℕ, Bool, true, false, MatchBool, true≢false, List, [], ◌∷◌, ◌++◌, Option, Some, None, refl, sym, subst}
use Rattle.std.specs.List.{Contains}
use Rattle.ct_sorts.specs.Declarations.{Declarations}
use Rattle.ct_terms.specs.declared.ids.TermId.{TermId}
use Rattle.ct_terms.specs.declared.ids.Lit.{Lit}
use Rattle.ct_terms.specs.declared.term.Core.{Core}
use Rattle.ct_terms.specs.Terms.{Terms, AreSorted}
use Rattle.ct_rules.specs.declared.equation.Equation.{Equation}
use Rattle.ct_rules.specs.Derivation.{Derives}
use Rattle.ct_equivalence.specs.declared.union.Union.{Union}
use Rattle.ct_equivalence.specs.Grouping.{Grouping, Groupings}
use Rattle.ct_equivalence.specs.Over.{AreGroupingsOf}
use Rattle.ct_equivalence.specs.Union.{IsJoin, IsUnited}
use Rattle.ct_rules.specs.Rules.{Equations}
use Rattle.ct_congr.specs.declared.merge.Merge.{Merge}
use Rattle.ct_congr.specs.declared.merge.Closed.{Closed}
use Rattle.ct_congr.specs.declared.merge.Closed.TheVariants.{Quiet, Clash}
use Rattle.ct_congr.specs.Partition.{InOneClass}
use Rattle.ct_congr.specs.Reasons.{IsJustified}
use Rattle.ct_congr.specs.Sound.{IsJoined, IsSound}
use Rattle.ct_congr.specs.Joined.{AreJoined, AreWaiting, WaitsOn}
use Rattle.ct_congr.specs.Covered.{IsGrouped, Keys, IsKeyed, IsCovered}
use Rattle.ct_congr.specs.Step.{IsSpreading, IsLast, IsFollowed, IsAdding}
use Rattle.ct_congr.proofs.MergeLemmas.{IsSound-more}
use Rattle.ct_congr.proofs.CoveredLemmas.{IsCovered-wider}
use Rattle.ct_congr.proofs.JoinedLemmas.{AreWaiting-larger}
use Rattle.ct_congr.proofs.StepLemmas.{IsCovered-spread}
use Rattle.ct_congr.proofs.MetLemmas.{IsKeyed-more}
use Rattle.ct_congr.proofs.AddingLemmas.{IsJoined-grouping, cons_united, moves_added}

-- sound with one justified merge more
pub IsSound-united : (d : Declarations) (terms : Terms) (hyps : List Lit) (given : List Equation) (old new : Groupings) (merges later : List Merge) (m : Merge) (answer : Option Union) → IsUnited old.now new.now m.left m.right answer → AreGroupingsOf terms new → later ≡ merges ++ m ∷ [] → IsJustified d terms hyps (InOneClass old.now.reps) m → Derives d terms hyps given m.left m.right → IsSound d terms hyps given old.now.reps old.now.cons merges → IsSound d terms hyps given new.now.reps new.now.cons later
IsSound-united d terms hyps given old new merges later m answer united of is why derives sound =
    subst (IsSound d terms hyps given new.now.reps new.now.cons) (sym is)
    (IsSound-more d terms hyps given old.now.reps new.now.reps old.now.cons new.now.cons merges m sound (IsJoined-grouping old.now new.now m.left m.right answer united) why derives (cons_united old.now new.now m.left m.right answer united) of.now.cons)

module _ (d : Declarations) (terms : Terms) (old new : Grouping) (m : Merge) (before after : List Merge) (joined : IsJoined old.reps new.reps m.left m.right) (still : (n : Merge) → Contains before n → Contains after n) where
  moves : (x y : TermId) → AreJoined old.reps (m ∷ before) x y → AreJoined new.reps after x y
  moves = moves_added old.reps new.reps m before after joined still

  -- the sides were of one class
  pub IsAdding-none : (keys : Keys) → new ≡ old → IsAdding d terms old new keys keys (AreJoined old.reps (m ∷ before)) (AreJoined new.reps after) Quiet
  IsAdding-none keys same covered =
      let wide = IsCovered-wider d terms old.reps old.cons keys (AreJoined old.reps (m ∷ before)) (AreJoined new.reps after) moves covered in
      subst (λ (g : Grouping). IsCovered d terms g.reps g.cons keys (AreJoined new.reps after)) (sym same) wide

  -- two classes were put together
  pub IsAdding-some : (winner loser : TermId) → IsJoin old new winner loser → IsGrouped terms old.reps old.cons → AreSorted d terms → (keys more : Keys) → ((key : ℕ) (t : TermId) → IsKeyed keys key t → IsKeyed more key t) → (answer : Closed) → IsSpreading d terms old new winner loser more (AreJoined new.reps after) answer → IsAdding d terms old new keys more (AreJoined old.reps (m ∷ before)) (AreJoined new.reps after) answer
  IsAdding-some winner loser put grouped sorted keys more grows Quiet spread = λ covered.
      IsCovered-spread d terms old new winner loser put grouped sorted keys more (AreJoined old.reps (m ∷ before)) after grows moves covered spread
  IsAdding-some winner loser put grouped sorted keys more grows (Clash a b) clash = clash

  -- by what the union was
  pub IsAdding-united : IsGrouped terms old.reps old.cons → AreSorted d terms → (keys more : Keys) → (added : Keys) × (more ≡ keys ++ added) → (united : Option Union) → (united ≡ None → more ≡ keys) → (answer : Closed) → IsUnited old new m.left m.right united → IsFollowed d terms old new more (AreJoined new.reps after) united answer → IsAdding d terms old new keys more (AreJoined old.reps (m ∷ before)) (AreJoined new.reps after) answer
  IsAdding-united grouped sorted keys more added None same answer h quiet =
      subst (IsAdding d terms old new keys more (AreJoined old.reps (m ∷ before)) (AreJoined new.reps after)) (sym quiet)
      (λ covered. subst (λ (ks : Keys). IsCovered d terms new.reps new.cons ks (AreJoined new.reps after)) (sym (same refl)) (IsAdding-none keys h.0 covered))
  IsAdding-united grouped sorted keys more added (Some union) same answer h spread = IsAdding-some union.winner union.loser h.join grouped sorted keys more (IsKeyed-more keys more added) answer spread

-- the last union, by what uniting answered
pub IsLast-united : (old new : Grouping) (a b : TermId) (united : Option Union) → IsUnited old new a b united → IsLast old new united
IsLast-united old new a b None h = tt
IsLast-united old new a b (Some union) h = h.join

-- what waits still follows by rules
pub AreWaiting-added : (d : Declarations) (terms : Terms) (old new : List TermId) (m : Merge) (before after : List Merge) → IsJoined old new m.left m.right → WaitsOn d terms new before after → AreWaiting d terms old before → AreWaiting d terms new after
AreWaiting-added d terms old new m before after joined on are = on.follows (AreWaiting-larger d terms old new before joined.long joined.keeps are)

-- a clash is one whatever was joined
pub IsAdding-clash : (d : Declarations) (terms : Terms) (old was new : Grouping) (keys had more : Keys) (joined known wider further : Equations) (answer : Closed) → (answer ≡ Quiet → ⊥) → IsAdding d terms was new had more joined known answer → IsAdding d terms old new keys more wider further answer
IsAdding-clash d terms old was new keys had more joined known wider further Quiet apart h = absurd (apart refl)
IsAdding-clash d terms old was new keys had more joined known wider further (Clash a b) apart h = h

-- what a test for quiet says
pub quiet_from : (answer : Closed) (b : Bool) → MatchBool b (answer ≡ Quiet) (answer ≡ Quiet → ⊥) → b ≡ true → answer ≡ Quiet
quiet_from answer true h e = h
quiet_from answer false h e = absurd (true≢false (sym e))
