-- What closing keeps of classes.
use Rattle.std.proofs.Common.{◌≡◌, Bool, true, false, List, [], refl, sym, subst, ◌∙◌, true≢false, arith}
use Rattle.std.specs.List.{Contains}
use Rattle.std.proofs.lemmas.List.{append-nil}
use Rattle.ct_sorts.specs.Declarations.{Declarations}
use Rattle.ct_terms.specs.declared.ids.TermId.{TermId}
use Rattle.ct_terms.specs.Terms.{Terms}
use Rattle.ct_equivalence.specs.Grouping.{Grouping, Groupings}
use Rattle.ct_equivalence.specs.Over.{AreGroupingsOf}
use Rattle.ct_congr.specs.declared.merge.Merge.{Merge}
use Rattle.ct_rules.specs.Rules.{Equations}
use Rattle.ct_congr.specs.declared.merge.Closed.{Closed}
use Rattle.ct_congr.specs.declared.merge.Closed.TheVariants.{Quiet, Clash}
use Rattle.ct_congr.specs.State.{IsClashOf, IsVerdict}
use Rattle.ct_congr.specs.Step.{IsAdding}
use Rattle.ct_congr.specs.Grown.{IsLater}
use Rattle.ct_congr.specs.Joined.{AreJoined, AreWaiting}
use Rattle.ct_congr.specs.Covered.{Keys, AreKeys, IsCovered}
use Rattle.ct_congr.specs.History.{IsExtended, IsFurther}
use Rattle.ct_congr.specs.Kept.{IsKept}
use Rattle.ct_congr.proofs.MetLemmas.{AreKeys-larger}

-- where it is not said that the rules are covered
pub IsKept-slow : (d : Declarations) (terms : Terms) (parts : Groupings) (keys : Keys) (waiting : List Merge) (fast : Bool) → fast ≡ false → AreGroupingsOf terms parts → AreKeys parts.now.reps keys → IsKept d terms parts keys waiting fast
IsKept-slow d terms parts keys waiting fast slow of keyed = record {
  groupings = of;
  keyed = keyed;
  waits = λ e. absurd (true≢false (sym e ∙ slow));
  covered = λ e. absurd (true≢false (sym e ∙ slow));
}

-- and where it is, since it is so
pub IsKept-fast : (d : Declarations) (terms : Terms) (parts : Groupings) (keys : Keys) (waiting : List Merge) (fast : Bool) → AreGroupingsOf terms parts → AreKeys parts.now.reps keys → (fast ≡ true → AreWaiting d terms parts.now.reps waiting) → (fast ≡ true → IsCovered d terms parts.now.reps parts.now.cons keys (AreJoined parts.now.reps waiting)) → IsKept d terms parts keys waiting fast
IsKept-fast d terms parts keys waiting fast of keyed waits covered = record { groupings = of; keyed = keyed; waits = waits; covered = covered }

-- rounds over all terms leave the signatures as they are
pub IsFurther-slow : (terms : Terms) (old new : Groupings) (merges later : List Merge) (keys : Keys) → IsExtended old new merges later → IsLater old.now.reps new.now.reps merges later → (AreGroupingsOf terms old → AreGroupingsOf terms new) → AreGroupingsOf terms old → AreKeys old.now.reps keys → IsFurther terms old new merges later keys keys
IsFurther-slow terms old new merges later keys extended further keeps of keyed = record {
  extended = extended;
  later = further;
  more = ([], sym (append-nil keys));
  groupings = keeps of;
  keyed = AreKeys-larger old.now.reps new.now.reps keys further.keeps keyed;
}

-- nothing waits
pub no_waiting : (d : Declarations) (terms : Terms) (reps : List TermId) (waiting : List Merge) → waiting ≡ [] → AreWaiting d terms reps waiting
no_waiting d terms reps waiting none m has = absurd (omega (arith, (subst (λ (list : List Merge). Contains list m) none has).1))

-- the answer says whether a class has two constructors
pub verdict_of : (d : Declarations) (terms : Terms) (old new : Grouping) (keys more : Keys) (known joined : Equations) (answer : Closed) → (answer ≡ Quiet → (a b : TermId) → IsClashOf terms new.reps a b → ⊥) → IsAdding d terms old new keys more known joined answer → IsVerdict terms new.reps answer
verdict_of d terms old new keys more known joined Quiet one h = one refl
verdict_of d terms old new keys more known joined (Clash a b) one h = h
