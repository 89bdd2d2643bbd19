-- Terms that waiting merges will put into one class: an equivalence that grows with classes and merges.
use Rattle.std.proofs.Common.{◌≡◌, List, [], ◌∷◌, ◌++◌, length, subst, inl, inr, arith}
use Rattle.std.specs.List.{Contains}
use Rattle.std.proofs.lemmas.List.Elements.{Contains-append_left, Contains-push_cases}
use Rattle.ct_sorts.specs.Declarations.{Declarations}
use Rattle.ct_terms.specs.declared.ids.TermId.{TermId}
use Rattle.ct_terms.specs.declared.ids.Lit.{Lit}
use Rattle.ct_terms.specs.Terms.{Terms}
use Rattle.ct_rules.specs.Rules.{Equations}
use Rattle.ct_congr.specs.declared.merge.Reason.{Reason}
use Rattle.ct_congr.specs.declared.merge.Reason.TheVariants.{Hyp, Cong, Inject, Sel, Test, Expand, EqualIn, EqualOut, Neg, Single, Unique}
use Rattle.ct_congr.specs.declared.merge.Merge.{Merge}
use Rattle.ct_congr.specs.Reasons.{IsReason}
use Rattle.ct_congr.specs.Partition.{InOneClass}
use Rattle.ct_congr.specs.Joined.{AreJoined, IsWaiting, AreWaiting, WaitsOn}
use Rattle.ct_congr.proofs.ClassLemmas.{InOneClass-sym, InOneClass-trans}
use Rattle.ct_congr.proofs.CompleteLemmas.{same_class, class_of, test_of}
use Rattle.ct_congr.proofs.MergeLemmas.{IsReason-wider}

module _ (reps : List TermId) (waiting : List Merge) where
  pub AreJoined-class : (x y : TermId) → InOneClass reps x y → AreJoined reps waiting x y
  AreJoined-class x y h = λ related holding. holding.classes x y h

  pub AreJoined-sym : (x y : TermId) → AreJoined reps waiting x y → AreJoined reps waiting y x
  AreJoined-sym x y h = λ related holding. holding.symmetric x y (h related holding)

  pub AreJoined-trans : (x y z : TermId) → AreJoined reps waiting x y → AreJoined reps waiting y z → AreJoined reps waiting x z
  AreJoined-trans x y z p q = λ related holding. holding.transitive x y z (p related holding) (q related holding)

  pub AreJoined-waits : (m : Merge) → Contains waiting m → AreJoined reps waiting m.left m.right
  AreJoined-waits m has = λ related holding. holding.waits m has

-- what is joined stays so where classes and waiting merges are joined
pub AreJoined-moves : (old new : List TermId) (before after : List Merge) → ((x y : TermId) → InOneClass old x y → AreJoined new after x y) → ((m : Merge) → Contains before m → AreJoined new after m.left m.right) → (x y : TermId) → AreJoined old before x y → AreJoined new after x y
AreJoined-moves old new before after classes waits x y h =
    λ related holding. h related (record {
      symmetric = holding.symmetric;
      transitive = holding.transitive;
      classes = λ u v p. classes u v p related holding;
      waits = λ m has. waits m has related holding;
    })

-- so it does where more merges wait
pub AreJoined-more : (reps : List TermId) (before after : List Merge) → ((m : Merge) → Contains before m → Contains after m) → (x y : TermId) → AreJoined reps before x y → AreJoined reps after x y
AreJoined-more reps before after still = AreJoined-moves reps reps before after (AreJoined-class reps after) (λ m has. AreJoined-waits reps after m (still m has))

-- where nothing waits, what is joined is of one class
pub AreJoined-none : (reps : List TermId) (x y : TermId) → AreJoined reps [] x y → InOneClass reps x y
AreJoined-none reps x y h = class_of reps x y (h (same_class reps) (record {
  symmetric = λ u v p. test_of reps v u (InOneClass-sym reps u v (class_of reps u v p));
  transitive = λ u v w p q. test_of reps u w (InOneClass-trans reps u v w (class_of reps u v p) (class_of reps v w q));
  classes = test_of reps;
  waits = λ m has. absurd (omega (arith, has.1));
}))

-- merges that wait are justified in larger classes too
pub AreWaiting-larger : (d : Declarations) (terms : Terms) (old new : List TermId) (waiting : List Merge) → length new ≡ length old → ((x y : TermId) → InOneClass old x y → InOneClass new x y) → AreWaiting d terms old waiting → AreWaiting d terms new waiting
AreWaiting-larger d terms old new waiting long keeps are m has =
    let h = are m has in
    record {
      justified = IsReason-wider d terms [] (InOneClass old) (InOneClass new) keeps m.left m.right m.why h.justified;
      rule = h.rule;
      left = omega (arith, h.left, long);
      right = omega (arith, h.right, long);
    }

-- a rule holds under any hypotheses
pub IsReason-any : (d : Declarations) (terms : Terms) (hyps : List Lit) (known : Equations) (x y : TermId) (why : Reason) → IsReason d terms [] known x y why → IsReason d terms hyps known x y why
IsReason-any d terms hyps known x y (Hyp l) h = absurd (omega (arith, h.0.1))
IsReason-any d terms hyps known x y (Cong t u) h = h
IsReason-any d terms hyps known x y (Inject a b k) h = h
IsReason-any d terms hyps known x y (Sel t c) h = h
IsReason-any d terms hyps known x y (Test t c) h = h
IsReason-any d terms hyps known x y (Expand t c) h = h
IsReason-any d terms hyps known x y (EqualIn t) h = h
IsReason-any d terms hyps known x y (EqualOut t) h = h
IsReason-any d terms hyps known x y (Neg t) h = h
IsReason-any d terms hyps known x y Single h = h
IsReason-any d terms hyps known x y (Unique pairs) h = h

-- ---- more merges wait

module _ (d : Declarations) (terms : Terms) (reps : List TermId) where
  pub WaitsOn-same : (waiting : List Merge) → WaitsOn d terms reps waiting waiting
  WaitsOn-same waiting = record { still = λ m has. has; follows = λ are. are }

  pub WaitsOn-trans : (first second third : List Merge) → WaitsOn d terms reps first second → WaitsOn d terms reps second third → WaitsOn d terms reps first third
  WaitsOn-trans first second third p q = record { still = λ m has. q.still m (p.still m has); follows = λ are. q.follows (p.follows are) }

  pub WaitsOn-push : (waiting : List Merge) (m : Merge) → IsWaiting d terms reps m → WaitsOn d terms reps waiting (waiting ++ m ∷ [])
  WaitsOn-push waiting m is = record {
    still = λ n has. Contains-append_left waiting (m ∷ []) n has;
    follows = λ are n has. elim (Contains-push_cases waiting m n has) [
      | inl before ↦ are n before
      | inr last ↦ subst (IsWaiting d terms reps) last is
    ];
  }

  pub AreJoined-on : (before after : List Merge) → WaitsOn d terms reps before after → (x y : TermId) → AreJoined reps before x y → AreJoined reps after x y
  AreJoined-on before after on = AreJoined-more reps before after on.still
