-- Classes to which no rule applies: what waits is of one class already, and once all signatures are met the rules are covered.
use Rattle.std.proofs.Common.{◌≡◌, Bool, List, [], length, Option, Some, refl, inl, inr, arith}
use Rattle.std.specs.List.{Contains}
use Rattle.ct_lemmas.proofs.Numbers.{same_or_other}
use Rattle.ct_sorts.specs.declared.ids.CtorId.{CtorId}
use Rattle.ct_sorts.specs.Declarations.{Declarations}
use Rattle.ct_terms.specs.declared.ids.TermId.{TermId}
use Rattle.ct_terms.specs.declared.term.Core.{Core}
use Rattle.ct_terms.specs.declared.term.Core.TheVariants.{Con}
use Rattle.ct_terms.specs.Terms.{Terms, Has}
use Rattle.ct_rules.specs.Rules.{by_congruence, by_injection, by_selection, by_testing, by_expansion, by_equation_in, by_equation_out, by_negation, by_singleton}
use Rattle.ct_congr.specs.declared.merge.Reason.TheVariants.{Inject, Sel, Test, Expand, EqualOut, Neg}
use Rattle.ct_congr.specs.declared.merge.Merge.{Merge}
use Rattle.ct_equivalence.specs.Grouping.{Groupings}
use Rattle.ct_congr.specs.Partition.{InOneClass}
use Rattle.ct_congr.specs.State.{State, IsQuiet}
use Rattle.ct_congr.specs.Held.{AreHeld}
use Rattle.ct_congr.specs.Joined.{AreJoined, AreWaiting}
use Rattle.ct_congr.specs.Covered.{HasCon, IsGrouped, Keys, IsMet, IsCovered}
use Rattle.ct_congr.specs.Kept.{IsKept}
use Rattle.ct_congr.specs.Marks.{AreQuiet}
use Rattle.ct_congr.proofs.MergeLemmas.{IsReason-wider, IsReason-follows}
use Rattle.ct_congr.proofs.CompleteLemmas.{Theorems, Follows-closed}
use Rattle.ct_congr.proofs.HeldLemmas.{IsClosed-of}
use Rattle.ct_congr.proofs.JoinedLemmas.{AreJoined-class, AreJoined-moves}
use Rattle.ct_congr.proofs.CoveredLemmas.{IsCovered-wider}
use Rattle.ct_congr.proofs.MetLemmas.{IsMet-wider}
use Rattle.ct_congr.proofs.KeptLemmas.{IsKept-fast, no_waiting}

-- ---- quiet states

pub AreQuiet-of : (state : State) → IsQuiet state → AreQuiet state.declarations state.terms state.reps
AreQuiet-of state quiet =
    let by = quiet.closed.closed in
    record {
      closed = record {
        congruence = λ x y r. by x y (by_congruence r);
        injection = λ x y r. by x y (by_injection r);
        selection = λ x y r. by x y (by_selection r);
        testing = λ x y r. by x y (by_testing r);
        expansion = λ x y r. by x y (by_expansion r);
        equation_in = λ x y r. by x y (by_equation_in r);
        equation_out = λ x y r. by x y (by_equation_out r);
        negation = λ x y r. by x y (by_negation r);
        singleton = λ x y r. by x y (by_singleton r);
      };
      one = quiet.one;
    }

pub IsQuiet-of : (state : State) (single : List Bool) → Theorems state.declarations state.terms state.hypotheses state.given → AreHeld state.declarations state.terms single state.hypotheses state.given state.reps state.cons state.merges → AreQuiet state.declarations state.terms state.reps → IsQuiet state
IsQuiet-of state single theorems held quiet = record { closed = IsClosed-of state single theorems held quiet.closed; one = quiet.one }

-- ---- what waits

module _ (d : Declarations) (terms : Terms) (reps : List TermId) (long : length reps ≡ length terms) (quiet : AreQuiet d terms reps) where
  -- the sides of what waits are of one class
  waiting-equal : (waiting : List Merge) → AreWaiting d terms reps waiting → (m : Merge) → Contains waiting m → InOneClass reps m.left m.right
  waiting-equal waiting are m has =
      let w = are m has in
      elim (IsReason-follows d terms [] (InOneClass reps) m.left m.right m.why w.rule w.justified) [
        | inl h ↦ absurd (omega (arith, h.1.1))
        | inr follows ↦ Follows-closed d terms reps long quiet.closed m.left m.right follows
      ]

  -- so what it joins is of one class
  pub AreJoined-quiet : (waiting : List Merge) → AreWaiting d terms reps waiting → (x y : TermId) → AreJoined reps waiting x y → AreJoined reps [] x y
  AreJoined-quiet waiting are = AreJoined-moves reps reps waiting [] (AreJoined-class reps []) (λ m has. AreJoined-class reps [] m.left m.right (waiting-equal waiting are m has))

module _ (d : Declarations) (terms : Terms) (reps : List TermId) (cons : List (Option TermId)) (grouped : IsGrouped terms reps cons) (quiet : AreQuiet d terms reps) where
  -- a constructor term is of the class for which it is stored
  con-class : (u c : TermId) → HasCon reps cons u c → InOneClass reps u c
  con-class u c h = (h.0, h.1, (grouped.stored h.0 (Some c) (grouped.own u h.0 h.1) h.2).0)

  one-constructor : (t con : TermId) (c k : CtorId) (xs ys : List TermId) → HasCon reps cons t con → Has terms (Con c xs) t.0 → Has terms (Con k ys) con.0 → c ≡ k
  one-constructor t con c k xs ys has left right = elim (same_or_other c.0 k.0) [
    | inl e ↦ λ i. record { 0 = e i }
    | inr other ↦ absurd (quiet.one t con (record {
      first = c;
      second = k;
      xs = xs;
      ys = ys;
      left = left;
      right = right;
      apart = λ same. other (λ i. (same i).0);
      equal = con-class t con has;
    }))
  ]

  -- the rules are covered, where all signatures are met
  pub IsCovered-quiet : (keys : Keys) (waiting : List Merge) → AreWaiting d terms reps waiting → ((t : TermId) (core : Core) → Has terms core t.0 → IsMet terms reps keys (AreJoined reps waiting) t core) → IsCovered d terms reps cons keys (AreJoined reps [])
  IsCovered-quiet keys waiting are met =
      let known = InOneClass reps in
      let stored = HasCon reps cons in
      let joined = AreJoined-class reps [] in
      let closed = quiet.closed in
      record {
        one = one-constructor;
        injection = λ x y rule. joined x y (closed.injection x y (IsReason-wider d terms [] stored known con-class x y (Inject rule.left rule.right rule.place) (rule, refl, refl, refl)).0);
        each = λ t. record {
          selection = λ y rule. joined t y (closed.selection t y (IsReason-wider d terms [] stored known con-class t y (Sel t rule.con) (refl, rule, refl)).1);
          testing = λ y rule. joined t y (closed.testing t y (IsReason-wider d terms [] stored known con-class t y (Test t rule.con) (refl, rule, refl)).1);
          negation = λ y rule. joined t y (closed.negation t y (IsReason-wider d terms [] stored known con-class t y (Neg t) (refl, rule)).1);
          equation_in = λ y rule. joined t y (closed.equation_in t y rule);
          expansion = λ x y rule is. joined x y (closed.expansion x y (IsReason-wider d terms [] stored known con-class x y (Expand rule.test y) (refl, rule, refl)).1);
          equation_out = λ x y rule is. joined x y (closed.equation_out x y (IsReason-wider d terms [] stored known con-class x y (EqualOut rule.term) (rule, refl)).0);
        };
        congruence = λ t core has. IsMet-wider terms reps keys (AreJoined reps waiting) (AreJoined reps []) (AreJoined-quiet d terms reps grouped.long quiet waiting are) t core (met t core has);
        singleton = λ x y rule. joined x y (closed.singleton x y rule);
      }

-- ---- letting go what waits

-- where no rule applies, what waits may be let go
pub IsKept-emptied : (d : Declarations) (terms : Terms) (parts : Groupings) (keys : Keys) (waiting left : List Merge) (fast : Bool) → left ≡ [] → AreQuiet d terms parts.now.reps → IsKept d terms parts keys waiting fast → IsKept d terms parts keys left fast
IsKept-emptied d terms parts keys waiting left fast none quiet kept =
    let reps = parts.now.reps in
    IsKept-fast d terms parts keys left fast kept.groupings kept.keyed (λ is. no_waiting d terms reps left none)
    (λ is. rw none (IsCovered-wider d terms reps parts.now.cons keys (AreJoined reps waiting) (AreJoined reps []) (AreJoined-quiet d terms reps kept.groupings.now.long quiet waiting (kept.waits is)) (kept.covered is)))
