-- What was noted of unions: what holds of the classes before each, and what the last one left as it was.
use Rattle.std.proofs.Common.{◌≡◌, suc, ◌⊎◌, inl, inr, true, false, nat_eq, true≢false, List, [], ◌∷◌, ◌++◌, length, reverse, slice_get, Option, Some, None, refl, sym, ap, ◌∙◌, subst}
use Rattle.std.specs.List.{AllByRecursion}
use Rattle.std.proofs.lemmas.Bool.Decides.{Decides-eqb}
use Rattle.std.proofs.lemmas.List.{reverse-append}
use Rattle.ct_terms.specs.declared.ids.TermId.{TermId}
use Rattle.ct_equivalence.specs.declared.step.Step.{Step}
use Rattle.ct_terms.specs.Terms.{Terms}
use Rattle.ct_equivalence.specs.Digests.{AreDigests}
use Rattle.ct_equivalence.specs.Grouping.{Grouping, Groupings, IsGrouping}
use Rattle.ct_equivalence.specs.Over.{IsGroupingOf, AreGroupingsOf}
use Rattle.ct_equivalence.specs.Union.{IsJoin, IsTaken}
use Rattle.ct_equivalence.specs.Undoing.{before, befores, IsNoted, AreNoted, before_join}
use Rattle.ct_equivalence.proofs.JoinLemmas.{taken_other}

-- all are groupings
pub AreGroupings-noted : (g : Grouping) (log : List (Option Step)) → AreNoted g log → AllByRecursion IsGrouping (g ∷ befores g log)
AreGroupings-noted g [] noted = (noted, tt)
AreGroupings-noted g (last ∷ earlier) noted = (noted.0, AreGroupings-noted (before g last) earlier noted.2)

-- the classes now are one
pub IsGrouping-noted : (g : Grouping) (log : List (Option Step)) → AreNoted g log → IsGrouping g
IsGrouping-noted g [] noted = noted
IsGrouping-noted g (last ∷ earlier) noted = noted.0

-- as many as there are notes
pub length-befores : (g : Grouping) (log : List (Option Step)) → length (befores g log) ≡ length log
length-befores g [] = refl
length-befores g (last ∷ earlier) = ap suc (length-befores (before g last) earlier)

-- one more note at the end is the last one
pub reverse-push : (log : List (Option Step)) (last : Option Step) → reverse (log ++ last ∷ []) ≡ last ∷ reverse log
reverse-push log last = reverse-append log (last ∷ [])

-- what one more union comes to
pub AreNoted-push : (old new : Grouping) (log : List (Option Step)) (last : Option Step) → before new last ≡ old → IsGrouping new → IsNoted new last → AreNoted old (reverse log) → AreNoted new (reverse (log ++ last ∷ []))
AreNoted-push old new log last back whole noted earlier =
    subst (AreNoted new) (sym (reverse-push log last)) (whole, noted, subst (λ (g : Grouping). AreNoted g (reverse log)) (sym back) earlier)

pub befores-push : (old new : Grouping) (log : List (Option Step)) (last : Option Step) → before new last ≡ old → befores new (reverse (log ++ last ∷ [])) ≡ old ∷ befores old (reverse log)
befores-push old new log last back =
    ap (befores new) (reverse-push log last) ∙ ap (λ (g : Grouping). g ∷ befores g (reverse log)) back

-- the rows at a term that the last union took are as they were, and those before it were a grouping
pub record IsStill (was now : Grouping) (t : TermId) : Type 0 where
  pub whole : IsGrouping was
  pub cons : slice_get now.cons t.0 ≡ slice_get was.cons t.0
  pub members : slice_get now.members t.0 ≡ slice_get was.members t.0
  pub uses : slice_get now.uses t.0 ≡ slice_get was.uses t.0

still_before : (g : Grouping) (last : Option Step) (t : TermId) → IsGrouping (before g last) → IsNoted g last → IsTaken (before g last) g t → IsStill (before g last) g t
still_before g None t whole noted taken = absurd (taken.1 taken.0)
still_before g (Some step) t whole noted taken =
    let other = taken_other (before_join g step) g step.winner step.loser noted t taken in
    record { whole = whole; cons = noted.cons.others t.0 other; members = noted.members.others t.0 other; uses = noted.uses.others t.0 other }

pub IsStill-taken : (g was : Grouping) (earlier : List Grouping) (log : List (Option Step)) (t : TermId) → AreNoted g log → befores g log ≡ was ∷ earlier → IsTaken was g t → IsStill was g t
IsStill-taken g was earlier [] t noted past taken = cc
IsStill-taken g was earlier (last ∷ rest) t noted past taken =
    let is : before g last ≡ was = cc in
    subst (λ (h : Grouping). IsStill h g t) is (still_before g last t (IsGrouping-noted (before g last) rest noted.2) noted.1 (subst (λ (h : Grouping). IsTaken h g t) (sym is) taken))

-- the last note is taken away, and what it says is undone
pub befores-pop : (g now : Grouping) (log rest : List (Option Step)) (last : Option Step) → log ≡ rest ++ last ∷ [] → now ≡ before g last → (now ∷ befores now (reverse rest)) ≡ befores g (reverse log)
befores-pop g now log rest last is back =
    ap (λ (h : Grouping). h ∷ befores h (reverse rest)) back
    ∙ sym (ap (λ (notes : List (Option Step)). befores g (reverse notes)) is ∙ ap (befores g) (reverse-push rest last))

pub AreNoted-last : (g : Grouping) (log rest : List (Option Step)) (last : Option Step) → log ≡ rest ++ last ∷ [] → AreNoted g (reverse log) → AreNoted g (last ∷ reverse rest)
AreNoted-last g log rest last is noted = subst (AreNoted g) (ap reverse is ∙ reverse-push rest last) noted

-- the classes are of a table where the last ones are and those before were
pub AreGroupingsOf-push : (terms : Terms) (old new : Groupings) → new.past ≡ old.now ∷ old.past → new.lone ≡ old.lone → new.places ≡ old.places → IsGroupingOf terms new.now → AreDigests terms new.now.reps new.digests → AreGroupingsOf terms old → AreGroupingsOf terms new
AreGroupingsOf-push terms old new past lone places last digests earlier = record {
  now = last;
  past = subst (AllByRecursion (IsGroupingOf terms)) (sym past) (earlier.now, earlier.past);
  lone = rw lone earlier.lone;
  digests = digests;
  places = rw places earlier.places;
}

-- and where the last ones are taken away
pub AreGroupingsOf-pop : (terms : Terms) (old new : Groupings) → (new.now ∷ new.past) ≡ old.past → new.lone ≡ old.lone → new.places ≡ old.places → AreDigests terms new.now.reps new.digests → AreGroupingsOf terms old → AreGroupingsOf terms new
AreGroupingsOf-pop terms old new past lone places digests all =
    let each = subst (AllByRecursion (IsGroupingOf terms)) (sym past) all.past in
    record { now = each.0; past = each.1; lone = rw lone all.lone; digests = digests; places = rw places all.places }

-- what was noted of one join
pub IsNoted-joined : (old new : Grouping) (winner loser : TermId) (step : Step) → IsJoin old new winner loser → step.winner ≡ winner → step.loser ≡ loser → before_join new step ≡ old → IsNoted new (Some step)
IsNoted-joined old new winner loser step join winner_is loser_is back =
    subst (λ (g : Grouping). IsJoin g new step.winner step.loser) (sym back)
    (subst (λ (w : TermId). IsJoin old new w step.loser) (sym winner_is) (subst (IsJoin old new winner) (sym loser_is) join))

-- two terms in some order
abbrev pub AreSides : TermId → TermId → TermId → TermId → Type 0
AreSides first second winner loser = ((winner ≡ first) × (loser ≡ second)) ⊎ ((winner ≡ second) × (loser ≡ first))

module _ (first second winner loser : TermId) (sides : AreSides first second winner loser) where
  pub side_owners : (reps : List TermId) → slice_get reps first.0 ≡ Some first → slice_get reps second.0 ≡ Some second → (slice_get reps winner.0 ≡ Some winner) × (slice_get reps loser.0 ≡ Some loser)
  side_owners reps first_is second_is = elim sides [
    | inl h ↦ (own winner first h.0 first_is, own loser second h.1 second_is)
    | inr h ↦ (own winner second h.0 second_is, own loser first h.1 first_is)
  ]
    where
      own : (x y : TermId) → x ≡ y → slice_get reps y.0 ≡ Some y → slice_get reps x.0 ≡ Some x
      own x y is at = subst (λ (t : TermId). slice_get reps t.0 ≡ Some t) (sym is) at

  pub sides_apart : nat_eq first.0 second.0 ≡ false → winner ≡ loser → ⊥
  sides_apart other is =
      let one : first ≡ second = elim sides [ inl h ↦ sym h.0 ∙ is ∙ h.1 | inr h ↦ sym h.1 ∙ sym is ∙ h.0 ] in
      true≢false (sym ((Decides-eqb first.0 second.0).1 (ap (λ (t : TermId). t.0) one)) ∙ other)

-- terms whose numbers are the same for the test are one
pub same_term : (first second : TermId) → nat_eq first.0 second.0 ≡ true → first ≡ second
same_term first second e = let n = (Decides-eqb first.0 second.0).0 e in λ i. record { 0 = n i }
