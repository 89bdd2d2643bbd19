-- Stored constructor terms of classes, and lists of merges that are added one after the other.
use Rattle.std.proofs.Common.{◌≡◌, ◌<◌, List, [], ◌∷◌, ◌++◌, length, Option, slice_get, get_or, Some, None, refl, sym, ap, subst, ◌∙◌, inl, inr, arith, append_assoc}
use Rattle.std.proofs.lemmas.List.{append-nil}
use Rattle.std.proofs.lemmas.Option.{same_Some, slice_get_within, slice_get-get_or}
use Rattle.ct_terms.specs.declared.ids.TermId.{TermId}
use Rattle.ct_terms.specs.Terms.{Terms}
use Rattle.ct_congr.specs.declared.merge.Merge.{Merge}
use Rattle.ct_congr.specs.Partition.{IsUnion}
use Rattle.ct_congr.specs.Sound.{IsConOf, AreCons, IsJoined}
use Rattle.ct_congr.specs.Grown.{IsLater, AreConsJoined}
use Rattle.ct_congr.proofs.PartitionLemmas.{relabelled_from, term_cases}

module _ (terms : Terms) (old new : List TermId) (a b winner loser : TermId) (union : IsUnion old new a b winner loser) where
  -- of the second class, and of the first one
  now_loser : (x : TermId) → slice_get old x.0 ≡ Some loser → slice_get new x.0 ≡ Some winner
  now_loser x at = elim (union.relabelled.each x loser at) [ inl p ↦ p.1 | inr p ↦ absurd (p.0 refl) ]

  now_winner : (x : TermId) → slice_get old x.0 ≡ Some winner → slice_get new x.0 ≡ Some winner
  now_winner x at = elim (union.relabelled.each x winner at) [ inl p ↦ p.1 | inr p ↦ p.1 ]

  -- nothing where neither class has a constructor term
  no_con : IsConOf terms old winner None → IsConOf terms old loser None → IsConOf terms new winner None
  no_con first second t at built = elim (relabelled_from old new winner loser union.relabelled t winner at) [
    | inl p ↦ second t p.1 built
    | inr p ↦ first t p.1 built
  ]

  from_loser : (c : Option TermId) → IsConOf terms old winner None → IsConOf terms old loser c → IsConOf terms new winner c
  from_loser None first second = no_con first second
  from_loser (Some c) first second = (now_loser c second.0, second.1)

  from_winner : (c : TermId) → IsConOf terms old winner (Some c) → IsConOf terms new winner (Some c)
  from_winner c h = (now_winner c h.0, h.1)

  from_other : (r : TermId) (c : Option TermId) → (r ≡ winner → ⊥) → (r ≡ loser → ⊥) → IsConOf terms old r c → IsConOf terms new r c
  from_other r None not_winner not_loser h = λ t at built. elim (relabelled_from old new winner loser union.relabelled t r at) [
    | inl p ↦ not_winner p.0
    | inr p ↦ h t p.1 built
  ]
  from_other r (Some c) not_winner not_loser h = elim (union.relabelled.each c r h.0) [
    | inl p ↦ absurd (not_loser p.0)
    | inr p ↦ (p.1, h.1)
  ]

  pub AreCons-joined : (cons more : List (Option TermId)) → length cons ≡ length old → AreConsJoined cons more winner loser → AreCons terms old cons → AreCons terms new more
  AreCons-joined cons more long joined each r c own at = elim (term_cases r winner) [
    | inl is ↦
        let within : winner.0 < length cons = omega (arith, long, slice_get_within old winner.0 winner union.winner_is) in
        subst (λ (s : TermId). IsConOf terms new s c) (sym is)
        (at_winner (get_or cons winner.0 None) (slice_get-get_or cons winner.0 None within) (ap (λ (s : TermId). slice_get more s.0) (sym is) ∙ at))
    | inr not_winner ↦ elim (relabelled_from old new winner loser union.relabelled r r own) [
      | inl p ↦ absurd (not_winner p.0)
      | inr p ↦ from_other r c not_winner p.0 (each r c p.1 (sym (joined.others r.0 (λ e. not_winner (λ i. record { 0 = e i }))) ∙ at))
    ]
  ]
    where
      at_winner : (was : Option TermId) → slice_get cons winner.0 ≡ Some was → slice_get more winner.0 ≡ Some c → IsConOf terms new winner c
      at_winner (Some w) had now =
          let same : Some w ≡ c = same_Some (Some w) c (sym (joined.stays w had) ∙ now) in
          subst (IsConOf terms new winner) same (from_winner w (each winner (Some w) union.winner_is had))
      at_winner None had now = from_loser c (each winner None union.winner_is had) (each loser c union.loser_is (sym (joined.comes had) ∙ now))

-- ---- lists of merges

pub IsLater-same : (reps : List TermId) (merges : List Merge) → IsLater reps reps merges merges
IsLater-same reps merges = record {
  long = refl;
  keeps = λ x y h. h;
  no_more = omega arith;
  more = [];
  grown = sym (append-nil merges);
}

pub IsLater-more : (old now new : List TermId) (merges between later : List Merge) (m : Merge) → IsLater old now merges between → IsJoined now new m.left m.right → later ≡ between ++ m ∷ [] → IsLater old new merges later
IsLater-more old now new merges between later m first joined is = record {
  long = joined.long ∙ first.long;
  keeps = λ x y h. joined.keeps x y (first.keeps x y h);
  no_more = omega (arith, joined.no_more, first.no_more);
  more = first.more ++ m ∷ [];
  grown = is ∙ ap (λ list. list ++ m ∷ []) first.grown ∙ append_assoc merges first.more (m ∷ []);
}

pub IsLater-trans : (old now new : List TermId) (merges between later : List Merge) → IsLater old now merges between → IsLater now new between later → IsLater old new merges later
IsLater-trans old now new merges between later first second = record {
  long = second.long ∙ first.long;
  keeps = λ x y h. second.keeps x y (first.keeps x y h);
  no_more = omega (arith, second.no_more, first.no_more);
  more = first.more ++ second.more;
  grown = second.grown ∙ ap (λ list. list ++ second.more) first.grown ∙ append_assoc merges first.more second.more;
}
