-- A merge that is added: the classes before and after it, and what was known of them.
use Rattle.std.proofs.Common.{◌≡◌, List, [], ◌∷◌, ◌++◌, length, Option, Some, None, refl, sym, ap, subst, ◌∙◌, inl, inr, append_assoc, arith}
use Rattle.std.specs.List.{Contains, AllByRecursion}
use Rattle.std.proofs.lemmas.List.{append-nil, length-append}
use Rattle.std.proofs.lemmas.Option.{same_Some}
use Rattle.ct_lemmas.proofs.Contained.{Contains-cons}
use Rattle.ct_terms.specs.declared.ids.TermId.{TermId}
use Rattle.ct_terms.specs.Terms.{Terms}
use Rattle.ct_equivalence.specs.declared.union.Union.{Union}
use Rattle.ct_equivalence.specs.Grouping.{Grouping, Groupings, IsGrouping, AreGroupings}
use Rattle.ct_equivalence.specs.Over.{IsGroupingOf, AreGroupingsOf}
use Rattle.ct_equivalence.specs.Union.{IsJoin, IsUnion, IsUnited, IsTaken}
use Rattle.ct_congr.specs.declared.merge.Merge.{Merge}
use Rattle.ct_congr.specs.Partition.{IsUnion as IsUnionOf}
use Rattle.ct_congr.specs.Sound.{AreCons, IsJoined}
use Rattle.ct_congr.specs.Joined.{AreJoined}
use Rattle.ct_congr.specs.Covered.{IsGrouped, Keys, AreKeys}
use Rattle.ct_congr.specs.History.{IsExtended, IsFurther}
use Rattle.ct_congr.proofs.RootLemmas.{IsJoined-united}
use Rattle.ct_congr.proofs.StoreLemmas.{AreCons-joined, IsLater-same, IsLater-more, IsLater-trans}
use Rattle.ct_congr.proofs.JoinedLemmas.{AreJoined-class, AreJoined-waits, AreJoined-moves}
use Rattle.ct_congr.proofs.MetLemmas.{more_trans}

-- ---- classes of the terms of a table

pub IsGrouped-now : (terms : Terms) (parts : Groupings) → AreGroupings parts → AreGroupingsOf terms parts → IsGrouped terms parts.now.reps parts.now.cons
IsGrouped-now terms parts whole of = record { long = of.now.long; cons_long = whole.0.cons_long; own = whole.0.own; stored = of.now.cons }

pub IsGrouped-past : (terms : Terms) (parts : Groupings) (was : Grouping) (earlier : List Grouping) → parts.past ≡ was ∷ earlier → AreGroupings parts → AreGroupingsOf terms parts → IsGrouped terms was.reps was.cons
IsGrouped-past terms parts was earlier is whole of =
    let w = subst (AllByRecursion IsGrouping) is whole.1 in
    let o = subst (AllByRecursion (IsGroupingOf terms)) is of.past in
    record { long = o.0.long; cons_long = w.0.cons_long; own = w.0.own; stored = o.0.cons }

pub IsGroupingOf-past : (terms : Terms) (parts : Groupings) (was : Grouping) (earlier : List Grouping) → parts.past ≡ was ∷ earlier → AreGroupingsOf terms parts → IsGroupingOf terms was
IsGroupingOf-past terms parts was earlier is of = (subst (AllByRecursion (IsGroupingOf terms)) is of.past).0

-- the class of the loser was taken
pub IsTaken-join : (was now : Grouping) (winner loser : TermId) → IsJoin was now winner loser → IsTaken was now loser
IsTaken-join was now winner loser put = (
  put.loser_is,
  λ own. elim (put.relabelled.each loser loser put.loser_is) [
    | inl p ↦ put.apart (same_Some winner loser (sym p.1 ∙ own))
    | inr p ↦ p.0 refl
  ],
)

-- ---- what uniting comes to

union_of : (old new : Grouping) (a b winner loser : TermId) → IsUnion old new a b winner loser → IsUnionOf old.reps new.reps a b winner loser
union_of old new a b winner loser h = record {
  left = h.left;
  right = h.right;
  left_is = h.left_is;
  right_is = h.right_is;
  apart = h.join.apart;
  sides = h.sides;
  loser_is = h.join.loser_is;
  winner_is = h.join.winner_is;
  relabelled = record { long = h.join.relabelled.long; each = h.join.relabelled.each };
}

pub IsJoined-grouping : (old new : Grouping) (a b : TermId) (answer : Option Union) → IsUnited old new a b answer → IsJoined old.reps new.reps a b
IsJoined-grouping old new a b None h = IsJoined-united old.reps new.reps a b None (ap (λ (g : Grouping). g.reps) h.0, h.1)
IsJoined-grouping old new a b (Some union) h = IsJoined-united old.reps new.reps a b (Some (union.winner, union.loser)) (union_of old new a b union.winner union.loser h)

pub cons_united : (old new : Grouping) (a b : TermId) (answer : Option Union) → IsUnited old new a b answer → length new.cons ≡ length old.cons
cons_united old new a b None h = ap (λ (g : Grouping). length g.cons) h.0
cons_united old new a b (Some union) h = h.join.cons.long

pub AreCons-united : (terms : Terms) (old new : Grouping) (a b : TermId) (answer : Option Union) → length old.cons ≡ length old.reps → IsUnited old new a b answer → AreCons terms old.reps old.cons → AreCons terms new.reps new.cons
AreCons-united terms old new a b None long h are = subst (λ (g : Grouping). AreCons terms g.reps g.cons) (sym h.0) are
AreCons-united terms old new a b (Some union) long h are =
    let cons = h.join.cons in
    AreCons-joined terms old.reps new.reps a b union.winner union.loser (union_of old new a b union.winner union.loser h) old.cons new.cons long (record { others = cons.others; stays = cons.stays; comes = cons.comes }) are

-- what was joined with the merge waiting is joined once it is added
pub moves_added : (old new : List TermId) (m : Merge) (before after : List Merge) → IsJoined old new m.left m.right → ((n : Merge) → Contains before n → Contains after n) → (x y : TermId) → AreJoined old (m ∷ before) x y → AreJoined new after x y
moves_added old new m before after joined still = AreJoined-moves old new (m ∷ before) after (λ x y h. AreJoined-class new after x y (joined.keeps x y h)) waits
  where
    waits : (n : Merge) → Contains (m ∷ before) n → AreJoined new after n.left n.right
    waits n has = elim (Contains-cons m before n has) [
      | inl is ↦ subst (λ (q : Merge). AreJoined new after q.left q.right) is (AreJoined-class new after m.left m.right joined.joins)
      | inr rest ↦ AreJoined-waits new after n (still n rest)
    ]

-- ---- one after the other

pub IsExtended-same : (parts : Groupings) (merges : List Merge) → IsExtended parts parts merges merges
IsExtended-same parts merges = record { more = []; merges_are = sym (append-nil merges); groupings = []; groupings_are = refl; long = refl }

pub IsExtended-one : (old new : Groupings) (merges later : List Merge) (m : Merge) → new.past ≡ old.now ∷ old.past → later ≡ merges ++ m ∷ [] → IsExtended old new merges later
IsExtended-one old new merges later m past is = record { more = m ∷ []; merges_are = is; groupings = new.now ∷ []; groupings_are = ap (λ (list : List Grouping). new.now ∷ list) past; long = refl }

pub IsExtended-trans : (old now new : Groupings) (merges between later : List Merge) → IsExtended old now merges between → IsExtended now new between later → IsExtended old new merges later
IsExtended-trans old now new merges between later p q = record {
  more = p.more ++ q.more;
  merges_are = q.merges_are ∙ (ap (λ (list : List Merge). list ++ q.more) p.merges_are ∙ append_assoc merges p.more q.more);
  groupings = q.groupings ++ p.groupings;
  groupings_are = q.groupings_are ∙ (ap (λ (list : List Grouping). q.groupings ++ list) p.groupings_are ∙ sym (append_assoc q.groupings p.groupings (old.now ∷ old.past)));
  long = length-append q.groupings p.groupings ∙ omega (arith, p.long, q.long, length-append p.more q.more);
}

pub IsFurther-same : (terms : Terms) (parts : Groupings) (merges : List Merge) (keys : Keys) → AreGroupingsOf terms parts → AreKeys parts.now.reps keys → IsFurther terms parts parts merges merges keys keys
IsFurther-same terms parts merges keys of keyed = record {
  extended = IsExtended-same parts merges;
  later = IsLater-same parts.now.reps merges;
  more = ([], sym (append-nil keys));
  groupings = of;
  keyed = keyed;
}

pub IsFurther-trans : (terms : Terms) (old now new : Groupings) (merges between later : List Merge) (keys some more : Keys) → IsFurther terms old now merges between keys some → IsFurther terms now new between later some more → IsFurther terms old new merges later keys more
IsFurther-trans terms old now new merges between later keys some more p q = record {
  extended = IsExtended-trans old now new merges between later p.extended q.extended;
  later = IsLater-trans old.now.reps now.now.reps new.now.reps merges between later p.later q.later;
  more = more_trans keys some more p.more q.more;
  groupings = q.groupings;
  keyed = q.keyed;
}

-- one merge more, and what it set off
pub IsFurther-one : (terms : Terms) (old new : Groupings) (merges later : List Merge) (m : Merge) (keys more : Keys) → new.past ≡ old.now ∷ old.past → later ≡ merges ++ m ∷ [] → IsJoined old.now.reps new.now.reps m.left m.right → (added : Keys) × (more ≡ keys ++ added) → AreGroupingsOf terms new → AreKeys new.now.reps more → IsFurther terms old new merges later keys more
IsFurther-one terms old new merges later m keys more past is joined added of keyed = record {
  extended = IsExtended-one old new merges later m past is;
  later = IsLater-more old.now.reps old.now.reps new.now.reps merges merges later m (IsLater-same old.now.reps merges) joined is;
  more = added;
  groupings = of;
  keyed = keyed;
}
