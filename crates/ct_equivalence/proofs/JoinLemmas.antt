-- Groupings of which two classes are joined: that they are groupings of the same terms, and that the step undoes it.
use Rattle.std.proofs.Common.{◌≡◌, ◌<◌, ◌⊎◌, Bool, List, [], ◌++◌, length, set, take, slice_get, get_or, Option, Some, None, if◌then◌else◌, sym, ap, ◌∙◌, subst, inl, inr, arith}
use Rattle.std.specs.List.{Contains}
use Rattle.std.proofs.lemmas.List.{get_or-set_other}
use Rattle.std.proofs.lemmas.List.Elements.{Contains-append_left, Contains-append_right, Contains-append_cases}
use Rattle.std.proofs.lemmas.Option.{same_Some, slice_get-get_or, slice_get_within}
use Rattle.ct_lemmas.proofs.Lists.{slice_get-set_other}
use Rattle.ct_terms.specs.declared.ids.TermId.{TermId}
use Rattle.ct_terms.specs.Terms.{Terms}
use Rattle.ct_equivalence.specs.declared.step.Step.{Step}
use Rattle.ct_equivalence.specs.Partition.{IsClass, IsRelabelled}
use Rattle.ct_equivalence.specs.Grouping.{Grouping, IsGrouping}
use Rattle.ct_equivalence.specs.Over.{IsConOf, AreCons, AreUsesOf, AreUses, IsGroupingOf}
use Rattle.ct_equivalence.specs.Union.{AreConsJoined, AreRowsJoined, IsJoin, IsTaken}
use Rattle.ct_equivalence.specs.Undoing.{relabelled, row_of, cut_row, before_join}
use Rattle.ct_equivalence.proofs.ListLemmas.{term_cases, other_number}
use Rattle.ct_equivalence.proofs.RowLemmas.{row_of-at, AreRowsJoined-set, cut_row-back}
use Rattle.ct_equivalence.proofs.RelabelLemmas.{length-relabelled, relabelled_from, IsRelabelled-class, relabelled-back}
use Rattle.ct_equivalence.proofs.ClassLemmas.{of_loser, of_winner, own_kept, IsClass-winner, IsClass-other}

-- what stands in rows of which one was lengthened: that of the first with that of the second at its end, or what stood there
pub rows_from : (old new : List (List TermId)) (winner loser : TermId) → AreRowsJoined old new winner loser → winner.0 < length old → loser.0 < length old → (r : TermId) (row : List TermId) → slice_get new r.0 ≡ Some row → ((r ≡ winner) × (row ≡ row_of old winner ++ row_of old loser)) ⊎ ((r ≡ winner → ⊥) × (slice_get old r.0 ≡ Some row))
rows_from old new winner loser joined winner_in loser_in r row at = elim (term_cases r winner) [
  | inl is ↦
      let there : slice_get new winner.0 ≡ Some (row_of old winner ++ row_of old loser) = joined.joined (row_of old winner) (row_of old loser) (row_of-at old winner winner_in) (row_of-at old loser loser_in) in
      inl (is, same_Some row (row_of old winner ++ row_of old loser) (sym at ∙ ap (λ (s : TermId). slice_get new s.0) is ∙ there))
  | inr other ↦ inr (other, sym (joined.others r.0 (other_number r winner other)) ∙ at)
]

module _ (old new : Grouping) (winner loser : TermId) (join : IsJoin old new winner loser) where
  -- a representative now that is not the first was one before, and is not the second
  own_before : (r : TermId) → (r ≡ winner → ⊥) → slice_get new.reps r.0 ≡ Some r → (r ≡ loser → ⊥) × (slice_get old.reps r.0 ≡ Some r)
  own_before r not_winner own = elim (relabelled_from old.reps new.reps winner loser join.relabelled r r own) [
    | inl p ↦ absurd (not_winner p.0)
    | inr p ↦ p
  ]

  winner_in : winner.0 < length old.reps
  winner_in = slice_get_within old.reps winner.0 winner join.winner_is

  loser_in : loser.0 < length old.reps
  loser_in = slice_get_within old.reps loser.0 loser join.loser_is

  pub IsGrouping-joined : IsGrouping old → IsGrouping new
  IsGrouping-joined whole = record {
    cons_long = join.cons.long ∙ whole.cons_long ∙ sym join.relabelled.long;
    members_long = join.members.long ∙ whole.members_long ∙ sym join.relabelled.long;
    uses_long = join.uses.long ∙ whole.uses_long ∙ sym join.relabelled.long;
    own = own_kept old.reps new.reps winner loser join.relabelled join.winner_is whole.own;
    classes = λ r row own at. elim (rows_from old.members new.members winner loser join.members (omega (arith, winner_in, whole.members_long)) (omega (arith, loser_in, whole.members_long)) r row at) [
      | inl h ↦ subst (λ (s : TermId). IsClass new.reps s row) (sym h.0) (subst (IsClass new.reps winner) (sym h.1) joined_class)
      | inr h ↦ let was = own_before r h.0 own in IsClass-other old.reps new.reps winner loser join.relabelled r row h.0 was.0 (whole.classes r row was.1 h.1)
    ];
  }
    where
      mine : List TermId
      mine = row_of old.members winner

      moved : List TermId
      moved = row_of old.members loser

      joined_class : IsClass new.reps winner (row_of old.members winner ++ row_of old.members loser)
      joined_class =
          IsClass-winner old.reps new.reps winner loser join.relabelled (row_of old.members winner) (row_of old.members loser) join.apart
          (whole.classes winner (row_of old.members winner) join.winner_is (row_of-at old.members winner (omega (arith, winner_in, whole.members_long))))
          (whole.classes loser (row_of old.members loser) join.loser_is (row_of-at old.members loser (omega (arith, loser_in, whole.members_long))))

  -- ---- constructor terms
  module _ (terms : Terms) where
    -- nothing where neither class has a constructor term
    no_con : IsConOf terms old.reps winner None → IsConOf terms old.reps loser None → IsConOf terms new.reps winner None
    no_con first second t at built = elim (relabelled_from old.reps new.reps winner loser join.relabelled t winner at) [
      | inl p ↦ second t p.1 built
      | inr p ↦ first t p.1 built
    ]

    from_loser : (c : Option TermId) → IsConOf terms old.reps winner None → IsConOf terms old.reps loser c → IsConOf terms new.reps winner c
    from_loser None first second = no_con first second
    from_loser (Some c) first second = (of_loser old.reps new.reps winner loser join.relabelled c second.0, second.1)

    from_winner : (c : TermId) → IsConOf terms old.reps winner (Some c) → IsConOf terms new.reps winner (Some c)
    from_winner c h = (of_winner old.reps new.reps winner loser join.relabelled c h.0, h.1)

    from_other : (r : TermId) (c : Option TermId) → (r ≡ winner → ⊥) → (r ≡ loser → ⊥) → IsConOf terms old.reps r c → IsConOf terms new.reps r c
    from_other r None not_winner not_loser h = λ t at built. elim (relabelled_from old.reps new.reps winner loser join.relabelled t r at) [
      | inl p ↦ not_winner p.0
      | inr p ↦ h t p.1 built
    ]
    from_other r (Some c) not_winner not_loser h = elim (join.relabelled.each c r h.0) [
      | inl p ↦ absurd (not_loser p.0)
      | inr p ↦ (p.1, h.1)
    ]

    pub AreCons-joined : length old.cons ≡ length old.reps → AreCons terms old.reps old.cons → AreCons terms new.reps new.cons
    AreCons-joined long each r c own at = elim (term_cases r winner) [
      | inl is ↦
          subst (λ (s : TermId). IsConOf terms new.reps s c) (sym is)
          (at_winner (get_or old.cons winner.0 None) (slice_get-get_or old.cons winner.0 None (omega (arith, winner_in, long))) (ap (λ (s : TermId). slice_get new.cons s.0) (sym is) ∙ at))
      | inr not_winner ↦
          let was = own_before r not_winner own in
          from_other r c not_winner was.0 (each r c was.1 (sym (join.cons.others r.0 (other_number r winner not_winner)) ∙ at))
    ]
      where
        at_winner : (was : Option TermId) → slice_get old.cons winner.0 ≡ Some was → slice_get new.cons winner.0 ≡ Some c → IsConOf terms new.reps winner c
        at_winner (Some w) had now =
            let same : Some w ≡ c = same_Some (Some w) c (sym (join.cons.stays w had) ∙ now) in
            subst (IsConOf terms new.reps winner) same (from_winner w (each winner (Some w) join.winner_is had))
        at_winner None had now = from_loser c (each winner None join.winner_is had) (each loser c join.loser_is (sym (join.cons.comes had) ∙ now))

    -- ---- uses
    uses_winner : AreUsesOf terms old.reps winner (row_of old.uses winner) → AreUsesOf terms old.reps loser (row_of old.uses loser) → AreUsesOf terms new.reps winner (row_of old.uses winner ++ row_of old.uses loser)
    uses_winner first second = record {
      all = λ p t core has under at. elim (relabelled_from old.reps new.reps winner loser join.relabelled t winner at) [
        | inl h ↦ Contains-append_right (row_of old.uses winner) (row_of old.uses loser) p (second.all p t core has under h.1)
        | inr h ↦ Contains-append_left (row_of old.uses winner) (row_of old.uses loser) p (first.all p t core has under h.1)
      ];
      only = λ p has. elim (Contains-append_cases (row_of old.uses winner) (row_of old.uses loser) p has) [
        | inl h ↦ let up = first.only p h in (up.0, up.1, up.2, up.3, of_winner old.reps new.reps winner loser join.relabelled up.1 up.4)
        | inr h ↦ let up = second.only p h in (up.0, up.1, up.2, up.3, of_loser old.reps new.reps winner loser join.relabelled up.1 up.4)
      ];
    }

    uses_other : (r : TermId) (row : List TermId) → (r ≡ winner → ⊥) → (r ≡ loser → ⊥) → AreUsesOf terms old.reps r row → AreUsesOf terms new.reps r row
    uses_other r row not_winner not_loser h = record {
      all = λ p t core has under at. elim (relabelled_from old.reps new.reps winner loser join.relabelled t r at) [
        | inl q ↦ absurd (not_winner q.0)
        | inr q ↦ h.all p t core has under q.1
      ];
      only = λ p has.
          let up = h.only p has in (
            up.0,
            up.1,
            up.2,
            up.3,
            elim (join.relabelled.each up.1 r up.4) [
              | inl q ↦ absurd (not_loser q.0)
              | inr q ↦ q.1
            ],
          );
    }

    AreUses-joined : length old.uses ≡ length old.reps → AreUses terms old.reps old.uses → AreUses terms new.reps new.uses
    AreUses-joined long each r row own at = elim (rows_from old.uses new.uses winner loser join.uses (omega (arith, winner_in, long)) (omega (arith, loser_in, long)) r row at) [
      | inl h ↦ subst (λ (s : TermId). AreUsesOf terms new.reps s row) (sym h.0) (subst (AreUsesOf terms new.reps winner) (sym h.1)
          (uses_winner (each winner (row_of old.uses winner) join.winner_is (row_of-at old.uses winner (omega (arith, winner_in, long))))
          (each loser (row_of old.uses loser) join.loser_is (row_of-at old.uses loser (omega (arith, loser_in, long))))))
      | inr h ↦ let was = own_before r h.0 own in uses_other r row h.0 was.0 (each r row was.1 h.1)
    ]

    pub IsGroupingOf-joined : IsGrouping old → IsGroupingOf terms old → IsGroupingOf terms new
    IsGroupingOf-joined whole of = record {
      long = join.relabelled.long ∙ of.long;
      cons = AreCons-joined whole.cons_long of.cons;
      uses = AreUses-joined whole.uses_long of.uses;
    }

  -- a term that the union took from the representatives is not the first one
  pub taken_other : (t : TermId) → IsTaken old new t → t.0 ≡ winner.0 → ⊥
  taken_other t taken e =
      let is : winner ≡ t = λ i. record { 0 = sym e i } in
      taken.1 (subst (λ (s : TermId). slice_get new.reps s.0 ≡ Some s) is (of_winner old.reps new.reps winner loser join.relabelled winner join.winner_is))

-- ---- one join, and back

-- the row of the second one stays
pub moved_stays : (rows more : List (List TermId)) (winner loser : TermId) (joined : List TermId) → (winner ≡ loser → ⊥) → more ≡ set rows winner.0 joined → row_of more loser ≡ row_of rows loser
moved_stays rows more winner loser joined apart is =
    let other = other_number loser winner (λ e. apart (sym e)) in
    ap (λ (list : List (List TermId)). row_of list loser) is ∙ get_or-set_other rows winner.0 loser.0 joined [] other

-- the row of a representative is its class
pub class_of : (g : Grouping) (r : TermId) → IsGrouping g → slice_get g.reps r.0 ≡ Some r → IsClass g.reps r (row_of g.members r)
class_of g r whole own = whole.classes r (row_of g.members r) own (row_of-at g.members r (omega (arith, slice_get_within g.reps r.0 r own, whole.members_long)))

module _ (g new : Grouping) (winner loser : TermId) (whole : IsGrouping g) (winner_is : slice_get g.reps winner.0 ≡ Some winner) (loser_is : slice_get g.reps loser.0 ≡ Some loser) (apart : winner ≡ loser → ⊥)
    (members : new.members ≡ set g.members winner.0 (row_of g.members winner ++ row_of g.members loser))
    (uses : new.uses ≡ set g.uses winner.0 (row_of g.uses winner ++ row_of g.uses loser))
    (reps : new.reps ≡ relabelled g.reps (row_of new.members loser) winner) where
  in_members : (t : TermId) → slice_get g.reps t.0 ≡ Some t → t.0 < length g.members
  in_members t is = omega (arith, slice_get_within g.reps t.0 t is, whole.members_long)

  in_uses : (t : TermId) → slice_get g.reps t.0 ≡ Some t → t.0 < length g.uses
  in_uses t is = omega (arith, slice_get_within g.reps t.0 t is, whole.uses_long)

  stays : row_of new.members loser ≡ row_of g.members loser
  stays = moved_stays g.members new.members winner loser (row_of g.members winner ++ row_of g.members loser) apart members

  class : IsClass g.reps loser (row_of g.members loser)
  class = class_of g loser whole loser_is

  reps_are : new.reps ≡ relabelled g.reps (row_of g.members loser) winner
  reps_are = reps ∙ ap (λ (row : List TermId). relabelled g.reps row winner) stays

  pub IsJoin-made : AreConsJoined g.cons new.cons winner loser → IsJoin g new winner loser
  IsJoin-made cons = record {
    apart = apart;
    winner_is = winner_is;
    loser_is = loser_is;
    relabelled = subst (λ (rs : List TermId). IsRelabelled g.reps rs winner loser) (sym reps_are) (IsRelabelled-class g.reps (row_of g.members loser) loser class winner);
    cons = cons;
    members = AreRowsJoined-set g.members new.members winner loser (in_members winner winner_is) members;
    uses = AreRowsJoined-set g.uses new.uses winner loser (in_uses winner winner_is) uses;
  }

  pub before_join-made : (gained : Bool) → (if gained then set new.cons winner.0 None else new.cons) ≡ g.cons → before_join new (record { winner = winner; loser = loser; members = length (row_of g.members winner); uses = length (row_of g.uses winner); gained = gained }) ≡ g
  before_join-made gained cons =
      let back_reps : relabelled new.reps (row_of new.members loser) loser ≡ g.reps =
      ap (λ (row : List TermId). relabelled new.reps row loser) stays
      ∙ ap (λ (rs : List TermId). relabelled rs (row_of g.members loser) loser) reps_are
      ∙ relabelled-back g.reps (row_of g.members loser) loser class winner in
      let back_members : cut_row new.members winner (length (row_of g.members winner)) ≡ g.members =
      ap (λ (rows : List (List TermId)). cut_row rows winner (length (row_of g.members winner))) members ∙ cut_row-back g.members winner (row_of g.members loser) (in_members winner winner_is) in
      let back_uses : cut_row new.uses winner (length (row_of g.uses winner)) ≡ g.uses =
      ap (λ (rows : List (List TermId)). cut_row rows winner (length (row_of g.uses winner))) uses ∙ cut_row-back g.uses winner (row_of g.uses loser) (in_uses winner winner_is) in
      λ i. record { reps = back_reps i; cons = cons i; members = back_members i; uses = back_uses i }

-- ---- a step that is undone

-- what undoing a step asks for
pub record IsUndoable (g : Grouping) (step : Step) : Type 0 where
  pub winner : step.winner.0 < length g.reps
  pub loser : step.loser.0 < length g.reps
  pub inside : (t : TermId) → Contains (row_of g.members step.loser) t → t.0 < length g.reps

pub IsUndoable-joined : (g : Grouping) (step : Step) → IsGrouping g → IsGrouping (before_join g step) → IsJoin (before_join g step) g step.winner step.loser → IsUndoable g step
IsUndoable-joined g step now whole join = record {
  winner = winner_is_in;
  loser = loser_is_in;
  inside = λ t has.
      let class : IsClass (before_join g step).reps step.loser (row_of g.members step.loser) = whole.classes step.loser (row_of g.members step.loser) join.loser_is there in
      omega (arith, long, slice_get_within (before_join g step).reps t.0 step.loser (class.only t has));
}
  where
    long : length (relabelled g.reps (row_of g.members step.loser) step.loser) ≡ length g.reps
    long = length-relabelled g.reps (row_of g.members step.loser) step.loser

    winner_is_in : step.winner.0 < length g.reps
    winner_is_in = omega (arith, long, slice_get_within (before_join g step).reps step.winner.0 step.winner join.winner_is)

    loser_is_in : step.loser.0 < length g.reps
    loser_is_in = omega (arith, long, slice_get_within (before_join g step).reps step.loser.0 step.loser join.loser_is)

    there : slice_get (cut_row g.members step.winner step.members) step.loser.0 ≡ Some (row_of g.members step.loser)
    there =
        slice_get-set_other g.members step.winner.0 step.loser.0 (take step.members (row_of g.members step.winner)) (other_number step.loser step.winner (λ e. join.apart (sym e)))
        ∙ row_of-at g.members step.loser (omega (arith, loser_is_in, now.members_long))

pub before_join-is : (g new : Grouping) (step : Step) → new.reps ≡ relabelled g.reps (row_of g.members step.loser) step.loser → new.cons ≡ (if step.gained then set g.cons step.winner.0 None else g.cons) → new.members ≡ cut_row g.members step.winner step.members → new.uses ≡ cut_row g.uses step.winner step.uses → new ≡ before_join g step
before_join-is g new step reps cons members uses = λ i. record { reps = reps i; cons = cons i; members = members i; uses = uses i }
