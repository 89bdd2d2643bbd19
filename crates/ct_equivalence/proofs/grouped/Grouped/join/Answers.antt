use Rattle.std.proofs.Common.{◌≡◌, ℕ, ◌∙◌, List, ◌++◌, length, slice_get, Some, refl, ap, ap₂, sym, subst, arith}
use Rattle.std.specs.List.{Contains}
use Rattle.std.proofs.lemmas.List.{length-set}
use Rattle.std.proofs.lemmas.Option.{slice_get_within}
use Rattle.ct_terms.specs.declared.ids.TermId.{TermId}
use Rattle.ct_equivalence.specs.Grouping.{Grouping}
use Rattle.ct_equivalence.specs.Undoing.{relabelled, row_of, before_join}
use Rattle.ct_equivalence.proofs.JoinLemmas.{moved_stays, class_of, IsJoin-made, before_join-made, IsGrouping-joined}
use Rattle.ct_equivalence.proofs.grouped.Grouped.join.Goals as goal

-- a representative in the classes that the fields mean
owner : (g now : Grouping) (t : TermId) → g ≡ now → slice_get now.reps t.0 ≡ Some t → slice_get g.reps t.0 ≡ Some t
owner g now t is at = subst (λ (s : Grouping). slice_get s.reps t.0 ≡ Some t) (sym is) at

pub join_rows-requires : goal.join_rows-requires
join_rows-requires c =
    let i = c.self.inside in
    let g : Grouping = record { reps = i.reps.items; cons = i.cons.items; members = i.members; uses = i.uses } in
    let winner_is = owner g c.args.self.now c.args.winner c.self.view_is c.requires.winner in
    let loser_is = owner g c.args.self.now c.args.loser c.self.view_is c.requires.loser in
    record {
      winner = omega (arith, slice_get_within g.reps c.args.winner.0 c.args.winner winner_is, c.self.invariant.members_long);
      loser = omega (arith, slice_get_within g.reps c.args.loser.0 c.args.loser loser_is, c.self.invariant.members_long);
      long = c.self.invariant.uses_long ∙ sym c.self.invariant.members_long;
      apart = c.requires.apart;
    }

pub row-requires : goal.row-requires
row-requires c =
    let i = c.self.inside in
    let g : Grouping = record { reps = i.reps.items; cons = i.cons.items; members = i.members; uses = i.uses } in
    let loser_is = owner g c.args.self.now c.args.loser c.self.view_is c.requires.loser in
    record { inside = omega (arith, slice_get_within g.reps c.args.loser.0 c.args.loser loser_is, c.self.invariant.members_long, ap length c.in_ok-members.ensures.members, length-set g.members c.args.winner.0 (row_of g.members c.args.winner ++ row_of g.members c.args.loser)) }

pub relabel-requires : goal.relabel-requires
relabel-requires c =
    let i = c.self.inside in
    let g : Grouping = record { reps = i.reps.items; cons = i.cons.items; members = i.members; uses = i.uses } in
    let loser_is = owner g c.args.self.now c.args.loser c.self.view_is c.requires.loser in
    let row = c.row.ensures.value ∙ moved_stays g.members c.join_rows.new.members c.args.winner c.args.loser (row_of g.members c.args.winner ++ row_of g.members c.args.loser) c.requires.apart c.in_ok-members.ensures.members in
    record { inside = λ t has. slice_get_within g.reps t.0 c.args.loser ((class_of g c.args.loser c.self.invariant loser_is).only t (subst (λ (xs : List TermId). Contains xs t) row has)) }

pub gain-gained-requires : goal.gain-gained-requires
gain-gained-requires c =
    let i = c.self.inside in
    let g : Grouping = record { reps = i.reps.items; cons = i.cons.items; members = i.members; uses = i.uses } in
    let winner_is = owner g c.args.self.now c.args.winner c.self.view_is c.requires.winner in
    let loser_is = owner g c.args.self.now c.args.loser c.self.view_is c.requires.loser in
    record {
      winner = omega (arith, slice_get_within g.reps c.args.winner.0 c.args.winner winner_is, c.self.invariant.cons_long);
      loser = omega (arith, slice_get_within g.reps c.args.loser.0 c.args.loser loser_is, c.self.invariant.cons_long);
    }

pub invariant_of-self-2 : goal.invariant_of-self-2
invariant_of-self-2 c =
    let i = c.self.inside in
    let g : Grouping = record { reps = i.reps.items; cons = i.cons.items; members = i.members; uses = i.uses } in
    let new : Grouping = record { reps = c.relabel.new.reps.items; cons = c.gain-gained.new.cons.items; members = c.join_rows.new.members; uses = c.join_rows.new.uses } in
    let winner_is = owner g c.args.self.now c.args.winner c.self.view_is c.requires.winner in
    let loser_is = owner g c.args.self.now c.args.loser c.self.view_is c.requires.loser in
    let reps = c.relabel.ensures.value ∙ ap (λ (row : List TermId). relabelled g.reps row c.args.winner) c.row.ensures.value in
    IsGrouping-joined g new c.args.winner c.args.loser
    (IsJoin-made g new c.args.winner c.args.loser c.self.invariant winner_is loser_is c.requires.apart c.in_ok-members.ensures.members c.in_ok-members.ensures.uses reps c.gain-gained.ensures.joined)
    c.self.invariant

pub returns : goal.returns
returns c =
    let i = c.self.inside in
    let g : Grouping = record { reps = i.reps.items; cons = i.cons.items; members = i.members; uses = i.uses } in
    let new : Grouping = record { reps = c.relabel.new.reps.items; cons = c.gain-gained.new.cons.items; members = c.join_rows.new.members; uses = c.join_rows.new.uses } in
    let winner_is = owner g c.args.self.now c.args.winner c.self.view_is c.requires.winner in
    let loser_is = owner g c.args.self.now c.args.loser c.self.view_is c.requires.loser in
    let reps = c.relabel.ensures.value ∙ ap (λ (row : List TermId). relabelled g.reps row c.args.winner) c.row.ensures.value in
    let made = before_join-made g new c.args.winner c.args.loser c.self.invariant winner_is loser_is c.requires.apart c.in_ok-members.ensures.members c.in_ok-members.ensures.uses reps c.gain-gained.result c.gain-gained.ensures.undone in
    rw (← c.self.view_is)
    (record {
      joined = IsJoin-made g new c.args.winner c.args.loser c.self.invariant winner_is loser_is c.requires.apart c.in_ok-members.ensures.members c.in_ok-members.ensures.uses reps c.gain-gained.ensures.joined;
      sides = (refl, refl);
      undone = ap₂ (λ (m u : ℕ). before_join new (record { winner = c.args.winner; loser = c.args.loser; members = m; uses = u; gained = c.gain-gained.result })) c.in_ok-members.ensures.lengths.0 c.in_ok-members.ensures.lengths.1 ∙ made;
      unchanged = tt;
      digests = c.relabel.ensures.digests;
      same = tt;
    })
