use Rattle.std.proofs.Common.{◌≡◌, ℕ, [], ◌∷◌, ◌++◌, List, Option, Some, None, reverse, length, refl, ap, ap₂, sym, ◌∙◌, arith}
use Rattle.std.proofs.lemmas.Option.{slice_get_within}
use Rattle.std.proofs.lemmas.Result.{IfOk-from_err}
use Rattle.ct_terms.specs.Terms.{Terms}
use Rattle.ct_equivalence.specs.declared.step.Step.{Step}
use Rattle.ct_equivalence.specs.Grouping.{Grouping, Groupings}
use Rattle.ct_equivalence.specs.Over.{AreGroupingsOf}
use Rattle.ct_equivalence.specs.Union.{IsUnited}
use Rattle.ct_equivalence.specs.Undoing.{befores}
use Rattle.ct_equivalence.proofs.ListLemmas.{on_err}
use Rattle.ct_equivalence.proofs.JoinLemmas.{IsGrouping-joined, IsGroupingOf-joined}
use Rattle.ct_equivalence.proofs.NoteLemmas.{IsGrouping-noted, AreNoted-push, befores-push, AreGroupingsOf-push, IsNoted-joined, side_owners, sides_apart, same_term}
use Rattle.ct_equivalence.proofs.equivalence.Equivalence.unite.Goals as goal
use Rattle.ct_equivalence.proofs.equivalence.Equivalence.unite.Goals.{After-unwrap, After-unwrap-2}

pub rep-first-requires : goal.rep-first-requires
rep-first-requires c = record { inside = omega (arith, c.requires.left, ap (λ (gs : Groupings). length gs.now.reps) c.self.view_is) }

pub rep-second-requires : goal.rep-second-requires
rep-second-requires c = record { inside = omega (arith, c.requires.right, ap (λ (gs : Groupings). length gs.now.reps) c.self.view_is) }

pub by_weight-requires : goal.by_weight-requires
by_weight-requires c =
    let reps = c.self.inside.grouped.reps in
    record {
      left = slice_get_within reps c.rep-first.result.0 c.rep-first.result c.rep-first.ensures.own;
      right = slice_get_within reps c.rep-second.result.0 c.rep-second.result c.rep-second.ensures.own;
    }

pub join-requires : goal.join-requires
join-requires c =
    let sides = c.by_weight.ensures.sides in
    let owners = side_owners c.rep-first.result c.rep-second.result c.by_weight.result.0 c.by_weight.result.1 sides c.self.inside.grouped.reps c.rep-first.ensures.own c.rep-second.ensures.own in
    record {
      winner = owners.0;
      loser = owners.1;
      apart = sides_apart c.rep-first.result c.rep-second.result c.by_weight.result.0 c.by_weight.result.1 sides (sym c.eq.ensures ∙ c.if-eq.false);
    }

-- the notes with one more at the end
noted_same : (c : After-unwrap) → c.push.new.self.items ≡ c.self.inside.log.items ++ None ∷ []
noted_same c =
    rw c.unwrap.ensures at c.push.ensures.items
    ∙ ap (λ (notes : List (Option Step)). notes ++ None ∷ []) c.in_ok-reserve.ensures.items

noted_join : (c : After-unwrap-2) → c.push-2.new.self.items ≡ c.self.inside.log.items ++ Some c.in_ok-step.step ∷ []
noted_join c =
    rw c.unwrap-2.ensures at c.push-2.ensures.items
    ∙ ap (λ (notes : List (Option Step)). notes ++ Some c.in_ok-step.step ∷ []) c.in_ok-reserve.ensures.items

pub invariant_of-self : goal.invariant_of-self
invariant_of-self c = rw c.reserve.ensures.items c.self.invariant

pub invariant_of-self-2 : goal.invariant_of-self-2
invariant_of-self-2 c =
    let g = c.self.inside.grouped in
    let new = c.join.new.self in
    let log = c.self.inside.log.items in
    let step = c.in_ok-step.step in
    let whole = IsGrouping-joined g new c.by_weight.result.0 c.by_weight.result.1 c.in_ok-step.ensures.joined (IsGrouping-noted g (reverse log) c.self.invariant) in
    let noted = IsNoted-joined g new c.by_weight.result.0 c.by_weight.result.1 step c.in_ok-step.ensures.joined c.in_ok-step.ensures.sides.0 c.in_ok-step.ensures.sides.1 c.in_ok-step.ensures.undone in
    rw (noted_join c) (AreNoted-push g new log (Some step) c.in_ok-step.ensures.undone whole noted c.self.invariant)

pub returns-in_err-reserve : goal.returns-in_err-reserve
returns-in_err-reserve c =
    let g = c.self.inside.grouped in
    let r = c.from_residual.result in
    let view : List (Option Step) → Groupings = λ log. record { now = g; past = befores g (reverse log); lone = c.self.inside.lone.items; digests = c.self.inside.digests.items; places = c.self.inside.places } in
    record {
      united = IfOk-from_err r (IsUnited c.args.self.now.now g c.args.left c.args.right) c.from_residual.ensures.0;
      past = IfOk-from_err r (λ _. befores g (reverse c.reserve.new.self.items) ≡ c.args.self.now.now ∷ c.args.self.now.past) c.from_residual.ensures.0;
      of = IfOk-from_err r (λ _. (terms : Terms) → AreGroupingsOf terms c.args.self.now → AreGroupingsOf terms (record { now = g; past = befores g (reverse c.reserve.new.self.items); lone = c.self.inside.lone.items; digests = c.self.inside.digests.items; places = c.self.inside.places })) c.from_residual.ensures.0;
      unchanged = on_err r (ap view c.reserve.ensures.items ∙ c.self.view_is);
    }

pub returns-then-eq : goal.returns-then-eq
returns-then-eq c =
    let g = c.self.inside.grouped in
    let log = c.self.inside.log.items in
    let past : befores g (reverse c.push.new.self.items) ≡ g ∷ befores g (reverse log) =
    ap (λ (notes : List (Option Step)). befores g (reverse notes)) (noted_same c) ∙ befores-push g g log None refl in
    let old : Groupings = record { now = g; past = befores g (reverse log); lone = c.self.inside.lone.items; digests = c.self.inside.digests.items; places = c.self.inside.places } in
    let new : Groupings = record { now = g; past = befores g (reverse c.push.new.self.items); lone = c.self.inside.lone.items; digests = c.self.inside.digests.items; places = c.self.inside.places } in
    let one = same_term c.rep-first.result c.rep-second.result (sym c.eq.ensures ∙ c.if-eq.true) in
    rw (← c.self.view_is)
    (record {
      united = (refl, (c.rep-first.result, c.rep-first.ensures.value, c.rep-second.ensures.value ∙ ap Some (sym one)));
      past = past;
      of = λ terms all. AreGroupingsOf-push terms old new past refl refl all.now all.digests all;
      unchanged = tt;
    })

pub returns-in_err-step : goal.returns-in_err-step
returns-in_err-step c =
    let g = c.self.inside.grouped in
    let now = c.join.new.self in
    let notes = c.reserve.new.self.items in
    let r = c.from_residual-in_err-step.result in
    let is_error = c.from_residual-in_err-step.ensures.0 in
    let old = c.self.inside.digests.items in
    let digests = c.join.new.digests.items in
    let view : Grouping → List (Option Step) → List ℕ → Groupings = λ h log ds. record { now = h; past = befores h (reverse log); lone = c.self.inside.lone.items; digests = ds; places = c.self.inside.places } in
    record {
      united = IfOk-from_err r (IsUnited c.args.self.now.now now c.args.left c.args.right) is_error;
      past = IfOk-from_err r (λ _. befores now (reverse notes) ≡ c.args.self.now.now ∷ c.args.self.now.past) is_error;
      of = IfOk-from_err r (λ _. (terms : Terms) → AreGroupingsOf terms c.args.self.now → AreGroupingsOf terms (record { now = now; past = befores now (reverse notes); lone = c.self.inside.lone.items; digests = digests; places = c.self.inside.places })) is_error;
      unchanged = on_err r (ap (view now notes) c.in_err-step.ensures.same ∙ ap₂ (λ (h : Grouping) (log : List (Option Step)). view h log old) c.in_err-step.ensures.unchanged c.reserve.ensures.items ∙ c.self.view_is);
    }

pub returns : goal.returns
returns c =
    let g = c.self.inside.grouped in
    let now = c.join.new.self in
    let log = c.self.inside.log.items in
    let step = c.in_ok-step.step in
    let join = c.in_ok-step.ensures.joined in
    let whole = IsGrouping-noted g (reverse log) c.self.invariant in
    let past : befores now (reverse c.push-2.new.self.items) ≡ g ∷ befores g (reverse log) =
    ap (λ (notes : List (Option Step)). befores now (reverse notes)) (noted_join c) ∙ befores-push g now log (Some step) c.in_ok-step.ensures.undone in
    let old : Groupings = record { now = g; past = befores g (reverse log); lone = c.self.inside.lone.items; digests = c.self.inside.digests.items; places = c.self.inside.places } in
    let new : Groupings = record { now = now; past = befores now (reverse c.push-2.new.self.items); lone = c.self.inside.lone.items; digests = c.join.new.digests.items; places = c.self.inside.places } in
    rw (← c.self.view_is)
    (record {
      united = record {
        left = c.rep-first.result;
        right = c.rep-second.result;
        left_is = c.rep-first.ensures.value;
        right_is = c.rep-second.ensures.value;
        sides = c.by_weight.ensures.sides;
        join = join;
      };
      past = past;
      of = λ terms all. AreGroupingsOf-push terms old new past refl refl (IsGroupingOf-joined g now c.by_weight.result.0 c.by_weight.result.1 join terms whole all.now) (c.in_ok-step.ensures.digests terms all.places all.digests) all;
      unchanged = tt;
    })
