use Rattle.std.proofs.Common.{◌≡◌, List, [], ◌∷◌, ◌++◌, length, refl, sym, subst, ◌∙◌, arith}
use Rattle.std.proofs.lemmas.List.{nil_from_length}
use Rattle.ct_congr.specs.declared.merge.Merge.{Merge}
use Rattle.ct_congr.specs.Sound.{IsSound}
use Rattle.ct_congr.proofs.CompleteLemmas.{Theorems}
use Rattle.ct_congr.proofs.StoreLemmas.{IsLater-same}
use Rattle.ct_congr.proofs.ApplyLemmas.{IsAdding, IsAdding-none, IsAdding-more, next_of, IsAdding-all, IsSound-needed}
use Rattle.ct_congr.proofs.AddingLemmas.{IsExtended-same, IsExtended-trans}
use Rattle.ct_congr.proofs.saturate.apply.Goals as goal
use Rattle.ct_congr.proofs.saturate.apply.Goals.{In-Some}

-- how far the merges were added before the next one was taken
abbrev Adding : In-Some → List Merge → Type 0
Adding c left = IsAdding c.args.store.now.parts.now.reps c.loop-merge.store.parts.now.reps c.args.store.now.merges.items c.loop-merge.store.merges.items c.args.found.items left

adding : (c : In-Some) → Adding c (c.pop.new.self.items ++ c.in-Some.merge ∷ [])
adding c = subst (Adding c) c.in-Some.ensures.items c.loop-merge.invariant.adding

pub loop-merge-init : goal.loop-merge-init
loop-merge-init c = record {
  adding = IsAdding-none c.args.store.now.parts.now.reps c.args.store.now.merges.items c.args.found.items (IsLater-same c.args.store.now.parts.now.reps c.args.store.now.merges.items);
  extended = IsExtended-same c.args.store.now.parts c.args.store.now.merges.items;
  of = λ terms of. of;
  cons_long = refl;
  sound = λ d terms hyps given sound needed. sound;
}

pub add-requires-clause-left : goal.add-requires-clause-left
add-requires-clause-left c =
    let a = adding (goal.at.add-requires-clause-left c).In-Some in
    let at = next_of c.args.store.now.parts.now.reps c.loop-merge.store.parts.now.reps c.args.store.now.merges.items c.loop-merge.store.merges.items c.args.found.items c.pop.new.self.items c.in-Some.merge a in
    omega (arith, (c.requires.inside (length c.pop.new.self.items) c.in-Some.merge at).0, a.later.long)

pub add-requires-clause-right : goal.add-requires-clause-right
add-requires-clause-right c =
    let a = adding (goal.at.add-requires-clause-right c).In-Some in
    let at = next_of c.args.store.now.parts.now.reps c.loop-merge.store.parts.now.reps c.args.store.now.merges.items c.loop-merge.store.merges.items c.args.found.items c.pop.new.self.items c.in-Some.merge a in
    omega (arith, (c.requires.inside (length c.pop.new.self.items) c.in-Some.merge at).1, a.later.long)

pub add-requires-clause-cons_long : goal.add-requires-clause-cons_long
add-requires-clause-cons_long c = omega (arith, c.requires.cons_long, c.loop-merge.invariant.cons_long, c.loop-merge.invariant.adding.later.long)

pub loop-merge-preserved : goal.loop-merge-preserved
loop-merge-preserved c =
    let a = adding (goal.at.loop-merge-preserved c).In-Some in
    let old = c.args.store.now in
    let now = c.loop-merge.store in
    let new = c.add.new.store in
    let left = c.pop.new.self.items in
    let m = c.in-Some.merge in
    let at = next_of old.parts.now.reps now.parts.now.reps old.merges.items now.merges.items c.args.found.items left m a in
    let joined = c.in_ok-add.ensures.joined in
    let after = c.in_ok-add.ensures.merges in
    record {
      adding = IsAdding-more old.parts.now.reps now.parts.now.reps new.parts.now.reps old.merges.items now.merges.items new.merges.items c.args.found.items left m a joined after;
      extended = IsExtended-trans old.parts now.parts new.parts old.merges.items now.merges.items new.merges.items c.loop-merge.invariant.extended c.in_ok-add.ensures.extended;
      of = λ terms of. c.in_ok-add.ensures.of terms (c.loop-merge.invariant.of terms of);
      cons_long = c.in_ok-add.ensures.cons_long ∙ c.loop-merge.invariant.cons_long;
      sound = λ d terms hyps given sound needed.
          let theorems : Theorems d terms hyps given = record {
            states = c.derivations.ensures.states d terms hyps given;
            follows = c.derivations.ensures.follows d terms hyps given;
            least = c.derivations.ensures.least d terms hyps given;
          } in
          subst (IsSound d terms hyps given new.parts.now.reps new.parts.now.cons) (sym after)
          (IsSound-needed d terms hyps given theorems old.parts.now.reps now.parts.now.reps new.parts.now.reps now.parts.now.cons new.parts.now.cons now.merges.items m (needed (length left) m at) a.later.keeps (c.loop-merge.invariant.sound d terms hyps given sound needed) joined c.in_ok-add.ensures.cons_long (c.in_ok-add.ensures.cons terms));
    }

pub returns-in_err-add-clause-later : goal.returns-in_err-add-clause-later
returns-in_err-add-clause-later c = rw (c.in_err-add.ensures.parts_unchanged, c.in_err-add.ensures.merges_unchanged) c.loop-merge.invariant.adding.later

pub returns-in_err-add-clause-extended : goal.returns-in_err-add-clause-extended
returns-in_err-add-clause-extended c = rw (c.in_err-add.ensures.parts_unchanged, c.in_err-add.ensures.merges_unchanged) c.loop-merge.invariant.extended

pub returns-in_err-add-clause-of : goal.returns-in_err-add-clause-of
returns-in_err-add-clause-of c = λ terms of. c.in_err-add.ensures.of terms (c.loop-merge.invariant.of terms of)

pub returns-in_err-add-clause-sound : goal.returns-in_err-add-clause-sound
returns-in_err-add-clause-sound c = λ d terms hyps given sound needed.
    rw (c.in_err-add.ensures.parts_unchanged, c.in_err-add.ensures.merges_unchanged) (c.loop-merge.invariant.sound d terms hyps given sound needed)

pub returns-clause-later : goal.returns-clause-later
returns-clause-later c = c.loop-merge.invariant.adding.later

pub returns-clause-fewer : goal.returns-clause-fewer
returns-clause-fewer c = λ some apart.
    let old = c.args.store.now in
    let now = c.loop-merge.store in
    let none_left : c.loop-merge.found.items ≡ [] = nil_from_length c.loop-merge.found.items (omega (arith, c.in_default.ensures.cases, c.loop-merge.found.ok.0)) in
    let all = subst (IsAdding old.parts.now.reps now.parts.now.reps old.merges.items now.merges.items c.args.found.items) none_left c.loop-merge.invariant.adding in
    IsAdding-all old.parts.now.reps now.parts.now.reps old.merges.items now.merges.items c.args.found.items all some apart
