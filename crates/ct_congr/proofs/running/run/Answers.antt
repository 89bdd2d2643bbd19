use Rattle.std.proofs.Common.{◌≡◌, List, [], ◌∷◌, refl, sym, subst, ◌∙◌, inl, inr, arith}
use Rattle.ct_terms.specs.declared.ids.TermId.{TermId}
use Rattle.ct_terms.specs.declared.ids.Lit.{Lit}
use Rattle.ct_rules.specs.declared.equation.Equation.{Equation}
use Rattle.ct_rules.specs.Derivation.{Derives}
use Rattle.ct_congr.specs.declared.merge.Closed.TheVariants.{Quiet}
use Rattle.ct_congr.specs.Partition.{InOneClass}
use Rattle.ct_congr.specs.Reasons.{IsReason}
use Rattle.ct_congr.specs.Sound.{IsSound}
use Rattle.ct_congr.specs.Joined.{AreJoined, IsWaiting}
use Rattle.ct_congr.specs.Step.{IsAdding}
use Rattle.ct_congr.proofs.CompleteLemmas.{Theorems, Derives-reason}
use Rattle.ct_congr.proofs.CoveredLemmas.{IsCovered-wider}
use Rattle.ct_congr.proofs.JoinedLemmas.{AreJoined-class, AreJoined-waits, AreJoined-moves, IsReason-any}
use Rattle.ct_congr.proofs.AddingLemmas.{IsFurther-same, IsFurther-trans}
use Rattle.ct_congr.proofs.AddedLemmas.{IsAdding-clash}
use Rattle.ct_congr.proofs.running.run.Goals as goal
use Rattle.ct_congr.proofs.running.run.Goals.{In-Some}

-- the merge that is taken waited
taken : (c : In-Some) → IsWaiting c.args.sig.now c.args.table.now c.loop-merge.progress.store.parts.now.reps c.in-Some.merge
taken c = c.loop-merge.invariant.waits c.in-Some.merge c.in-Some.ensures.found.0

-- the classes before it are sound, and it is justified in them and derives
module _ (c : In-Some) (theorems : (hyps : List Lit) (given : List Equation) → Theorems c.args.sig.now c.args.table.now hyps given) (hyps : List Lit) (given : List Equation) (sound : IsSound c.args.sig.now c.args.table.now hyps given c.loop-merge.progress.store.parts.now.reps c.loop-merge.progress.store.parts.now.cons c.loop-merge.progress.store.merges.items) where
  why : IsReason c.args.sig.now c.args.table.now hyps (InOneClass c.loop-merge.progress.store.parts.now.reps) c.in-Some.merge.left c.in-Some.merge.right c.in-Some.merge.why
  why = IsReason-any c.args.sig.now c.args.table.now hyps (InOneClass c.loop-merge.progress.store.parts.now.reps) c.in-Some.merge.left c.in-Some.merge.right c.in-Some.merge.why (taken c).justified

  derives : Derives c.args.sig.now c.args.table.now hyps given c.in-Some.merge.left c.in-Some.merge.right
  derives = Derives-reason c.args.sig.now c.args.table.now hyps given (theorems hyps given) c.loop-merge.progress.store.parts.now.reps c.loop-merge.progress.store.parts.now.cons c.loop-merge.progress.store.merges.items sound c.in-Some.merge why (taken c).rule

pub loop-merge-init : goal.loop-merge-init
loop-merge-init c =
    let p = c.args.progress.now in
    record {
      flag = refl;
      further = IsFurther-same c.args.table.now p.store.parts p.store.merges.items p.keys c.requires.groupings c.requires.keys;
      sound = λ hyps given sound. sound;
      waits = c.requires.waits;
      covered = λ covered. covered;
    }

pub next-requires : goal.next-requires
next-requires c = record {
  inside = λ m has.
      let w = c.loop-merge.invariant.waits m has in
      rw c.reps.ensures.value (w.left, w.right);
}

pub add_merge-requires-clause-groupings : goal.add_merge-requires-clause-groupings
add_merge-requires-clause-groupings c = c.loop-merge.invariant.further.groupings

pub add_merge-requires-clause-left : goal.add_merge-requires-clause-left
add_merge-requires-clause-left c = omega (arith, (taken (goal.at.add_merge-requires-clause-left c).In-Some).left, c.loop-merge.invariant.further.groupings.now.long)

pub add_merge-requires-clause-right : goal.add_merge-requires-clause-right
add_merge-requires-clause-right c = omega (arith, (taken (goal.at.add_merge-requires-clause-right c).In-Some).right, c.loop-merge.invariant.further.groupings.now.long)

pub add_merge-requires-clause-keys : goal.add_merge-requires-clause-keys
add_merge-requires-clause-keys c = c.loop-merge.invariant.further.keyed

pub loop-merge-preserved : goal.loop-merge-preserved
loop-merge-preserved c =
    let at = (goal.at.loop-merge-preserved c).In-Some in
    let d = c.args.sig.now in
    let terms = c.args.table.now in
    let old = c.args.progress.now in
    let now = c.loop-merge.progress in
    let new = c.add_merge.new.progress in
    let m = c.in-Some.merge in
    let left = c.next.new.waiting.items in
    let reps = now.store.parts.now.reps in
    let inv = c.loop-merge.invariant in
    let theorems : (hyps : List Lit) (given : List Equation) → Theorems d terms hyps given = λ hyps given. record {
      states = c.derivations.ensures.states d terms hyps given;
      follows = c.derivations.ensures.follows d terms hyps given;
      least = c.derivations.ensures.least d terms hyps given;
    } in
    let quiet : c.in_ok-answer.answer ≡ Quiet = rw c.if-not-is_quiet.false at c.is_quiet.ensures.value in
    record {
      flag = c.in_ok-answer.ensures.flag ∙ inv.flag;
      further = IsFurther-trans terms old.store.parts now.store.parts new.store.parts old.store.merges.items now.store.merges.items new.store.merges.items old.keys now.keys new.keys inv.further c.in_ok-answer.ensures.further;
      sound = λ hyps given sound.
          let mid = inv.sound hyps given sound in
          c.in_ok-answer.ensures.sound hyps given (why at theorems hyps given mid) (derives at theorems hyps given mid) mid;
      waits = c.in_ok-answer.ensures.waits (λ n has. inv.waits n (c.in-Some.ensures.from n has));
      covered = λ covered.
          let moves = AreJoined-moves reps reps now.waiting.items (m ∷ left) (AreJoined-class reps (m ∷ left)) (λ n has. elim (c.in-Some.ensures.rest n has) [
            | inl one ↦ AreJoined-class reps (m ∷ left) n.left n.right (subst (λ (q : List TermId). InOneClass q n.left n.right) c.reps.ensures.value one)
            | inr there ↦ AreJoined-waits reps (m ∷ left) n there
          ]) in
          let mid = IsCovered-wider d terms reps now.store.parts.now.cons now.keys (AreJoined reps now.waiting.items) (AreJoined reps (m ∷ left)) moves (inv.covered covered) in
          (subst (IsAdding d terms now.store.parts.now new.store.parts.now now.keys new.keys (AreJoined reps (m ∷ left)) (AreJoined new.store.parts.now.reps new.waiting.items)) quiet c.in_ok-answer.ensures.covered) mid;
    }

pub loop-merge-smaller : goal.loop-merge-smaller
loop-merge-smaller c = c.in_ok-answer.ensures.joined.fewer (λ one. c.in-Some.ensures.found.1 (subst (λ (q : List TermId). InOneClass q c.in-Some.merge.left c.in-Some.merge.right) (sym c.reps.ensures.value) one))

pub returns-in_err-answer-clause-flag : goal.returns-in_err-answer-clause-flag
returns-in_err-answer-clause-flag c = c.in_err-answer.ensures.flag ∙ c.loop-merge.invariant.flag

pub returns-in_err-answer-clause-further : goal.returns-in_err-answer-clause-further
returns-in_err-answer-clause-further c =
    let old = c.args.progress.now in
    let now = c.loop-merge.progress in
    let new = c.add_merge.new.progress in
    IsFurther-trans c.args.table.now old.store.parts now.store.parts new.store.parts old.store.merges.items now.store.merges.items new.store.merges.items old.keys now.keys new.keys c.loop-merge.invariant.further c.in_err-answer.ensures.further

pub returns-in_err-answer-clause-sound : goal.returns-in_err-answer-clause-sound
returns-in_err-answer-clause-sound c = λ hyps given sound.
    let at = (goal.at.returns-in_err-answer-clause-sound c).In-Some in
    let d = c.args.sig.now in
    let terms = c.args.table.now in
    let theorems : (hs : List Lit) (gs : List Equation) → Theorems d terms hs gs = λ hs gs. record {
      states = c.derivations.ensures.states d terms hs gs;
      follows = c.derivations.ensures.follows d terms hs gs;
      least = c.derivations.ensures.least d terms hs gs;
    } in
    let mid = c.loop-merge.invariant.sound hyps given sound in
    c.in_err-answer.ensures.sound hyps given (why at theorems hyps given mid) (derives at theorems hyps given mid) mid

pub returns-then-not-is_quiet : goal.returns-then-not-is_quiet
returns-then-not-is_quiet c =
    let at = (goal.at.returns-then-not-is_quiet c).In-Some in
    let d = c.args.sig.now in
    let terms = c.args.table.now in
    let old = c.args.progress.now in
    let now = c.loop-merge.progress in
    let new = c.add_merge.new.progress in
    let m = c.in-Some.merge in
    let left = c.next.new.waiting.items in
    let inv = c.loop-merge.invariant in
    let theorems : (hs : List Lit) (gs : List Equation) → Theorems d terms hs gs = λ hs gs. record {
      states = c.derivations.ensures.states d terms hs gs;
      follows = c.derivations.ensures.follows d terms hs gs;
      least = c.derivations.ensures.least d terms hs gs;
    } in
    let apart : c.in_ok-answer.answer ≡ Quiet → ⊥ = rw c.if-not-is_quiet.true at c.is_quiet.ensures.value in
    record {
      flag = c.in_ok-answer.ensures.flag ∙ inv.flag;
      further = IsFurther-trans terms old.store.parts now.store.parts new.store.parts old.store.merges.items now.store.merges.items new.store.merges.items old.keys now.keys new.keys inv.further c.in_ok-answer.ensures.further;
      sound = λ hyps given sound.
          let mid = inv.sound hyps given sound in
          c.in_ok-answer.ensures.sound hyps given (why at theorems hyps given mid) (derives at theorems hyps given mid) mid;
      covered = IsAdding-clash d terms old.store.parts.now now.store.parts.now new.store.parts.now old.keys now.keys new.keys (AreJoined now.store.parts.now.reps (m ∷ left)) (AreJoined new.store.parts.now.reps new.waiting.items) (AreJoined old.store.parts.now.reps old.waiting.items) (AreJoined new.store.parts.now.reps []) c.in_ok-answer.answer apart c.in_ok-answer.ensures.covered;
      empty = λ quiet. absurd (apart quiet);
    }

pub returns-clause-covered : goal.returns-clause-covered
returns-clause-covered c = λ covered.
    let d = c.args.sig.now in
    let terms = c.args.table.now in
    let now = c.loop-merge.progress in
    let reps = now.store.parts.now.reps in
    let moves = AreJoined-moves reps reps now.waiting.items [] (AreJoined-class reps []) (λ n has. AreJoined-class reps [] n.left n.right (subst (λ (q : List TermId). InOneClass q n.left n.right) c.reps.ensures.value (c.in_default.ensures.none.1 n has))) in
    IsCovered-wider d terms reps now.store.parts.now.cons now.keys (AreJoined reps now.waiting.items) (AreJoined reps []) moves (c.loop-merge.invariant.covered covered)
