use Rattle.std.proofs.Common.{◌≡◌, false, get_or, length, slice_get, refl, sym, ap, subst, ◌∙◌, inl, inr, arith}
use Rattle.std.proofs.lemmas.List.Elements.{Contains-get_or}
use Rattle.std.proofs.lemmas.Option.{same_Some, slice_get-get_or, slice_get_within}
use Rattle.ct_lemmas.proofs.Contained.{slice_get-from_Contains}
use Rattle.ct_lemmas.proofs.Numbers.{same_or_other}
use Rattle.ct_terms.specs.declared.ids.TermId.{TermId}
use Rattle.ct_terms.specs.declared.ids.Lit.{Lit}
use Rattle.ct_rules.specs.Rules.{truth_term}
use Rattle.ct_congr.specs.Partition.{InOneClass}
use Rattle.ct_congr.proofs.HeldLemmas.{truth_inside}
use Rattle.ct_congr.proofs.MarkLemmas.{long-extended}
use Rattle.ct_congr.proofs.holding.assume.Goals as goal

abbrev zeroth : Lit
zeroth = record { term = record { 0 = 0 }; positive = false }

pub loop-l-init : goal.loop-l-init
loop-l-init c = record {
  kept = c.requires.kept;
  sound = λ given sound. sound;
  long = λ long. long;
  states = λ k h below at. absurd (omega (arith, below));
}

pub put-requires-clause-kept : goal.put-requires-clause-kept
put-requires-clause-kept c = c.loop-l.invariant.kept

pub put-requires-clause-left : goal.put-requires-clause-left
put-requires-clause-left c =
    let l = get_or c.args.hyps.now c.loop-l.l-index zeroth in
    let stripped = c.requires.stripped l (Contains-get_or c.args.hyps.now c.loop-l.l-index zeroth c.loop-l-test.true) in
    slice_get_within c.args.table.now l.term.0 _ stripped.0.1

pub put-requires-clause-right : goal.put-requires-clause-right
put-requires-clause-right c =
    let l = get_or c.args.hyps.now c.loop-l.l-index zeroth in
    rw c.truth.ensures.value (truth_inside l.positive (length c.args.table.now) (omega (arith, c.len.ensures.count, c.if-prove)))

pub loop-l-preserved : goal.loop-l-preserved
loop-l-preserved c =
    let d = c.args.sig.now in
    let terms = c.args.table.now in
    let hyps = c.args.hyps.now in
    let l = get_or hyps c.loop-l.l-index zeroth in
    let has = Contains-get_or hyps c.loop-l.l-index zeroth c.loop-l-test.true in
    let new = c.put.new.progress.store in
    let joined = c.in_ok-put.ensures.joined in
    record {
      kept = c.in_ok-put.ensures.kept;
      sound = λ given first.
          c.in_ok-put.ensures.sound hyps given (has, (refl, c.truth.ensures.value))
          (c.derivations.ensures.states d terms hyps given l.term c.truth.result (l, has, (refl, c.truth.ensures.value)))
          (c.loop-l.invariant.sound given first);
      long = λ long.
          let now = c.loop-l.progress.store in
          long-extended now.parts new.parts now.merges.items new.merges.items c.in_ok-put.ensures.further.extended (c.loop-l.invariant.long long);
      states = λ k h below at. elim (same_or_other k c.loop-l.l-index) [
        | inl e ↦
            let same : l ≡ h = same_Some l h (sym (slice_get-get_or hyps c.loop-l.l-index zeroth c.loop-l-test.true) ∙ ap (slice_get hyps) (sym e) ∙ at) in
            subst (λ (q : Lit). InOneClass new.parts.now.reps q.term (truth_term q.positive)) same (subst (InOneClass new.parts.now.reps l.term) c.truth.ensures.value joined.joins)
        | inr other ↦ joined.keeps h.term (truth_term h.positive) (c.loop-l.invariant.states k h (omega (arith, other, below)) at)
      ];
    }

pub returns-clause-kept : goal.returns-clause-kept
returns-clause-kept c = c.loop-l.invariant.kept

pub returns-clause-sound : goal.returns-clause-sound
returns-clause-sound c = c.loop-l.invariant.sound

pub returns-clause-states : goal.returns-clause-states
returns-clause-states c = λ x y h.
    let hyps = c.args.hyps.now in
    let at = slice_get-from_Contains hyps h.0 h.1 in
    let one = c.loop-l.invariant.states at.0 h.0 (omega (arith, c.loop-l-test.false, slice_get_within hyps at.0 h.0 at.1)) at.1 in
    subst (λ (q : TermId). InOneClass c.loop-l.progress.store.parts.now.reps q y) (sym h.2.0) (subst (InOneClass c.loop-l.progress.store.parts.now.reps h.0.term) (sym h.2.1) one)

pub returns-clause-long : goal.returns-clause-long
returns-clause-long c = c.loop-l.invariant.long
