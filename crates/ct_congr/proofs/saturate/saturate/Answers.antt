use Rattle.std.proofs.Common.{◌≡◌, ℕ, zero, suc, ◌<◌, ◌==◌, false, List, [], vec_len, refl, sym, subst, ◌∙◌, arith, true≢false}
use Rattle.std.proofs.lemmas.Bool.Decides.{Decides-eqb}
use Rattle.std.proofs.lemmas.List.{nil_from_length}
use Rattle.ct_terms.specs.declared.ids.TermId.{TermId}
use Rattle.ct_congr.specs.Needed.{AreNeeded}
use Rattle.ct_congr.specs.Partition.{InOneClass}
use Rattle.ct_congr.specs.Rules.{AreRulesClosed}
use Rattle.ct_congr.proofs.StoreLemmas.{IsLater-same, IsLater-trans}
use Rattle.ct_congr.proofs.AddingLemmas.{IsExtended-same, IsExtended-trans}
use Rattle.ct_congr.proofs.saturate.saturate.Goals as goal

some_left : (n : ℕ) → false ≡ (n == 0) → 0 < n
some_left zero e = absurd (true≢false (sym e))
some_left (suc n) e = omega arith

pub loop-alloc-init : goal.loop-alloc-init
loop-alloc-init c =
    let d = c.args.sig.now in
    let terms = c.args.table.now in
    let value = c.reps.ensures.value in
    record {
      later = IsLater-same c.args.store.now.parts.now.reps c.args.store.now.merges.items;
      extended = IsExtended-same c.args.store.now.parts c.args.store.now.merges.items;
      of = λ of. of;
      cons_long = refl;
      sound = λ hyps given h. h;
      needed = λ hyps. subst (λ (q : List TermId). AreNeeded d terms hyps q c.in_ok-found.found.items) value (c.in_ok-found.ensures.needed hyps);
      closed = λ none. subst (λ (q : List TermId). AreRulesClosed d terms (InOneClass q)) value (c.in_ok-found.ensures.closed none);
    }

pub apply-requires-clause-inside : goal.apply-requires-clause-inside
apply-requires-clause-inside c = λ k m at. let n = c.loop-alloc.invariant.needed [] k m at in (n.left, n.right)

pub loop-alloc-preserved : goal.loop-alloc-preserved
loop-alloc-preserved c =
    let d = c.args.sig.now in
    let terms = c.args.table.now in
    let old = c.args.store.now in
    let now = c.loop-alloc.store in
    let new = c.apply.new.store in
    let value = c.reps-in-loop-alloc.ensures.value in
    record {
      later = IsLater-trans old.parts.now.reps now.parts.now.reps new.parts.now.reps old.merges.items now.merges.items new.merges.items c.loop-alloc.invariant.later c.in_ok-apply.ensures.later;
      extended = IsExtended-trans old.parts now.parts new.parts old.merges.items now.merges.items new.merges.items c.loop-alloc.invariant.extended c.in_ok-apply.ensures.extended;
      of = λ of. c.in_ok-apply.ensures.of terms (c.loop-alloc.invariant.of of);
      cons_long = c.in_ok-apply.ensures.cons_long ∙ c.loop-alloc.invariant.cons_long;
      sound = λ hyps given sound. c.in_ok-apply.ensures.sound d terms hyps given (c.loop-alloc.invariant.sound hyps given sound) (c.loop-alloc.invariant.needed hyps);
      needed = λ hyps. subst (λ (q : List TermId). AreNeeded d terms hyps q c.in_ok-found-2.found.items) value (c.in_ok-found-2.ensures.needed hyps);
      closed = λ none. subst (λ (q : List TermId). AreRulesClosed d terms (InOneClass q)) value (c.in_ok-found-2.ensures.closed none);
    }

pub loop-alloc-smaller : goal.loop-alloc-smaller
loop-alloc-smaller c = c.in_ok-apply.ensures.fewer (omega (arith, some_left (vec_len c.loop-alloc.found) c.loop-alloc-test.ensures, c.loop-alloc.found.ok.0)) (λ k m at. (c.loop-alloc.invariant.needed [] k m at).apart)

pub returns-clause-closed : goal.returns-clause-closed
returns-clause-closed c = c.loop-alloc.invariant.closed (nil_from_length c.loop-alloc.found.items (omega (arith, (Decides-eqb (vec_len c.loop-alloc.found) 0).0 (sym c.loop-alloc-test.ensures), c.loop-alloc.found.ok.0)))

pub returns-in_err-apply-clause-sound : goal.returns-in_err-apply-clause-sound
returns-in_err-apply-clause-sound c = λ hyps given sound.
    c.in_err-apply.ensures.sound c.args.sig.now c.args.table.now hyps given (c.loop-alloc.invariant.sound hyps given sound) (c.loop-alloc.invariant.needed hyps)

pub returns-in_err-found-2-clause-sound : goal.returns-in_err-found-2-clause-sound
returns-in_err-found-2-clause-sound c = λ hyps given sound.
    c.in_ok-apply.ensures.sound c.args.sig.now c.args.table.now hyps given (c.loop-alloc.invariant.sound hyps given sound) (c.loop-alloc.invariant.needed hyps)

pub returns-in_err-apply-clause-extended : goal.returns-in_err-apply-clause-extended
returns-in_err-apply-clause-extended c =
    let old = c.args.store.now in
    let now = c.loop-alloc.store in
    let new = c.apply.new.store in
    IsExtended-trans old.parts now.parts new.parts old.merges.items now.merges.items new.merges.items c.loop-alloc.invariant.extended c.in_err-apply.ensures.extended

pub returns-in_err-apply-clause-of : goal.returns-in_err-apply-clause-of
returns-in_err-apply-clause-of c = λ of. c.in_err-apply.ensures.of c.args.table.now (c.loop-alloc.invariant.of of)

pub returns-in_err-found-2-clause-extended : goal.returns-in_err-found-2-clause-extended
returns-in_err-found-2-clause-extended c =
    let old = c.args.store.now in
    let now = c.loop-alloc.store in
    let new = c.apply.new.store in
    IsExtended-trans old.parts now.parts new.parts old.merges.items now.merges.items new.merges.items c.loop-alloc.invariant.extended c.in_ok-apply.ensures.extended

pub returns-in_err-found-2-clause-of : goal.returns-in_err-found-2-clause-of
returns-in_err-found-2-clause-of c = λ of. c.in_ok-apply.ensures.of c.args.table.now (c.loop-alloc.invariant.of of)
