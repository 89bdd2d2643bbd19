use Rattle.std.proofs.Common.{◌≡◌, ◌∙◌, ℕ, ◌+◌, ◌<◌, length, get_or, take, ap₂, sym, arith}
use Rattle.std.specs.Int.Bits.{bit_xor}
use Rattle.std.proofs.lemmas.List.{take_more, length-take}
use Rattle.std.proofs.lemmas.List.Elements.{All-from_recursion, All-get_or}
use Rattle.ct_terms.specs.declared.ids.TermId.{TermId}
use Rattle.ct_equivalence.specs.Digests.{share}
use Rattle.ct_equivalence.proofs.DigestLemmas.{shares-push, rep_of-read}
use Rattle.ct_equivalence.proofs.digests.shares.Goals as goal

abbrev zeroth : TermId
zeroth = record { 0 = 0 }

pub loop-place-preserved : goal.loop-place-preserved
loop-place-preserved c =
    let reps = c.args.reps.now in
    let place = c.loop-place.place in
    let t = get_or c.args.terms.now place zeroth in
    let done = take place c.args.terms.now in
    let inside : t.0 < length reps = All-get_or (λ (t : TermId). t.0 < length reps) c.args.terms.now place zeroth c.loop-place-test.true (All-from_recursion (λ (t : TermId). t.0 < length reps) c.args.terms.now c.requires.inside) in
    let long : place ≡ 0 + length done = omega (arith, c.loop-place-test.true, length-take place c.args.terms.now) in
    rw (take_more c.args.terms.now place zeroth c.loop-place-test.true)
    (ap₂ (λ (s n : ℕ). bit_xor s n) c.loop-place.invariant
    (c.share-sum.ensures.value ∙ ap₂ (λ (n : ℕ) (r : TermId). share n r) long (rep_of-read reps t zeroth inside))
    ∙ sym (shares-push reps 0 done t))
