use Rattle.std.proofs.Common.{◌≡◌, ℕ, List, All, Err, IsErrOf, sym, subst}
use Rattle.std.proofs.lemmas.Result.{err_from_is_err_and}
use Rattle.ct_command.specs.Seen.{all_seen}
use Rattle.ct_command.specs.declared.error.CommandError.TheVariants.{Refused}
use Rattle.ct_stack.specs.declared.assuming.Assumption.{Assumption as Assumed}
use Rattle.ct_stack.specs.Assuming.{assumptions_seen, IsTruth}
use Rattle.ct_step.specs.Refusal.{IsAssumingRefusal, IsTooLarge}
use Rattle.ct_step.proofs.AssumingLemmas.{without_sorts, assumes_last, refused_large, refused_terms, accepted_few}
use Rattle.ct_step.proofs.CauseLemmas.{refused_by}
use Rattle.ct_step.proofs.DoneLemmas.{same_stack}
use Rattle.ct_step.proofs.RehearsalLemmas.{rehearsed, rehearsed_sound, rehearsed_cache, rehearsed_known, sound_same, cache_same, known_same}
use Rattle.ct_step.proofs.rehearsal.rehearse_assuming.Goals as goal

pub returns-in_err-assumed : goal.returns-in_err-assumed
returns-in_err-assumed c =
    let old = c.args.state.now in
    let ts = all_seen c.args.terms.now in
    let same = same_stack old c.assume.new.self c.in_err-assumed.ensures.unchanged in
    let p = err_from_is_err_and c.from_residual.result c.from_residual.ensures.1 in
    rw (p.1, p.2)
    (record {
      rehearsed = tt;
      refused = refused_by (λ n. IsAssumingRefusal old.stack ts n) _ (λ n e. refused_terms old.stack ts n (c.in_err-assumed.ensures.refused n e));
      unchanged = same;
      sound = sound_same old _ same;
      cache = cache_same old _ same;
      known = known_same old _ same;
    })

pub fits-requires : goal.fits-requires
fits-requires c =
    record { assumed = subst (λ (xs : List Assumed). All (IsTruth c.assume.new.self.top.context.declarations) xs) (sym c.as_slice.ensures.value) c.in_ok-assumed.ensures.sorted }

pub returns-in-Ok : goal.returns-in-Ok
returns-in-Ok c =
    let old = c.args.state.now in
    let mid = c.assume.new.self in
    let new = c.end_assuming.new.self in
    let ts = all_seen c.args.terms.now in
    let held = assumptions_seen c.in_ok-assumed.assumed.items in
    let a = c.in_ok-assumed.ensures.ok in
    let fits = subst (λ (xs : List Assumed). (n : ℕ) → IsTooLarge mid (assumptions_seen xs) n → ⊥) c.as_slice.ensures.value c.in-Ok.ensures.accepted in
    let last = assumes_last old.stack mid ts held a new c.end_assuming.ensures.ended in
    record {
      rehearsed = rehearsed old ts held new last (accepted_few old.stack mid ts held a c.additions.ensures.same fits);
      refused = λ n e. absurd cc;
      unchanged = tt;
      sound = rehearsed_sound old ts held new last c.growing.ensures.hold;
      cache = rehearsed_cache old ts held new last c.growing.ensures.hold;
      known = λ values known. rehearsed_known old ts held new last values;
    }

pub returns-clause-sound : goal.returns-clause-sound
returns-clause-sound c =
    let old = c.args.state.now in
    let mid = c.assume.new.self in
    let new = c.end_assuming-in-Err.new.self in
    let ts = all_seen c.args.terms.now in
    let held = assumptions_seen c.in_ok-assumed.assumed.items in
    let back = without_sorts old.stack mid ts held c.in_ok-assumed.ensures.ok new c.end_assuming-in-Err.ensures.ended in
    sound_same old _ (same_stack old new back)
