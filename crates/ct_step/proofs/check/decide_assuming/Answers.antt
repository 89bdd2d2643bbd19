use Rattle.std.proofs.Common.{ℕ, List, All, Err, IsErrOf, sym, subst}
use Rattle.std.proofs.lemmas.Result.{err_from_is_err_and}
use Rattle.ct_sorts.specs.Declarations.{Declarations}
use Rattle.ct_terms.specs.Terms.{AreSorted}
use Rattle.ct_kept.specs.Kept.{Stored}
use Rattle.ct_command.specs.Seen.{all_seen}
use Rattle.ct_command.specs.declared.error.CommandError.TheVariants.{Refused}
use Rattle.ct_engine.specs.Keeping.{HasKept}
use Rattle.ct_stack.specs.declared.assuming.Assumption.{Assumption as Assumed}
use Rattle.ct_stack.specs.Assuming.{assuming, assumptions_seen, IsTruth}
use Rattle.ct_stack.specs.Stack.{Stack}
use Rattle.ct_step.specs.Cache.{IsCacheOf}
use Rattle.ct_step.specs.Refusal.{IsAssumingRefusal, IsTooLarge}
use Rattle.ct_step.specs.Verdict.{ComesTo}
use Rattle.ct_step.proofs.AssumingLemmas.{grown_there, without_sorts, assumes_last, right_last, fits_last, declared_last, refused_large, refused_terms, accepted_few}
use Rattle.ct_step.proofs.CacheLemmas.{cache_later}
use Rattle.ct_step.proofs.CauseLemmas.{refused_by}
use Rattle.ct_step.proofs.check.decide_assuming.Goals as goal

pub returns-in_err-assumed-clause-refused : goal.returns-in_err-assumed-clause-refused
returns-in_err-assumed-clause-refused c =
    let old = c.args.stack.now in
    let ts = all_seen c.args.terms.now in
    let p = err_from_is_err_and c.from_residual.result c.from_residual.ensures.1 in
    rw (p.1, p.2) (refused_by (λ n. IsAssumingRefusal old ts n) _ (λ n e. refused_terms old ts n (c.in_err-assumed.ensures.refused n e)))

pub returns-in_err-assumed-clause-sorted : goal.returns-in_err-assumed-clause-sorted
returns-in_err-assumed-clause-sorted c = subst (λ (s : Stack). AreSorted s.top.context.declarations c.args.store.now.table) (sym c.in_err-assumed.ensures.unchanged) c.requires.sorted

pub returns-in_err-assumed-clause-cache : goal.returns-in_err-assumed-clause-cache
returns-in_err-assumed-clause-cache c = subst (λ (s : Stack). IsCacheOf s.top.context.declarations c.args.cache.now) (sym c.in_err-assumed.ensures.unchanged) c.requires.cache

pub verdict_assuming-requires : goal.verdict_assuming-requires
verdict_assuming-requires c =
    let old = c.args.stack.now in
    let mid = c.assume.new.self in
    let ts = all_seen c.args.terms.now in
    let held = assumptions_seen c.in_ok-assumed.assumed.items in
    let grown = grown_there old mid ts held c.in_ok-assumed.ensures.ok in
    record {
      sorted = c.growing.ensures.hold.table mid.top.context.declarations old.top.context.declarations c.args.store.now.table grown c.requires.sorted;
      cache = cache_later c.growing.ensures.hold old.top.context.declarations mid.top.context.declarations c.args.cache.now grown c.requires.cache;
      assumed = subst (λ (xs : List Assumed). All (IsTruth mid.top.context.declarations) xs) (sym c.as_slice.ensures.value) c.in_ok-assumed.ensures.sorted;
    }

pub returns-in-Ok : goal.returns-in-Ok
returns-in-Ok c =
    let old = c.args.stack.now in
    let mid = c.assume.new.self in
    let new = c.end_assuming.new.self in
    let ts = all_seen c.args.terms.now in
    let assumed = c.in_ok-assumed.assumed in
    let held = assumptions_seen assumed.items in
    let a = c.in_ok-assumed.ensures.ok in
    let ended = c.end_assuming.ensures.ended in
    let v = c.in-Ok.verdict in
    let own = c.as_slice.ensures.value in
    let right = subst (λ (xs : List Assumed). ComesTo mid.top.context (assuming mid (assumptions_seen xs)) c.args.budget v) own c.in-Ok.ensures.verdict in
    let fits = subst (λ (xs : List Assumed). (n : ℕ) → IsTooLarge mid (assumptions_seen xs) n → ⊥) own c.in-Ok.ensures.accepted in
    let same = declared_last old mid ts held a new ended in
    record {
      decided = record {
        assumes = assumes_last old mid ts held a new ended;
        sorted = subst (λ (d : Declarations). All (IsTruth d) assumed.items) same c.in_ok-assumed.ensures.sorted;
        right = right_last old mid ts held a new ended c.args.budget v right;
        fits = fits_last old mid ts held a new ended fits;
      };
      accepted = accepted_few old mid ts held a c.additions.ensures.same fits;
      refused = λ n e. absurd cc;
      kept = subst (λ (d : Declarations). HasKept d c.args.store.now c.verdict_assuming.new.store v) same c.in-Ok.ensures.kept;
      sorted = subst (λ (d : Declarations). AreSorted d c.verdict_assuming.new.store.table) same c.verdict_assuming.ensures.sorted;
      cache = subst (λ (d : Declarations). IsCacheOf d c.verdict_assuming.new.cache) same c.verdict_assuming.ensures.cache;
      same = tt;
      unchanged = tt;
    }

pub returns-in-Err : goal.returns-in-Err
returns-in-Err c =
    let old = c.args.stack.now in
    let mid = c.assume.new.self in
    let new = c.end_assuming-in-Err.new.self in
    let ts = all_seen c.args.terms.now in
    let held = assumptions_seen c.in_ok-assumed.assumed.items in
    let a = c.in_ok-assumed.ensures.ok in
    let own = c.as_slice.ensures.value in
    let back = without_sorts old mid ts held a new c.end_assuming-in-Err.ensures.ended in
    let why = subst (λ (xs : List Assumed). (n : ℕ) → IsErrOf (Err c.in-Err.error) (Refused n) → IsTooLarge mid (assumptions_seen xs) n) own c.in-Err.ensures.refused in
    record {
      decided = tt;
      accepted = tt;
      refused = refused_by (λ n. IsAssumingRefusal old ts n) _ (λ n e. refused_large old mid ts held a n (why n e));
      kept = tt;
      sorted = subst (λ (s : Stack). AreSorted s.top.context.declarations c.verdict_assuming.new.store.table) (sym back)
          (subst (λ (x : Stored). AreSorted old.top.context.declarations x.table) (sym c.in-Err.ensures.same) c.requires.sorted);
      cache = c.forget.ensures.cache _;
      same = c.in-Err.ensures.same;
      unchanged = back;
    }
