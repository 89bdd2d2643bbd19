use Rattle.std.proofs.Common.{◌≡◌, ◌∙◌, Option, None, sym, ap, subst}
use Rattle.std.proofs.lemmas.Result.{err_from_is_err_and}
use Rattle.ct_sorts.specs.Lengths.{Lengths}
use Rattle.ct_command.specs.Command.{pop}
use Rattle.ct_stack.specs.Levels.{popped_by}
use Rattle.ct_stack.specs.Stack.{Stack}
use Rattle.ct_step.specs.declared.state.SessionState.{SessionState}
use Rattle.ct_step.specs.Done.{Performs, state_of}
use Rattle.ct_step.specs.Cache.{IsCacheOf}
use Rattle.ct_step.specs.State.{cut_back, declared}
use Rattle.ct_step.specs.Step.{quiet}
use Rattle.ct_step.specs.Store.{IsStoreOf, IsCut}
use Rattle.ct_step.proofs.CacheLemmas.{cache_as, refused_cache}
use Rattle.ct_step.proofs.CutLemmas.{levels_stand, can_cut, popped_same, sorted_left, refused_same, sorted_as}
use Rattle.ct_step.proofs.DoneLemmas.{not_done, cuts, same_stack}
use Rattle.ct_step.proofs.levels.pop.Goals as goal

pub cut_store-requires : goal.cut_store-requires
cut_store-requires c = record { sorted = c.requires.sorted; can_cut = can_cut _ _ _ c.mark_below-mark.ensures.cut }

pub returns-in_err-pop : goal.returns-in_err-pop
returns-in_err-pop c =
    let p = err_from_is_err_and c.from_residual-in_err-pop.result c.from_residual-in_err-pop.ensures.1 in
    let s = c.args.state.now.stack in
    let same = refused_same s.top.context.declarations s c.args.count c.mark_below-mark.result c.args.store.now c.cut_store.new.store _ c.in_err-pop.ensures.refused c.in_err-pop.ensures.no_memory c.mark_below-mark.ensures.above c.in_ok-cut_store.ensures.cut in
    rw (p.1, p.2)
    (record {
      done = λ number. not_done c.args.state.now _ number (pop c.args.count) _ c.in_err-pop.ensures.refused (same_stack c.args.state.now c.pop.new.self c.in_err-pop.ensures.unchanged);
      stored = same;
      sorted = rw same (sorted_as s c.pop.new.self c.args.store.now c.in_err-pop.ensures.unchanged c.requires.sorted);
      cache =
          cache_as s c.pop.new.self c.cut_cache.new.cache c.in_err-pop.ensures.unchanged
          (refused_cache s.top.context.declarations s c.args.count c.cut_cache.new.cache _ c.in_err-pop.ensures.refused c.in_err-pop.ensures.no_memory c.cut_cache.ensures.above);
    })

pub keep_asserted-requires : goal.keep_asserted-requires
keep_asserted-requires c =
    let s = c.args.state.now.stack in
    record {
      cache =
          cache_as (popped_by c.args.state.now.options.global_declarations c.args.count s) c.pop.new.self c.cut_cache.new.cache c.in_ok-pop.ensures.ok
          (c.cut_cache.ensures.cut (levels_stand s c.args.count c.in_ok-pop.ensures.accepted));
    }

pub returns : goal.returns
returns c =
    let s = c.args.state.now.stack in
    let global = c.args.state.now.options.global_declarations in
    let is = c.mark_below-mark.ensures.mark (levels_stand s c.args.count c.in_ok-pop.ensures.accepted) in
    let left = c.cut_labels.new.state in
    let own : left ≡ record c.args.state.now { stack = c.pop.new.self; labels = left.labels } = c.cut_labels.ensures.cut in
    record {
      done = λ number.
          subst (λ (x : SessionState). Performs c.args.state.now number (pop c.args.count) (record x { kept = None }) c.in_ok-answer.answer) (sym own)
          (cuts c.args.state.now number (pop c.args.count) c.in_ok-pop.ensures.accepted c.in_ok-answer.answer c.pop.new.self left.labels c.cut_labels.ensures.labels
          (ap (λ (t : Stack). quiet (cut_back (state_of c.args.state.now) t)) c.in_ok-pop.ensures.ok)
          c.in_ok-answer.ensures.answer);
      stored = subst (λ (m : Option Lengths). IsCut c.args.state.now.stack.top.context.declarations m c.args.store.now c.cut_store.new.store) is c.in_ok-cut_store.ensures.cut;
      sorted =
          subst (λ (x : SessionState). IsStoreOf (state_of (record x { kept = None })) c.cut_store.new.store) (sym own)
          (sorted_as (popped_by global c.args.count s) c.pop.new.self c.cut_store.new.store c.in_ok-pop.ensures.ok
          (sorted_left s.top.context.declarations _ c.mark_below-mark.result c.args.store.now c.cut_store.new.store (λ none. popped_same global c.args.count s (sym is ∙ none)) c.mark_below-mark.ensures.cut c.in_ok-cut_store.ensures.cut c.in_ok-cut_store.ensures.sorted c.requires.sorted));
      cache = subst (λ (x : SessionState). IsCacheOf (declared (state_of (record x { kept = None }))) c.keep_asserted.new.cache) (sym own) c.keep_asserted.ensures.cache;
    }
