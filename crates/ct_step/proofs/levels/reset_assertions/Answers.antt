use Rattle.std.proofs.Common.{◌≡◌, ◌∙◌, Option, None, sym, ap, subst}
use Rattle.ct_sorts.specs.Lengths.{Lengths}
use Rattle.ct_command.specs.Command.{reset_assertions}
use Rattle.ct_stack.specs.Levels.{emptied}
use Rattle.ct_stack.specs.Stack.{Stack}
use Rattle.ct_step.specs.declared.state.SessionState.{SessionState}
use Rattle.ct_step.specs.Done.{Performs, state_of}
use Rattle.ct_step.specs.State.{cut_back}
use Rattle.ct_step.specs.Step.{quiet}
use Rattle.ct_step.specs.Store.{IsStoreOf, IsCut}
use Rattle.ct_step.proofs.CutLemmas.{can_cut, emptied_same, sorted_left, sorted_as}
use Rattle.ct_step.proofs.DoneLemmas.{cuts, never}
use Rattle.ct_step.proofs.levels.reset_assertions.Goals as goal

pub cut_store-requires : goal.cut_store-requires
cut_store-requires c = record { sorted = c.requires.sorted; can_cut = can_cut _ _ _ c.first_mark-mark.ensures.cut }

pub returns : goal.returns
returns c =
    let s = c.args.state.now.stack in
    let global = c.args.state.now.options.global_declarations in
    let left = c.cut_labels.new.state in
    let own : left ≡ record c.args.state.now { stack = c.empty.new.self; labels = left.labels } = c.cut_labels.ensures.cut in
    record {
      done = λ number.
          subst (λ (x : SessionState). Performs c.args.state.now number reset_assertions (record x { kept = None }) c.in_ok-answer.answer) (sym own)
          (cuts c.args.state.now number reset_assertions never c.in_ok-answer.answer c.empty.new.self left.labels c.cut_labels.ensures.labels
          (ap (λ (t : Stack). quiet (cut_back (state_of c.args.state.now) t)) c.empty.ensures.emptied) c.in_ok-answer.ensures.answer);
      stored = subst (λ (m : Option Lengths). IsCut c.args.state.now.stack.top.context.declarations m c.args.store.now c.cut_store.new.store) c.first_mark-mark.ensures.mark c.in_ok-cut_store.ensures.cut;
      sorted =
          subst (λ (x : SessionState). IsStoreOf (state_of (record x { kept = None })) c.cut_store.new.store) (sym own)
          (sorted_as (emptied global s) c.empty.new.self c.cut_store.new.store c.empty.ensures.emptied
          (sorted_left s.top.context.declarations _ c.first_mark-mark.result c.args.store.now c.cut_store.new.store (λ none. emptied_same global s (sym c.first_mark-mark.ensures.mark ∙ none)) c.first_mark-mark.ensures.cut c.in_ok-cut_store.ensures.cut c.in_ok-cut_store.ensures.sorted c.requires.sorted));
      cache = c.forget.ensures.cache _;
    }
