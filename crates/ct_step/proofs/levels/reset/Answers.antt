use Rattle.std.proofs.Common.{◌∙◌, Option, false, sym, subst}
use Rattle.ct_sorts.specs.Lengths.{Lengths}
use Rattle.ct_stack.specs.Levels.{emptied}
use Rattle.ct_step.specs.Store.{IsCut}
use Rattle.ct_step.proofs.CutLemmas.{can_cut, emptied_same, sorted_left, sorted_as}
use Rattle.ct_step.proofs.DoneLemmas.{resets}
use Rattle.ct_step.proofs.levels.reset.Goals as goal

pub cut_store-requires : goal.cut_store-requires
cut_store-requires c = record { sorted = c.requires.sorted; can_cut = can_cut _ _ _ c.first_mark-mark.ensures.cut }

pub returns : goal.returns
returns c =
    let s = c.args.state.now.stack in
    record {
      done = λ number. resets c.args.state.now number c.reset.new.self c.truncate.new.self c.new-options.result c.in_ok-answer.answer c.reset.ensures.reset c.truncate.ensures.items c.new-options.ensures.value c.in_ok-answer.ensures.answer;
      stored = subst (λ (m : Option Lengths). IsCut c.args.state.now.stack.top.context.declarations m c.args.store.now c.cut_store.new.store) c.first_mark-mark.ensures.mark c.in_ok-cut_store.ensures.cut;
      sorted =
          sorted_as (emptied false s) c.reset.new.self c.cut_store.new.store c.reset.ensures.reset
          (sorted_left s.top.context.declarations _ c.first_mark-mark.result c.args.store.now c.cut_store.new.store (λ none. emptied_same false s (sym c.first_mark-mark.ensures.mark ∙ none)) c.first_mark-mark.ensures.cut c.in_ok-cut_store.ensures.cut c.in_ok-cut_store.ensures.sorted c.requires.sorted);
      cache = c.forget.ensures.cache _;
    }
