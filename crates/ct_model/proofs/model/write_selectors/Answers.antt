use Rattle.std.proofs.Common.{◌≡◌, refl, subst, length, arith, ap, ◌∙◌}
use Rattle.std.specs.List.{filter, range_with_len}
use Rattle.ct_sorts.specs.declared.mark.Mark.{Mark}
use Rattle.ct_model.specs.Listed.{lines}
use Rattle.ct_model.specs.TableText.{IsOffText}
use Rattle.ct_model.specs.ModelText.{can_miss}
use Rattle.ct_model.proofs.ListLemmas.{AreWritten, none_written}
use Rattle.ct_model.proofs.ModelLemmas.{tested-more}
use Rattle.ct_model.proofs.model.write_selectors.Goals as goal

pub loop-s-init : goal.loop-s-init
loop-s-init c = none_written (IsOffText c.args.sig.now c.args.interp.now) lines c.args.out.now.items refl

pub loop-s-preserved : goal.loop-s-preserved
loop-s-preserved c =
    tested-more (IsOffText c.args.sig.now c.args.interp.now) (can_miss c.args.sig.now) c.loop-s.s c.args.out.now.items c.loop-s.out.items c.write_selector.new.out.items c.loop-s.invariant c.in_ok-write_selector.ensures.ok

pub returns : goal.returns
returns c =
    let counted : c.sels-count.result ≡ length c.args.sig.now.sels = c.sels-count.ensures.value ∙ ap (λ (m : Mark). m.sels) c.mark.ensures.lengths in
    let all : c.loop-s.s ≡ length c.args.sig.now.sels = omega (arith, counted, c.loop-s-test.false) in
    record { ok = subst (λ n. AreWritten (IsOffText c.args.sig.now c.args.interp.now) lines (filter (can_miss c.args.sig.now) (range_with_len 0 n)) c.args.out.now.items c.loop-s.out.items) all c.loop-s.invariant }
