use Rattle.std.proofs.Common.{◌≡◌, refl, subst, length, arith}
use Rattle.std.specs.List.{range_with_len}
use Rattle.ct_model.specs.Listed.{lines}
use Rattle.ct_model.specs.TableText.{IsTableText}
use Rattle.ct_model.proofs.ListLemmas.{AreWritten, none_written}
use Rattle.ct_model.proofs.ModelLemmas.{line-more}
use Rattle.ct_model.proofs.model.write_functions.Goals as goal

pub loop-f-init : goal.loop-f-init
loop-f-init c = none_written (IsTableText c.args.sig.now c.args.interp.now) lines c.args.out.now.items refl

pub loop-f-preserved : goal.loop-f-preserved
loop-f-preserved c =
    line-more (IsTableText c.args.sig.now c.args.interp.now) c.loop-f.f c.args.out.now.items c.loop-f.out.items c.write_function.new.out.items c.push.new.self.items c.loop-f.invariant c.in_ok-write_function.ensures.ok c.in_ok-push.ensures.items

pub returns : goal.returns
returns c =
    let all : c.loop-f.f ≡ length c.args.sig.now.functions = omega (arith, c.funs-count.ensures.count, c.loop-f-test.false) in
    record { ok = subst (λ n. AreWritten (IsTableText c.args.sig.now c.args.interp.now) lines (range_with_len 0 n) c.args.out.now.items c.loop-f.out.items) all c.loop-f.invariant }
