use Rattle.std.proofs.Common.{◌++◌, ◌∷◌, [], refl, ap, ◌∙◌, append_assoc}
use Rattle.ct_value_text.specs.ValueText.{IsValueText}
use Rattle.ct_model.specs.Listed.{spaced}
use Rattle.ct_model.specs.TableText.{equation, equations}
use Rattle.ct_model.proofs.ListLemmas.{none_written, one_more_taken, all_written}
use Rattle.ct_model.proofs.WrittenLemmas.{equations-push}
use Rattle.ct_model.proofs.body.write_equations.Goals as goal

pub loop-number-init : goal.loop-number-init
loop-number-init c = none_written (IsValueText c.args.sig.now c.args.graph.now) (λ texts. spaced (equations 0 texts)) c.args.out.now.items refl

pub loop-number-preserved : goal.loop-number-preserved
loop-number-preserved c =
    let loop = c.loop-number in
    let old = loop.out.items in
    let written = c.in_ok-write_equation.ensures.ok in
    let text = written.0 in
    one_more_taken (IsValueText c.args.sig.now c.args.graph.now) (λ texts. spaced (equations 0 texts)) (λ n v. 32 ∷ equation n v) equations-push
    c.args.nodes.now loop.number (record { 0 = 0 }) c.args.out.now.items old c.write_equation.new.out.items
    c.loop-number-test.true loop.invariant
    (text, written.1, written.2 ∙ ap (λ w. w ++ equation loop.number text) c.in_ok-push.ensures.items ∙ append_assoc old (32 ∷ []) (equation loop.number text))

pub returns : goal.returns
returns c = record { ok = all_written (IsValueText c.args.sig.now c.args.graph.now) (λ texts. spaced (equations 0 texts)) c.args.nodes.now c.loop-number.number c.args.out.now.items c.loop-number.out.items c.loop-number-test.false c.loop-number.invariant }
