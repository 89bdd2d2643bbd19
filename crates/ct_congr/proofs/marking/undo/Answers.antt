use Rattle.std.proofs.Common.{List, [], ◌∷◌, ◌++◌, length, sym, ap, ◌∙◌, append_assoc, arith}
use Rattle.ct_equivalence.specs.Grouping.{Grouping}
use Rattle.ct_congr.proofs.marking.undo.Goals as goal

-- one more grouping is gone
pub loop-parts-preserved : goal.loop-parts-preserved
loop-parts-preserved c =
    let old = c.loop-parts.parts in
    let new = c.back.new.self in
    let before = c.back.ensures.before in
    let gone = c.loop-parts.invariant.gone in
    record {
      fits = omega (arith, c.loop-parts-test.true, c.unions.ensures.value, ap length before);
      gone = (
        gone.0 ++ old.now ∷ [],
        gone.1 ∙ ap (λ (past : List Grouping). gone.0 ++ (old.now ∷ past)) (sym before) ∙ sym (append_assoc gone.0 (old.now ∷ []) (new.now ∷ new.past)),
      );
      of = λ terms h. c.back.ensures.of terms (c.loop-parts.invariant.of terms h);
    }
