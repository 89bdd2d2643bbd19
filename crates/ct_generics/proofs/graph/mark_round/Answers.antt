use Rattle.std.proofs.Common.{refl, sym, ◌∙◌, arith}
use Rattle.std.proofs.lemmas.Option.{slice_get_read}
use Rattle.std.proofs.lemmas.Bool.{false≢true}
use Rattle.ct_lemmas.proofs.Lists.{slice_get-there}
use Rattle.ct_generics.proofs.MarkLemmas.{IsRound-marked, IsRound-stored, IsRound-start}
use Rattle.ct_generics.proofs.graph.mark_round.Goals as goal
use Rattle.ct_generics.proofs.graph.mark_round.Goals.{then-not-marks-i+then-is_built, else-not-marks-i, else-not-marks-i-via-then-not-marks-i+else-is_built, else-not-marks-i-via-else-not-marks-i}

pub loop-i-init : goal.loop-i-init
loop-i-init c = IsRound-start c.args.graph.now c.args.marks.now

pub loop-i-preserved : goal.loop-i-preserved
loop-i-preserved c =
    let g = c.args.graph.now in
    let marks = c.loop-i.marks in
    let i = c.loop-i.i in
    elim c.if-not-marks-i.branch [
      | then-not-marks-i+then-is_built w ↦
          rw (w.marks-is, w.changed-is) (IsRound-marked g c.args.marks.now marks c.loop-i.changed i w.index-graph-i.result (slice_get_read g _ i w.index-graph-i.result refl c.loop-i-test.true w.index-graph-i.is) c.loop-i.invariant (omega (arith, c.loop-i.auto.marks, c.requires.len, c.loop-i-test.true)) w.if-not-marks-i.true (sym w.is_built.ensures.value ∙ w.if-is_built.true))
      | else-not-marks-i w ↦
          rw (w.marks-is, w.changed-is) (elim w.else-not-marks-i.branch [
            | else-not-marks-i-via-then-not-marks-i+else-is_built w' ↦
                IsRound-stored g c.args.marks.now marks c.loop-i.changed i w'.index-graph-i.result (slice_get_read g _ i w'.index-graph-i.result refl c.loop-i-test.true w'.index-graph-i.is) c.loop-i.invariant (λ built. absurd (false≢true (sym w'.if-is_built.false ∙ w'.is_built.ensures.value ∙ built)))
            | else-not-marks-i-via-else-not-marks-i w' ↦
                let at = slice_get-there g i c.loop-i-test.true in
                IsRound-stored g c.args.marks.now marks c.loop-i.changed i at.0 at.1 c.loop-i.invariant (λ _. w'.if-not-marks-i.false)
          ])
    ]
