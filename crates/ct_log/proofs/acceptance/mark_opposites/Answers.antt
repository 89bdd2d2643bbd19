use Rattle.std.proofs.Common.{◌≡◌, ◌+◌, ◌<◌, ◌++◌, ◌∷◌, [], ◌∙◌, false, length, get_or, take, ap, sym, subst, arith}
use Rattle.std.proofs.lemmas.List.{take_more, take_all}
use Rattle.ct_terms.specs.declared.ids.Lit.{Lit}
use Rattle.ct_terms.specs.Clause.{opposites}
use Rattle.ct_log.specs.Marks.{AreMarked, stamp_index}
use Rattle.ct_log.proofs.MarkLemmas.{stamp_below, opposites-push}
use Rattle.ct_log.proofs.acceptance.mark_opposites.Goals as goal

abbrev default : Lit
default = record { term = record { 0 = 0 }; positive = false }

pub mark-requires : goal.mark-requires
mark-requires c = record {
  room = λ past.
      let l = get_or c.args.clause.now c.loop-l.l-index default in
      let below = stamp_below l (length c.args.marks.now.stamps) (c.requires.within c.loop-l.l-index default c.loop-l-test.true) in
      let at = rw c.signed.ensures.value at past in
      absurd (omega (arith, below, at, c.loop-l.invariant.stamps));
}

pub loop-l-preserved : goal.loop-l-preserved
loop-l-preserved c =
    let l = get_or c.args.clause.now c.loop-l.l-index default in
    let so_far = take c.loop-l.l-index c.args.clause.now in
    let more : opposites (take (c.loop-l.l-index + 1) c.args.clause.now) ≡ opposites so_far ++ c.signed.result ∷ [] =
    ap opposites (take_more c.args.clause.now c.loop-l.l-index default c.loop-l-test.true) ∙ opposites-push so_far l ∙ ap (λ (k : Lit). opposites so_far ++ k ∷ []) (sym c.signed.ensures.value) in
    let below = stamp_below l (length c.args.marks.now.stamps) (c.requires.within c.loop-l.l-index default c.loop-l-test.true) in
    let at : stamp_index c.signed.result < length c.loop-l.marks.stamps = rw c.signed.ensures.value (omega (arith, below, c.loop-l.invariant.stamps)) in
    record {
      marked = subst (AreMarked c.mark.new.self) (sym more) (c.mark.ensures.marked (opposites so_far) c.loop-l.invariant.marked);
      stamps = c.mark.ensures.stamps ∙ c.loop-l.invariant.stamps;
      others = c.mark.ensures.within at ∙ c.loop-l.invariant.others;
      room = c.mark.ensures.room ∙ c.loop-l.invariant.room;
    }

pub returns-clause-marked : goal.returns-clause-marked
returns-clause-marked c = subst (λ ls. AreMarked c.loop-l.marks (opposites ls)) (take_all c.loop-l.l-index c.args.clause.now c.loop-l-test.false) c.loop-l.invariant.marked
