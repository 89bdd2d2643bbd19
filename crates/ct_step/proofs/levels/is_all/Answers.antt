use Rattle.std.proofs.Common.{sym, subst, arith}
use Rattle.std.proofs.lemmas.List.{length-take-le}
use Rattle.ct_stack.specs.Levels.{IsBeside}
use Rattle.ct_step.proofs.levels.is_all.Goals as goal

pub is_same-requires : goal.is_same-requires
is_same-requires c =
    let d = c.args.sig.now in
    let m = c.args.mark.now in
    let can = c.requires.can_cut in
    let now = c.sorts.ensures.consistent in
    record {
      mark = (
        omega (arith, can.origins.one_each, length-take-le m.origins d.origins can.origins_within, length-take-le m.sorts d.sorts can.sorts_within),
        omega (arith, can.heads.one_each, length-take-le m.spellings d.spellings can.spellings_within, length-take-le m.heads d.declared.heads can.heads_within),
      );
      other = subst IsBeside (sym c.mark-all.ensures.lengths) (now.origins.one_each, now.heads.one_each);
    }
