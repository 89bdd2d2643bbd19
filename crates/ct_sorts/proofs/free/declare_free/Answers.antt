use Rattle.std.proofs.Common.{◌≡◌, List, sym, subst}
use Rattle.ct_sorts.specs.Consistent.{IsConsistent}
use Rattle.ct_sorts.proofs.TableLemmas.{restored}
use Rattle.ct_sorts.proofs.free.declare_free.Goals as goal

pub cut_tables-requires : goal.cut_tables-requires
cut_tables-requires c = record { standing = c.try_free.ensures.standing }

pub returns-in-Err-clause-unchanged : goal.returns-in-Err-clause-unchanged
returns-in-Err-clause-unchanged c = (restored c.args.tables.now c.try_free.new.tables c.cut_tables.new.tables c.args.mark.now c.requires.mark.0 c.requires.mark.1 c.requires.tabled c.try_free.ensures.grown c.requires.mark.2 c.cut_tables.ensures.first c.cut_tables.ensures.standing c.cut_tables.ensures.counted).0

pub returns-in-Err-clause-tabled : goal.returns-in-Err-clause-tabled
returns-in-Err-clause-tabled c = (restored c.args.tables.now c.try_free.new.tables c.cut_tables.new.tables c.args.mark.now c.requires.mark.0 c.requires.mark.1 c.requires.tabled c.try_free.ensures.grown c.requires.mark.2 c.cut_tables.ensures.first c.cut_tables.ensures.standing c.cut_tables.ensures.counted).1

pub returns-in-Err-clause-consistent : goal.returns-in-Err-clause-consistent
returns-in-Err-clause-consistent c = λ fs ds consistent. subst IsConsistent (sym ((restored c.args.tables.now c.try_free.new.tables c.cut_tables.new.tables c.args.mark.now c.requires.mark.0 c.requires.mark.1 c.requires.tabled c.try_free.ensures.grown c.requires.mark.2 c.cut_tables.ensures.first c.cut_tables.ensures.standing c.cut_tables.ensures.counted).0 fs ds)) consistent
