use Rattle.std.proofs.Common.{◌≡◌, ℕ, ◌<◌, List, slice_get, Some, refl, sym, ◌∙◌, ap, subst, arith}
use Rattle.ct_sorts.specs.declared.error.SigError.{SigError}
use Rattle.ct_sorts.specs.Consistent.{IsConsistent}
use Rattle.ct_sorts.specs.Declarations.{Function}
use Rattle.ct_sorts.specs.Tabled.{of_tables}
use Rattle.ct_sorts.proofs.InstanceLemmas.{numbers_few, origin_at, there_accepted, there_few, there_with}
use Rattle.ct_sorts.proofs.ResultLemmas.{err_as}
use Rattle.ct_sorts.proofs.TableLemmas.{cut_back, same_of_tables, same_tabled}
use Rattle.ct_sorts.proofs.TableSortsLemmas.{stands_stay}
use Rattle.ct_sorts.proofs.instances.add_sort.Goals as goal

pub overflow_cast-result : goal.overflow_cast-result
overflow_cast-result c = omega (arith, there_few c.args.tables.now c.requires.tabled c.args.id c.in-Some.index c.in-Some.ensures.found c.requires.consistent.0 c.requires.consistent.1 c.requires.consistent.2)

pub returns-in-Some-clause-ok : goal.returns-in-Some-clause-ok
returns-in-Some-clause-ok c = there_with c.args.tables.now c.requires.tabled c.args.id c.in-Some.index c.in-Some.ensures.found

pub returns-in-Some-clause-accepted : goal.returns-in-Some-clause-accepted
returns-in-Some-clause-accepted c = there_accepted c.args.tables.now c.requires.tabled c.args.id c.in-Some.index c.in-Some.ensures.found

pub number_of-requires-clause-few : goal.number_of-requires-clause-few
number_of-requires-clause-few c =
    omega (arith, numbers_few c.add_missing.new.tables c.requires.consistent.0 c.requires.consistent.1 (c.in-Ok.ensures.consistent c.requires.consistent.0 c.requires.consistent.1 c.requires.consistent.2))

pub number_of-requires-clause-stand : goal.number_of-requires-clause-stand
number_of-requires-clause-stand c = c.add_missing.ensures.standing.stand

pub number_of-requires-clause-there : goal.number_of-requires-clause-there
number_of-requires-clause-there c =
    let sort = c.requires.sort in
    let there = c.in-Ok.ensures.there sort.0 sort.1 in
    (sort.0, there.0, stands_stay c.args.tables.now.table.expressions c.add_missing.new.tables.table.expressions c.in-Ok.ensures.stay c.args.id.0 sort.0 sort.1, there.1)

pub returns-in-Ok-clause-ok : goal.returns-in-Ok-clause-ok
returns-in-Ok-clause-ok c = λ e fs ds stands. (
  c.in-Ok.ensures.ok e fs ds stands,
  origin_at c.add_missing.new.tables c.number_of.result.0 c.args.id e c.add_missing.ensures.standing.stand c.number_of.ensures.at (stands_stay c.args.tables.now.table.expressions c.add_missing.new.tables.table.expressions c.in-Ok.ensures.stay c.args.id.0 e stands),
)

pub returns-in-Err-clause-unchanged : goal.returns-in-Err-clause-unchanged
returns-in-Err-clause-unchanged c =
    let t = c.args.tables.now in
    let mark = c.requires.mark in
    let same = cut_back t c.add_missing.new.tables c.cut_tables.new.tables c.args.mark.now mark.0 mark.1 c.requires.tabled c.add_missing.ensures.grown mark.2 c.cut_tables.ensures.first in
    same_of_tables t c.cut_tables.new.tables same

pub returns-in-Err-clause-tabled : goal.returns-in-Err-clause-tabled
returns-in-Err-clause-tabled c =
    let t = c.args.tables.now in
    let mark = c.requires.mark in
    let same = cut_back t c.add_missing.new.tables c.cut_tables.new.tables c.args.mark.now mark.0 mark.1 c.requires.tabled c.add_missing.ensures.grown mark.2 c.cut_tables.ensures.first in
    same_tabled t c.cut_tables.new.tables same c.requires.tabled c.cut_tables.ensures.standing c.cut_tables.ensures.counted

pub returns-in-Err-clause-consistent : goal.returns-in-Err-clause-consistent
returns-in-Err-clause-consistent c =
    let t = c.args.tables.now in
    let mark = c.requires.mark in
    let same = cut_back t c.add_missing.new.tables c.cut_tables.new.tables c.args.mark.now mark.0 mark.1 c.requires.tabled c.add_missing.ensures.grown mark.2 c.cut_tables.ensures.first in
    λ fs ds consistent. subst IsConsistent (sym (same_of_tables t c.cut_tables.new.tables same fs ds)) consistent

pub returns-in-Ok-clause-accepted : goal.returns-in-Ok-clause-accepted
returns-in-Ok-clause-accepted c = c.in-Ok.ensures.accepted

pub returns-in-Ok-clause-tabled : goal.returns-in-Ok-clause-tabled
returns-in-Ok-clause-tabled c = c.in-Ok.ensures.tabled

pub returns-in-Ok-clause-consistent : goal.returns-in-Ok-clause-consistent
returns-in-Ok-clause-consistent c = c.in-Ok.ensures.consistent

pub returns-in-Err-clause-refused : goal.returns-in-Err-clause-refused
returns-in-Err-clause-refused c = λ n e fs ds refused stands. c.in-Err.ensures.refused n e fs ds (err_as c.in-Err.error (SigError.Refused n) refused) stands
