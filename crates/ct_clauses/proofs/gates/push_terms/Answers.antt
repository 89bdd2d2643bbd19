use Rattle.std.proofs.Common.{◌≡◌, ◌<◌, ◌≤◌, [], Some, length, take, get_or, slice_get, sym, subst, arith}
use Rattle.std.proofs.lemmas.List.{take_all}
use Rattle.std.proofs.lemmas.Option.{slice_get-get_or}
use Rattle.ct_sorts.specs.declared.ids.SortId.{SortId}
use Rattle.ct_sorts.specs.Declarations.{bool_sort}
use Rattle.ct_terms.specs.declared.term.Core.{Core}
use Rattle.ct_terms.specs.declared.term.Core.TheVariants as core
use Rattle.ct_terms.specs.Terms.{Terms}
use Rattle.ct_clauses.specs.Initial.{gates_from, gates_of}
use Rattle.ct_clauses.specs.Growth.{HaveGates}
use Rattle.ct_clauses.proofs.GrowthLemmas.{gates_then}
use Rattle.ct_clauses.proofs.StepLemmas.{from_next}
use Rattle.ct_clauses.proofs.gates.push_terms.Goals as goal

pub loop-n-preserved : goal.loop-n-preserved
loop-n-preserved c =
    let table = c.args.table.now in
    let n = c.loop-n.n in
    let none : Core × SortId = (core.Con (record { 0 = 0 }) [], bool_sort) in
    let within : n < length table = omega (arith, c.loop-n-test.true, c.len-n-end.ensures.count) in
    let e : Core × SortId = get_or table n none in
    let at : slice_get table n ≡ Some (e.0, e.1) = slice_get-get_or table n none within in
    subst (HaveGates table c.args.lines.now.items c.push_term.new.lines.items) (sym (from_next table n none within))
    (gates_then table c.args.lines.now.items c.loop-n.lines.items c.push_term.new.lines.items (gates_from 0 (take n table)) (gates_of (record { 0 = n }) e.0 e.1) c.loop-n.invariant
    (c.in_ok-push_term.ensures.grown e.0 e.1 at))

pub returns-clause-grown : goal.returns-clause-grown
returns-clause-grown c =
    let past : length c.args.table.now ≤ c.loop-n.n = omega (arith, c.loop-n-test.false, c.len-n-end.ensures.count) in
    subst (λ (ts : Terms). HaveGates c.args.table.now c.args.lines.now.items c.loop-n.lines.items (gates_from 0 ts))
    (take_all c.loop-n.n c.args.table.now past) c.loop-n.invariant
